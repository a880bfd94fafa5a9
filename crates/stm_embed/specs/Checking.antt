-- What a check finds of the bytes of a history, and how C gets it.
use Rattle.std.specs.Prelude.{ℕ, List}
use Rattle.stm_history.specs.declared.explanation.Explanation.{Explanation}
use Rattle.stm_history.specs.declared.fault.HistoryFault.TheVariants as fault
use Rattle.stm_history.specs.Explanation.{ReportsWhy}
use Rattle.stm_history.specs.Judgement.{IsHistory, ReportsFault}
use Rattle.stm_embed.specs.declared.checking.Checked.{Checked}
use Rattle.stm_embed.specs.declared.checking.Found.{Found}
use Rattle.stm_embed.specs.declared.checking.Found.TheVariants.{Legal, BadHeader, BadLine, NotLegal, NoMemory}
use Rattle.stm_embed.specs.Status.{bad_header, bad_line, legal, no_memory, not_legal}

-- The bytes are the text of a legal history with these numbers, or this is their first fault, which is in this line. If memory ran out,
-- nothing is known.
abbrev pub IsJudgement : List ℕ → Found → Type 0
IsJudgement bytes (Legal numbers) = IsHistory bytes numbers
IsJudgement bytes (BadHeader line) = ReportsFault fault.BadHeader bytes × ((x : Explanation) × ReportsWhy bytes fault.BadHeader line x)
IsJudgement bytes (BadLine line) = ReportsFault (fault.BadLine line) bytes
IsJudgement bytes (NotLegal line) = ReportsFault (fault.NotLegal line) bytes
IsJudgement bytes NoMemory = Unit {0}

abbrev pub found_status : Found → ℕ
found_status (Legal numbers) = legal
found_status (BadHeader line) = bad_header
found_status (BadLine line) = bad_line
found_status (NotLegal line) = not_legal
found_status NoMemory = no_memory

-- the line of a fault, and no numbers
abbrev pub at_line : ℕ → Checked
at_line line = record { events = 0; waiting = 0; cells = 0; line = line }

abbrev pub numbers_of : Found → Checked
numbers_of (Legal n) = record { events = n.events; waiting = n.waiting; cells = n.cells; line = 0 }
numbers_of (BadHeader line) = at_line line
numbers_of (BadLine line) = at_line line
numbers_of (NotLegal line) = at_line line
numbers_of NoMemory = at_line 0
