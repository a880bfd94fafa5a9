-- What `check` finds of bytes, and what it prints.
use Rattle.std.specs.Prelude.{◌≡◌, ◌≢◌, ◌⊎◌, ℕ, List, [], ◌++◌, Option, Result, Ok, Err, IfSome, codes, decimal}
use Rattle.std.specs.Io.KnownBytes.{Appends, Keeps}
use Rattle.stm_terms.specs.Texts.{IsPrefixOf}
use Rattle.stm_lines.specs.declared.run_fault.RunFault.{RunFault}
use Rattle.stm_lines.specs.declared.run_fault.RunFault.TheVariants.{Write}
use Rattle.stm_lines.specs.WrittenFronts.{WritesSome}
use Rattle.stm_history.specs.declared.fault.HistoryFault.TheVariants as fault
use Rattle.stm_history.specs.declared.fault.Legal.{Legal}
use Rattle.stm_history.specs.Judgement.{IsHistory, ReportsFault}
use Rattle.stm_console.specs.declared.checking.Finding.{Finding}
use Rattle.stm_console.specs.declared.checking.Finding.TheVariants.{Legal as LegalFound, BadHeader, BadLine, NotLegal}

-- the bytes are the text of a legal history with this number of events, or this is their first fault
abbrev pub IsFinding : List ℕ → Finding → Type 0
IsFinding bytes (LegalFound events) = (n : Legal) × IsHistory bytes n × (events ≡ n.events)
IsFinding bytes BadHeader = ReportsFault fault.BadHeader bytes
IsFinding bytes (BadLine n) = ReportsFault (fault.BadLine n) bytes
IsFinding bytes (NotLegal n) = ReportsFault (fault.NotLegal n) bytes

-- the line that is printed of a finding
abbrev pub finding_text : Finding → List ℕ
finding_text (LegalFound events) = codes "legal " ++ decimal events ++ codes " events\n"
finding_text BadHeader = codes "bad header\n"
finding_text (BadLine n) = codes "bad line " ++ decimal n ++ codes "\n"
finding_text (NotLegal n) = codes "not legal " ++ decimal n ++ codes "\n"

-- nothing, or a prefix of what is printed of the bytes
abbrev pub BeginsFindingText : List ℕ → List ℕ → Type 0
BeginsFindingText bytes front = (front ≡ []) ⊎ ((f : Finding) × IsFinding bytes f × IsPrefixOf front (finding_text f))

-- What a check has written, by its result. `input` are the bytes that the reader had left, `old` and `new` those that the writer had before and
-- has after the call. None if they aren't known.
abbrev pub WritesFinding : Option (List ℕ) → Option (List ℕ) → Option (List ℕ) → Result Finding RunFault → Type 0
-- what it found of the bytes
WritesFinding input old new (Ok f) = IfSome input (λ bytes. IsFinding bytes f) × Appends old new (finding_text f)
-- nothing, or a front of what is printed of the bytes; and if the writer isn't what failed, nothing
WritesFinding input old new (Err e) = IfSome input (λ bytes. WritesSome (BeginsFindingText bytes) old new) × (e ≢ Write → Keeps old new)
