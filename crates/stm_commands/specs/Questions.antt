-- `ready`, `why` and `events`: which blocks could finish now, what one waits for, and what happened since.
use Rattle.std.specs.Prelude.{ℕ, ◌-◌, ◌&&◌, nat_lt, List, [], ◌∷◌, ◌++◌, Option, Some, None, map, filter, drop, codes, decimal, length}
use Rattle.stm_terms.specs.Texts.{spaced, list_text, value_text, write_text}
use Rattle.stm_events.specs.declared.event.Event.{Event}
use Rattle.stm_events.specs.Ready.{is_ready}
use Rattle.stm_events.specs.SlowDesk.{Slow}
use Rattle.stm_history_text.specs.HistoryText.{event_lines}
use Rattle.stm_desk.specs.declared.reason.Change.{Change}
use Rattle.stm_desk.specs.Reasons.{WaitReason, NotEvaluated, IsStale, WasStale, Waits, CanFinish, reason_of}
use Rattle.stm_desk.specs.DeskView.{state_of}
use Rattle.stm_lines.specs.NumberArgument.{number_argument}
use Rattle.stm_commands.specs.Arguments.{with_number, with_nothing, argument_refused}
use Rattle.stm_commands.specs.Endings.{tickets_text}
use Rattle.stm_commands.specs.OpenDesk.{OpenDesk}
use Rattle.stm_commands.specs.Refusals.{refused}

-- ---- ready
-- the tickets of the blocks that could finish now, ascending
abbrev pub ready_tickets : Slow → List ℕ
ready_tickets s = map (λ w. w.ticket) (filter (λ w. is_ready s.store w) s.waiters)

-- the tickets above this one of the blocks that could finish now
abbrev pub ready_above : ℕ → Slow → List ℕ
ready_above n s = map (λ w. w.ticket) (filter (λ w. nat_lt n w.ticket && is_ready s.store w) s.waiters)

-- the line of the tickets of the blocks that could finish now
unfoldable pub ready_text : Slow → List ℕ
ready_text s = codes "ready " ++ tickets_text (ready_tickets s) ++ 10 ∷ []

-- `ready`: the tickets of the blocks that could finish now
unfoldable pub ready_answer : OpenDesk → List ℕ → List ℕ
ready_answer d argument = with_nothing (ready_text (state_of d.desk)) argument_refused argument

-- ---- why
-- a variable with the value that a block read and the one that it was left with, as `#0=1->2`
unfoldable pub change_text : Change → List ℕ
change_text c = codes "#" ++ decimal c.variable ++ codes "=" ++ value_text c.read ++ codes "->" ++ value_text c.left

-- what a block waits for
abbrev pub reason_text : WaitReason → List ℕ
reason_text NotEvaluated = codes "new"
reason_text (IsStale cause) = codes "stale " ++ decimal cause.finish ++ spaced change_text cause.changes
reason_text WasStale = codes "stale checkpoint"
reason_text (Waits reads) = codes "waits " ++ list_text write_text reads
reason_text CanFinish = codes "ready"

-- what the block under a ticket waits for, or that no block waits there
abbrev pub why_line : ℕ → Option WaitReason → List ℕ
why_line t (Some reason) = codes "why " ++ decimal t ++ codes " " ++ reason_text reason ++ 10 ∷ []
why_line t None = refused (codes "NoTicket")

-- `why`: what a block waits for
unfoldable pub why_answer : OpenDesk → List ℕ → List ℕ
why_answer d argument = with_number (λ t. why_line t (reason_of d.desk t)) argument_refused (number_argument argument)

-- ---- events
-- the lines of the events from the n-th on, counted from 1, as `history` prints them, and how many events there are
abbrev pub later_lines : List Event → ℕ → List ℕ
later_lines history n = event_lines (drop (n - 1) history) ++ (codes "events " ++ decimal (length history) ++ 10 ∷ [])

-- the lines of a desk's events from the n-th on, and how many events there are
abbrev pub later_events_text : OpenDesk → ℕ → List ℕ
later_events_text d n = later_lines d.desk.history n

-- `events`: what happened since an event
unfoldable pub events_answer : OpenDesk → List ℕ → List ℕ
events_answer d argument = with_number (later_events_text d) argument_refused (number_argument argument)
