-- The console's text has no gap: each line that says something is answered. The desk's queue is a set of tickets that are out,
-- and no more.
use Rattle.std.specs.Prelude.{◌≡◌, ◌≢◌, ◌≤◌, ℕ, List, [], ◌∷◌, ◌++◌, Some, IsSome, slice_get}
use Rattle.stm_queue.specs.Queue.{Entry}
use Rattle.stm_queue.specs.SortedTickets.{IsRising}
use Rattle.stm_events.specs.SlowDesk as slow
use Rattle.stm_terms.specs.Limits as limits
use Rattle.stm_desk.specs.DeskView.{state_of}
use Rattle.stm_run.specs.AfterLines.{console_reached}
use Rattle.stm_run.specs.Console.{answer_to}
use Rattle.stm_run.specs.ConsoleState.{present_desk}
use Rattle.stm_commands.specs.DueTickets.{due_tickets, queue_for, tickets_out}
use Rattle.stm_lines.specs.LineClass.{Silent, line_class}

-- a text that ends with a line feed
abbrev pub EndsALine : List ℕ → Type 0
EndsALine text = (front : List ℕ) × (text ≡ front ++ 10 ∷ [])

-- whatever lines came before, and however many events the history may have, the answer to a line that is neither blank nor a
-- comment is a text that ends with a line feed
abbrev pub EachLineIsAnswered : Type 0
EachLineIsAnswered =
    (max_events : ℕ) → max_events ≤ limits.max_events → (before : List (List ℕ)) (line : List ℕ) → line_class line ≢ Silent
    → EndsALine (answer_to (console_reached max_events before) line)

-- what the slow desk makes of the events after some lines
abbrev pub desk_after_lines : ℕ → List (List ℕ) → slow.Slow
desk_after_lines max_events lines = state_of (present_desk (console_reached max_events lines)).desk

-- the tickets that are queued or out after some lines
abbrev pub pending_after_lines : ℕ → List (List ℕ) → List Entry
pending_after_lines max_events lines = (present_desk (console_reached max_events lines)).desk.pending

-- a block that isn't new has a verdict
abbrev pub HasVerdict : slow.Standing → Type 0
HasVerdict slow.New = Unit {0}
HasVerdict (slow.Stale v) = IsSome v
HasVerdict (slow.Current v) = IsSome v

-- so `show` has a verdict to print for each waiting block that isn't new, whatever lines came before
abbrev pub VerdictsAreShown : Type 0
VerdictsAreShown =
    (max_events : ℕ) → max_events ≤ limits.max_events → (before : List (List ℕ)) (i : ℕ) (w : slow.Waiter)
    → slice_get (desk_after_lines max_events before).waiters i ≡ Some w
    → HasVerdict (slow.standing (desk_after_lines max_events before).store w)

-- whatever lines came before, the desk's queue is the one for the set of tickets that are out: it has the tickets of the new and
-- stale blocks in ascending order, each once, and no other
abbrev pub QueueIsOfDueTickets : Type 0
QueueIsOfDueTickets =
    (max_events : ℕ) → max_events ≤ limits.max_events → (before : List (List ℕ))
    → (pending_after_lines max_events before
    ≡ queue_for (tickets_out (pending_after_lines max_events before)) (desk_after_lines max_events before).waiters)
    × IsRising (due_tickets (desk_after_lines max_events before).waiters)
