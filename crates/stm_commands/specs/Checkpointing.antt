-- `checkpoint`: the history begins from where the desk is.
use Rattle.std.specs.Prelude.{ℕ, Bool, false, ◌&&◌, not, nat_lt, nat_le, if◌then◌else◌, List, [], ◌∷◌, ◌++◌, codes, decimal, length, Option, Some, None, IfSome}
use Rattle.stm_store.specs.Tables.{Declared}
use Rattle.stm_machine.specs.Checkpoints.{CheckpointView, MayStart, max_next}
use Rattle.stm_desk.specs.DeskView.{state_of}
use Rattle.stm_desk.specs.Checkpointed.{checkpoint_now, checkpointed}
use Rattle.stm_commands.specs.Arguments.{with_nothing, argument_refused}
use Rattle.stm_commands.specs.OpenDesk.{OpenDesk}
use Rattle.stm_commands.specs.Refusals.{refused}

-- tickets could run out in a history from here
abbrev pub are_tickets_full : OpenDesk → Bool
are_tickets_full d = nat_lt max_next (state_of d.desk).next

-- the checkpoint of the present state, unless tickets could run out in a history from it
abbrev pub next_checkpoint_of : OpenDesk → Option CheckpointView
next_checkpoint_of d = if are_tickets_full d then None else Some (checkpoint_now d.desk)

-- a history with these declared variables may begin from the checkpoint, if there is one
abbrev pub MayStartFrom : List Declared → Option CheckpointView → Type 0
MayStartFrom table next = IfSome next (λ c. MayStart table (Some c))

-- the history begins from here; the jobs stay, with their numbers
abbrev pub begun_anew : OpenDesk → OpenDesk
begun_anew d = record d { desk = checkpointed d.desk }

-- the line that says how many events the history had before
unfoldable pub checkpoint_line : ℕ → List ℕ
checkpoint_line n = codes "checkpoint " ++ decimal n ++ 10 ∷ []

-- `checkpoint` without an argument
abbrev pub bare_checkpoint_step : OpenDesk → OpenDesk × List ℕ
bare_checkpoint_step d =
    if are_tickets_full d then (d, refused (codes "TicketsFull")) else (begun_anew d, checkpoint_line (length d.desk.history))

-- `checkpoint`: the history begins from where the desk is
unfoldable pub checkpoint_step : OpenDesk → List ℕ → OpenDesk × List ℕ
checkpoint_step d argument = with_nothing (bare_checkpoint_step d) (d, argument_refused) argument

-- the command is not refused
abbrev pub makes_checkpoint : OpenDesk → List ℕ → Bool
makes_checkpoint d argument = with_nothing (not (are_tickets_full d)) false argument

-- ---- checkpoints that are made without being asked for
-- the history has at least this many events, and no tickets could run out in a history from here
abbrev pub is_due_checkpoint : ℕ → OpenDesk → Bool
is_due_checkpoint every d = nat_le every (length d.desk.history) && nat_le (state_of d.desk).next max_next

-- a checkpoint if it is due
abbrev pub checkpoint_if : ℕ → OpenDesk → OpenDesk
checkpoint_if every d = if is_due_checkpoint every d then begun_anew d else d
