-- How the causes of stale blocks are found for a checkpoint: through the history from its end, to the last finish whose list has the
-- ticket; and if no list has it, in the checkpoint that the history begins from.
use Rattle.std.specs.Prelude.{◌≡◌, ℕ, Bool, false, not, ◌&&◌, nat_eq, if◌then◌else◌, List, [], ◌∷◌, Option, Some, None, is_some, unwrap_or}
use Rattle.std.specs.List.{list_any}
use Rattle.std.specs.Option.{option_or}
use Rattle.stm_terms.specs.declared.values.Value.{Value}
use Rattle.stm_terms.specs.declared.verdicts.Verdict.{Verdict}
use Rattle.stm_events.specs.declared.event.Event.{Event}
use Rattle.stm_events.specs.declared.event.What.{What}
use Rattle.stm_events.specs.declared.event.What.TheVariants.{Submitted, Installed, Finished, Cancelled, Declared as DeclaredLate, Labelled}
use Rattle.stm_events.specs.declared.kept_cause.KeptCause.{KeptCause}
use Rattle.stm_events.specs.BlockStatus.{read_then}
use Rattle.stm_events.specs.SlowDesk.{find_waiter}
use Rattle.stm_machine.specs.declared.checkpoint.CheckpointBlock.{CheckpointBlock}
use Rattle.stm_desk.specs.DeskView.{DeskView, state_of}
use Rattle.stm_desk.specs.Reasons.{changes_from}
use Rattle.stm_desk.specs.ReasonsByEvents.{left_by_verdict}
use Rattle.stm_desk.specs.Checkpointed.{kept_cause}

-- the cause of a block of these reads that a finish with this verdict made stale, in a store that had n cells
abbrev pub cause_by : ℕ → ℕ → Verdict → List (ℕ × Value) → KeptCause
cause_by finish n v reads = kept_cause (record { finish = finish; changes = changes_from reads (left_by_verdict n v) })

-- it is the cause of a ticket if this list of a finish has the ticket
abbrev pub cause_in_list : ℕ → KeptCause → List ℕ → Option KeptCause
cause_in_list t cause stale = if list_any (nat_eq t) stale then Some cause else None

-- the cause of a ticket by an event, whose list has the ticket
abbrev pub cause_listed : ℕ → List (ℕ × Value) → What → Option KeptCause
cause_listed t reads (Submitted u block) = None
cause_listed t reads (Installed u v) = None
cause_listed t reads (Finished u v n stale) = cause_in_list t (cause_by u n v reads) stale
cause_listed t reads (Cancelled u) = None
cause_listed t reads (DeclaredLate name kind value) = None
cause_listed t reads (Labelled u label) = None

-- the list of an event has the ticket
abbrev pub has_in_list : ℕ → What → Bool
has_in_list t (Submitted u block) = false
has_in_list t (Installed u v) = false
has_in_list t (Finished u v n stale) = list_any (nat_eq t) stale
has_in_list t (Cancelled u) = false
has_in_list t (DeclaredLate name kind value) = false
has_in_list t (Labelled u label) = false

-- the last of these events whose list has the ticket
abbrev pub last_with : ℕ → List Event → Option What
last_with t [] = None
last_with t (e ∷ es) = option_or (last_with t es) (if has_in_list t e.what then Some e.what else None)

-- the cause of a ticket by that event
abbrev pub last_listed : ℕ → List (ℕ × Value) → List Event → Option KeptCause
last_listed t reads [] = None
last_listed t reads (e ∷ es) = option_or (last_listed t reads es) (cause_listed t reads e.what)

-- one of these blocks is stale and has the ticket
abbrev pub has_stale : ℕ → List CheckpointBlock → Bool
has_stale t bs = list_any (λ b. nat_eq b.ticket t && b.stale) bs

-- what the block under a ticket read at its last delivery; nothing if no block waits or it is new
abbrev pub reads_under : DeskView → ℕ → List (ℕ × Value)
reads_under d t = unwrap_or (read_then (find_waiter t (state_of d).waiters)) []

-- the cause of a ticket in a table after one was looked for: what was found, if the ticket's was missing
abbrev pub cause_sought : Bool → Option KeptCause → Option KeptCause → Option KeptCause
cause_sought missing found had = if missing then option_or found had else had

-- whether the cause of a ticket was missing and is, and which it had and has in a table, if this one was found
pub record IsSought (was : Bool) (had found : Option KeptCause) (is : Bool) (has : Option KeptCause) : Type 0 where
  pub missing : is ≡ (was && not (is_some found))
  pub cause : has ≡ cause_sought was found had
