-- The queue of a desk that goes on from a history has each new and each stale block, and none is out.
use Rattle.std.proofs.Common.{◌≡◌, ℕ, Bool, true, false, List, [], ◌∷◌, Option, Some, None, refl, ap₂, ◌∙◌}
use Rattle.stm_queue.specs.Queue.{Entry, tickets}
use Rattle.stm_queue.specs.SortedTickets.{IsRising}
use Rattle.stm_store.specs.Tables.{Declared}
use Rattle.stm_events.specs.declared.event.Event.{Event}
use Rattle.stm_events.specs.declared.staleness.StalenessRule.TheVariants.{Changed}
use Rattle.stm_events.specs.SlowDesk.{state_from}
use Rattle.stm_events.specs.States.{IsLegalFrom, IsPossible}
use Rattle.stm_events.proofs.Possible.{possible_initial, possible_from}
use Rattle.stm_machine.specs.Checkpoints.{CheckpointView, MayStart, start_of}
use Rattle.stm_machine.specs.SettleChoices.{some_out}
use Rattle.stm_machine.proofs.CheckpointStates.{is_possible}
use Rattle.stm_desk.specs.DeskView.{DeskView, start_state, state_of, DeskQueueIsRight}
use Rattle.stm_commands.specs.DueTickets.{tickets_out, queue_for}
use Rattle.stm_run.proofs.DueQueue.{entries, entries_are, tickets_are_due}

possible_start : (table : List Declared) (o : Option CheckpointView) → MayStart table o → IsPossible (start_of table o)
possible_start table None m = possible_initial Changed table
possible_start table (Some c) m = is_possible c m.0

out_step : (b : Bool) (e : Entry) (es : List Entry) → e.1 ≡ b → (some_out es ≡ false → tickets_out es ≡ []) → some_out (e ∷ es) ≡ false → tickets_out (e ∷ es) ≡ []
out_step true e es is more none = absurd (cc (is, none))
out_step false e es is more none = rw is (more (rw is at none))

none_out : (es : List Entry) → some_out es ≡ false → tickets_out es ≡ []
none_out [] none = refl
none_out (e ∷ es) none = out_step e.1 e es refl (none_out es) none

queue_is : (d : DeskView) → MayStart d.table d.checkpoint → IsLegalFrom (start_state d) d.history → IsRising (tickets d.pending) → DeskQueueIsRight d → some_out d.pending ≡ false
    → d.pending ≡ queue_for [] (state_of d).waiters
queue_is d start legal rising right none =
    let r = (possible_from (start_state d) d.history (possible_start d.table d.checkpoint start) legal.each).rising in
    entries_are d.pending rising
    ∙ ap₂ entries (none_out d.pending none) (tickets_are_due (state_of d).next (state_of d).waiters d.pending r (record { rising = rising; right = right }))

pub resumed_is : (d : DeskView) (table : List Declared) (checkpoint : Option CheckpointView) (limit : ℕ) (history : List Event) → d.table ≡ table → d.checkpoint ≡ checkpoint → d.limit ≡ limit → d.history ≡ history
    → MayStart d.table d.checkpoint → IsLegalFrom (start_state d) d.history → IsRising (tickets d.pending) → DeskQueueIsRight d → some_out d.pending ≡ false
    → d ≡ record { table = table; checkpoint = checkpoint; limit = limit; history = history; pending = queue_for [] (state_from (start_of table checkpoint) history).waiters }
resumed_is d table checkpoint limit history t c l h start legal rising right none =
    let q : d.pending ≡ queue_for [] (state_from (start_of table checkpoint) history).waiters =
    queue_is d start legal rising right none ∙ (λ i. queue_for [] (state_from (start_of (t i) (c i)) (h i)).waiters) in
    λ i. record { table = t i; checkpoint = c i; limit = l i; history = h i; pending = q i }
