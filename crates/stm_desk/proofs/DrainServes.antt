-- A desk that was drained did what settling would have done.
use Rattle.std.proofs.Common.{◌≡◌, ℕ, ◌-◌, length, Option, Some, None, Result, Ok, Err, OnOk}
use Rattle.std.specs.Prelude.{◌≢◌}
use Rattle.stm_events.specs.SlowSettle.{Stop, NoRoom}
use Rattle.stm_events.specs.States.{IsPossible, IsTypedState}
use Rattle.stm_events.proofs.Draining.{drains_as_settling}
use Rattle.stm_desk.specs.declared.errors.SettleStop.{SettleStop}
use Rattle.stm_desk.specs.declared.settle.Settled.{Settled}
use Rattle.stm_desk.specs.DeskView.{DeskView, state_of}
use Rattle.stm_desk.specs.Settling.{requeued_all, slow_drain, DrainsAs, ServesAsSettling}

has_room : (o : Option Stop) → o ≡ None → o ≢ Some NoRoom
has_room o e = λ f. absurd cc

pub serves : (old new : DeskView) (client : ℕ) (r : Result Settled SettleStop) → IsPossible (state_of old) → IsTypedState (state_of old) → DrainsAs client (requeued_all old) new r
    → OnOk r (ServesAsSettling (state_of old) (slow_drain (requeued_all old)))
serves old new client (Ok x) p t h = λ room e. drains_as_settling.serves (state_of old) (old.limit - length old.history) room p t (has_room _ h.stopped) e
serves old new client (Err x) p t h = tt
