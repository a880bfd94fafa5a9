use Rattle.std.proofs.Common.{◌≡◌, ◌∙◌, ℕ, Option, Some, None, true, sym, subst}
use Rattle.std.specs.Prelude.{slice_get, IfSome}
use Rattle.stm_queue.specs.Queue.{queued}
use Rattle.stm_queue.proofs.QueuedOnes.{first_of_queued}
use Rattle.stm_machine.specs.Machine.{Parts, IsAt}
use Rattle.stm_machine.specs.QueueAndIndex.{due_of}
use Rattle.stm_events.specs.SlowDesk.{Slow, find_waiter, state_from}
use Rattle.stm_machine.specs.Checkpoints.{start_of}
use Rattle.stm_desk.specs.DeskView.{DeskView, state_of}
use Rattle.stm_desk.proofs.desk.Desk.next_queued.Goals as goal

due_now : (m : Parts) (s : Slow) (o : Option ℕ) → IsAt m s → IfSome o (λ t. (s : Slow) → IsAt m s → due_of (find_waiter t s.waiters) ≡ true) → IfSome o (λ t. due_of (find_waiter t s.waiters) ≡ true)
due_now m s None k h = tt
due_now m s (Some t) k h = h s k

pub returns-clause-first : goal.returns-clause-first
returns-clause-first c =
    subst (λ (d : DeskView). c.next_queued.result ≡ slice_get (queued d.pending) 0) c.self.view_is
    (c.next_queued.ensures.first ∙ sym (first_of_queued c.self.inside.machine.pending))

pub returns-clause-due : goal.returns-clause-due
returns-clause-due c =
    subst (λ (d : DeskView). IfSome c.next_queued.result (λ t. due_of (find_waiter t (state_of d).waiters) ≡ true)) c.self.view_is
    (due_now c.self.inside.machine (state_from (start_of c.self.inside.table c.self.inside.checkpoint) c.self.inside.history.items) c.next_queued.result c.self.invariant.0.at c.next_queued.ensures.due)
