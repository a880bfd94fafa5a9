use Rattle.std.proofs.Common.{◌≡◌, ◌∙◌, ℕ, Option, Some, None, true, subst, sym}
use Rattle.std.specs.Prelude.{slice_get, IfSome}
use Rattle.stm_queue.specs.Queue.{queued, first_queued}
use Rattle.stm_queue.proofs.Membership.{in_queue}
use Rattle.stm_queue.proofs.QueuedOnes.{first_of_queued}
use Rattle.stm_machine.specs.Machine.{Parts, IsAt}
use Rattle.stm_machine.specs.QueueAndIndex.{due_of}
use Rattle.stm_events.specs.SlowDesk.{find_waiter, Slow}
use Rattle.stm_machine.proofs.machine.Machine.next_queued.Goals as goal

due_first : (m : Parts) (o : Option ℕ) → o ≡ slice_get (queued m.pending) 0
    → IfSome o (λ t. (s : Slow) → IsAt m s → due_of (find_waiter t s.waiters) ≡ true)
due_first m None e = tt
due_first m (Some t) e = λ s h. sym (h.stands.queue t) ∙ in_queue t 0 m.pending (sym e)

pub returns-clause-first : goal.returns-clause-first
returns-clause-first c = subst (λ (m : Parts). c.queued_at.result ≡ first_queued m.pending) c.self.view_is (c.queued_at.ensures ∙ first_of_queued c.self.inside.pending.entries)

pub returns-clause-due : goal.returns-clause-due
returns-clause-due c = due_first c.args.self.now c.queued_at.result (subst (λ (m : Parts). c.queued_at.result ≡ slice_get (queued m.pending) 0) c.self.view_is c.queued_at.ensures)
