use Rattle.std.proofs.Common.{◌≡◌, true, sym, subst}
use Rattle.std.specs.Prelude.{IfOk}
use Rattle.stm_store.specs.Cells.{plains}
use Rattle.stm_machine.specs.Keeping.{IsVerdictUnder}
use Rattle.stm_machine.specs.QueueAndIndex.{due_of}
use Rattle.stm_events.specs.SlowDesk.{find_waiter}
use Rattle.stm_desk.specs.DeskView.{DeskView, state_of}
use Rattle.stm_desk.proofs.Evaluating.{if_told, due_is_there}
use Rattle.stm_desk.proofs.Views.{view_of}
use Rattle.stm_desk.proofs.desk.Desk.verdict_due.Goals as goal

pub verdict_in-requires-clause-waits : goal.verdict_in-requires-clause-waits
verdict_in-requires-clause-waits c =
    let d = view_of c.self.inside in
    let n = subst (λ (d : DeskView). due_of (find_waiter c.args.ticket (state_of d).waiters) ≡ true) (sym c.self.view_is) c.requires.due in
    (state_of d, c.self.invariant.0.at, due_is_there (find_waiter c.args.ticket (state_of d).waiters) n)

pub verdict_in-requires-clause-store : goal.verdict_in-requires-clause-store
verdict_in-requires-clause-store c =
    let n = subst (λ (d : DeskView). c.args.frozen.now ≡ plains (state_of d).store) (sym c.self.view_is) c.requires.store in
    rw c.self.invariant.0.at.stands.store_is n

pub returns-clause-verdict : goal.returns-clause-verdict
returns-clause-verdict c =
    let d = view_of c.self.inside in
    subst (λ (d : DeskView). IfOk c.verdict_in.result (λ v. IsVerdictUnder (state_of d) c.args.ticket v c.verdict_in.new.scratch)) c.self.view_is
    (if_told (state_of d) c.self.inside.machine c.args.ticket c.verdict_in.new.scratch c.verdict_in.result c.self.invariant.0.at c.verdict_in.ensures)
