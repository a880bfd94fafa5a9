use Rattle.std.proofs.Common.{◌∙◌, ap, subst}
use Rattle.std.specs.Prelude.{ℕ, List, Result, Ok, Err, IfOk}
use Rattle.std.specs.Global.{Vec}
use Rattle.stm_terms.specs.declared.kinds.Ty.{Ty}
use Rattle.stm_terms.specs.declared.values.Value.{Value}
use Rattle.stm_store.specs.Cells.{plains}
use Rattle.stm_eval.specs.declared.job.Job.{Job}
use Rattle.stm_machine.specs.JobsHandedOut.{TakesJobs}
use Rattle.stm_machine.specs.Machine.{Parts, IsAt}
use Rattle.stm_desk.specs.declared.desk.Desk.TheInside.{Inside}
use Rattle.stm_desk.specs.DeskView.{DeskView, state_of}
use Rattle.stm_desk.specs.HandedOut.{HasHandedOut}
use Rattle.stm_desk.proofs.Views.{view_of}
use Rattle.stm_desk.proofs.desk.Desk.take.Goals as goal

-- what the machine handed out, the desk did
handed_out : {E : Type 0} (d : Inside) (n : ℕ) (new : Parts) (r : Result (List (Ty × Value) × Vec Job) E) → IsAt d.machine (state_of (view_of d)) → TakesJobs n d.machine r new
    → IfOk r (λ x. HasHandedOut n (view_of d) (record (view_of d) { pending = new.pending }) x.0 x.1.items)
handed_out d n new (Ok x) k h = record {
  tickets = h.0.tickets;
  blocks = h.0.blocks (state_of (view_of d)) k;
  store = h.0.present ∙ ap plains k.stands.store_is;
  covered = h.0.covered;
  out = ap (λ (m : Parts). record (view_of d) { pending = m.pending }) h.1;
}
handed_out d n new (Err e) k h = tt

pub returns-clause-taken : goal.returns-clause-taken
returns-clause-taken c =
    subst (λ (x : DeskView). IfOk c.take.result (λ r. HasHandedOut c.args.n x (record (view_of c.self.inside) { pending = c.take.new.self.pending }) r.0 r.1.items)) c.self.view_is
    (handed_out c.self.inside c.args.n c.take.new.self c.take.result c.self.invariant.0.at c.take.ensures.taken)
