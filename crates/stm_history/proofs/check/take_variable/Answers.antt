use Rattle.std.proofs.Common.{ℕ, List, Err, subst}
use Rattle.stm_terms.specs.UnlessNoMemory.{RefusedAs}
use Rattle.stm_store.specs.declared.table.DeclareError.TheVariants.{NoMemory}
use Rattle.stm_store.specs.Tables.{declare_refusal}
use Rattle.stm_event_lines.specs.ReadLines.{declared}
use Rattle.stm_history.proofs.RefusedVariables.{declare_fault}
use Rattle.stm_history.proofs.check.take_variable.Goals as goal

pub returns-in-Ok-clause-refused : goal.returns-in-Ok-clause-refused
returns-in-Ok-clause-refused c =
    let v = c.in-Ok.variable in
    let refused : RefusedAs {A = ℕ} NoMemory (declare_refusal c.args.table (declared v).name v.kind v.value) (Err c.in-Err.error) =
    subst (λ (n : List ℕ). RefusedAs {A = ℕ} NoMemory (declare_refusal c.args.table n v.kind v.value) (Err c.in-Err.error)) c.deref.ensures c.in-Err.ensures.refused in
    rw c.declare_refused.ensures (declare_fault c.args.format c.args.vars c.args.table (declared v) c.args.line.now c.in-Err.error c.in-Ok.ensures.1 c.in-Ok.ensures.0 refused)
