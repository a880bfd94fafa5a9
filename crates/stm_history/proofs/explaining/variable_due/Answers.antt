use Rattle.std.proofs.Common.{◌≡◌, ℕ, List, None, ap, sym, ◌∙◌}
use Rattle.stm_terms.proofs.Refused.{accepted}
use Rattle.stm_store.specs.declared.table.DeclareError.TheVariants.{NoMemory}
use Rattle.stm_store.specs.Tables.{declare_refusal}
use Rattle.stm_event_lines.specs.ReadLines.{declared}
use Rattle.stm_history.proofs.Explanations.{declared_head}
use Rattle.stm_history.proofs.explaining.variable_due.Goals as goal

pub returns-in-Ok : goal.returns-in-Ok
returns-in-Ok c =
    let v = c.args.variable.now in
    let may : declare_refusal c.args.table.now (declared v).name v.kind v.value ≡ None =
    ap (λ (n : List ℕ). declare_refusal c.args.table.now n v.kind v.value) (sym c.deref.ensures) ∙ accepted NoMemory _ _ c.in-Ok.ensures.refused in
    declared_head c.variable_written.result c.args.table.now (declared v) c.requires may c.variable_written.ensures
