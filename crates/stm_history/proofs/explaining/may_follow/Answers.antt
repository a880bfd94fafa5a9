use Rattle.std.proofs.Common.{◌≡◌, List, [], ◌∷◌, ◌++◌, Bool, ap, subst, ◌∙◌}
use Rattle.std.specs.Global.{Vec}
use Rattle.std.specs.Prelude.{IfOk, IsTrue, Result, Ok, Err}
use Rattle.stm_store.specs.declared.cell.Cell.{Cell}
use Rattle.stm_store.specs.Cells.{plains, IsStore}
use Rattle.stm_history.proofs.explaining.may_follow.Goals as goal

stored : {E : Type 0} (r : Result Bool E) (xs ys : List Cell) (A : Type 0) → xs ≡ ys → IfOk r (λ b. IsTrue b → IsStore (plains xs)) → IfOk r (λ b. IsTrue b → A → IsStore (plains ys))
stored (Ok b) xs ys A e h = λ t a. subst (λ (z : List Cell). IsStore (plains z)) e (h t)
stored (Err x) xs ys A e h = tt

pub returns-then-len-vars : goal.returns-then-len-vars
returns-then-len-vars c =
    let all : c.push.new.self.items ≡ c.args.cells.now.items ++ c.args.cell ∷ [] = c.in_ok-push.ensures.items ∙ ap (λ (v : Vec Cell). v.items ++ c.args.cell ∷ []) c.replace-all.ensures.value in
    stored c.is_store.result _ _ _ all c.is_store.ensures
