use Rattle.std.proofs.Common.{◌≡◌, Result, Ok, Err, IfOk, refl, subst}
use Rattle.std.specs.Prelude.{MatchResult, IsErrAnd}
use Rattle.stm_history_file.specs.Durable.{OpensAs}
use Rattle.test_files.proofs.journaled_run.run_over.Goals as goal

-- what is `Ok` after `map_err` was `Ok` before
mapped_ok : {T E F : Type 0} (r : Result T E) (s : Result T F) (x : T) (P : T → Type 0) (Q : E → F → Type 0) → MatchResult r (λ y. s ≡ Ok y) (λ e. IsErrAnd s (Q e)) → s ≡ Ok x → IfOk r P → P x
mapped_ok (Ok y) s x P Q is was p = let same : y ≡ x = cc (is, was) in subst P same p
mapped_ok (Err e) s x P Q is was p = absurd (subst (λ o. IsErrAnd o (Q e)) was is)

pub run_durable-requires-clause-opened : goal.run_durable-requires-clause-opened
run_durable-requires-clause-opened g c κs within =
    let opened : OpensAs _ _ _ c.in_ok-file.field-0 = mapped_ok c.open_history.result c.map_err.result c.in_ok-file.field-0 (OpensAs _ _ _) _ c.map_err.ensures.cases c.in_ok-file.was c.open_history.ensures.opened in
    record { resumable = opened.resumable; kept = λ honest. opened.kept (λ h. refl) honest; format = opened.format }
