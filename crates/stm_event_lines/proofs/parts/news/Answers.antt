use Rattle.std.proofs.Common.{◌≤◌, Option, IfSome, subst, arith}
use Rattle.std.proofs.lemmas.Grind.{common_steps}
use Rattle.stm_terms.specs.declared.kinds.Ty.{Ty}
use Rattle.stm_terms.specs.declared.values.Value.{Value}
use Rattle.stm_terms.specs.Limits.{most_refs}
use Rattle.stm_event_lines.specs.Fits.{FitsValue}
use Rattle.stm_event_lines.proofs.FitsPushed.{fit_news_push}
use Rattle.stm_event_lines.proofs.parts.news.Goals as goal

pub loop-json-preserved : goal.loop-json-preserved
loop-json-preserved c = record {
  value = grind (arith, common_steps);
  fits = rw c.in_ok-push-in-Some.ensures.items (fit_news_push _ _ c.loop-json.invariant.fits
      (subst (λ (o : Option (Ty × Value)). IfSome o (λ n. (n.0.refs ≤ most_refs) × FitsValue n.1)) c.in-Some.is c.in_ok-n.ensures.fits));
}
