use Rattle.std.proofs.Common.{arith}
use Rattle.std.proofs.lemmas.Grind.{common_steps}
use Rattle.stm_event_lines.proofs.FitsPushed.{fit_numbers_push}
use Rattle.stm_event_lines.proofs.parts.numbers.Goals as goal

pub loop-json-preserved : goal.loop-json-preserved
loop-json-preserved c = record {
  value = grind (arith, common_steps);
  fits = rw c.in_ok-push-in-Some.ensures.items (fit_numbers_push _ _ c.loop-json.invariant.fits c.in-Some.ensures.fits);
}
