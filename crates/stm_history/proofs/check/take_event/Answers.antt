use Rattle.std.proofs.Common.{subst, inl, inr, ap}
use Rattle.stm_event_lines.specs.Fits.{FitsFormat}
use Rattle.stm_history.specs.declared.fault.HistoryFault.TheVariants.{BadLine}
use Rattle.stm_history.proofs.RefusedLines.{unfit}
use Rattle.stm_history.proofs.check.take_event.Goals as goal

pub returns-then-not-fits_format-clause-refused : goal.returns-then-not-fits_format-clause-refused
returns-then-not-fits_format-clause-refused c = λ S H e h f n.
    inr (inl (ap BadLine n, unfit S H c.args.event.now f (λ may. let yes = c.fits_format.ensures.1 (subst (λ format. FitsFormat format c.args.event.now) e may) in cc (yes, c.if-not-fits_format.true))))
