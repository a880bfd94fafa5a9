use Rattle.std.proofs.Common.{sym, ◌∙◌}
use Rattle.stm_store.specs.Cells.{plains}
use Rattle.stm_store.proofs.FitsDecided.{fits_from, fits_to}
use Rattle.stm_store.proofs.store.Store.fits.Goals as goal

pub returns : goal.returns
returns c = rw (← c.self.view_is) (
  (λ e. fits_from (plains c.self.inside.cells) c.args.verdict.now (sym c.fits.ensures ∙ e)),
  (λ f. c.fits.ensures ∙ fits_to (plains c.self.inside.cells) c.args.verdict.now f),
)
