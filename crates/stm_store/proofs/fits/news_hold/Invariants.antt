use Rattle.std.proofs.Common.{◌≡◌, drop}
use Rattle.stm_store.specs.Cells.{kinds_of, plains}
use Rattle.stm_store.specs.FitsDecision.{making, news_fit}
use Rattle.stm_store.proofs.fits.news_hold.Given as goal

abbrev pub invariant-loop-kind : goal.invariant-loop-kind
invariant-loop-kind l = news_fit (kinds_of (plains l.cells)) (making l.news) (drop l.kind-index l.news) ≡ news_fit (kinds_of (plains l.cells)) (making l.news) l.news
