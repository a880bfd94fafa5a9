use Rattle.std.proofs.Common.{◌≡◌, drop}
use Rattle.stm_store.specs.Cells.{kinds_of, plains}
use Rattle.stm_store.specs.FitsDecision.{making, writes_fit}
use Rattle.stm_store.proofs.fits.writes_hold.Given as goal

abbrev pub invariant-loop-id : goal.invariant-loop-id
invariant-loop-id l = writes_fit (kinds_of (plains l.cells)) (making l.news) (drop l.id-index l.writes) ≡ writes_fit (kinds_of (plains l.cells)) (making l.news) l.writes
