use Rattle.std.proofs.Common.{◌≡◌, [], drop}
use Rattle.stm_store.specs.Cells.{kinds_of, plains}
use Rattle.stm_store.specs.FitsDecision.{making, news_fit}
use Rattle.stm_store.proofs.types.are_typed.Given as goal

abbrev pub invariant-loop-cell : goal.invariant-loop-cell
invariant-loop-cell l = news_fit (kinds_of (plains l.cells)) (making []) (plains (drop l.cell-index l.cells)) ≡ news_fit (kinds_of (plains l.cells)) (making []) (plains l.cells)
