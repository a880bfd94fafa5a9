use Rattle.std.proofs.Common.{◌≡◌, drop}
use Rattle.stm_store.specs.Cells.{plains}
use Rattle.stm_store.specs.FitsDecision.{covers_all}
use Rattle.stm_store.proofs.covers.covers.Given as goal

abbrev pub invariant-loop-id : goal.invariant-loop-id
invariant-loop-id l = covers_all (plains l.cells) (drop l.id-index l.uses) ≡ covers_all (plains l.cells) l.uses
