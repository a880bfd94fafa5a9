use Rattle.std.proofs.Common.{◌≡◌, drop}
use Rattle.stm_store.specs.FitsDecision.{rise_from}
use Rattle.stm_store.proofs.fits.rise.Given as goal

abbrev pub invariant-loop-id : goal.invariant-loop-id
invariant-loop-id l = rise_from l.least (drop l.id-index l.writes) ≡ rise_from 0 l.writes
