use Rattle.std.proofs.Common.{◌≡◌, ◌+◌, drop, length}
use Rattle.stm_store.specs.RangeWrites.{AreWithin, with_writes_from}
use Rattle.stm_store.proofs.page.Page.write.Given as goal

abbrev pub invariant-loop-id : goal.invariant-loop-id
invariant-loop-id l = record {
  cells : with_writes_from l.len l.first (drop l.id-index l.writes) l.self-inside.cells.items ≡ with_writes_from l.len l.first l.writes l.fn.self;
  same_length : length l.self-inside.cells.items ≡ length l.fn.self;
  within : AreWithin l.len l.first (l.first + length l.fn.self) (drop l.id-index l.writes);
}
