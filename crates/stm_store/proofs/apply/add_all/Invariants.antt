use Rattle.std.proofs.Common.{◌≡◌, ◌+◌, ◌≤◌, ◌++◌, map, take, drop, length}
use Rattle.stm_store.specs.Cells.{new_cell}
use Rattle.stm_store.specs.FreshReferences.{AreAddable}
use Rattle.stm_store.proofs.apply.add_all.Given as goal

abbrev pub invariant-loop-kind : goal.invariant-loop-kind
invariant-loop-kind l = record {
  cells : l.cells ++ map (new_cell l.len) (drop l.kind-index l.news) ≡ l.fn.cells ++ map (new_cell l.len) l.news;
  small : length l.cells + length (drop l.kind-index l.news) ≤ 1000000;
  addable : AreAddable l.len (drop l.kind-index l.news);
  long : length l.fn.cells ≤ length l.cells;
  old : take (length l.fn.cells) l.cells ≡ l.fn.cells;
}
