use Rattle.std.proofs.Common.{◌≡◌, ◌<◌, ◌≤◌, length, refl, ap, arith}
use Rattle.std.specs.Arc.{arc_value}
use Rattle.stm_store.specs.Roots.{cells_at}
use Rattle.stm_store.proofs.RangeWriteLemmas.{some_writes, some_cells, length-after}
use Rattle.stm_store.proofs.tree.Tree.write.Goals as goal
use Rattle.stm_store.proofs.tree.Tree.write.Goals.{in-Page, in-Part, in-Parts}

pub unreachable-requires : goal.unreachable-requires
unreachable-requires c =
    let ws = c.args.writes.now in
    let some : 0 < length c.args.self.now = some_cells c.args.len (length c.args.self.now) ws c.requires (some_writes ws c.if-is_empty.ensures) in
    let none : length (cells_at c.self.inside.root) ≡ 0 = rw c.in-Empty.is refl in
    omega (arith, some, none, ap length c.self.view_is)

pub invariant_of-self : goal.invariant_of-self
invariant_of-self c =
    elim c.match-self.branch [
      | in-Page w ↦
          let few : length (arc_value w.in-Page.page) ≤ 64 = rw w.in-Page.is at c.self.invariant in
          let same = length-after w.write_one_page.result c.args.len 0 c.args.writes.now (arc_value w.in-Page.page) (arc_value w.write_one_page.new.page) w.write_one_page.ensures.ok w.write_one_page.ensures.err in
          rw w.self-inside-is (omega (arith, few, same))
      | in-Part w ↦
          let few : length (arc_value w.in-Part.part) ≤ 4096 = rw w.in-Part.is at c.self.invariant in
          rw w.self-inside-is (omega (arith, few, w.write_one_part.ensures.size))
      | in-Parts w ↦ rw w.self-inside-is tt
    ]
