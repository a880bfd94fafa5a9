use Rattle.std.proofs.Common.{◌≡◌, length, take, ap, ◌∙◌, arith}
use Rattle.std.proofs.lemmas.List.{length-take-le}
use Rattle.stm_store.specs.Cells.{with_writes}
use Rattle.stm_store.proofs.PageLists.{on_ok}
use Rattle.stm_store.proofs.RangeWriteLemmas.{all_within, length-after, from_first, take_writes}
use Rattle.stm_store.proofs.cell_list.CellList.write.Goals as goal

pub write-requires : goal.write-requires
write-requires c =
    let long : length c.args.self.now ≡ c.self.inside.len = rw (← c.self.view_is) (length-take-le c.self.inside.len c.self.inside.tree c.self.invariant) in
    all_within c.args.len (length c.self.inside.tree) c.args.writes.now c.requires.rising c.requires.writable (omega (arith, c.self.invariant, c.requires.len))

pub invariant_of-self : goal.invariant_of-self
invariant_of-self c =
    omega (arith, c.self.invariant, length-after c.write.result c.args.len 0 c.args.writes.now c.self.inside.tree c.write.new.self c.write.ensures.ok c.write.ensures.err)

pub returns-clause-ok : goal.returns-clause-ok
returns-clause-ok c =
    let n = c.args.len in
    let ws = c.args.writes.now in
    let long : length c.args.self.now ≡ c.self.inside.len = rw (← c.self.view_is) (length-take-le c.self.inside.len c.self.inside.tree c.self.invariant) in
    on_ok c.write.result c.write.ensures.ok (λ p. ap (take c.self.inside.len) (p ∙ from_first n ws c.self.inside.tree)
    ∙ take_writes n n c.self.inside.len ws c.self.inside.tree c.requires.writable (omega (arith, c.requires.len)) c.self.invariant
    ∙ ap (with_writes n ws) c.self.view_is)
