use Rattle.std.proofs.Common.{◌≡◌, ap, length, arith}
use Rattle.std.specs.List.{filter}
use Rattle.stm_waiting.specs.Places.{is_used, entries_at}
use Rattle.stm_waiting.proofs.Placed.{used_entries, used_ascend, used_length}
use Rattle.stm_waiting.proofs.table.Table.shorten.Goals as goal

pub returns-then-unused-saturating_add-clause-ascend : goal.returns-then-unused-saturating_add-clause-ascend
returns-then-unused-saturating_add-clause-ascend c = rw c.drop_unused.ensures (used_ascend 0 c.args.self.now.places.items c.args.slots.now c.requires.ascend)

pub returns-then-unused-saturating_add-clause-same : goal.returns-then-unused-saturating_add-clause-same
returns-then-unused-saturating_add-clause-same c = rw c.drop_unused.ensures (used_entries c.args.self.now.places.items c.args.slots.now)

pub returns-then-unused-saturating_add-clause-short : goal.returns-then-unused-saturating_add-clause-short
returns-then-unused-saturating_add-clause-short c =
    let ps = c.args.self.now.places.items in
    let s = c.args.slots.now in
    let is : length c.drop_unused.new.places.items ≡ length (filter (is_used s) ps) = ap length c.drop_unused.ensures in
    let e : length (filter (is_used s) ps) ≡ length (entries_at ps s) = used_length ps s in
    let n : c.args.count ≡ length (entries_at ps s) = c.requires.counted in
    omega arith
