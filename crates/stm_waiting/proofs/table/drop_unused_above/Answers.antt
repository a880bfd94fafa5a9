use Rattle.stm_waiting.proofs.Placed.{used_entries, used_ascend, used_below, used_short}
use Rattle.stm_waiting.proofs.table.drop_unused_above.Goals as goal

pub returns-then-not-is_above_all-clause-ascend : goal.returns-then-not-is_above_all-clause-ascend
returns-then-not-is_above_all-clause-ascend c = rw c.drop_unused.ensures (used_ascend 0 c.args.places.now.items c.args.slots.now c.requires.ascend)

pub returns-then-not-is_above_all-clause-last : goal.returns-then-not-is_above_all-clause-last
returns-then-not-is_above_all-clause-last c = rw c.drop_unused.ensures (used_below c.args.ticket c.args.places.now.items c.args.slots.now c.requires.last)

pub returns-then-not-is_above_all-clause-same : goal.returns-then-not-is_above_all-clause-same
returns-then-not-is_above_all-clause-same c = rw c.drop_unused.ensures (used_entries c.args.places.now.items c.args.slots.now)

pub returns-then-not-is_above_all-clause-short : goal.returns-then-not-is_above_all-clause-short
returns-then-not-is_above_all-clause-short c = rw c.drop_unused.ensures (used_short c.args.places.now.items c.args.slots.now)
