use Rattle.std.proofs.Common.{sym, ◌∙◌}
use Rattle.stm_store.proofs.KnownNumbers.{gap_next_at, gap_here_at}
use Rattle.stm_store.proofs.names.Names.is_gapless.Goals as goal

pub returns-then-number_at-place : goal.returns-then-number_at-place
returns-then-number_at-place c =
    sym (sym c.loop-place.invariant ∙ gap_here_at c.args.self.now c.loop-place.place c.number_at.result c.number_at.ensures c.if-number_at-place.true)

pub loop-place-preserved : goal.loop-place-preserved
loop-place-preserved c = sym (gap_next_at c.args.self.now c.loop-place.place c.number_at.result c.number_at.ensures cc) ∙ c.loop-place.invariant
