use Rattle.std.proofs.Common.{ℕ, ◌∙◌, pos, arith, length-set}
use Rattle.stm_terms.specs.declared.values.Value.{Value}
use Rattle.stm_terms.specs.declared.values.Value.TheVariants.{Int}
use Rattle.stm_store.proofs.RangeWriteLemmas.{at_within, rest_within, write_step}
use Rattle.stm_store.proofs.page.Page.write.Goals as goal

pub loop-id-preserved : goal.loop-id-preserved
loop-id-preserved c =
    let ws = c.args.writes.now in
    let k = c.loop-id.id-index in
    let cs = c.loop-id.self-inside.cells.items in
    let d : ℕ × Value = (0, Int (pos 0)) in
    let p = at_within c.args.len c.args.first _ k ws d c.loop-id-test.true c.loop-id.invariant.within in
    record {
      cells = write_step c.args.len c.args.first k ws d cs _ c.index.result.now c.rewrite.result c.loop-id-test.true (omega (arith, c.loop-id.invariant.same_length, p.0, p.1)) c.index.ensures c.rewrite.ensures ∙ c.loop-id.invariant.cells;
      same_length = length-set _ _ _ ∙ c.loop-id.invariant.same_length;
      within = rest_within c.args.len c.args.first _ k ws d c.loop-id-test.true c.loop-id.invariant.within;
    }
