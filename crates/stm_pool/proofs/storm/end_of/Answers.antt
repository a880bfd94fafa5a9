use Rattle.std.proofs.Common.{◌≡◌, length, arith, rules}
use Rattle.stm_pool.proofs.storm.end_of.Goals as goal

pub closed-report-requires-clause-each : goal.closed-report-requires-clause-each
closed-report-requires-clause-each g c = λ k d h.
    let len : length c.as_slice-3.result.now ≡ length c.as_slice-2.result.now = search rules in
    rw (c.as_slice-3.ensures.value, ← c.as_slice.ensures.value) (c.in_ok-counts.ensures.each k d (omega (arith, h, len)))
