use Rattle.std.proofs.Common.{◌≡◌, ◌+◌, drop, nat_lt}
use Rattle.std.specs.List.{prefix_len}
use Rattle.stm_store.proofs.in_place.writes_below.Given as goal

abbrev pub invariant-loop-id : goal.invariant-loop-id
invariant-loop-id l = record {
  count : l.count ≡ l.id-index;
  below : l.count + prefix_len (λ w. nat_lt w.0 l.end) (drop l.id-index l.writes) ≡ prefix_len (λ w. nat_lt w.0 l.end) l.writes;
}
