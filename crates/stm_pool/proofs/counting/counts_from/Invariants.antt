use Rattle.std.proofs.Common.{◌≡◌, ◌+◌, ◌≤◌, drop}
use Rattle.stm_events.specs.SlowSettle.{is_finish}
use Rattle.stm_pool.specs.Storms.{how_many, is_submission, is_cancelled}
use Rattle.stm_pool.proofs.counting.counts_from.Given as goal

-- what is counted, with those of the events that are left, makes all
abbrev pub invariant-loop-event : goal.invariant-loop-event
invariant-loop-event l = record {
  submitted : l.counts.submitted + how_many is_submission (drop l.event-index l.own) ≡ how_many is_submission l.own;
  finished : l.counts.finished + how_many is_finish (drop l.event-index l.own) ≡ how_many is_finish l.own;
  cancelled : l.counts.cancelled + how_many is_cancelled (drop l.event-index l.own) ≡ how_many is_cancelled l.own;
  few : (l.counts.submitted ≤ l.event-index) × (l.counts.finished ≤ l.event-index) × (l.counts.cancelled ≤ l.event-index);
}
