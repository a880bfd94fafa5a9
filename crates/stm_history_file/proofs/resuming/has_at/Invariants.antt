use Rattle.std.proofs.Common.{◌≡◌, ◌≤◌, ◌+◌, IsTrue, length, take, drop}
use Rattle.stm_history_file.proofs.resuming.has_at.Given as goal

abbrev pub invariant-loop-index : goal.invariant-loop-index
invariant-loop-index g l = record {
  within : IsTrue g.D.Device.disk.is_honest → l.at + l.index ≤ length (g.D.Device.disk.seen l.device);
  same : IsTrue g.D.Device.disk.is_honest → take l.index (drop l.at (g.D.Device.disk.seen l.device)) ≡ take l.index l.bytes;
}
