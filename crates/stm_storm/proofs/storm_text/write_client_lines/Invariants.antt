use Rattle.std.proofs.Common.{◌≡◌, ◌++◌, drop, string_bytes}
use Rattle.stm_storm.specs.StormText.{client_lines}
use Rattle.stm_storm.proofs.storm_text.write_client_lines.Given as goal

abbrev pub invariant-loop-client : goal.invariant-loop-client
invariant-loop-client l = string_bytes l.out ++ client_lines l.client (drop l.client l.counts) ≡ string_bytes l.fn.out ++ client_lines 0 l.counts
