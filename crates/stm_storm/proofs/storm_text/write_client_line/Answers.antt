use Rattle.std.proofs.Common.{append_assoc}
use Rattle.stm_storm.specs.StormText.{client_line}
use Rattle.stm_storm.proofs.storm_text.write_client_line.Goals as goal

pub returns : goal.returns
unfolding client_line
returns c =
    let h = c.in_ok-write-2.ensures.bytes in let k = c.in_ok-write.ensures.bytes in rw (h, k) (simp append_assoc)
