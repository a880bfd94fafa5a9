use Rattle.std.proofs.lemmas.Result.{on_ok_weaker}
use Rattle.stm_event_lines.proofs.write.send_stale_at.Goals as goal

pub returns : goal.returns
returns g c =
    let w = g.S.Serializer.written in
    on_ok_weaker c.send_numbers.result (λ e. (w c.key.new.self, c.in_ok-key.ensures, e)) c.send_numbers.ensures
