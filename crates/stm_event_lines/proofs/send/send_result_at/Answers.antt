use Rattle.std.proofs.lemmas.Result.{on_ok_weaker}
use Rattle.stm_event_lines.proofs.send.send_result_at.Goals as goal

pub returns : goal.returns
returns g c =
    let w = g.S.Serializer.written in
    on_ok_weaker c.send_value.result (λ e. (w c.key.new.self, c.in_ok-key.ensures, e)) c.send_value.ensures
