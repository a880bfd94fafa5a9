use Rattle.std.proofs.lemmas.Result.{on_ok_weaker}
use Rattle.stm_event_lines.proofs.write.send_labelled.Goals as goal

pub returns : goal.returns
returns g c =
    let w = g.S.Serializer.written in
    on_ok_weaker c.end_map.result (λ e. (
      w c.begin_map.new.self,
      c.in_ok-begin_map.ensures,
      (
        c.in_ok-send_number_at.ensures.0,
        w c.send_number_at.new.out,
        c.in_ok-send_number_at.ensures.1,
        c.in_ok-send_number_at.ensures.2,
        (
          c.in_ok-send_text_at.ensures.0,
          w c.send_text_at.new.out,
          c.in_ok-send_text_at.ensures.1,
          c.in_ok-send_text_at.ensures.2,
          (
            c.in_ok-send_text_at-2.ensures.0,
            w c.send_text_at-2.new.out,
            c.in_ok-send_text_at-2.ensures.1,
            c.in_ok-send_text_at-2.ensures.2,
            (c.in_ok-send_number_at-2.ensures.0, w c.send_number_at-2.new.out, c.in_ok-send_number_at-2.ensures.1, c.in_ok-send_number_at-2.ensures.2, e),
          ),
        ),
      ),
    )) c.end_map.ensures
