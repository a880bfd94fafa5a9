use Rattle.std.proofs.lemmas.Result.{on_ok_weaker}
use Rattle.stm_event_lines.proofs.checkpoint.send_parts.Goals as goal

pub returns : goal.returns
returns g c =
    let w = g.S.Serializer.written in
    on_ok_weaker c.end_map.result (λ e. (
      c.in_ok-send_pairs_at.ensures.0,
      w c.send_pairs_at.new.out,
      c.in_ok-send_pairs_at.ensures.1,
      c.in_ok-send_pairs_at.ensures.2,
      (
        c.in_ok-send_stale_at.ensures.0,
        w c.send_stale_at.new.out,
        c.in_ok-send_stale_at.ensures.1,
        c.in_ok-send_stale_at.ensures.2,
        (
          c.in_ok-send_number_at.ensures.0,
          w c.send_number_at.new.out,
          c.in_ok-send_number_at.ensures.1,
          c.in_ok-send_number_at.ensures.2,
          (c.in_ok-send_verdict_at.ensures.0, w c.send_verdict_at.new.out, c.in_ok-send_verdict_at.ensures.1, c.in_ok-send_verdict_at.ensures.2, e),
        ),
      ),
    )) c.end_map.ensures
