use Rattle.std.proofs.Common.{rules}
use Rattle.std.proofs.lemmas.Result.{on_ok_weaker}
use Rattle.serde_json.specs.Data.{number}
use Rattle.serde_json.specs.Find.{of_integer}
use Rattle.serde_json.specs.Events.{SendsValue}
use Rattle.stm_event_lines.proofs.send.send_thrown.Goals as goal

pub returns : goal.returns
returns g c =
    let w = g.S.Serializer.written in
    let sent : SendsValue (number (of_integer c.args.number)) (w c.key.new.self) (w c.send_int.new.out) = search rules in
    on_ok_weaker c.end_map.result (λ e. (w c.begin_map.new.self, c.in_ok-begin_map.ensures, (w c.key.new.self, w c.send_int.new.out, c.in_ok-key.ensures, sent, e))) c.end_map.ensures
