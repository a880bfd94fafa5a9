use Rattle.std.proofs.Common.{◌≡◌, [], drop, map, Some, sym, subst, arith}
use Rattle.std.proofs.lemmas.List.{drop_all}
use Rattle.std.proofs.lemmas.Result.{on_ok_weaker}
use Rattle.serde.specs.Event.{Logs, seq_begins}
use Rattle.serde_json.specs.View.{items_of}
use Rattle.serde_json.specs.Events.{SendsItems}
use Rattle.stm_event_lines.specs.Lines.{number_data}
use Rattle.stm_event_lines.proofs.Sent.{sent_len}
use Rattle.stm_event_lines.proofs.send.send_numbers.Goals as goal

pub returns : goal.returns
returns g c =
    let w = g.S.Serializer.written in
    let xs = c.args.numbers.now in
    let end = w c.end_seq.new.self in
    let begun = subst (λ n. Logs (w c.args.out.now) (w c.begin_seq.new.self) (seq_begins (Some n))) (sym (sent_len number_data xs)) c.in_ok-begin_seq.ensures in
    let none : drop c.loop-number.number-index xs ≡ [] = drop_all c.loop-number.number-index xs (omega arith) in
    on_ok_weaker c.end_seq.result (λ e. (w c.begin_seq.new.self, begun, c.loop-number.invariant end (subst (λ ys. SendsItems (items_of (map number_data ys)) (w c.loop-number.out) end) (sym none) e))) c.end_seq.ensures
