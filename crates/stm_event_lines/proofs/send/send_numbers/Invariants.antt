use Rattle.std.proofs.Common.{drop, map}
use Rattle.serde.specs.Event.{Log}
use Rattle.serde_json.specs.View.{items_of}
use Rattle.serde_json.specs.Events.{SendsItems}
use Rattle.stm_event_lines.specs.Lines.{number_data}
use Rattle.stm_event_lines.proofs.send.send_numbers.Given as goal

-- whatever ends it well from here ends it well from the start
abbrev pub invariant-loop-number : goal.invariant-loop-number
invariant-loop-number g l =
    (end : Log) → SendsItems (items_of (map number_data (drop l.number-index l.numbers))) (g.S.Serializer.written l.out) end → SendsItems (items_of (map number_data l.numbers)) (g.S.Serializer.written l.initial.out) end
