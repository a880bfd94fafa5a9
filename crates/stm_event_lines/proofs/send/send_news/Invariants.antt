use Rattle.std.proofs.Common.{drop, map}
use Rattle.serde.specs.Event.{Log}
use Rattle.serde_json.specs.View.{items_of}
use Rattle.serde_json.specs.Events.{SendsItems}
use Rattle.stm_event_lines.specs.Lines.{new_data}
use Rattle.stm_event_lines.proofs.send.send_news.Given as goal

-- whatever ends it well from here ends it well from the start
abbrev pub invariant-loop-new : goal.invariant-loop-new
invariant-loop-new g l =
    (end : Log) → SendsItems (items_of (map new_data (drop l.new-index l.news))) (g.S.Serializer.written l.out) end → SendsItems (items_of (map new_data l.news)) (g.S.Serializer.written l.initial.out) end
