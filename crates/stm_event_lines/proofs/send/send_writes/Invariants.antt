use Rattle.std.proofs.Common.{drop, map}
use Rattle.serde.specs.Event.{Log}
use Rattle.serde_json.specs.View.{items_of}
use Rattle.serde_json.specs.Events.{SendsItems}
use Rattle.stm_event_lines.specs.Lines.{write_data}
use Rattle.stm_event_lines.proofs.send.send_writes.Given as goal

-- whatever ends it well from here ends it well from the start
abbrev pub invariant-loop-write : goal.invariant-loop-write
invariant-loop-write g l =
    (end : Log) → SendsItems (items_of (map write_data (drop l.write-index l.writes))) (g.S.Serializer.written l.out) end → SendsItems (items_of (map write_data l.writes)) (g.S.Serializer.written l.initial.out) end
