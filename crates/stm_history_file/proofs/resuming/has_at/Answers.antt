use Rattle.std.proofs.Common.{arith}
use Rattle.stm_history_file.proofs.FrontsOfFiles.{room, ends, differs, goes_on}
use Rattle.stm_history_file.proofs.resuming.has_at.Goals.{then-count-eq0-via-then-count-eq0, then-count-eq0-via-else-count-eq0+then-found-byte}
use Rattle.stm_history_file.proofs.resuming.has_at.Goals as goal

pub returns-then-count-eq0-clause-no : goal.returns-then-count-eq0-clause-no
returns-then-count-eq0-clause-no g c honest is =
    let file = g.D.Device.disk.seen c.args.device.now in
    let given = c.in_ok-count.ensures in
    let here = c.loop-index-test.true in
    elim c.then-count-eq0.branch [
      | then-count-eq0-via-then-count-eq0 w ↦
          absurd (ends file c.args.bytes.now c.read_at.new.buffer c.args.at c.loop-index.index c.in_ok-count.count (given.bytes honest) given.bound here
          w.if-count-eq0.true (omega (arith, c.read_at.auto.buffer)) is)
      | then-count-eq0-via-else-count-eq0+then-found-byte w ↦
          absurd (differs file c.args.bytes.now c.read_at.new.buffer c.args.at c.loop-index.index c.in_ok-count.count (given.bytes honest) given.bound here
          w.if-count-eq0.false w.if-found-byte.true is)
    ]

pub loop-index-preserved : goal.loop-index-preserved
loop-index-preserved g c =
    let file = g.D.Device.disk.seen c.args.device.now in
    let given = c.in_ok-count.ensures in
    let here = c.loop-index-test.true in
    record {
      within = λ honest. omega (
        arith,
        room file c.args.bytes.now c.read_at.new.buffer c.args.at c.loop-index.index c.in_ok-count.count
            (given.bytes honest) given.bound here c.if-count-eq0.false,
      );
      same = λ honest. goes_on file c.args.bytes.now c.read_at.new.buffer c.args.at c.loop-index.index c.in_ok-count.count (given.bytes honest) given.bound here
          c.if-count-eq0.false c.if-found-byte.false (c.loop-index.invariant.same honest);
    }
