use Rattle.stm_history_text.specs.HistoryText.{history_text}
use Rattle.stm_history_text.specs.Starts.{lent_start}
use Rattle.stm_journal.proofs.Faults.{only_too_long}
use Rattle.stm_history_file.proofs.LinesMeasured.{start_measured, short_if_ok, long_if}
use Rattle.stm_history_file.proofs.beginning.write_new.Goals as goal

pub returns-then-is_none-clause-fault : goal.returns-then-is_none-clause-fault
returns-then-is_none-clause-fault g c honest =
    let D = g.D.Device.disk in
    let w = c.write_whole.new.writer in
    let text = history_text (lent_start c.args.format c.args.table.now c.args.checkpoint) c.args.events.now in
    only_too_long _ _
    (long_if w.line text
    (start_measured D.is_honest (D.seen w.file.device) w.file.len w.file.pending.items w.line _ text honest (c.requires.empty honest) c.in-Ok.ensures w.measured)
    c.if-is_none.ensures)

pub returns-clause-short : goal.returns-clause-short
returns-clause-short g c honest =
    let D = g.D.Device.disk in
    let w = c.write_whole.new.writer in
    let text = history_text (lent_start c.args.format c.args.table.now c.args.checkpoint) c.args.events.now in
    short_if_ok c.finish.result w.line text
    (start_measured D.is_honest (D.seen w.file.device) w.file.len w.file.pending.items w.line _ text honest (c.requires.empty honest) c.in-Ok.ensures w.measured)
    c.if-is_none.ensures
