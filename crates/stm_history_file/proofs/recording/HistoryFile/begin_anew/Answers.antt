use Rattle.std.proofs.Common.{refl, sym, subst}
use Rattle.stm_history_text.specs.Starts.{lent_start}
use Rattle.stm_journal.specs.Text.{IsWhole}
use Rattle.stm_history_file.proofs.Beginnings.{not_replaced}
use Rattle.stm_history_file.proofs.Texts.{IsWhole-history}
use Rattle.stm_history_file.proofs.recording.HistoryFile.begin_anew.Goals as goal

pub replace-requires-clause-lines : goal.replace-requires-clause-lines
replace-requires-clause-lines g c honest =
    subst IsWhole (sym (c.in-Ok-write_new.ensures.text honest)) (IsWhole-history (lent_start c.args.format c.args.table.now c.args.checkpoint) c.requires.fit.0 c.args.events.now c.requires.fit.1)

pub returns-in-Err-replace-clause-begins : goal.returns-in-Err-replace-clause-begins
returns-in-Err-replace-clause-begins g c =
    let mid = c.new_file.new.self in
    let first = c.new_file.ensures in
    let is = c.in-Err-replace.ensures in
    not_replaced g.D.Device.disk _ _ _ _ mid c.in-Ok-write_new.new.0 c.in-Err-replace.error refl refl (g.met.D.Device.lawful.counts_now mid.device)
    first.seen first.at_rest first.any_moment c.in-Ok-write_new.ensures.text is.replaced is.fault
