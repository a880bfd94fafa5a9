use Rattle.stm_run.specs.declared.console.Console.TheVariants.{Open}
use Rattle.stm_journaled_run.proofs.RecordedEvents.{all_fit_anew}
use Rattle.stm_journaled_run.proofs.recording.record_anew.Goals as goal

pub begin_anew-requires-clause-fit : goal.begin_anew-requires-clause-fit
begin_anew-requires-clause-fit g c =
    let h = c.history-history.ensures in
    let range = rw h.history at c.are_in_range.ensures in
    rw (h.history, c.table-table.ensures, c.begins_from-from.ensures) (all_fit_anew c.last_events_fit.ensures (Open c.args.desk.now) c.requires.may_begin h.start h.legal range)

pub returns-in-Ok-clause-fit : goal.returns-in-Ok-clause-fit
returns-in-Ok-clause-fit g c =
    let h = c.history-history.ensures in
    let range = rw h.history at c.are_in_range.ensures in
    all_fit_anew c.last_events_fit.ensures (Open c.args.desk.now) c.requires.may_begin h.start h.legal range

pub returns-in-Err-Refused-clause-fit : goal.returns-in-Err-Refused-clause-fit
returns-in-Err-Refused-clause-fit g c =
    let h = c.history-history.ensures in
    let range = rw h.history at c.are_in_range.ensures in
    all_fit_anew c.last_events_fit.ensures (Open c.args.desk.now) c.requires.may_begin h.start h.legal range

pub returns-in-Err-Unfinished-clause-fit : goal.returns-in-Err-Unfinished-clause-fit
returns-in-Err-Unfinished-clause-fit g c =
    let h = c.history-history.ensures in
    let range = rw h.history at c.are_in_range.ensures in
    all_fit_anew c.last_events_fit.ensures (Open c.args.desk.now) c.requires.may_begin h.start h.legal range
