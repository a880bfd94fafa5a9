use Rattle.std.proofs.Common.{◌≡◌, ◌⊎◌, true, false, drop, refl}
use Rattle.stm_event_lines.specs.Lines.{declaring_format}
use Rattle.stm_journal.proofs.Moments.{weaker}
use Rattle.stm_run.specs.declared.console.Console.TheVariants.{Open}
use Rattle.stm_journaled_run.specs.NewEvents.{needs_declaring_format}
use Rattle.stm_journaled_run.proofs.RecordedEvents.{between, new_fit, still_begins, open_format, open_kept, anew_run}
use Rattle.stm_journaled_run.proofs.recording.record_open.Goals as goal
use Rattle.stm_journaled_run.proofs.recording.record_open.Goals.{else-file-via-then-file+else-needs_another_format, else-file-via-else-file}

pub record_anew-requires-clause-may_begin : goal.record_anew-requires-clause-may_begin
record_anew-requires-clause-may_begin g c = still_begins _ (Open c.args.desk.now) c.args.recorded c.requires

pub returns-then-needs_another_format-clause-any_moment : goal.returns-then-needs_another_format-clause-any_moment
returns-then-needs_another_format-clause-any_moment g c = λ honest m.
    let D = g.D.Device.disk in
    let fit = c.record_anew.ensures.fit in
    anew_run D c.args.file.now c.record_anew.new.file.journal.device m.committed (Open c.args.desk.now) fit.0 fit.1 m.grows (m.kept.1 honest) (c.record_anew.ensures.any_moment honest)

pub record_from-requires-clause-fit : goal.record_from-requires-clause-fit
record_from-requires-clause-fit g c =
    let f = c.args.file.now in
    let m = c.requires in
    let h = c.history-history.ensures in
    let range = rw (c.later_events-later.ensures, h.history) at c.are_in_range.ensures in
    let more : f.begun ≡ true → (f.format ≡ declaring_format) ⊎ (needs_declaring_format (drop c.args.recorded c.args.desk.now.desk.history) ≡ false) =
    elim c.else-file.branch [
      | else-file-via-then-file+else-needs_another_format w ↦ λ e. rw (c.later_events-later.ensures, h.history) at (w.needs_another_format.ensures.no w.if-needs_another_format.false)
      | else-file-via-else-file w ↦ λ e. absurd (cc (e, w.if-file.false))
    ] in
    let is = open_format f m.committed (Open c.args.desk.now) c.args.recorded c.recording_format-format.result m.grows m.count m.kept.0 f.begun refl c.recording_format-format.ensures.begun c.recording_format-format.ensures.none more in
    new_fit c.last_events_fit.ensures _ (Open c.args.desk.now) c.args.recorded m h.start h.legal range c.recording_format-format.result is

pub returns-clause-recorded : goal.returns-clause-recorded
returns-clause-recorded g c =
    let f = c.args.file.now in
    let m = c.requires in
    let h = c.history-history.ensures in
    let more : f.begun ≡ true → (f.format ≡ declaring_format) ⊎ (needs_declaring_format (drop c.args.recorded c.args.desk.now.desk.history) ≡ false) =
    elim c.else-file.branch [
      | else-file-via-then-file+else-needs_another_format w ↦ λ e. rw (c.later_events-later.ensures, h.history) at (w.needs_another_format.ensures.no w.if-needs_another_format.false)
      | else-file-via-else-file w ↦ λ e. absurd (cc (e, w.if-file.false))
    ] in
    let is = open_format f m.committed (Open c.args.desk.now) c.args.recorded c.recording_format-format.result m.grows m.count m.kept.0 f.begun refl c.recording_format-format.ensures.begun c.recording_format-format.ensures.none more in
    open_kept g.D.Device.disk c.record_from.new.file c.args.desk.now c.recording_format-format.result c.record_from.result is c.record_from.ensures.format c.record_from.ensures.begun c.record_from.ensures.recorded

pub returns-clause-any_moment : goal.returns-clause-any_moment
returns-clause-any_moment g c = λ honest m.
    let D = g.D.Device.disk in
    let f = c.args.file.now in
    let h = c.history-history.ensures in
    let more : f.begun ≡ true → (f.format ≡ declaring_format) ⊎ (needs_declaring_format (drop c.args.recorded c.args.desk.now.desk.history) ≡ false) =
    elim c.else-file.branch [
      | else-file-via-then-file+else-needs_another_format w ↦ λ e. rw (c.later_events-later.ensures, h.history) at (w.needs_another_format.ensures.no w.if-needs_another_format.false)
      | else-file-via-else-file w ↦ λ e. absurd (cc (e, w.if-file.false))
    ] in
    let is = open_format f m.committed (Open c.args.desk.now) c.args.recorded c.recording_format-format.result m.grows m.count m.kept.0 f.begun refl c.recording_format-format.ensures.begun c.recording_format-format.ensures.none more in
    weaker D f.journal.device c.record_from.new.file.journal.device _ _ (c.record_from.ensures.any_moment honest)
    (between D f m.committed (Open c.args.desk.now) m.grows (m.kept.1 honest) c.recording_format-format.result c.args.recorded is m.count)
