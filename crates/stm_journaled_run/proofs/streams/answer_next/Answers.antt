use Rattle.std.proofs.Common.{◌≡◌, inr, ℕ, ◌<◌, List, [], ◌∷◌, ◌++◌, Ok, None, subst, ap, ◌∙◌, refl}
use Rattle.std.specs.Io.KnownBytes.{prepend_known}
use Rattle.std.proofs.KnownBytes.{prepend_known-nil}
use Rattle.stm_lines.specs.LineClass.{line_class}
use Rattle.stm_lines.specs.Lines.{drop_return}
use Rattle.stm_lines.specs.declared.run_fault.RunFault.TheVariants.{Read}
use Rattle.stm_run.specs.LineCheckpoints.{made_turn, turn_lines}
use Rattle.stm_journaled_run.specs.declared.fault.DurableFault.TheVariants.{Run}
use Rattle.stm_journaled_run.specs.DurableRun.{KeepsConsole}
use Rattle.stm_journaled_run.proofs.Committing.{may_commit, finished, stopped_after, failed}
use Rattle.stm_journaled_run.proofs.RunCrashes.{input_run, events_run, lines_still}
use Rattle.stm_journaled_run.proofs.Running.{come_begins, comes_on, on_begins, last_lines, last_begins, ends_with, ends_here, whole_answered, failed_run}
use Rattle.stm_journaled_run.proofs.Results.{err_not_ok, no_more, ok_not_err, same_error}
use Rattle.stm_journaled_run.proofs.SessionEnded.{not_read, run_cause, same_fault}
use Rattle.stm_journaled_run.proofs.streams.answer_next.Goals as goal

-- ---- a line that a line feed ended
pub returns-in-Ok-clause-done : goal.returns-in-Ok-clause-done
returns-in-Ok-clause-done g c = λ first input old h.
    let w = rw c.in-Ok-Whole.field-0-is at c.in-Ok-Whole.ensures.read in
    let same : line_class c.line.result.now ≡ line_class (drop_return w.0) = ap line_class c.line.ensures ∙ w.2 in
    let next = c.in-Ok.ensures.done first h.lines old (drop_return w.0) same h.after in
    comes_on _ c.args.every first input _ old _ _ _ _ h _ w.0 next.0 _ _ _ _ _ w.1 next.1

pub returns-in-Ok-clause-any_moment : goal.returns-in-Ok-clause-any_moment
returns-in-Ok-clause-any_moment g c = λ honest first input old h.
    let D = g.D.Device.disk in
    let f = c.args.file.now in
    let w = rw c.in-Ok-Whole.field-0-is at c.in-Ok-Whole.ensures.read in
    let same : line_class c.line.result.now ≡ line_class (drop_return w.0) = ap line_class c.line.ensures ∙ w.2 in
    input_run _ D f.journal.sync D.fills_with_zeros c.args.every first (h.lines ++ made_turn (drop_return w.0) ∷ []) input f.journal.device c.answer_line.new.file.journal.device
    (on_begins _ c.args.every first input _ old _ _ _ _ h _ w.0 None w.1) (c.answer_line.ensures.any_moment honest first h.lines old (drop_return w.0) same h.after)

pub returns-in-Err-answer_line-clause-fault : goal.returns-in-Err-answer_line-clause-fault
returns-in-Err-answer_line-clause-fault g c = λ first input old h.
    let D = g.D.Device.disk in
    let w = rw c.in-Ok-Whole.field-0-is at c.in-Ok-Whole.ensures.read in
    let same : line_class c.line.result.now ≡ line_class (drop_return w.0) = ap line_class c.line.ensures ∙ w.2 in
    failed_run D.is_honest c.args.file.now.journal.sync D.fills_with_zeros (D.may_leave c.answer_line.new.file.journal.device) _ c.args.every first (h.lines ++ made_turn (drop_return w.0) ∷ []) input old _ _
    (on_begins _ c.args.every first input _ old _ _ _ _ h _ w.0 None w.1) (c.in-Err-answer_line.ensures.fault first h.lines old (drop_return w.0) same h.after)

pub returns-in-Err-answer_line-clause-any_moment : goal.returns-in-Err-answer_line-clause-any_moment
returns-in-Err-answer_line-clause-any_moment g c = λ honest first input old h.
    let D = g.D.Device.disk in
    let f = c.args.file.now in
    let w = rw c.in-Ok-Whole.field-0-is at c.in-Ok-Whole.ensures.read in
    let same : line_class c.line.result.now ≡ line_class (drop_return w.0) = ap line_class c.line.ensures ∙ w.2 in
    input_run _ D f.journal.sync D.fills_with_zeros c.args.every first (h.lines ++ made_turn (drop_return w.0) ∷ []) input f.journal.device c.answer_line.new.file.journal.device
    (on_begins _ c.args.every first input _ old _ _ _ _ h _ w.0 None w.1) (c.answer_line.ensures.any_moment honest first h.lines old (drop_return w.0) same h.after)

pub answer_line-requires-clause-between : goal.answer_line-requires-clause-between
answer_line-requires-clause-between g c κs within =
    let come = c.requires.come in
    (come.0, come.3.lines, come.2, come.3.after)

pub answer_line-requires-clause-because : goal.answer_line-requires-clause-because
answer_line-requires-clause-because g c κs within = c.requires.because

pub returns-in-Ok-clause-because : goal.returns-in-Ok-clause-because
returns-in-Ok-clause-because g c = c.answer_line.ensures.because

pub returns-in-Ok-clause-same_reader : goal.returns-in-Ok-clause-same_reader
returns-in-Ok-clause-same_reader g c = c.next_command_line.ensures.called.same_reader

pub returns-in-Ok-clause-same_steps : goal.returns-in-Ok-clause-same_steps
returns-in-Ok-clause-same_steps g c = c.next_command_line.ensures.called.same_steps

pub returns-in-Ok-clause-shorter : goal.returns-in-Ok-clause-shorter
returns-in-Ok-clause-shorter g c = λ e. c.next_command_line.ensures.shorter (c.in-Ok-Whole.is ∙ ap (λ x. Ok x) c.in-Ok-Whole.field-0-is)

pub returns-in-Ok-clause-sync : goal.returns-in-Ok-clause-sync
returns-in-Ok-clause-sync g c = c.answer_line.ensures.sync

pub returns-in-Ok-clause-cause : goal.returns-in-Ok-clause-cause
returns-in-Ok-clause-cause g c = tt

pub returns-in-Ok-clause-fault : goal.returns-in-Ok-clause-fault
returns-in-Ok-clause-fault g c = tt

pub returns-in-Ok-clause-read_fault : goal.returns-in-Ok-clause-read_fault
returns-in-Ok-clause-read_fault g c = λ e. ok_not_err _ _ e

pub returns-in-Err-answer_line-clause-because : goal.returns-in-Err-answer_line-clause-because
returns-in-Err-answer_line-clause-because g c = c.answer_line.ensures.because

pub returns-in-Err-answer_line-clause-same_reader : goal.returns-in-Err-answer_line-clause-same_reader
returns-in-Err-answer_line-clause-same_reader g c = c.next_command_line.ensures.called.same_reader

pub returns-in-Err-answer_line-clause-same_steps : goal.returns-in-Err-answer_line-clause-same_steps
returns-in-Err-answer_line-clause-same_steps g c = c.next_command_line.ensures.called.same_steps

pub returns-in-Err-answer_line-clause-shorter : goal.returns-in-Err-answer_line-clause-shorter
returns-in-Err-answer_line-clause-shorter g c = λ e. err_not_ok _ _ e

pub returns-in-Err-answer_line-clause-sync : goal.returns-in-Err-answer_line-clause-sync
returns-in-Err-answer_line-clause-sync g c = c.answer_line.ensures.sync

pub returns-in-Err-answer_line-clause-cause : goal.returns-in-Err-answer_line-clause-cause
returns-in-Err-answer_line-clause-cause g c = c.in-Err-answer_line.ensures.cause

pub returns-in-Err-answer_line-clause-done : goal.returns-in-Err-answer_line-clause-done
returns-in-Err-answer_line-clause-done g c = tt

pub returns-in-Err-answer_line-clause-read_fault : goal.returns-in-Err-answer_line-clause-read_fault
returns-in-Err-answer_line-clause-read_fault g c = λ e. absurd (c.in-Err-answer_line.ensures.read (same_error _ _ e))

-- ---- the last line
pub returns-in-Ok-answer_line-clause-done : goal.returns-in-Ok-answer_line-clause-done
returns-in-Ok-answer_line-clause-done g c = λ first input old h.
    let w = rw c.in-Ok-Last.field-0-is at c.in-Ok-Last.ensures.read in
    let same : line_class c.line-in-Ok-Last.result.now ≡ line_class w.0 = ap line_class c.line-in-Ok-Last.ensures ∙ w.3 in
    let next = c.in-Ok-answer_line.ensures.done first h.lines old w.0 same h.after in
    ends_with _ c.args.every first input _ old _ _ _ _ h _ w.0 next.0 _ _ _ _ _ w.1 w.2 next.1

pub returns-in-Ok-answer_line-clause-any_moment : goal.returns-in-Ok-answer_line-clause-any_moment
returns-in-Ok-answer_line-clause-any_moment g c = λ honest first input old h.
    let D = g.D.Device.disk in
    let f = c.args.file.now in
    let w = rw c.in-Ok-Last.field-0-is at c.in-Ok-Last.ensures.read in
    let same : line_class c.line-in-Ok-Last.result.now ≡ line_class w.0 = ap line_class c.line-in-Ok-Last.ensures ∙ w.3 in
    input_run _ D f.journal.sync D.fills_with_zeros c.args.every first (h.lines ++ made_turn w.0 ∷ []) input f.journal.device c.answer_line-in-Ok-Last.new.file.journal.device
    (last_begins (turn_lines (h.lines ++ made_turn w.0 ∷ [])) input (last_lines _ c.args.every first input _ old _ _ _ _ h _ w.0 None w.1 w.2)) (c.answer_line-in-Ok-Last.ensures.any_moment honest first h.lines old w.0 same h.after)

pub returns-in-Err-answer_line-2-clause-fault : goal.returns-in-Err-answer_line-2-clause-fault
returns-in-Err-answer_line-2-clause-fault g c = λ first input old h.
    let D = g.D.Device.disk in
    let w = rw c.in-Ok-Last.field-0-is at c.in-Ok-Last.ensures.read in
    let same : line_class c.line-in-Ok-Last.result.now ≡ line_class w.0 = ap line_class c.line-in-Ok-Last.ensures ∙ w.3 in
    failed_run D.is_honest c.args.file.now.journal.sync D.fills_with_zeros (D.may_leave c.answer_line-in-Ok-Last.new.file.journal.device) _ c.args.every first (h.lines ++ made_turn w.0 ∷ []) input old _ _
    (last_begins (turn_lines (h.lines ++ made_turn w.0 ∷ [])) input (last_lines _ c.args.every first input _ old _ _ _ _ h _ w.0 None w.1 w.2)) (c.in-Err-answer_line-2.ensures.fault first h.lines old w.0 same h.after)

pub returns-in-Err-answer_line-2-clause-any_moment : goal.returns-in-Err-answer_line-2-clause-any_moment
returns-in-Err-answer_line-2-clause-any_moment g c = λ honest first input old h.
    let D = g.D.Device.disk in
    let f = c.args.file.now in
    let w = rw c.in-Ok-Last.field-0-is at c.in-Ok-Last.ensures.read in
    let same : line_class c.line-in-Ok-Last.result.now ≡ line_class w.0 = ap line_class c.line-in-Ok-Last.ensures ∙ w.3 in
    input_run _ D f.journal.sync D.fills_with_zeros c.args.every first (h.lines ++ made_turn w.0 ∷ []) input f.journal.device c.answer_line-in-Ok-Last.new.file.journal.device
    (last_begins (turn_lines (h.lines ++ made_turn w.0 ∷ [])) input (last_lines _ c.args.every first input _ old _ _ _ _ h _ w.0 None w.1 w.2)) (c.answer_line-in-Ok-Last.ensures.any_moment honest first h.lines old w.0 same h.after)

pub returns-in-Ok-answer_line-clause-because : goal.returns-in-Ok-answer_line-clause-because
returns-in-Ok-answer_line-clause-because g c = c.answer_line-in-Ok-Last.ensures.because

pub returns-in-Ok-answer_line-clause-same_reader : goal.returns-in-Ok-answer_line-clause-same_reader
returns-in-Ok-answer_line-clause-same_reader g c = c.next_command_line.ensures.called.same_reader

pub returns-in-Ok-answer_line-clause-same_steps : goal.returns-in-Ok-answer_line-clause-same_steps
returns-in-Ok-answer_line-clause-same_steps g c = c.next_command_line.ensures.called.same_steps

pub returns-in-Ok-answer_line-clause-shorter : goal.returns-in-Ok-answer_line-clause-shorter
returns-in-Ok-answer_line-clause-shorter g c = λ e. no_more e

pub returns-in-Ok-answer_line-clause-sync : goal.returns-in-Ok-answer_line-clause-sync
returns-in-Ok-answer_line-clause-sync g c = c.answer_line-in-Ok-Last.ensures.sync

pub returns-in-Ok-answer_line-clause-cause : goal.returns-in-Ok-answer_line-clause-cause
returns-in-Ok-answer_line-clause-cause g c = tt

pub returns-in-Ok-answer_line-clause-fault : goal.returns-in-Ok-answer_line-clause-fault
returns-in-Ok-answer_line-clause-fault g c = tt

pub returns-in-Ok-answer_line-clause-read_fault : goal.returns-in-Ok-answer_line-clause-read_fault
returns-in-Ok-answer_line-clause-read_fault g c = λ e. ok_not_err _ _ e

pub returns-in-Err-answer_line-2-clause-because : goal.returns-in-Err-answer_line-2-clause-because
returns-in-Err-answer_line-2-clause-because g c = c.answer_line-in-Ok-Last.ensures.because

pub returns-in-Err-answer_line-2-clause-same_reader : goal.returns-in-Err-answer_line-2-clause-same_reader
returns-in-Err-answer_line-2-clause-same_reader g c = c.next_command_line.ensures.called.same_reader

pub returns-in-Err-answer_line-2-clause-same_steps : goal.returns-in-Err-answer_line-2-clause-same_steps
returns-in-Err-answer_line-2-clause-same_steps g c = c.next_command_line.ensures.called.same_steps

pub returns-in-Err-answer_line-2-clause-shorter : goal.returns-in-Err-answer_line-2-clause-shorter
returns-in-Err-answer_line-2-clause-shorter g c = λ e. err_not_ok _ _ e

pub returns-in-Err-answer_line-2-clause-sync : goal.returns-in-Err-answer_line-2-clause-sync
returns-in-Err-answer_line-2-clause-sync g c = c.answer_line-in-Ok-Last.ensures.sync

pub returns-in-Err-answer_line-2-clause-cause : goal.returns-in-Err-answer_line-2-clause-cause
returns-in-Err-answer_line-2-clause-cause g c = c.in-Err-answer_line-2.ensures.cause

pub returns-in-Err-answer_line-2-clause-done : goal.returns-in-Err-answer_line-2-clause-done
returns-in-Err-answer_line-2-clause-done g c = tt

pub returns-in-Err-answer_line-2-clause-read_fault : goal.returns-in-Err-answer_line-2-clause-read_fault
returns-in-Err-answer_line-2-clause-read_fault g c = λ e. absurd (c.in-Err-answer_line-2.ensures.read (same_error _ _ e))

-- ---- no line is left
pub returns-in-Ok-End-clause-done : goal.returns-in-Ok-End-clause-done
returns-in-Ok-End-clause-done g c = λ first input old h.
    ends_here _ c.args.every first input _ old _ _ _ _ h _ (rw c.in-Ok-End.field-0-is at c.in-Ok-End.ensures.read)

pub returns-in-Ok-End-clause-any_moment : goal.returns-in-Ok-End-clause-any_moment
returns-in-Ok-End-clause-any_moment g c = λ honest first input old h.
    let D = g.D.Device.disk in
    let f = c.args.file.now in
    let a = h.after in
    input_run _ D f.journal.sync D.fills_with_zeros c.args.every first h.lines input f.journal.device f.journal.device (come_begins _ c.args.every first input _ old _ _ _ _ h)
    (lines_still _ D f.journal.sync D.fills_with_zeros c.args.every first _ h.lines old _ _ _ _ a.behind f refl refl (a.behind.kept.1 honest) (g.met.D.Device.lawful.only_now f.journal.device))

pub returns-in-Ok-End-clause-because : goal.returns-in-Ok-End-clause-because
returns-in-Ok-End-clause-because g c = c.requires.because

pub returns-in-Ok-End-clause-same_reader : goal.returns-in-Ok-End-clause-same_reader
returns-in-Ok-End-clause-same_reader g c = c.next_command_line.ensures.called.same_reader

pub returns-in-Ok-End-clause-same_steps : goal.returns-in-Ok-End-clause-same_steps
returns-in-Ok-End-clause-same_steps g c = c.next_command_line.ensures.called.same_steps

pub returns-in-Ok-End-clause-shorter : goal.returns-in-Ok-End-clause-shorter
returns-in-Ok-End-clause-shorter g c = λ e. no_more e

pub returns-in-Ok-End-clause-sync : goal.returns-in-Ok-End-clause-sync
returns-in-Ok-End-clause-sync g c = refl

pub returns-in-Ok-End-clause-cause : goal.returns-in-Ok-End-clause-cause
returns-in-Ok-End-clause-cause g c = tt

pub returns-in-Ok-End-clause-fault : goal.returns-in-Ok-End-clause-fault
returns-in-Ok-End-clause-fault g c = tt

pub returns-in-Ok-End-clause-read_fault : goal.returns-in-Ok-End-clause-read_fault
returns-in-Ok-End-clause-read_fault g c = λ e. ok_not_err _ _ e

-- ---- the reader failed
pub returns-in-Ok-commit-clause-fault : goal.returns-in-Ok-commit-clause-fault
returns-in-Ok-commit-clause-fault g c = λ first input old h.
    let D = g.D.Device.disk in
    let f = c.commit.new.file in
    failed_run D.is_honest c.args.file.now.journal.sync D.fills_with_zeros (D.may_leave f.journal.device)
    (KeepsConsole D f) c.args.every first h.lines input old (g.W.Write.contents c.commit.new.writer) (Run c.in-Err.fault)
    (come_begins _ c.args.every first input _ old _ _ _ _ h)
    (stopped_after _ c.args.every first h.lines old _ _ _ _ h.after.behind (KeepsConsole D f) _
    c.in-Ok-commit.ensures.done c.in-Ok-commit.ensures.kept)

pub returns-in-Ok-commit-clause-read_fault : goal.returns-in-Ok-commit-clause-read_fault
returns-in-Ok-commit-clause-read_fault g c = λ e first input old h.
    let same = same_fault c.in-Err.fault Read (same_error _ _ e) in
    let left = g.R.Read.remaining c.next_command_line.new.calls.reader.now in
    let part = rw same at c.in-Err.ensures.read in
    whole_answered _ c.args.every first input _ old _ _ _ _ h _ _ _ part.0 part.1.0 (ap (λ (l : List ℕ). prepend_known l left) part.1.1 ∙ prepend_known-nil left)
    (finished _ c.args.every first h.lines old _ _ _ _ h.after.behind (λ s. Unit {0}) _ c.in-Ok-commit.ensures.done tt).appended

pub returns-in-Ok-commit-clause-any_moment : goal.returns-in-Ok-commit-clause-any_moment
returns-in-Ok-commit-clause-any_moment g c = λ honest first input old h.
    let D = g.D.Device.disk in
    let f = c.args.file.now in
    let a = h.after in
    input_run _ D f.journal.sync D.fills_with_zeros c.args.every first h.lines input f.journal.device c.commit.new.file.journal.device (come_begins _ c.args.every first input _ old _ _ _ _ h)
    (events_run _ D f.journal.sync D.fills_with_zeros c.args.every first _ h.lines old _ _ _ _ a.behind f.journal.device c.commit.new.file.journal.device
    ((c.commit.ensures.any_moment honest (may_commit _ _ _ _ _ _ _ _ _ a))))

pub returns-in-Err-commit-clause-fault : goal.returns-in-Err-commit-clause-fault
returns-in-Err-commit-clause-fault g c = λ first input old h.
    let D = g.D.Device.disk in
    let f = c.commit.new.file in
    let a = h.after in
    failed_run D.is_honest c.args.file.now.journal.sync D.fills_with_zeros (D.may_leave f.journal.device) _ c.args.every first h.lines input old _ _ (come_begins _ c.args.every first input _ old _ _ _ _ h)
    (failed _ c.args.every first h.lines old _ _ _ _ a.behind D.is_honest c.args.file.now.journal.sync D.fills_with_zeros (D.may_leave f.journal.device)
    (KeepsConsole D f) _ _ c.in-Err-commit.ensures.fault
    (λ honest o left.
    let run = c.commit.ensures.any_moment honest (may_commit _ _ _ _ _ _ _ _ _ a) in
    inr (run.each o (g.met.D.Device.lawful.counts_now f.journal.device (D.moment c.args.file.now.journal.device) o run.later left))))

pub returns-in-Err-commit-clause-any_moment : goal.returns-in-Err-commit-clause-any_moment
returns-in-Err-commit-clause-any_moment g c = λ honest first input old h.
    let D = g.D.Device.disk in
    let f = c.args.file.now in
    let a = h.after in
    input_run _ D f.journal.sync D.fills_with_zeros c.args.every first h.lines input f.journal.device c.commit.new.file.journal.device (come_begins _ c.args.every first input _ old _ _ _ _ h)
    (events_run _ D f.journal.sync D.fills_with_zeros c.args.every first _ h.lines old _ _ _ _ a.behind f.journal.device c.commit.new.file.journal.device
    ((c.commit.ensures.any_moment honest (may_commit _ _ _ _ _ _ _ _ _ a))))

pub commit-requires : goal.commit-requires
commit-requires g c = may_commit _ _ _ _ _ _ _ _ _ c.requires.come.3.after

pub returns-in-Ok-commit-clause-because : goal.returns-in-Ok-commit-clause-because
returns-in-Ok-commit-clause-because g c = λ more. c.requires.because (subst (λ (k : ℕ). 0 < k) c.commit.ensures.tries more)

pub returns-in-Ok-commit-clause-same_reader : goal.returns-in-Ok-commit-clause-same_reader
returns-in-Ok-commit-clause-same_reader g c = c.next_command_line.ensures.called.same_reader

pub returns-in-Ok-commit-clause-same_steps : goal.returns-in-Ok-commit-clause-same_steps
returns-in-Ok-commit-clause-same_steps g c = c.next_command_line.ensures.called.same_steps

pub returns-in-Ok-commit-clause-shorter : goal.returns-in-Ok-commit-clause-shorter
returns-in-Ok-commit-clause-shorter g c = λ e. err_not_ok _ _ e

pub returns-in-Ok-commit-clause-sync : goal.returns-in-Ok-commit-clause-sync
returns-in-Ok-commit-clause-sync g c = c.commit.ensures.sync

pub returns-in-Ok-commit-clause-cause : goal.returns-in-Ok-commit-clause-cause
returns-in-Ok-commit-clause-cause g c = run_cause g.D.Device.disk c.in-Err.fault

pub returns-in-Ok-commit-clause-done : goal.returns-in-Ok-commit-clause-done
returns-in-Ok-commit-clause-done g c = tt

pub returns-in-Err-commit-clause-because : goal.returns-in-Err-commit-clause-because
returns-in-Err-commit-clause-because g c = λ more. c.requires.because (subst (λ (k : ℕ). 0 < k) c.commit.ensures.tries more)

pub returns-in-Err-commit-clause-same_reader : goal.returns-in-Err-commit-clause-same_reader
returns-in-Err-commit-clause-same_reader g c = c.next_command_line.ensures.called.same_reader

pub returns-in-Err-commit-clause-same_steps : goal.returns-in-Err-commit-clause-same_steps
returns-in-Err-commit-clause-same_steps g c = c.next_command_line.ensures.called.same_steps

pub returns-in-Err-commit-clause-shorter : goal.returns-in-Err-commit-clause-shorter
returns-in-Err-commit-clause-shorter g c = λ e. err_not_ok _ _ e

pub returns-in-Err-commit-clause-sync : goal.returns-in-Err-commit-clause-sync
returns-in-Err-commit-clause-sync g c = c.commit.ensures.sync

pub returns-in-Err-commit-clause-cause : goal.returns-in-Err-commit-clause-cause
returns-in-Err-commit-clause-cause g c = c.in-Err-commit.ensures.cause

pub returns-in-Err-commit-clause-done : goal.returns-in-Err-commit-clause-done
returns-in-Err-commit-clause-done g c = tt

pub returns-in-Err-commit-clause-read_fault : goal.returns-in-Err-commit-clause-read_fault
returns-in-Err-commit-clause-read_fault g c = λ e. absurd (not_read _ _ _ _ _ c.in-Err-commit.ensures.fault (same_error _ _ e))
