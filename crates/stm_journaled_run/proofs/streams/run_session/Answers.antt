use Rattle.std.proofs.Common.{◌≡◌, ℕ, ◌<◌, List, Err, refl, subst, ap, ◌∙◌, arith, string_bytes}
use Rattle.std.specs.Io.KnownBytes.{prepend_known}
use Rattle.std.proofs.KnownBytes.{prepend_known-nil}
use Rattle.std.proofs.lemmas.Result.{err_from_is_err_and}
use Rattle.stm_lines.specs.declared.run_fault.RunFault.TheVariants.{Read}
use Rattle.stm_run.specs.LineCheckpoints.{turn_lines}
use Rattle.stm_journaled_run.specs.declared.fault.DurableFault.TheVariants.{Run}
use Rattle.stm_journaled_run.specs.DurableRun.{KeepsConsole, RefusalCause, RunsUnlessDisk}
use Rattle.stm_journaled_run.specs.Committing.{FailsOver}
use Rattle.stm_journaled_run.proofs.Committing.{may_commit}
use Rattle.stm_journaled_run.proofs.RunCrashes.{input_run, events_run, run_still, runs_on}
use Rattle.stm_journaled_run.proofs.Running.{come_begins, comes_first, failed_run, failed_synced, last_begins, still_come}
use Rattle.stm_journaled_run.proofs.SessionEnded.{passed_fault, come_to_end, ended, unended}
use Rattle.stm_journaled_run.proofs.streams.run_session.Goals as goal

pub lines-init : goal.lines-init
lines-init g c =
    let D = g.D.Device.disk in
    let f = c.args.file.now in
    let r = c.requires.fresh in
    let s = c.args.session.now.console in
    let input = g.R.Read.remaining c.args.calls.now.reader.now in
    record {
      come = comes_first (KeepsConsole D f) c.args.every s input (prepend_known c.args.lines.now.chunk input) (g.W.Write.contents c.args.writer.now) (string_bytes c.args.session.now.held) c.args.session.now.recorded
          r.may_begin r.held r.recorded r.kept (ap (λ (l : List ℕ). prepend_known l input) c.requires.chunk ∙ prepend_known-nil input);
      moment = λ honest. run_still (RefusalCause D) D f.journal.sync D.fills_with_zeros c.args.every s input f refl refl (r.kept.1 honest) (g.met.D.Device.lawful.only_now f.journal.device);
      because = λ more. absurd (omega (arith, r.tries, more));
      sync = refl;
      same_reader = refl;
      same_steps = refl;
    }

-- ---- the commit before the next line failed
pub returns-in_err-commit_before_read-clause-same_reader : goal.returns-in_err-commit_before_read-clause-same_reader
returns-in_err-commit_before_read-clause-same_reader g c = c.lines.invariant.same_reader

pub returns-in_err-commit_before_read-clause-same_steps : goal.returns-in_err-commit_before_read-clause-same_steps
returns-in_err-commit_before_read-clause-same_steps g c = c.lines.invariant.same_steps

pub returns-in_err-commit_before_read-clause-sync : goal.returns-in_err-commit_before_read-clause-sync
returns-in_err-commit_before_read-clause-sync g c = c.commit_before_read.ensures.sync ∙ c.lines.invariant.sync

pub returns-in_err-commit_before_read-clause-cause : goal.returns-in_err-commit_before_read-clause-cause
returns-in_err-commit_before_read-clause-cause g c =
    let p = err_from_is_err_and c.from_residual.result c.from_residual.ensures.1 in
    passed_fault (RunsUnlessDisk g.D.Device.disk) c.from_residual.result p.0 _ p.1 p.2 c.in_err-commit_before_read.ensures.cause

pub returns-in_err-commit_before_read-clause-fault : goal.returns-in_err-commit_before_read-clause-fault
returns-in_err-commit_before_read-clause-fault g c =
    let D = g.D.Device.disk in
    let first = c.args.file.now in
    let f = c.commit_before_read.new.file in
    let s = c.args.session.now.console in
    let input = g.R.Read.remaining c.args.calls.now.reader.now in
    let old = g.W.Write.contents c.args.writer.now in
    let new = g.W.Write.contents c.commit_before_read.new.writer in
    let p = err_from_is_err_and c.from_residual.result c.from_residual.ensures.1 in
    let i = c.lines.invariant in
    passed_fault (FailsOver D first f c.args.every s input old new) c.from_residual.result p.0 _ p.1 p.2
    (failed_synced (RefusalCause D) D.is_honest _ first.journal.sync D.fills_with_zeros (D.may_leave f.journal.device) (KeepsConsole D f) c.args.every s input old new _ i.sync
    (failed_run D.is_honest _ D.fills_with_zeros (D.may_leave f.journal.device) (KeepsConsole D f) c.args.every s i.come.lines input old new _ (come_begins _ c.args.every s input _ old _ _ _ _ i.come)
    (c.in_err-commit_before_read.ensures.fault c.args.every s i.come.lines old i.come.after)))

pub returns-in_err-commit_before_read-clause-read_fault : goal.returns-in_err-commit_before_read-clause-read_fault
returns-in_err-commit_before_read-clause-read_fault g c = λ e.
    let p = err_from_is_err_and c.from_residual.result c.from_residual.ensures.1 in
    absurd (c.in_err-commit_before_read.ensures.read (cc (p.1, p.2, e)))

pub returns-in_err-commit_before_read-clause-any_moment : goal.returns-in_err-commit_before_read-clause-any_moment
returns-in_err-commit_before_read-clause-any_moment g c = λ honest.
    let D = g.D.Device.disk in
    let s = c.args.session.now.console in
    let input = g.R.Read.remaining c.args.calls.now.reader.now in
    let i = c.lines.invariant in
    runs_on (RefusalCause D) D c.args.file.now.journal.sync D.fills_with_zeros c.args.every s input _ _ _ _ i.sync (i.moment honest)
    (input_run (RefusalCause D) D _ D.fills_with_zeros c.args.every s i.come.lines input _ _ (come_begins _ c.args.every s input _ _ _ _ _ _ i.come) (c.commit_before_read.ensures.any_moment honest c.args.every s i.come.lines (g.W.Write.contents c.args.writer.now) i.come.after))

-- ---- the next line couldn't be answered
pub answer_next-requires-clause-come : goal.answer_next-requires-clause-come
answer_next-requires-clause-come g c κs within =
    let s = c.args.session.now.console in
    let input = g.R.Read.remaining c.args.calls.now.reader.now in
    let old = g.W.Write.contents c.args.writer.now in
    (s, input, old, still_come _ c.args.every s input _ old _ _ _ _ c.lines.invariant.come _ _ _ _ _ (c.in_ok-commit_before_read.ensures.done c.args.every s))

pub answer_next-requires-clause-because : goal.answer_next-requires-clause-because
answer_next-requires-clause-because g c κs within = λ more. c.lines.invariant.because (subst (λ (k : ℕ). 0 < k) c.commit_before_read.ensures.tries more)

pub returns-in_err-answer_next-clause-same_reader : goal.returns-in_err-answer_next-clause-same_reader
returns-in_err-answer_next-clause-same_reader g c = c.answer_next.ensures.same_reader ∙ c.lines.invariant.same_reader

pub returns-in_err-answer_next-clause-same_steps : goal.returns-in_err-answer_next-clause-same_steps
returns-in_err-answer_next-clause-same_steps g c = c.answer_next.ensures.same_steps ∙ c.lines.invariant.same_steps

pub returns-in_err-answer_next-clause-sync : goal.returns-in_err-answer_next-clause-sync
returns-in_err-answer_next-clause-sync g c = c.answer_next.ensures.sync ∙ c.commit_before_read.ensures.sync ∙ c.lines.invariant.sync

pub returns-in_err-answer_next-clause-cause : goal.returns-in_err-answer_next-clause-cause
returns-in_err-answer_next-clause-cause g c =
    let p = err_from_is_err_and c.from_residual-in_err-answer_next.result c.from_residual-in_err-answer_next.ensures.1 in
    passed_fault (RunsUnlessDisk g.D.Device.disk) c.from_residual-in_err-answer_next.result p.0 _ p.1 p.2 c.in_err-answer_next.ensures.cause

pub returns-in_err-answer_next-clause-fault : goal.returns-in_err-answer_next-clause-fault
returns-in_err-answer_next-clause-fault g c =
    let D = g.D.Device.disk in
    let first = c.args.file.now in
    let f = c.answer_next.new.file in
    let s = c.args.session.now.console in
    let input = g.R.Read.remaining c.args.calls.now.reader.now in
    let old = g.W.Write.contents c.args.writer.now in
    let new = g.W.Write.contents c.answer_next.new.writer in
    let p = err_from_is_err_and c.from_residual-in_err-answer_next.result c.from_residual-in_err-answer_next.ensures.1 in
    let i = c.lines.invariant in
    let come = still_come _ c.args.every s input _ old _ _ _ _ i.come _ _ _ _ _ (c.in_ok-commit_before_read.ensures.done c.args.every s) in
    passed_fault (FailsOver D first f c.args.every s input old new) c.from_residual-in_err-answer_next.result p.0 _ p.1 p.2
    (failed_synced (RefusalCause D) D.is_honest _ first.journal.sync D.fills_with_zeros (D.may_leave f.journal.device) (KeepsConsole D f) c.args.every s input old new _ (c.commit_before_read.ensures.sync ∙ i.sync)
    (c.in_err-answer_next.ensures.fault s input old come))

pub returns-in_err-answer_next-clause-read_fault : goal.returns-in_err-answer_next-clause-read_fault
returns-in_err-answer_next-clause-read_fault g c = λ e.
    let s = c.args.session.now.console in
    let input = g.R.Read.remaining c.args.calls.now.reader.now in
    let old = g.W.Write.contents c.args.writer.now in
    let p = err_from_is_err_and c.from_residual-in_err-answer_next.result c.from_residual-in_err-answer_next.ensures.1 in
    let come = still_come _ c.args.every s input _ old _ _ _ _ c.lines.invariant.come _ _ _ _ _ (c.in_ok-commit_before_read.ensures.done c.args.every s) in
    let same : c.in_err-answer_next.field-0.0 ≡ Run Read = cc (p.1, p.2, e) in
    c.in_err-answer_next.ensures.read_fault (ap (λ x. Err x) same) s input old come

pub returns-in_err-answer_next-clause-any_moment : goal.returns-in_err-answer_next-clause-any_moment
returns-in_err-answer_next-clause-any_moment g c = λ honest.
    let D = g.D.Device.disk in
    let s = c.args.session.now.console in
    let input = g.R.Read.remaining c.args.calls.now.reader.now in
    let old = g.W.Write.contents c.args.writer.now in
    let i = c.lines.invariant in
    let come = still_come _ c.args.every s input _ old _ _ _ _ i.come _ _ _ _ _ (c.in_ok-commit_before_read.ensures.done c.args.every s) in
    let before = runs_on (RefusalCause D) D c.args.file.now.journal.sync D.fills_with_zeros c.args.every s input _ _ _ _ i.sync (i.moment honest) (input_run (RefusalCause D) D _ D.fills_with_zeros c.args.every s i.come.lines input _ _ (come_begins _ c.args.every s input _ _ _ _ _ _ i.come) (c.commit_before_read.ensures.any_moment honest c.args.every s i.come.lines old i.come.after)) in
    runs_on (RefusalCause D) D c.args.file.now.journal.sync D.fills_with_zeros c.args.every s input _ _ _ _ (c.commit_before_read.ensures.sync ∙ i.sync) before (c.answer_next.ensures.any_moment honest s input old come)

-- ---- no line is left
pub hand_on-requires : goal.hand_on-requires
hand_on-requires g c =
    let D = g.D.Device.disk in
    let s = c.args.session.now.console in
    let input = g.R.Read.remaining c.args.calls.now.reader.now in
    let old = g.W.Write.contents c.args.writer.now in
    let mid = c.answer_next.new in
    let come = still_come _ c.args.every s input _ old _ _ _ _ c.lines.invariant.come _ _ _ _ _ (c.in_ok-commit_before_read.ensures.done c.args.every s) in
    let end = come_to_end (KeepsConsole D mid.file) c.args.every s input old (g.W.Write.contents mid.writer) mid.session.console (string_bytes mid.session.held) mid.session.recorded
    (prepend_known mid.lines.chunk (g.R.Read.remaining mid.calls.reader.now)) _ c.if-not-branch.true (c.in_ok-answer_next.ensures.done s input old come) in
    may_commit (KeepsConsole D mid.file) c.args.every s end.lines old (g.W.Write.contents mid.writer) mid.session.console (string_bytes mid.session.held) mid.session.recorded end.after

pub returns-then-not-branch-clause-same_reader : goal.returns-then-not-branch-clause-same_reader
returns-then-not-branch-clause-same_reader g c = c.answer_next.ensures.same_reader ∙ c.lines.invariant.same_reader

pub returns-then-not-branch-clause-same_steps : goal.returns-then-not-branch-clause-same_steps
returns-then-not-branch-clause-same_steps g c = c.answer_next.ensures.same_steps ∙ c.lines.invariant.same_steps

pub returns-then-not-branch-clause-sync : goal.returns-then-not-branch-clause-sync
returns-then-not-branch-clause-sync g c = c.hand_on.ensures.sync ∙ c.answer_next.ensures.sync ∙ c.commit_before_read.ensures.sync ∙ c.lines.invariant.sync

pub returns-then-not-branch-clause-cause : goal.returns-then-not-branch-clause-cause
returns-then-not-branch-clause-cause g c = c.hand_on.ensures.cause

pub returns-then-not-branch-clause-done : goal.returns-then-not-branch-clause-done
returns-then-not-branch-clause-done g c =
    let D = g.D.Device.disk in
    let s = c.args.session.now.console in
    let input = g.R.Read.remaining c.args.calls.now.reader.now in
    let old = g.W.Write.contents c.args.writer.now in
    let mid = c.answer_next.new in
    let come = still_come _ c.args.every s input _ old _ _ _ _ c.lines.invariant.come _ _ _ _ _ (c.in_ok-commit_before_read.ensures.done c.args.every s) in
    let end = come_to_end (KeepsConsole D mid.file) c.args.every s input old (g.W.Write.contents mid.writer) mid.session.console (string_bytes mid.session.held) mid.session.recorded
    (prepend_known mid.lines.chunk (g.R.Read.remaining mid.calls.reader.now)) _ c.if-not-branch.true (c.in_ok-answer_next.ensures.done s input old come) in
    ended (KeepsConsole D mid.file) c.args.every s input old (g.W.Write.contents mid.writer) mid.session.console (string_bytes mid.session.held) mid.session.recorded end
    (KeepsConsole D c.hand_on.new.file) (g.W.Write.contents c.hand_on.new.writer) c.hand_on.result c.hand_on.ensures.done c.hand_on.ensures.kept

pub returns-then-not-branch-clause-fault : goal.returns-then-not-branch-clause-fault
returns-then-not-branch-clause-fault g c =
    let D = g.D.Device.disk in
    let f = c.hand_on.new.file in
    let s = c.args.session.now.console in
    let input = g.R.Read.remaining c.args.calls.now.reader.now in
    let old = g.W.Write.contents c.args.writer.now in
    let mid = c.answer_next.new in
    let i = c.lines.invariant in
    let come = still_come _ c.args.every s input _ old _ _ _ _ i.come _ _ _ _ _ (c.in_ok-commit_before_read.ensures.done c.args.every s) in
    let end = come_to_end (KeepsConsole D mid.file) c.args.every s input old (g.W.Write.contents mid.writer) mid.session.console (string_bytes mid.session.held) mid.session.recorded
    (prepend_known mid.lines.chunk (g.R.Read.remaining mid.calls.reader.now)) _ c.if-not-branch.true (c.in_ok-answer_next.ensures.done s input old come) in
    unended (KeepsConsole D mid.file) c.args.every s input old (g.W.Write.contents mid.writer) mid.session.console (string_bytes mid.session.held) mid.session.recorded end
    (KeepsConsole D f) (g.W.Write.contents c.hand_on.new.writer) c.hand_on.result D.is_honest mid.file.journal.sync c.args.file.now.journal.sync D.fills_with_zeros (D.may_leave f.journal.device)
    (c.answer_next.ensures.sync ∙ c.commit_before_read.ensures.sync ∙ i.sync) c.hand_on.ensures.fault
    (λ honest o left.
    let run = c.hand_on.ensures.any_moment honest (may_commit (KeepsConsole D mid.file) c.args.every s end.lines old (g.W.Write.contents mid.writer) mid.session.console (string_bytes mid.session.held) mid.session.recorded end.after) in
    run.each o (g.met.D.Device.lawful.counts_now f.journal.device (D.moment mid.file.journal.device) o run.later left))

pub returns-then-not-branch-clause-any_moment : goal.returns-then-not-branch-clause-any_moment
returns-then-not-branch-clause-any_moment g c = λ honest.
    let D = g.D.Device.disk in
    let s = c.args.session.now.console in
    let input = g.R.Read.remaining c.args.calls.now.reader.now in
    let old = g.W.Write.contents c.args.writer.now in
    let mid = c.answer_next.new in
    let i = c.lines.invariant in
    let come = still_come _ c.args.every s input _ old _ _ _ _ i.come _ _ _ _ _ (c.in_ok-commit_before_read.ensures.done c.args.every s) in
    let end = come_to_end (KeepsConsole D mid.file) c.args.every s input old (g.W.Write.contents mid.writer) mid.session.console (string_bytes mid.session.held) mid.session.recorded
    (prepend_known mid.lines.chunk (g.R.Read.remaining mid.calls.reader.now)) _ c.if-not-branch.true (c.in_ok-answer_next.ensures.done s input old come) in
    let before = runs_on (RefusalCause D) D c.args.file.now.journal.sync D.fills_with_zeros c.args.every s input _ _ _ _ i.sync (i.moment honest) (input_run (RefusalCause D) D _ D.fills_with_zeros c.args.every s i.come.lines input _ _ (come_begins _ c.args.every s input _ _ _ _ _ _ i.come) (c.commit_before_read.ensures.any_moment honest c.args.every s i.come.lines old i.come.after)) in
    let answered = runs_on (RefusalCause D) D c.args.file.now.journal.sync D.fills_with_zeros c.args.every s input _ _ _ _ (c.commit_before_read.ensures.sync ∙ i.sync) before (c.answer_next.ensures.any_moment honest s input old come) in
    runs_on (RefusalCause D) D c.args.file.now.journal.sync D.fills_with_zeros c.args.every s input _ _ _ _ (c.answer_next.ensures.sync ∙ c.commit_before_read.ensures.sync ∙ i.sync) answered
    (input_run (RefusalCause D) D mid.file.journal.sync D.fills_with_zeros c.args.every s end.lines input mid.file.journal.device c.hand_on.new.file.journal.device (last_begins (turn_lines end.lines) input end.lines_are)
    (events_run (RefusalCause D) D mid.file.journal.sync D.fills_with_zeros c.args.every s (KeepsConsole D mid.file) end.lines old (g.W.Write.contents mid.writer) mid.session.console (string_bytes mid.session.held) mid.session.recorded end.after.behind
    mid.file.journal.device c.hand_on.new.file.journal.device
    (c.hand_on.ensures.any_moment honest (may_commit (KeepsConsole D mid.file) c.args.every s end.lines old (g.W.Write.contents mid.writer) mid.session.console (string_bytes mid.session.held) mid.session.recorded end.after))))

-- ---- another line may follow
pub lines-preserved : goal.lines-preserved
lines-preserved g c =
    let D = g.D.Device.disk in
    let s = c.args.session.now.console in
    let input = g.R.Read.remaining c.args.calls.now.reader.now in
    let old = g.W.Write.contents c.args.writer.now in
    let i = c.lines.invariant in
    let come = still_come _ c.args.every s input _ old _ _ _ _ i.come _ _ _ _ _ (c.in_ok-commit_before_read.ensures.done c.args.every s) in
    let next = rw c.if-not-branch.false at c.in_ok-answer_next.ensures.done in
    record {
      come = next s input old come;
      moment = λ honest.
          let before = runs_on (RefusalCause D) D c.args.file.now.journal.sync D.fills_with_zeros c.args.every s input _ _ _ _ i.sync (i.moment honest) (input_run (RefusalCause D) D _ D.fills_with_zeros c.args.every s i.come.lines input _ _ (come_begins _ c.args.every s input _ _ _ _ _ _ i.come) (c.commit_before_read.ensures.any_moment honest c.args.every s i.come.lines old i.come.after)) in
          runs_on (RefusalCause D) D c.args.file.now.journal.sync D.fills_with_zeros c.args.every s input _ _ _ _ (c.commit_before_read.ensures.sync ∙ i.sync) before (c.answer_next.ensures.any_moment honest s input old come);
      because = c.answer_next.ensures.because;
      sync = c.answer_next.ensures.sync ∙ c.commit_before_read.ensures.sync ∙ i.sync;
      same_reader = c.answer_next.ensures.same_reader ∙ i.same_reader;
      same_steps = c.answer_next.ensures.same_steps ∙ i.same_steps;
    }

pub commit_before_read-requires : goal.commit_before_read-requires
commit_before_read-requires g c = (_, (_, _, _, c.lines.invariant.come.after))
