use Rattle.std.proofs.Common.{ℕ, List, [], length, OnOk, OnErr, IfSome, refl, sym, ap, ◌∙◌, subst}
use Rattle.std.specs.Prelude.{IsErrOf}
use Rattle.std.specs.Io.KnownBytes.{Appends}
use Rattle.stm_lines.specs.WrittenFronts.{WritesFront}
use Rattle.stm_journal.specs.Disk.{LeavesOnly}
use Rattle.stm_lines.specs.Lines.{lines_of}
use Rattle.stm_lines.specs.declared.run_fault.RunFault.TheVariants.{Read}
use Rattle.stm_run.specs.declared.console.Console.{Console}
use Rattle.stm_run.specs.ConsoleState.{events_of}
use Rattle.stm_run.specs.LineCheckpoints.{states_after, answers_by, ForTurns}
use Rattle.stm_journaled_run.specs.declared.fault.DurableFault.TheVariants.{Run}
use Rattle.stm_journaled_run.specs.Committing.{WholeLinesAnswered}
use Rattle.stm_journaled_run.specs.DurableRun.{resumed_console, KeepsConsole, RefusalCause, HasCommitted, CoversAnswers}
use Rattle.stm_journaled_run.specs.NewEvents.{MayBeginRun}
use Rattle.stm_journaled_run.specs.WholeRun.{run_view}
use Rattle.stm_journaled_run.proofs.Ended.{loaded_kept, may_begin, all_answered, part_answered, part_still, is_committed, is_covered, committed_still, covered_still, leaves_input, leaves_still, if_some, for_plains, has_text, run_failed, written_on}
use Rattle.stm_journaled_run.proofs.streams.run_durable.Goals as goal

pub run_begun-requires-clause-fresh : goal.run_begun-requires-clause-fresh
run_begun-requires-clause-fresh g c κs within =
    let D = g.D.Device.disk in
    let f = c.args.file.now in
    let e = c.in-Ok.ensures in
    record {
      may_begin = subst MayBeginRun (sym e.console) (may_begin f.format c.args.options.max_events c.args.loaded (has_text c.args.loaded c.requires.opened.resumable) c.requires.opened.format);
      held = e.held;
      recorded = e.recorded ∙ ap (λ (s : Console). length (events_of s)) (sym e.console);
      tries = e.tries;
      kept = subst (KeepsConsole D f) (sym e.console) (loaded_kept D f c.args.options.max_events c.args.loaded c.requires.opened.format c.requires.opened.kept);
    }

pub returns-in-Ok : goal.returns-in-Ok
returns-in-Ok g c =
    let D = g.D.Device.disk in
    let first = c.args.file.now in
    let f = c.run_begun.new.file in
    let every = c.args.options.checkpoint_every in
    let input = g.R.Read.remaining c.args.reader.now in
    let left = g.R.Read.remaining c.run_begun.new.reader in
    let old = g.W.Write.contents c.args.writer.now in
    let new = g.W.Write.contents c.run_begun.new.writer in
    let run = run_view c.args.options c.args.loaded input left old new in
    let all = subst (λ (s : Console). OnOk c.run_begun.result (IfSome input (λ bytes. ForTurns (RefusalCause D) (lines_of bytes) (λ turns. Appends old new (answers_by every s turns) × KeepsConsole D f (states_after every s turns)))))
    c.in-Ok.ensures.console
    (all_answered (RefusalCause D) D f first.journal.sync c.run_begun.ensures.sync every _ input old new c.run_begun.result c.run_begun.ensures.done) in
    let part = subst (λ (s : Console). OnErr c.run_begun.result (IfSome input (λ bytes. ForTurns (RefusalCause D) (lines_of bytes) (λ turns. WritesFront old new (answers_by every s turns)))))
    c.in-Ok.ensures.console
    (part_answered (RefusalCause D) D f first.journal.sync c.run_begun.ensures.sync every _ input old new c.run_begun.result c.run_begun.ensures.fault) in
    let whole = subst (λ (s : Console). IsErrOf c.run_begun.result (Run Read) → WholeLinesAnswered (RefusalCause D) every s input left old new)
    c.in-Ok.ensures.console c.run_begun.ensures.read_fault in
    record {
      written = written_on D f run c.run_begun.result all (run_failed D run c.run_begun.result part whole c.run_begun.ensures.cause);
      file = record {
        committed = λ honest none.
            subst (λ (s : Console). IfSome input (λ bytes. ForTurns (RefusalCause D) (lines_of bytes) (λ turns. (written : List ℕ) × Appends old new written × HasCommitted D f every s turns written)))
            c.in-Ok.ensures.console
            (is_committed (RefusalCause D) D f first.journal.sync c.run_begun.ensures.sync every _ input old new honest c.run_begun.result none
            c.run_begun.ensures.done c.run_begun.ensures.fault);
        covered = λ honest.
            subst (λ (s : Console). IfSome input (λ bytes. ForTurns (RefusalCause D) (lines_of bytes) (λ turns. (written : List ℕ) × Appends old new written × ((o : List ℕ) → D.may_leave f.journal.device o
            → CoversAnswers first.journal.sync D.fills_with_zeros every s turns written o)))) c.in-Ok.ensures.console
            (is_covered (RefusalCause D) D f first.journal.sync c.run_begun.ensures.sync every _ input old new honest c.run_begun.result
            c.run_begun.ensures.done c.run_begun.ensures.fault);
        any_moment = λ honest.
            subst (λ (s : Console). IfSome input (λ bytes. LeavesOnly D first.journal.device f.journal.device (λ o. ForTurns (RefusalCause D) (lines_of bytes) (λ turns.
            CoversAnswers first.journal.sync D.fills_with_zeros every s turns [] o)))) c.in-Ok.ensures.console
            (leaves_input (RefusalCause D) D first.journal.device f.journal.device first.journal.sync D.fills_with_zeros every _ input (c.run_begun.ensures.any_moment honest));
        sync = c.run_begun.ensures.sync;
      };
    }

-- ---- memory ran out
pub returns-in-Err : goal.returns-in-Err
returns-in-Err g c =
    let D = g.D.Device.disk in
    let f = c.args.file.now in
    let limit = c.args.options.max_events in
    let every = c.args.options.checkpoint_every in
    let first = resumed_console limit c.args.loaded in
    let kept = (loaded_kept D f limit c.args.loaded c.requires.opened.format c.requires.opened.kept).1 in
    record {
      written = record {
        part = if_some _ _ (λ bytes. for_plains (lines_of bytes) _ (λ turns. part_still every (resumed_console limit c.args.loaded) turns _));
        whole = λ e. absurd (cc e);
        cause = λ honest. record { failed = λ e. absurd (cc e); no_space = λ e. absurd (cc e); torn_too_long = λ e. cc e };
      };
      file = record {
        committed = λ honest none. if_some _ _ (λ bytes. for_plains (lines_of bytes) _ (λ turns. committed_still every first turns D f _ (kept honest)));
        covered = λ honest. if_some _ _ (λ bytes. for_plains (lines_of bytes) _ (λ turns. covered_still every first turns D f _ (kept honest)));
        any_moment = λ honest. if_some _ _ (λ bytes. leaves_still every first (lines_of bytes) D f (kept honest) (g.met.D.Device.lawful.only_now f.journal.device));
        sync = refl;
      };
    }
