use Rattle.std.proofs.Common.{[], ◌∷◌, ◌++◌, Some, None, inr, refl, ◌∙◌}
use Rattle.stm_run.specs.LineCheckpoints.{made_turn}
use Rattle.stm_journaled_run.specs.DurableRun.{KeepsConsole}
use Rattle.stm_journaled_run.proofs.Committing.{line_more, held_more, after_kept, may_commit, may_begin_next, all_written, stopped_in, failed, on_done, on_ok, on_fault}
use Rattle.stm_journaled_run.proofs.RunCrashes.{lines_on, events_run}
use Rattle.stm_journaled_run.proofs.TakenLines.{failed_as, taken_run, untaken}
use Rattle.stm_journaled_run.proofs.session.DurableSession.answer_line.Goals as goal

pub take_line-requires-clause-may : goal.take_line-requires-clause-may
take_line-requires-clause-may g c κs within = may_commit _ _ _ _ _ _ _ _ _ c.requires.between.3

-- ---- its events are to be recorded
pub commit_if_long-requires : goal.commit_if_long-requires
commit_if_long-requires g c =
    let r = c.requires.between in
    let line = c.args.line.now in
    let k = rw c.in-Ok-Held.field-0-is at c.in-Ok-Held.ensures.taken in
    let grown = (rw c.in-Ok-Held.field-0-is at c.in-Ok-Held.ensures.grows) refl in
    let fit = (rw c.in-Ok-Held.field-0-is at c.in-Ok-Held.ensures.variables) refl in
    (c.args.every, (r.0, r.1 ++ made_turn line ∷ [], r.2, after_kept _ _ c.args.every r.0 _ r.2 _ _ _ _ k.3 (held_more _ c.args.every r.0 r.1 r.2 _ _ _ _ r.3 line line None _ _ _ refl k.0 k.1 k.2 grown fit)))

pub returns-in-Ok-Held-clause-done : goal.returns-in-Ok-Held-clause-done
returns-in-Ok-Held-clause-done g c =
    let k = rw c.in-Ok-Held.field-0-is at c.in-Ok-Held.ensures.taken in
    let grown = (rw c.in-Ok-Held.field-0-is at c.in-Ok-Held.ensures.grows) refl in
    let fit = (rw c.in-Ok-Held.field-0-is at c.in-Ok-Held.ensures.variables) refl in
    on_ok c.commit_if_long.result c.commit_if_long.ensures.done (λ h first before old judged same a. (
      None,
      h c.args.every first (before ++ made_turn judged ∷ []) old
          (after_kept _ _ c.args.every first _ old _ _ _ _ k.3 (held_more _ c.args.every first before old _ _ _ _ a c.args.line.now judged None _ _ _ same k.0 k.1 k.2 grown fit)),
    ))

pub returns-in-Ok-Held-clause-fault : goal.returns-in-Ok-Held-clause-fault
returns-in-Ok-Held-clause-fault g c =
    let D = g.D.Device.disk in
    let k = rw c.in-Ok-Held.field-0-is at c.in-Ok-Held.ensures.taken in
    let grown = (rw c.in-Ok-Held.field-0-is at c.in-Ok-Held.ensures.grows) refl in
    let fit = (rw c.in-Ok-Held.field-0-is at c.in-Ok-Held.ensures.variables) refl in
    on_fault c.commit_if_long.result _ _ c.commit_if_long.ensures.fault (λ x h first before old judged same a.
    failed_as D.is_honest _ _ D.fills_with_zeros _ _ _ _ _ _ _ x c.take_line.ensures.sync
    (h c.args.every first (before ++ made_turn judged ∷ []) old
    (after_kept _ _ c.args.every first _ old _ _ _ _ k.3 (held_more _ c.args.every first before old _ _ _ _ a c.args.line.now judged None _ _ _ same k.0 k.1 k.2 grown fit))))

pub returns-in-Ok-Held-clause-any_moment : goal.returns-in-Ok-Held-clause-any_moment
returns-in-Ok-Held-clause-any_moment g c = λ honest first before old judged same a.
    let D = g.D.Device.disk in
    let f = c.args.file.now in
    let mid = c.take_line.new.file in
    let k = rw c.in-Ok-Held.field-0-is at c.in-Ok-Held.ensures.taken in
    let grown = (rw c.in-Ok-Held.field-0-is at c.in-Ok-Held.ensures.grows) refl in
    let fit = (rw c.in-Ok-Held.field-0-is at c.in-Ok-Held.ensures.variables) refl in
    lines_on _ D f.journal.sync D.fills_with_zeros c.args.every first (before ++ made_turn judged ∷ []) f.journal.device mid.journal.device c.commit_if_long.new.file.journal.device _ c.take_line.ensures.sync
    (taken_run D f mid c.args.every first before old _ _ _ _ a c.args.line.now judged same honest c.take_line.ensures.any_moment)
    (c.commit_if_long.ensures.any_moment honest c.args.every first (before ++ made_turn judged ∷ []) old
    (after_kept _ _ c.args.every first _ old _ _ _ _ k.3 (held_more _ c.args.every first before old _ _ _ _ a c.args.line.now judged None _ _ _ same k.0 k.1 k.2 grown fit)))

-- ---- it made a checkpoint
pub write_held-requires : goal.write_held-requires
write_held-requires g c =
    let k = rw c.in-Ok-Begun.field-0-is at c.in-Ok-Begun.ensures.taken in
    k.3

pub returns-in-Ok-clause-done : goal.returns-in-Ok-clause-done
unfolding line_more
returns-in-Ok-clause-done g c = λ first before old judged same a.
    let D = g.D.Device.disk in
    let e = c.write_held.ensures in
    let k = rw c.in-Ok-Begun.field-0-is at c.in-Ok-Begun.ensures.taken in (
      None,
      all_written _ c.args.every first (before ++ made_turn judged ∷ []) old _ _ _ c.args.self.now.recorded (line_more _ c.args.every first before old _ _ _ _ a.behind c.args.line.now judged None _ _ _ same k.0 k.1 refl)
          (KeepsConsole D c.take_line.new.file) _ _ _ _ c.in-Ok.ensures.done e.console c.in-Ok.ensures.none (e.recorded ∙ k.2) k.3 k.4,
    )

pub returns-in-Err-write_held-clause-fault : goal.returns-in-Err-write_held-clause-fault
unfolding line_more
returns-in-Err-write_held-clause-fault g c = λ first before old judged same a.
    let D = g.D.Device.disk in
    let part = c.in-Err-write_held.ensures.part in
    let k = rw c.in-Ok-Begun.field-0-is at c.in-Ok-Begun.ensures.taken in
    stopped_in _ c.args.every first (before ++ made_turn judged ∷ []) old _ _ _ c.args.self.now.recorded (line_more _ c.args.every first before old _ _ _ _ a.behind c.args.line.now judged None _ _ _ same k.0 k.1 refl)
    (KeepsConsole D c.take_line.new.file) _ part.0 part.1 part.2 k.3

pub returns-in-Ok-clause-any_moment : goal.returns-in-Ok-clause-any_moment
returns-in-Ok-clause-any_moment g c = λ honest first before old judged same a.
    taken_run g.D.Device.disk c.args.file.now c.take_line.new.file c.args.every first before old _ _ _ _ a c.args.line.now judged same honest c.take_line.ensures.any_moment

pub returns-in-Err-write_held-clause-any_moment : goal.returns-in-Err-write_held-clause-any_moment
returns-in-Err-write_held-clause-any_moment g c = λ honest first before old judged same a.
    taken_run g.D.Device.disk c.args.file.now c.take_line.new.file c.args.every first before old _ _ _ _ a c.args.line.now judged same honest c.take_line.ensures.any_moment

-- ---- its checkpoint wasn't made
pub returns-in-Ok-Unmade-clause-done : goal.returns-in-Ok-Unmade-clause-done
returns-in-Ok-Unmade-clause-done g c = λ first before old judged same a.
    let k = rw c.in-Ok-Unmade.field-0-is at c.in-Ok-Unmade.ensures.taken in
    let grown = (rw c.in-Ok-Unmade.field-0-is at c.in-Ok-Unmade.ensures.grows) refl in
    let fit = (rw c.in-Ok-Unmade.field-0-is at c.in-Ok-Unmade.ensures.variables) refl in (
      Some k.4,
      after_kept _ _ c.args.every first _ old _ _ _ _ k.3 (held_more _ c.args.every first before old _ _ _ _ a c.args.line.now judged (Some k.4) _ _ _ same k.0 k.1 k.2 grown fit),
    )

pub returns-in-Ok-Unmade-clause-any_moment : goal.returns-in-Ok-Unmade-clause-any_moment
returns-in-Ok-Unmade-clause-any_moment g c = λ honest first before old judged same a.
    taken_run g.D.Device.disk c.args.file.now c.take_line.new.file c.args.every first before old _ _ _ _ a c.args.line.now judged same honest c.take_line.ensures.any_moment

-- ---- a part of its answer is to be streamed
pub stream-requires : goal.stream-requires
stream-requires g c =
    let r = c.requires.between in
    let line = c.args.line.now in
    let k = rw c.in-Ok-Streamed.field-0-is at c.in-Ok-Streamed.ensures.taken in
    let grown = (rw c.in-Ok-Streamed.field-0-is at c.in-Ok-Streamed.ensures.grows) refl in
    let fit = (rw c.in-Ok-Streamed.field-0-is at c.in-Ok-Streamed.ensures.variables) refl in
    may_commit _ _ _ _ _ _ _ _ _ (after_kept _ _ c.args.every r.0 _ r.2 _ _ _ _ k.3 (held_more _ c.args.every r.0 r.1 r.2 _ _ _ _ r.3 line line None _ _ _ refl k.0 k.1 k.2 grown fit))

pub returns-in-Ok-Streamed-clause-done : goal.returns-in-Ok-Streamed-clause-done
returns-in-Ok-Streamed-clause-done g c =
    let D = g.D.Device.disk in
    let f = c.stream.new.file in
    let e = c.stream.ensures in
    let k = rw c.in-Ok-Streamed.field-0-is at c.in-Ok-Streamed.ensures.taken in
    let grown = (rw c.in-Ok-Streamed.field-0-is at c.in-Ok-Streamed.ensures.grows) refl in
    let fit = (rw c.in-Ok-Streamed.field-0-is at c.in-Ok-Streamed.ensures.variables) refl in
    on_done c.stream.result e.done e.none e.count e.kept _ (λ w n m kept first before old judged alike a.
    let next = after_kept _ (KeepsConsole D c.take_line.new.file) c.args.every first _ old _ _ _ _ k.3 (held_more _ c.args.every first before old _ _ _ _ a c.args.line.now judged None _ _ _ alike k.0 k.1 k.2 grown fit) in
    (None, all_written _ c.args.every first (before ++ made_turn judged ∷ []) old _ _ _ _ next.behind (KeepsConsole D f) _ _ _ _ w e.console n m kept (may_begin_next _ _ _ _ _ _ _ _ _ next)))

pub returns-in-Ok-Streamed-clause-fault : goal.returns-in-Ok-Streamed-clause-fault
returns-in-Ok-Streamed-clause-fault g c =
    let D = g.D.Device.disk in
    let f = c.stream.new.file in
    let mid = c.take_line.new.file in
    let e = c.stream.ensures in
    let k = rw c.in-Ok-Streamed.field-0-is at c.in-Ok-Streamed.ensures.taken in
    let grown = (rw c.in-Ok-Streamed.field-0-is at c.in-Ok-Streamed.ensures.grows) refl in
    let fit = (rw c.in-Ok-Streamed.field-0-is at c.in-Ok-Streamed.ensures.variables) refl in
    on_fault c.stream.result _ _ e.fault (λ x h first before old judged alike a.
    let next = after_kept _ (KeepsConsole D mid) c.args.every first _ old _ _ _ _ k.3 (held_more _ c.args.every first before old _ _ _ _ a c.args.line.now judged None _ _ _ alike k.0 k.1 k.2 grown fit) in
    failed_as D.is_honest _ _ D.fills_with_zeros _ _ _ _ _ _ _ x c.take_line.ensures.sync
    (failed _ c.args.every first (before ++ made_turn judged ∷ []) old _ _ _ _ next.behind D.is_honest mid.journal.sync D.fills_with_zeros (D.may_leave f.journal.device)
    (KeepsConsole D f) _ x h
    (λ honest o left.
    let run = e.any_moment honest (may_commit _ _ _ _ _ _ _ _ _ next) in
    inr (run.each o (g.met.D.Device.lawful.counts_now f.journal.device (D.moment mid.journal.device) o run.later left)))))

pub returns-in-Ok-Streamed-clause-any_moment : goal.returns-in-Ok-Streamed-clause-any_moment
returns-in-Ok-Streamed-clause-any_moment g c = λ honest first before old judged alike a.
    let D = g.D.Device.disk in
    let f = c.args.file.now in
    let mid = c.take_line.new.file in
    let k = rw c.in-Ok-Streamed.field-0-is at c.in-Ok-Streamed.ensures.taken in
    let grown = (rw c.in-Ok-Streamed.field-0-is at c.in-Ok-Streamed.ensures.grows) refl in
    let fit = (rw c.in-Ok-Streamed.field-0-is at c.in-Ok-Streamed.ensures.variables) refl in
    let next = after_kept _ (KeepsConsole D mid) c.args.every first _ old _ _ _ _ k.3 (held_more _ c.args.every first before old _ _ _ _ a c.args.line.now judged None _ _ _ alike k.0 k.1 k.2 grown fit) in
    lines_on _ D f.journal.sync D.fills_with_zeros c.args.every first (before ++ made_turn judged ∷ []) f.journal.device mid.journal.device c.stream.new.file.journal.device _ c.take_line.ensures.sync
    (taken_run D f mid c.args.every first before old _ _ _ _ a c.args.line.now judged alike honest c.take_line.ensures.any_moment)
    (events_run _ D mid.journal.sync D.fills_with_zeros c.args.every first _ (before ++ made_turn judged ∷ []) old _ _ _ _ next.behind mid.journal.device c.stream.new.file.journal.device
    (c.stream.ensures.any_moment honest (may_commit _ _ _ _ _ _ _ _ _ next)))

-- ---- it wasn't taken
pub returns-in-Err-clause-fault : goal.returns-in-Err-clause-fault
returns-in-Err-clause-fault g c = λ first before old judged same a.
    let mid = c.take_line.new.file in
    untaken g.D.Device.disk c.args.file.now mid c.args.every first before old _ _ _ _ a c.args.line.now judged same _ c.in-Err.ensures.fault c.take_line.ensures.any_moment
    (g.met.D.Device.lawful.counts_now mid.journal.device)

pub returns-in-Err-clause-any_moment : goal.returns-in-Err-clause-any_moment
returns-in-Err-clause-any_moment g c = λ honest first before old judged same a.
    taken_run g.D.Device.disk c.args.file.now c.take_line.new.file c.args.every first before old _ _ _ _ a c.args.line.now judged same honest c.take_line.ensures.any_moment
