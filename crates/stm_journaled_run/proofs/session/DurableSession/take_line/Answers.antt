use Rattle.std.proofs.Common.{◌≢◌, ◌⊎◌, ℕ, ◌<◌, ◌≤◌, length, inl, inr, refl, subst, sym, ap, ◌∙◌, arith, rules, string_bytes}
use Rattle.stm_run.specs.declared.reply.Reply.TheVariants.{Text, Checkpoint}
use Rattle.stm_run.specs.ConsoleState.{events_of, table_of}
use Rattle.stm_run.specs.Fitting.{VariablesFit}
use Rattle.stm_run.specs.Growing.{Grows}
use Rattle.stm_run.specs.LineCheckpoints.{asked_checkpoint_step, auto_step, made_step}
use Rattle.stm_journaled_run.proofs.Committing.{anew_after}
use Rattle.stm_journaled_run.proofs.LineOutcomes.{asked_taken, due_taken, streamed_taken, unless_begun, unmade_fault}
use Rattle.stm_journaled_run.proofs.Taking.{taking_leaves, taking_still, asked_state, due, undue, open_with, untouched}
use Rattle.stm_journaled_run.proofs.session.DurableSession.take_line.Goals as goal
use Rattle.stm_journaled_run.proofs.session.DurableSession.take_line.Goals.{else-before-count-via-then-before-count+else-count-every, else-before-count-via-else-before-count}

-- ---- the checkpoint is due after it
pub checkpoint_due-requires-clause-open : goal.checkpoint_due-requires-clause-open
checkpoint_due-requires-clause-open g c =
    open_with c.args.self.now.console c.hold_answer.new.self.console (omega (arith, c.if-before-count.true, c.event_count-before.ensures, c.event_count-count.ensures))

pub checkpoint_due-requires-clause-may : goal.checkpoint_due-requires-clause-may
checkpoint_due-requires-clause-may g c =
    anew_after _ c.args.self.now.console c.hold_answer.new.self.console c.args.self.now.recorded c.in-Ok-Text.ensures.grows (c.in-Ok-Text.ensures.variables c.requires.may.variables) c.requires.may

pub checkpoint_due-requires-clause-because : goal.checkpoint_due-requires-clause-because
checkpoint_due-requires-clause-because g c = λ more. c.requires.because (subst (λ (k : ℕ). 0 < k) c.hold_answer.ensures.tries more)

pub returns-then-count-every-clause-taken : goal.returns-then-count-every-clause-taken
returns-then-count-every-clause-taken g c =
    let s = c.args.self.now.console in
    let t = c.hold_answer.new.self.console in
    let st = rw c.in-Ok-Text.field-0-is at c.in-Ok-Text.ensures.step in
    let more : length (events_of s) < length (events_of t) = omega (arith, c.if-before-count.true, c.event_count-before.ensures, c.event_count-count.ensures) in
    let reach : c.args.every ≤ length (events_of t) = omega (arith, c.if-count-every.true, c.event_count-count.ensures) in
    due_taken g.D.Device.disk c.args.file.now c.checkpoint_due.new.file c.args.every s t c.checkpoint_due.new.self.console c.args.line.now
    (string_bytes c.args.self.now.held) (string_bytes c.hold_answer.new.self.held) (string_bytes c.checkpoint_due.new.self.held) c.args.self.now.recorded c.hold_answer.new.self.recorded c.checkpoint_due.new.self.recorded
    c.checkpoint_due.result (due c.args.every s t (open_with s t more) more reach) st.0 st.1 c.hold_answer.ensures.recorded
    (rw c.in-Ok-Text.field-0-is at c.in-Ok-Text.ensures.made) c.checkpoint_due.ensures.taken

pub returns-then-count-every-clause-grows : goal.returns-then-count-every-clause-grows
returns-then-count-every-clause-grows g c =
    unless_begun (Grows c.args.self.now.console) c.hold_answer.new.self.console c.checkpoint_due.new.self.console c.checkpoint_due.result c.in-Ok-Text.ensures.grows c.checkpoint_due.ensures.same

pub returns-then-count-every-clause-variables : goal.returns-then-count-every-clause-variables
returns-then-count-every-clause-variables g c =
    unless_begun (λ s. VariablesFit (table_of s)) c.hold_answer.new.self.console c.checkpoint_due.new.self.console c.checkpoint_due.result (c.in-Ok-Text.ensures.variables c.requires.may.variables) c.checkpoint_due.ensures.same

pub returns-then-count-every-clause-because : goal.returns-then-count-every-clause-because
returns-then-count-every-clause-because g c = c.checkpoint_due.ensures.because

pub returns-then-count-every-clause-sync : goal.returns-then-count-every-clause-sync
returns-then-count-every-clause-sync g c = c.checkpoint_due.ensures.sync

pub returns-then-count-every-clause-cause : goal.returns-then-count-every-clause-cause
returns-then-count-every-clause-cause g c = c.checkpoint_due.ensures.cause

pub returns-then-count-every-clause-fault : goal.returns-then-count-every-clause-fault
returns-then-count-every-clause-fault g c =
    let s = c.args.self.now.console in
    let t = c.hold_answer.new.self.console in
    let st = rw c.in-Ok-Text.field-0-is at c.in-Ok-Text.ensures.step in
    let more : length (events_of s) < length (events_of t) = omega (arith, c.if-before-count.true, c.event_count-before.ensures, c.event_count-count.ensures) in
    let reach : c.args.every ≤ length (events_of t) = omega (arith, c.if-count-every.true, c.event_count-count.ensures) in
    unmade_fault g.D.Device.disk c.args.file.now c.checkpoint_due.new.file c.checkpoint_due.result (asked_checkpoint_step t).0 (made_step c.args.every s c.args.line.now).0
    (due c.args.every s t (open_with s t more) more reach ∙ ap (auto_step c.args.every s) st.0) c.checkpoint_due.ensures.fault

pub returns-then-count-every-clause-any_moment : goal.returns-then-count-every-clause-any_moment
returns-then-count-every-clause-any_moment g c =
    let s = c.args.self.now.console in
    let t = c.hold_answer.new.self.console in
    let st = rw c.in-Ok-Text.field-0-is at c.in-Ok-Text.ensures.step in
    let more : length (events_of s) < length (events_of t) = omega (arith, c.if-before-count.true, c.event_count-before.ensures, c.event_count-count.ensures) in
    let reach : c.args.every ≤ length (events_of t) = omega (arith, c.if-count-every.true, c.event_count-count.ensures) in
    taking_leaves g.D.Device.disk c.args.file.now c.checkpoint_due.new.file s t _ c.args.self.now.recorded c.in-Ok-Text.ensures.grows (c.in-Ok-Text.ensures.variables c.requires.may.variables)
    (due c.args.every s t (open_with s t more) more reach ∙ ap (auto_step c.args.every s) st.0) c.checkpoint_due.ensures.any_moment

-- ---- none is due
pub returns-else-before-count-clause-taken : goal.returns-else-before-count-clause-taken
returns-else-before-count-clause-taken g c =
    let s = c.args.self.now.console in
    let t = c.hold_answer.new.self.console in
    let st = rw c.in-Ok-Text.field-0-is at c.in-Ok-Text.ensures.step in
    let low : (length (events_of t) ≤ length (events_of s)) ⊎ (length (events_of t) < c.args.every) = elim c.else-before-count.branch [
      | else-before-count-via-then-before-count+else-count-every w ↦ inr (omega (arith, w.if-count-every.false, c.event_count-count.ensures))
      | else-before-count-via-else-before-count w ↦ inl (omega (arith, w.if-before-count.false, c.event_count-before.ensures, c.event_count-count.ensures))
    ] in
    (sym (undue c.args.every s t low) ∙ ap (auto_step c.args.every s) st.0, st.1, c.hold_answer.ensures.recorded, untouched g.D.Device.disk c.args.file.now)

pub returns-else-before-count-clause-grows : goal.returns-else-before-count-clause-grows
returns-else-before-count-clause-grows g c = λ not_begun. c.in-Ok-Text.ensures.grows

pub returns-else-before-count-clause-variables : goal.returns-else-before-count-clause-variables
returns-else-before-count-clause-variables g c = λ not_begun. c.in-Ok-Text.ensures.variables c.requires.may.variables

pub returns-else-before-count-clause-because : goal.returns-else-before-count-clause-because
returns-else-before-count-clause-because g c = λ more. c.requires.because (subst (λ (k : ℕ). 0 < k) c.hold_answer.ensures.tries more)

pub returns-else-before-count-clause-sync : goal.returns-else-before-count-clause-sync
returns-else-before-count-clause-sync g c = refl

pub returns-else-before-count-clause-cause : goal.returns-else-before-count-clause-cause
returns-else-before-count-clause-cause g c = tt

pub returns-else-before-count-clause-fault : goal.returns-else-before-count-clause-fault
returns-else-before-count-clause-fault g c = tt

pub returns-else-before-count-clause-any_moment : goal.returns-else-before-count-clause-any_moment
returns-else-before-count-clause-any_moment g c = taking_still g.D.Device.disk c.args.file.now (g.met.D.Device.lawful.only_now c.args.file.now.journal.device) _ _ _

-- ---- it asks for one
pub checkpoint_asked-requires-clause-open : goal.checkpoint_asked-requires-clause-open
checkpoint_asked-requires-clause-open g c = (rw c.in-Ok-Checkpoint.field-0-is at c.in-Ok-Checkpoint.ensures.step).0.0

pub checkpoint_asked-requires-clause-may : goal.checkpoint_asked-requires-clause-may
checkpoint_asked-requires-clause-may g c =
    anew_after _ c.args.self.now.console c.hold_answer.new.self.console c.args.self.now.recorded c.in-Ok-Checkpoint.ensures.grows (c.in-Ok-Checkpoint.ensures.variables c.requires.may.variables) c.requires.may

pub checkpoint_asked-requires-clause-because : goal.checkpoint_asked-requires-clause-because
checkpoint_asked-requires-clause-because g c = λ more. c.requires.because (subst (λ (k : ℕ). 0 < k) c.hold_answer.ensures.tries more)

pub returns-in-Ok-Checkpoint-clause-taken : goal.returns-in-Ok-Checkpoint-clause-taken
returns-in-Ok-Checkpoint-clause-taken g c =
    let st = rw c.in-Ok-Checkpoint.field-0-is at c.in-Ok-Checkpoint.ensures.step in
    let opened = (rw c.in-Ok-Checkpoint.field-0-is at c.in-Ok-Checkpoint.ensures.asked) refl in
    asked_taken g.D.Device.disk c.args.file.now c.checkpoint_asked.new.file c.args.every c.args.self.now.console c.hold_answer.new.self.console c.checkpoint_asked.new.self.console c.args.line.now
    (string_bytes c.args.self.now.held) (string_bytes c.hold_answer.new.self.held) (string_bytes c.checkpoint_asked.new.self.held) c.args.self.now.recorded c.hold_answer.new.self.recorded c.checkpoint_asked.new.self.recorded
    c.checkpoint_asked.result st.0.1 opened c.hold_answer.ensures.recorded st.1 (rw c.in-Ok-Checkpoint.field-0-is at c.in-Ok-Checkpoint.ensures.made) c.checkpoint_asked.ensures.room c.checkpoint_asked.ensures.taken

pub returns-in-Ok-Checkpoint-clause-grows : goal.returns-in-Ok-Checkpoint-clause-grows
returns-in-Ok-Checkpoint-clause-grows g c =
    unless_begun (Grows c.args.self.now.console) c.hold_answer.new.self.console c.checkpoint_asked.new.self.console c.checkpoint_asked.result c.in-Ok-Checkpoint.ensures.grows c.checkpoint_asked.ensures.same

pub returns-in-Ok-Checkpoint-clause-variables : goal.returns-in-Ok-Checkpoint-clause-variables
returns-in-Ok-Checkpoint-clause-variables g c =
    unless_begun (λ s. VariablesFit (table_of s)) c.hold_answer.new.self.console c.checkpoint_asked.new.self.console c.checkpoint_asked.result (c.in-Ok-Checkpoint.ensures.variables c.requires.may.variables) c.checkpoint_asked.ensures.same

pub returns-in-Ok-Checkpoint-clause-because : goal.returns-in-Ok-Checkpoint-clause-because
returns-in-Ok-Checkpoint-clause-because g c = c.checkpoint_asked.ensures.because

pub returns-in-Ok-Checkpoint-clause-sync : goal.returns-in-Ok-Checkpoint-clause-sync
returns-in-Ok-Checkpoint-clause-sync g c = c.checkpoint_asked.ensures.sync

pub returns-in-Ok-Checkpoint-clause-cause : goal.returns-in-Ok-Checkpoint-clause-cause
returns-in-Ok-Checkpoint-clause-cause g c = c.checkpoint_asked.ensures.cause

pub returns-in-Ok-Checkpoint-clause-fault : goal.returns-in-Ok-Checkpoint-clause-fault
returns-in-Ok-Checkpoint-clause-fault g c =
    let st = rw c.in-Ok-Checkpoint.field-0-is at c.in-Ok-Checkpoint.ensures.step in
    let opened = (rw c.in-Ok-Checkpoint.field-0-is at c.in-Ok-Checkpoint.ensures.asked) refl in
    unmade_fault g.D.Device.disk c.args.file.now c.checkpoint_asked.new.file c.checkpoint_asked.result (asked_checkpoint_step c.hold_answer.new.self.console).0 (made_step c.args.every c.args.self.now.console c.args.line.now).0
    (asked_state c.args.every c.args.self.now.console c.hold_answer.new.self.console c.args.line.now st.0.1 opened) c.checkpoint_asked.ensures.fault

pub returns-in-Ok-Checkpoint-clause-any_moment : goal.returns-in-Ok-Checkpoint-clause-any_moment
returns-in-Ok-Checkpoint-clause-any_moment g c =
    let st = rw c.in-Ok-Checkpoint.field-0-is at c.in-Ok-Checkpoint.ensures.step in
    let opened = (rw c.in-Ok-Checkpoint.field-0-is at c.in-Ok-Checkpoint.ensures.asked) refl in
    taking_leaves g.D.Device.disk c.args.file.now c.checkpoint_asked.new.file c.args.self.now.console c.hold_answer.new.self.console _ c.args.self.now.recorded c.in-Ok-Checkpoint.ensures.grows
    (c.in-Ok-Checkpoint.ensures.variables c.requires.may.variables) (asked_state c.args.every c.args.self.now.console c.hold_answer.new.self.console c.args.line.now st.0.1 opened) c.checkpoint_asked.ensures.any_moment

-- ---- what is left of its answer is to be streamed
pub returns-in-Ok-clause-taken : goal.returns-in-Ok-clause-taken
returns-in-Ok-clause-taken g c =
    let text : c.in-Ok.reply ≢ Text = λ e. first_of (cc e, search rules, grind arith) in
    let asks : c.in-Ok.reply ≢ Checkpoint = λ e. first_of (cc e, search rules, grind arith) in
    streamed_taken g.D.Device.disk c.args.file.now c.args.file.now c.args.every c.args.self.now.console c.hold_answer.new.self.console c.hold_answer.new.self.console c.args.line.now
    (string_bytes c.args.self.now.held) (string_bytes c.hold_answer.new.self.held) (string_bytes c.hold_answer.new.self.held) c.args.self.now.recorded c.hold_answer.new.self.recorded c.hold_answer.new.self.recorded
    c.in-Ok.reply text asks c.in-Ok.ensures.step c.in-Ok.ensures.streamed c.hold_answer.ensures.recorded (untouched g.D.Device.disk c.args.file.now)

pub returns-in-Ok-clause-grows : goal.returns-in-Ok-clause-grows
returns-in-Ok-clause-grows g c = λ not_begun. c.in-Ok.ensures.grows

pub returns-in-Ok-clause-variables : goal.returns-in-Ok-clause-variables
returns-in-Ok-clause-variables g c = λ not_begun. c.in-Ok.ensures.variables c.requires.may.variables

pub returns-in-Ok-clause-because : goal.returns-in-Ok-clause-because
returns-in-Ok-clause-because g c = λ more. c.requires.because (subst (λ (k : ℕ). 0 < k) c.hold_answer.ensures.tries more)

pub returns-in-Ok-clause-sync : goal.returns-in-Ok-clause-sync
returns-in-Ok-clause-sync g c = refl

pub returns-in-Ok-clause-cause : goal.returns-in-Ok-clause-cause
returns-in-Ok-clause-cause g c = tt

pub returns-in-Ok-clause-fault : goal.returns-in-Ok-clause-fault
returns-in-Ok-clause-fault g c = tt

pub returns-in-Ok-clause-any_moment : goal.returns-in-Ok-clause-any_moment
returns-in-Ok-clause-any_moment g c = taking_still g.D.Device.disk c.args.file.now (g.met.D.Device.lawful.only_now c.args.file.now.journal.device) _ _ _

-- ---- memory ran out
pub returns-in-Err-clause-taken : goal.returns-in-Err-clause-taken
returns-in-Err-clause-taken g c = tt

pub returns-in-Err-clause-grows : goal.returns-in-Err-clause-grows
returns-in-Err-clause-grows g c = tt

pub returns-in-Err-clause-variables : goal.returns-in-Err-clause-variables
returns-in-Err-clause-variables g c = tt

pub returns-in-Err-clause-because : goal.returns-in-Err-clause-because
returns-in-Err-clause-because g c = λ more. c.requires.because (subst (λ (k : ℕ). 0 < k) c.hold_answer.ensures.tries more)

pub returns-in-Err-clause-sync : goal.returns-in-Err-clause-sync
returns-in-Err-clause-sync g c = refl

pub returns-in-Err-clause-cause : goal.returns-in-Err-clause-cause
returns-in-Err-clause-cause g c = λ honest. record { failed = λ e. absurd (cc e); no_space = λ e. absurd (cc e); torn_too_long = λ e. cc e }

pub returns-in-Err-clause-fault : goal.returns-in-Err-clause-fault
returns-in-Err-clause-fault g c = (λ e. cc e, inl (untouched g.D.Device.disk c.args.file.now))

pub returns-in-Err-clause-any_moment : goal.returns-in-Err-clause-any_moment
returns-in-Err-clause-any_moment g c = taking_still g.D.Device.disk c.args.file.now (g.met.D.Device.lawful.only_now c.args.file.now.journal.device) _ _ _
