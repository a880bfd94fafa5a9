-- Desks of which the same is observed do the same at each command, unless one of them reports that its history has no room.
use Rattle.std.proofs.Common.{◌≡◌, ◌⊎◌, inl, inr, ℕ, zero, suc, ◌+◌, ◌-◌, ◌≤◌, Bool, true, false, cond, not, List, [], ◌∷◌, ◌++◌, length, Option, Some, None, Result, Ok, Err, refl, sym, ap, ap₂, ◌∙◌, subst, arith}
use Rattle.std.specs.Prelude.{nat_lt, nat_le, codes, is_some, take, option_map, IsTrue}
use Rattle.std.proofs.lemmas.Bool.Decides.{nat_tests}
use Rattle.stm_terms.specs.declared.values.Value.{Value}
use Rattle.stm_terms.specs.declared.verdicts.Verdict.{Verdict}
use Rattle.stm_terms.specs.Names.{is_name_text}
use Rattle.stm_terms.specs.Changes.{cell_value}
use Rattle.stm_terms.specs.ReadSet.{reads_of}
use Rattle.stm_terms.specs.Verdict.{verdict}
use Rattle.stm_check.specs.TypedBlock.{Block}
use Rattle.stm_eval.specs.Laws.{VerdictIsStable}
use Rattle.stm_store.specs.declared.cell.Cell.{Cell}
use Rattle.stm_store.specs.Cells.{plains, changed_by}
use Rattle.stm_store.specs.Naming.{may_hold_known, number_named}
use Rattle.stm_store.specs.Tables.{Declared}
use Rattle.stm_queue.specs.Queue.{Entry, is_out, marked, queued}
use Rattle.stm_events.specs.declared.errors.CancelError.{CancelError}
use Rattle.stm_events.specs.declared.errors.CancelError.TheVariants as cancel
use Rattle.stm_events.specs.declared.errors.DeliverError.{DeliverError}
use Rattle.stm_events.specs.declared.errors.DeliverError.TheVariants as deliver
use Rattle.stm_events.specs.declared.errors.FinishError.{FinishError}
use Rattle.stm_events.specs.declared.errors.FinishError.TheVariants as finish
use Rattle.stm_events.specs.declared.errors.LabelError.{LabelError}
use Rattle.stm_events.specs.declared.errors.LabelError.TheVariants as label
use Rattle.stm_events.specs.declared.errors.LateDeclareError.{LateDeclareError}
use Rattle.stm_events.specs.declared.errors.LateDeclareError.TheVariants as late
use Rattle.stm_events.specs.declared.errors.SubmitError.{SubmitError}
use Rattle.stm_events.specs.declared.errors.SubmitError.TheVariants as submit
use Rattle.stm_events.specs.declared.event.What.{What}
use Rattle.stm_events.specs.declared.event.What.TheVariants.{Submitted, Installed, Finished, Cancelled, Declared as DeclaredLate, Labelled}
use Rattle.stm_events.specs.Answers.{AnswersAlike, install_answer}
use Rattle.stm_events.specs.Labels.{is_label}
use Rattle.stm_events.specs.SlowAtomically.{install_at_once, atomically, AllowsEach}
use Rattle.stm_events.specs.declared.staleness.StalenessRule.{StalenessRule}
use Rattle.stm_events.specs.declared.staleness.StalenessRule.TheVariants.{Changed}
use Rattle.stm_events.proofs.Atomically.{whats_waiting, whats_ending}
use Rattle.stm_events.proofs.Folds.{state-rule}
use Rattle.stm_desk.proofs.Starts.{start_rule}
use Rattle.stm_desk.specs.declared.errors.AtomicError.{AtomicError}
use Rattle.stm_desk.specs.declared.errors.AtomicError.TheVariants as atomic
use Rattle.stm_events.specs.Laws.{IsWellTyped}
use Rattle.stm_events.specs.Refusals.{missing, submit_first, submit_refused, declare_first, late_declare_refused, label_first, label_refused, cancel_first, cancel_refused, differing, overtaken_first, install_first, pending_left, blocks_there, overflows, finish_first, finish_refused}
use Rattle.stm_events.specs.SlowDesk.{Waiter, Slow, under, verdict_on, waking, is_blocks, is_new, is_current, find_waiter, without_waiter, stale_after, max_cells, after, Allows}
use Rattle.stm_terms.specs.Limits.{max_waiting}
use Rattle.stm_events.specs.SlowSettle.{Order, next_what, has_cells, settle_on, running, Stop, NoRoom, NoCells, stop_on, run_stop, finishes, installs}
use Rattle.stm_events.specs.SlowDrain.{next_drain}
use Rattle.stm_events.specs.States.{IsPossible}
use Rattle.stm_events.proofs.AlikeWaitersStay.{AreAlike, MayBeAlike, alike_without, same_stales, same_verdict}
use Rattle.stm_events.proofs.Possible.{had_without, possible_after}
use Rattle.stm_machine.specs.Machine.{event}
use Rattle.stm_machine.specs.JobsHandedOut.{sent}
use Rattle.stm_desk.specs.Refusals.{submit_refusal, late_declare_refusal, atomic_first, events_needed, atomic_refusal, finish_refusal, cancel_refusal, label_refusal, requeued_if_overtaken}
use Rattle.stm_desk.specs.DeskView.{DeskView, start_state, state_of, is_full, lacks_room, with_event}
use Rattle.stm_desk.specs.Settling.{slow_run, slow_run_stop, with_whats}
use Rattle.stm_source.specs.declared.refusal.Refusal.{Refusal}
use Rattle.stm_commands.specs.Atomically.{ran_text, atomically_block_step, atomically_text_step}
use Rattle.stm_commands.specs.Blocks.{ticket_line, submit_block_step, submit_text_step}
use Rattle.stm_commands.specs.Declaring.{declared_line, declare_variable_step, declare_text_step}
use Rattle.stm_commands.specs.Endings.{finish_verdict_step, finish_waiter_step, finish_ticket_step, finished_line, cancel_ticket_step, run_text, run_desk_step}
use Rattle.stm_commands.specs.Evaluation.{DeliveredSoFar, delivered_by, delivered_next, delivered_all, all_queued, evaluated, evaluation_text, eval_desk_step}
use Rattle.stm_commands.specs.Jobs.{jobs_of, delivery_first, delivery_refusal, installed, delivery_step, deliver_job_step, handed_back, queued_line, handback_ticket_step}
use Rattle.stm_commands.specs.Labelling.{label_ticket_step}
use Rattle.stm_commands.specs.OpenDesk.{HandedOut}
use Rattle.stm_commands.specs.Refusals.{refused}
use Rattle.stm_run_laws.specs.Unseen.{SaysFull}
use Rattle.stm_run.proofs.RunAtOnce.{EachTyped, run_allowed, run_typed}
use Rattle.stm_run.proofs.DeliveredJobs.{next_stands, queued_stand}
use Rattle.stm_run.proofs.DeskMoves.{submitted_stands, declared_stands, finished_stands, cancelled_stands, labelled_stands}
use Rattle.stm_run.proofs.LegalSettling.{IsAllowed, IsLawful, next_allowed, drain_allowed}
use Rattle.stm_run_laws.proofs.LookingAlike.{AlikeDesks, MayHappen, same_store, same_next, same_waiters, same_found, same_answers, alike_event, allowed_by, alike_pending, full_too, same_refusal, jobs_alike}
use Rattle.stm_run.proofs.StandingDesk.{Stands, state_later}
use Rattle.stm_run.proofs.DeclaredVariables.{LateOrTold}
use Rattle.stm_run.proofs.TextsJudged.{BlockOrTold}

-- what steps of two desks come to
pub record AlikeSteps (b : Bool) (p p' : DeskView × List ℕ) : Type 0 where
  pub desks : AlikeDesks b p.0 p'.0
  pub text : p.1 ≡ p'.1

-- neither answer reports that its history is full, if the second is not known to be no longer
abbrev pub NotFull : Bool → List ℕ → List ℕ → Type 0
NotFull b x x' = ¬ SaysFull x × (b ≡ false → ¬ SaysFull x')

-- ---- submit
submit_either : (m : Option ℕ) (many : Bool) → (submit_first m many true ≡ submit_first m many false) ⊎ (submit_first m many true ≡ Some submit.HistoryFull)
submit_either (Some i) many = inl refl
submit_either None true = inl refl
submit_either None false = inr refl

submit_full : (d : DeskView) (block : Block) (o : Option SubmitError) → o ≡ Some submit.HistoryFull → SaysFull (submit_block_step d block o).1
submit_full d block o e = inl (ap (λ (x : Option SubmitError). (submit_block_step d block x).1) e)

submit_same : (b : Bool) (d d' : DeskView) (block : Block) → AlikeDesks b d d' → NotFull b (submit_block_step d block (submit_refusal d block)).1 (submit_block_step d' block (submit_refusal d' block)).1
    → submit_refusal d block ≡ submit_refusal d' block
submit_same b d d' block k n =
    let s = state_of d in
    let there : submit_refused s (is_full d') block ≡ submit_refusal d' block = (same_answers b d d' k).submit (is_full d') block in
    same_refusal (λ full. submit_refused s full block) submit.HistoryFull (submit_either (missing (plains s.store) block.uses) (nat_le max_waiting (length s.waiters))) b (is_full d) (is_full d') (full_too b d d' k)
    (λ e. n.0 (submit_full d block (submit_refusal d block) e)) (λ q e. n.1 q (submit_full d' block (submit_refusal d' block) (sym there ∙ e))) ∙ there

submit_by : (b : Bool) (d d' : DeskView) (jobs : List HandedOut) (block : Block) → IsWellTyped block → Stands d jobs → AlikeDesks b d d' → (o : Option SubmitError) → submit_refusal d block ≡ o
    → AlikeSteps b (submit_block_step d block o) (submit_block_step d' block o)
submit_by b d d' jobs block w st k (Some x) e = record { desks = k; text = refl }
submit_by b d d' jobs block w st k None e =
    let what = Submitted (state_of d).next block in
    let a = allowed_by d jobs what (submitted_stands d jobs block w None e st) in
    record {
      desks = subst (λ (n : ℕ). AlikeDesks b (with_event d 0 what) (with_event d' 0 (Submitted n block))) (same_next b d d' k) (alike_event b d d' what a k);
      text = ap ticket_line (same_next b d d' k);
    }

pub submit_alike : (b : Bool) (d d' : DeskView) (jobs : List HandedOut) (r : Result Block Refusal) → BlockOrTold (state_of d).names r → Stands d jobs → AlikeDesks b d d'
    → NotFull b (submit_text_step d r).1 (submit_text_step d' r).1 → AlikeSteps b (submit_text_step d r) (submit_text_step d' r)
submit_alike b d d' jobs (Err x) h st k n = record { desks = k; text = refl }
submit_alike b d d' jobs (Ok block) h st k n =
    subst (λ (o : Option SubmitError). AlikeSteps b (submit_block_step d block (submit_refusal d block)) (submit_block_step d' block o)) (submit_same b d d' block k n)
    (submit_by b d d' jobs block h.0 st k (submit_refusal d block) refl)

-- ---- declare
declare_either : (taken holds room : Bool) → (declare_first taken holds true room ≡ declare_first taken holds false room) ⊎ (declare_first taken holds true room ≡ Some late.HistoryFull)
declare_either true holds room = inl refl
declare_either false false room = inl refl
declare_either false true room = inr refl

declare_full : (d : DeskView) (v : Declared) (o : Option LateDeclareError) → o ≡ Some late.HistoryFull → SaysFull (declare_variable_step d v o).1
declare_full d v o e = inl (ap (λ (x : Option LateDeclareError). (declare_variable_step d v x).1) e)

abbrev refused_as : DeskView → Declared → Option LateDeclareError
refused_as d v = late_declare_refusal d v.name v.kind v.value

declare_same : (b : Bool) (d d' : DeskView) (v : Declared) → AlikeDesks b d d' → NotFull b (declare_variable_step d v (refused_as d v)).1 (declare_variable_step d' v (refused_as d' v)).1 → refused_as d v ≡ refused_as d' v
declare_same b d d' v k n =
    let s = state_of d in
    let there : late_declare_refused s (is_full d') v.name v.kind v.value ≡ refused_as d' v = (same_answers b d d' k).declare (is_full d') v.name v.kind v.value in
    same_refusal (λ full. late_declare_refused s full v.name v.kind v.value) late.HistoryFull
    (declare_either (is_some (number_named v.name s.names)) (may_hold_known s.names v.kind v.value) (nat_lt (length s.store) max_cells)) b (is_full d) (is_full d') (full_too b d d' k)
    (λ e. n.0 (declare_full d v (refused_as d v) e)) (λ q e. n.1 q (declare_full d' v (refused_as d' v) (sym there ∙ e))) ∙ there

declare_by : (b : Bool) (d d' : DeskView) (jobs : List HandedOut) (v : Declared) → IsTrue (is_name_text v.name) → Stands d jobs → AlikeDesks b d d' → (o : Option LateDeclareError) → refused_as d v ≡ o
    → AlikeSteps b (declare_variable_step d v o) (declare_variable_step d' v o)
declare_by b d d' jobs v word st k (Some x) e = record { desks = k; text = refl }
declare_by b d d' jobs v word st k None e =
    let what = DeclaredLate v.name v.kind v.value in
    record {
      desks = alike_event b d d' what (allowed_by d jobs what (declared_stands d jobs v word None e st)) k;
      text = ap (λ (c : List Cell). declared_line (length c) v.name) (same_store b d d' k);
    }

pub declare_alike : (b : Bool) (d d' : DeskView) (jobs : List HandedOut) (r : Result Declared Refusal) → LateOrTold r → Stands d jobs → AlikeDesks b d d'
    → NotFull b (declare_text_step d r).1 (declare_text_step d' r).1 → AlikeSteps b (declare_text_step d r) (declare_text_step d' r)
declare_alike b d d' jobs (Err x) h st k n = record { desks = k; text = refl }
declare_alike b d d' jobs (Ok v) h st k n =
    subst (λ (o : Option LateDeclareError). AlikeSteps b (declare_variable_step d v (refused_as d v)) (declare_variable_step d' v o)) (declare_same b d d' v k n)
    (declare_by b d d' jobs v h.0 st k (refused_as d v) refl)

-- ---- cancel
cancel_either : (o : Option Waiter) → (cancel_first o true ≡ cancel_first o false) ⊎ (cancel_first o true ≡ Some cancel.HistoryFull)
cancel_either None = inl refl
cancel_either (Some w) = inr refl

cancel_full : (d : DeskView) (t : ℕ) (o : Option CancelError) → o ≡ Some cancel.HistoryFull → SaysFull (cancel_ticket_step d t o).1
cancel_full d t o e = inl (ap (λ (x : Option CancelError). (cancel_ticket_step d t x).1) e)

cancel_same : (b : Bool) (d d' : DeskView) (t : ℕ) → AlikeDesks b d d' → NotFull b (cancel_ticket_step d t (cancel_refusal d t)).1 (cancel_ticket_step d' t (cancel_refusal d' t)).1 → cancel_refusal d t ≡ cancel_refusal d' t
cancel_same b d d' t k n =
    let s = state_of d in
    let there : cancel_refused s (is_full d') t ≡ cancel_refusal d' t = (same_answers b d d' k).cancel (is_full d') t in
    same_refusal (λ full. cancel_refused s full t) cancel.HistoryFull (cancel_either (find_waiter t s.waiters)) b (is_full d) (is_full d') (full_too b d d' k)
    (λ e. n.0 (cancel_full d t (cancel_refusal d t) e)) (λ q e. n.1 q (cancel_full d' t (cancel_refusal d' t) (sym there ∙ e))) ∙ there

cancel_by : (b : Bool) (d d' : DeskView) (jobs : List HandedOut) (t : ℕ) → Stands d jobs → AlikeDesks b d d' → (o : Option CancelError) → cancel_refusal d t ≡ o → AlikeSteps b (cancel_ticket_step d t o) (cancel_ticket_step d' t o)
cancel_by b d d' jobs t st k (Some x) e = record { desks = k; text = refl }
cancel_by b d d' jobs t st k None e = record { desks = alike_event b d d' (Cancelled t) (allowed_by d jobs (Cancelled t) (cancelled_stands d jobs t None e st)) k; text = refl }

pub cancel_alike : (b : Bool) (d d' : DeskView) (jobs : List HandedOut) (t : ℕ) → Stands d jobs → AlikeDesks b d d' → NotFull b (cancel_ticket_step d t (cancel_refusal d t)).1 (cancel_ticket_step d' t (cancel_refusal d' t)).1
    → AlikeSteps b (cancel_ticket_step d t (cancel_refusal d t)) (cancel_ticket_step d' t (cancel_refusal d' t))
cancel_alike b d d' jobs t st k n =
    subst (λ (o : Option CancelError). AlikeSteps b (cancel_ticket_step d t (cancel_refusal d t)) (cancel_ticket_step d' t o)) (cancel_same b d d' t k n)
    (cancel_by b d d' jobs t st k (cancel_refusal d t) refl)

-- ---- label
label_either : (o : Option Waiter) → (label_first o true ≡ label_first o false) ⊎ (label_first o true ≡ Some label.HistoryFull)
label_either None = inl refl
label_either (Some w) = inr refl

label_full : (d : DeskView) (t : ℕ) (text : List ℕ) (o : Option LabelError) → o ≡ Some label.HistoryFull → SaysFull (label_ticket_step d t text o).1
label_full d t text o e = inl (ap (λ (x : Option LabelError). (label_ticket_step d t text x).1) e)

label_same : (b : Bool) (d d' : DeskView) (t : ℕ) (text : List ℕ) → AlikeDesks b d d' → NotFull b (label_ticket_step d t text (label_refusal d t)).1 (label_ticket_step d' t text (label_refusal d' t)).1
    → label_refusal d t ≡ label_refusal d' t
label_same b d d' t text k n =
    let s = state_of d in
    let there : label_refused s (is_full d') t ≡ label_refusal d' t = (same_answers b d d' k).label (is_full d') t in
    same_refusal (λ full. label_refused s full t) label.HistoryFull (label_either (find_waiter t s.waiters)) b (is_full d) (is_full d') (full_too b d d' k)
    (λ e. n.0 (label_full d t text (label_refusal d t) e)) (λ q e. n.1 q (label_full d' t text (label_refusal d' t) (sym there ∙ e))) ∙ there

label_by : (b : Bool) (d d' : DeskView) (jobs : List HandedOut) (t : ℕ) (text : List ℕ) → IsTrue (is_label text) → Stands d jobs → AlikeDesks b d d' → (o : Option LabelError) → label_refusal d t ≡ o
    → AlikeSteps b (label_ticket_step d t text o) (label_ticket_step d' t text o)
label_by b d d' jobs t text h st k (Some x) e = record { desks = k; text = refl }
label_by b d d' jobs t text h st k None e =
    let what = Labelled t text in
    record { desks = alike_event b d d' what (allowed_by d jobs what (labelled_stands d jobs t text h None e st)) k; text = refl }

pub label_alike : (b : Bool) (d d' : DeskView) (jobs : List HandedOut) (t : ℕ) (text : List ℕ) → IsTrue (is_label text) → Stands d jobs → AlikeDesks b d d'
    → NotFull b (label_ticket_step d t text (label_refusal d t)).1 (label_ticket_step d' t text (label_refusal d' t)).1
    → AlikeSteps b (label_ticket_step d t text (label_refusal d t)) (label_ticket_step d' t text (label_refusal d' t))
label_alike b d d' jobs t text h st k n =
    subst (λ (o : Option LabelError). AlikeSteps b (label_ticket_step d t text (label_refusal d t)) (label_ticket_step d' t text o)) (label_same b d d' t text k n)
    (label_by b d d' jobs t text h st k (label_refusal d t) refl)

-- ---- finish
abbrev tested : Bool → Bool → Bool → Bool → Bool → Option FinishError
tested new current blocks full over =
    cond new (Some finish.NotEvaluated) (cond (not current) (Some finish.Stale) (cond blocks (Some finish.Blocks)
    (cond full (Some finish.HistoryFull) (cond over (Some finish.CellsFull) None))))

tests_either : (new current blocks over : Bool) → (tested new current blocks true over ≡ tested new current blocks false over) ⊎ (tested new current blocks true over ≡ Some finish.HistoryFull)
tests_either true current blocks over = inl refl
tests_either false false blocks over = inl refl
tests_either false true true over = inl refl
tests_either false true false over = inr refl

finish_either : (store : List Cell) (o : Option Waiter) → (finish_first store true o ≡ finish_first store false o) ⊎ (finish_first store true o ≡ Some finish.HistoryFull)
finish_either store None = inl refl
finish_either store (Some w) = tests_either (is_new w) (is_current w) (blocks_there (verdict_on store w.block)) (overflows store (verdict_on store w.block))

finish_full : (d : DeskView) (t : ℕ) (o : Option FinishError) → o ≡ Some finish.HistoryFull → SaysFull (finish_ticket_step d t o).1
finish_full d t o e = inl (ap (λ (x : Option FinishError). (finish_ticket_step d t x).1) e)

finish_same : (b : Bool) (d d' : DeskView) (t : ℕ) → AlikeDesks b d d' → NotFull b (finish_ticket_step d t (finish_refusal d t)).1 (finish_ticket_step d' t (finish_refusal d' t)).1 → finish_refusal d t ≡ finish_refusal d' t
finish_same b d d' t k n =
    let s = state_of d in
    let there : finish_refused s (is_full d') t ≡ finish_refusal d' t = (same_answers b d d' k).finish (is_full d') t in
    same_refusal (λ full. finish_refused s full t) finish.HistoryFull (finish_either s.store (find_waiter t s.waiters)) b (is_full d) (is_full d') (full_too b d d' k)
    (λ e. n.0 (finish_full d t (finish_refusal d t) e)) (λ q e. n.1 q (finish_full d' t (finish_refusal d' t) (sym there ∙ e))) ∙ there

verdict_alike : (b : Bool) (d d' : DeskView) (jobs : List HandedOut) (t : ℕ) (o : Option Verdict) → Stands (finish_verdict_step d t o).0 jobs → AlikeDesks b d d' → AlikeSteps b (finish_verdict_step d t o) (finish_verdict_step d' t o)
verdict_alike b d d' jobs t None st k = record { desks = k; text = refl }
verdict_alike b d d' jobs t (Some v) st k =
    let s = state_of d in
    let s' = state_of d' in
    let n : length s.store ≡ length s'.store = ap length (same_store b d d' k) in
    let rest : stale_after (changed_by s.store v) (without_waiter t s.waiters) ≡ stale_after (changed_by s'.store v) (without_waiter t s'.waiters) =
    same_stales (changed_by s.store v) (without_waiter t s.waiters) (without_waiter t s'.waiters) (alike_without t s.waiters s'.waiters (same_waiters b d d' k))
    (had_without t s.waiters k.possible.evaluated) (had_without t s'.waiters k.possible_too.evaluated)
    ∙ ap (λ (c : List Cell). stale_after (changed_by c v) (without_waiter t s'.waiters)) (same_store b d d' k) in
    let what : What = Finished t v (length s.store) (stale_after (changed_by s.store v) (without_waiter t s.waiters)) in
    let same : what ≡ Finished t v (length s'.store) (stale_after (changed_by s'.store v) (without_waiter t s'.waiters)) = λ i. Finished t v (n i) (rest i) in
    record {
      desks = subst (λ (w : What). AlikeDesks b (with_event d 0 what) (with_event d' 0 w)) same (alike_event b d d' what (allowed_by d jobs what st) k);
      text = λ i. finished_line t (n i) v (rest i);
    }

found_alike : (b : Bool) (d d' : DeskView) (jobs : List HandedOut) (t : ℕ) (o o' : Option Waiter) → MayBeAlike o o' → Stands (finish_waiter_step d t o).0 jobs → AlikeDesks b d d'
    → AlikeSteps b (finish_waiter_step d t o) (finish_waiter_step d' t o')
found_alike b d d' jobs t None None m st k = record { desks = k; text = refl }
found_alike b d d' jobs t None (Some w') m st k = absurd m
found_alike b d d' jobs t (Some w) None m st k = absurd m
found_alike b d d' jobs t (Some w) (Some w') m st k =
    let v : verdict_on (state_of d).store w.block ≡ verdict_on (state_of d').store w'.block =
    same_verdict (state_of d).store w w' m ∙ ap (λ (c : List Cell). verdict_on c w'.block) (same_store b d d' k) in
    subst (λ (o : Option Verdict). AlikeSteps b (finish_verdict_step d t (verdict_on (state_of d).store w.block)) (finish_verdict_step d' t o)) v
    (verdict_alike b d d' jobs t (verdict_on (state_of d).store w.block) st k)

finish_by : (b : Bool) (d d' : DeskView) (jobs : List HandedOut) (t : ℕ) → Stands d jobs → AlikeDesks b d d' → (o : Option FinishError) → finish_refusal d t ≡ o → AlikeSteps b (finish_ticket_step d t o) (finish_ticket_step d' t o)
finish_by b d d' jobs t st k (Some x) e = record { desks = k; text = refl }
finish_by b d d' jobs t st k None e =
    found_alike b d d' jobs t (find_waiter t (state_of d).waiters) (find_waiter t (state_of d').waiters) (same_found b d d' t k) (finished_stands d jobs t None e st) k

pub finish_alike : (b : Bool) (d d' : DeskView) (jobs : List HandedOut) (t : ℕ) → Stands d jobs → AlikeDesks b d d' → NotFull b (finish_ticket_step d t (finish_refusal d t)).1 (finish_ticket_step d' t (finish_refusal d' t)).1
    → AlikeSteps b (finish_ticket_step d t (finish_refusal d t)) (finish_ticket_step d' t (finish_refusal d' t))
finish_alike b d d' jobs t st k n =
    subst (λ (o : Option FinishError). AlikeSteps b (finish_ticket_step d t (finish_refusal d t)) (finish_ticket_step d' t o)) (finish_same b d d' t k n)
    (finish_by b d d' jobs t st k (finish_refusal d t) refl)

-- ---- handback
back_by : (c : Bool) (b : Bool) (d d' : DeskView) (t : ℕ) → AlikeDesks b d d'
    → AlikeSteps b (cond {A = DeskView × List ℕ} c (handed_back d t, queued_line t) (d, refused (codes "NotOut"))) (cond {A = DeskView × List ℕ} c (handed_back d' t, queued_line t) (d', refused (codes "NotOut")))
back_by true b d d' t k = record { desks = alike_pending b d d' (marked t false d.pending) (marked t false d'.pending) (ap (marked t false) k.pending) k; text = refl }
back_by false b d d' t k = record { desks = k; text = refl }

pub handback_alike : (b : Bool) (d d' : DeskView) (t : ℕ) → AlikeDesks b d d' → AlikeSteps b (handback_ticket_step d t) (handback_ticket_step d' t)
handback_alike b d d' t k =
    subst (λ (c : Bool). AlikeSteps b (handback_ticket_step d t) (cond {A = DeskView × List ℕ} c (handed_back d' t, queued_line t) (d', refused (codes "NotOut")))) (ap (is_out t) k.pending)
    (back_by (is_out t d.pending) b d d' t k)

-- ---- deliver
abbrev read_refusal : List Cell → Option Waiter → List (ℕ × Value) → Bool → Option DeliverError
read_refusal store None reads full = Some deliver.Gone
read_refusal store (Some w) reads full = install_first store full w reads

first_is : (store : List Cell) (o : Option Waiter) (reads : List (ℕ × Value)) (d : DeskView) → delivery_first store o reads d ≡ read_refusal store o reads (is_full d)
first_is store None reads d = refl
first_is store (Some w) reads d = refl

abbrev told_refusal : Option (Block × Option DeliverError) → Option DeliverError
told_refusal None = Some deliver.Gone
told_refusal (Some p) = p.1

told_is : (store : List Cell) (o : Option Waiter) (reads : List (ℕ × Value)) (full : Bool) → read_refusal store o reads full ≡ told_refusal (option_map (install_answer store full reads) o)
told_is store None reads full = refl
told_is store (Some w) reads full = refl

install_either : (current : Bool) (o : Option ℕ)
    → (cond current (Some deliver.Already) (overtaken_first o true) ≡ cond current (Some deliver.Already) (overtaken_first o false)) ⊎ (cond current (Some deliver.Already) (overtaken_first o true) ≡ Some deliver.HistoryFull)
install_either true o = inl refl
install_either false (Some i) = inl refl
install_either false None = inr refl

deliver_either : (store : List Cell) (o : Option Waiter) (reads : List (ℕ × Value)) → (read_refusal store o reads true ≡ read_refusal store o reads false) ⊎ (read_refusal store o reads true ≡ Some deliver.HistoryFull)
deliver_either store None reads = inl refl
deliver_either store (Some w) reads = install_either (is_current w) (differing (under store) reads)

refusal_same : (b : Bool) (d d' : DeskView) (j : HandedOut) → AlikeDesks b d d' → (delivery_refusal d j ≡ Some deliver.HistoryFull → ⊥) → (b ≡ false → delivery_refusal d' j ≡ Some deliver.HistoryFull → ⊥)
    → delivery_refusal d j ≡ delivery_refusal d' j
refusal_same b d d' j k n m =
    let s = state_of d in
    let s' = state_of d' in
    let t = j.ticket in
    let reads = reads_of (cell_value j.store) j.block.tree in
    let o = find_waiter t s.waiters in
    let o' = find_waiter t s'.waiters in
    let there : read_refusal s.store o reads (is_full d') ≡ delivery_refusal d' j =
    told_is s.store o reads (is_full d') ∙ ap told_refusal ((same_answers b d d' k).deliver (is_full d') t reads) ∙ sym (told_is s'.store o' reads (is_full d')) ∙ sym (first_is s'.store o' reads d') in
    first_is s.store o reads d
    ∙ same_refusal (read_refusal s.store o reads) deliver.HistoryFull (deliver_either s.store o reads) b (is_full d) (is_full d') (full_too b d d' k)
    (λ e. n (first_is s.store o reads d ∙ e)) (λ q e. m q (sym there ∙ e)) ∙ there

installed_alike : (b : Bool) (d d' : DeskView) (jobs : List HandedOut) (t : ℕ) (o : Option Verdict) → Stands (installed d t o) jobs → AlikeDesks b d d' → AlikeDesks b (installed d t o) (installed d' t o)
installed_alike b d d' jobs t None st k = k
installed_alike b d d' jobs t (Some v) st k = alike_event b d d' (Installed t v) (allowed_by d jobs (Installed t v) st) k

left_alike : (b : Bool) (d d' : DeskView) (e : DeliverError) (t : ℕ) → AlikeDesks b d d' → AlikeDesks b (requeued_if_overtaken e t d) (requeued_if_overtaken e t d')
left_alike b d d' e t k = alike_pending b d d' (pending_left e t d.pending) (pending_left e t d'.pending) (ap (pending_left e t) k.pending) k

back_alike : (b : Bool) (d d' : DeskView) (t : ℕ) → AlikeDesks b d d' → AlikeDesks b (handed_back d t) (handed_back d' t)
back_alike b d d' t k = alike_pending b d d' (marked t false d.pending) (marked t false d'.pending) (ap (marked t false) k.pending) k

deliver_by : (b : Bool) (d d' : DeskView) (jobs : List HandedOut) (j : HandedOut) (o : Option DeliverError) → Stands (delivery_step d j o).0 jobs → AlikeDesks b d d' → AlikeSteps b (delivery_step d j o) (delivery_step d' j o)
deliver_by b d d' jobs j (Some e) st k = record { desks = left_alike b d d' e j.ticket k; text = refl }
deliver_by b d d' jobs j None st k = record { desks = installed_alike b d d' jobs j.ticket (verdict (cell_value j.store) j.block.tree) st k; text = refl }

deliver_full : (d : DeskView) (j : HandedOut) (o : Option DeliverError) → o ≡ Some deliver.HistoryFull → SaysFull (delivery_step d j o).1
deliver_full d j o e = inl (ap (λ (x : Option DeliverError). (delivery_step d j x).1) e)

pub deliver_alike : (b : Bool) (d d' : DeskView) (jobs : List HandedOut) (o : Option HandedOut) → Stands (deliver_job_step d o).0 jobs → AlikeDesks b d d' → NotFull b (deliver_job_step d o).1 (deliver_job_step d' o).1
    → AlikeSteps b (deliver_job_step d o) (deliver_job_step d' o)
deliver_alike b d d' jobs None st k n = record { desks = k; text = refl }
deliver_alike b d d' jobs (Some j) st k n =
    subst (λ (o : Option DeliverError). AlikeSteps b (delivery_step d j (delivery_refusal d j)) (delivery_step d' j o))
    (refusal_same b d d' j k (λ e. n.0 (deliver_full d j (delivery_refusal d j) e)) (λ q e. n.1 q (deliver_full d' j (delivery_refusal d' j) e)))
    (deliver_by b d d' jobs j (delivery_refusal d j) st k)

-- ---- eval
record AlikeSoFar (b : Bool) (d d' : DeliveredSoFar) : Type 0 where
  pub desks : AlikeDesks b d.desk d'.desk
  pub count : d.count ≡ d'.count
  pub stop : d.stop ≡ d'.stop

next_stop : (d : DeliveredSoFar) (j : HandedOut) (e : DeliverError) (o : Option DeliverError) → o ≡ Some e → d.stop ≡ Some e → (delivered_next d j o).stop ≡ Some e
next_stop d j e None q h = absurd (cc q)
next_stop d j e (Some x) q h = h

stop_stays : (js : List HandedOut) (d : DeliveredSoFar) (e : DeliverError) → d.stop ≡ Some e → (delivered_all d js).stop ≡ Some e
stop_stays [] d e h = h
stop_stays (j ∷ js) d e h = stop_stays js (delivered_next d j d.stop) e (next_stop d j e d.stop h h)

by_stop : (d : DeliveredSoFar) (j : HandedOut) (o : Option DeliverError) → (delivered_by d j o).stop ≡ o
by_stop d j None = refl
by_stop d j (Some e) = refl

by_alike : (b : Bool) (d d' : DeliveredSoFar) (j : HandedOut) (rest : List HandedOut) (o : Option DeliverError) → Stands (delivered_by d j o).desk rest → AlikeSoFar b d d' → AlikeSoFar b (delivered_by d j o) (delivered_by d' j o)
by_alike b d d' j rest None st k =
    record { desks = installed_alike b d.desk d'.desk rest j.ticket (verdict (cell_value j.store) j.block.tree) st k.desks; count = ap (λ (n : ℕ). n + 1) k.count; stop = refl }
by_alike b d d' j rest (Some e) st k =
    record { desks = back_alike b (requeued_if_overtaken e j.ticket d.desk) (requeued_if_overtaken e j.ticket d'.desk) j.ticket (left_alike b d.desk d'.desk e j.ticket k.desks); count = k.count; stop = refl }

-- it never stops for want of room
abbrev NeverFull : DeliveredSoFar → Type 0
NeverFull d = d.stop ≡ Some deliver.HistoryFull → ⊥

next_alike : (b : Bool) (d d' : DeliveredSoFar) (j : HandedOut) (rest js : List HandedOut) (o : Option DeliverError) → Stands (delivered_next d j o).desk rest → AlikeSoFar b d d'
    → NeverFull (delivered_all (delivered_next d j o) js) → (b ≡ false → NeverFull (delivered_all (delivered_next d' j o) js)) → AlikeSoFar b (delivered_next d j o) (delivered_next d' j o)
next_alike b d d' j rest js (Some e) st k n m = record { desks = back_alike b d.desk d'.desk j.ticket k.desks; count = k.count; stop = k.stop }
next_alike b d d' j rest js None st k n m =
    let r = delivery_refusal d.desk j in
    let same : r ≡ delivery_refusal d'.desk j =
    refusal_same b d.desk d'.desk j k.desks
    (λ e. n (stop_stays js (delivered_by d j r) deliver.HistoryFull (by_stop d j r ∙ e)))
    (λ q e. m q (stop_stays js (delivered_by d' j (delivery_refusal d'.desk j)) deliver.HistoryFull (by_stop d' j (delivery_refusal d'.desk j) ∙ e))) in
    subst (λ (o : Option DeliverError). AlikeSoFar b (delivered_by d j r) (delivered_by d' j o)) same (by_alike b d d' j rest r st k)

module _ (stable : VerdictIsStable) where
  all_alike : (b : Bool) (js kept : List HandedOut) (d d' : DeliveredSoFar) → Stands d.desk (js ++ kept) → AlikeSoFar b d d' → NeverFull (delivered_all d js) → (b ≡ false → NeverFull (delivered_all d' js))
      → AlikeSoFar b (delivered_all d js) (delivered_all d' js)
  all_alike b [] kept d d' st k n m = k
  all_alike b (j ∷ js) kept d d' st k n m =
      let st' = next_stands stable d j (js ++ kept) d.stop st in
      let next : AlikeSoFar b (delivered_next d j d.stop) (delivered_next d' j d'.stop) =
      subst (λ (o : Option DeliverError). AlikeSoFar b (delivered_next d j d.stop) (delivered_next d' j o)) k.stop
      (next_alike b d d' j (js ++ kept) js d.stop st' k n (λ q e. m q (subst (λ (o : Option DeliverError). (delivered_all (delivered_next d' j o) js).stop ≡ Some deliver.HistoryFull) k.stop e))) in
      all_alike b js kept (delivered_next d j d.stop) (delivered_next d' j d'.stop) st' next n m

  pub eval_alike : (b : Bool) (d d' : DeskView) (jobs : List HandedOut) → Stands d jobs → AlikeDesks b d d' → NotFull b (eval_desk_step d).1 (eval_desk_step d').1 → AlikeSteps b (eval_desk_step d) (eval_desk_step d')
  eval_alike b d d' jobs st k n =
      let begin : DeskView → List ℕ → DeliveredSoFar = λ x ts. record { desk = record x { pending = sent (length ts) x.pending }; count = 0; stop = None } in
      let ts = all_queued d in
      let js = jobs_of (state_of d) ts in
      let tickets : ts ≡ all_queued d' = ap (λ (es : List Entry). take max_waiting (queued es)) k.pending in
      let work : js ≡ jobs_of (state_of d') (all_queued d') = jobs_alike b d d' ts k ∙ ap (jobs_of (state_of d')) tickets in
      let there : delivered_all (begin d' ts) js ≡ evaluated d' = ap₂ (λ (x : List ℕ) (y : List HandedOut). delivered_all (begin d' x) y) tickets work in
      let first : AlikeSoFar b (begin d ts) (begin d' ts) =
      record { desks = alike_pending b d d' (sent (length ts) d.pending) (sent (length ts) d'.pending) (ap (sent (length ts)) k.pending) k; count = refl; stop = refl } in
      let done : AlikeSoFar b (evaluated d) (evaluated d') =
      subst (AlikeSoFar b (evaluated d)) there
      (all_alike b js jobs (begin d ts) (begin d' ts) (queued_stand d jobs st) first
      (λ e. n.0 (inl (ap (evaluation_text (evaluated d).count) e)))
      (λ q e. n.1 q (inl (ap (evaluation_text (evaluated d').count) (ap (λ x. x.stop) (sym there) ∙ e))))) in
      record { desks = done.desks; text = ap₂ evaluation_text done.count done.stop }

-- ---- settle and drain
some_left : (o : Option What) → (cond (is_some o) (Some NoRoom) None ≡ Some NoRoom → ⊥) → o ≡ None
some_left None h = refl
some_left (Some w) h = absurd (h refl)

record SameRun (next : Order) (s : Slow) (room room' : ℕ) : Type 0 where
  pub whats : running next room s ≡ running next room' s
  pub stop : run_stop next room s ≡ run_stop next room' s

none_runs : (next : Order) (room : ℕ) (s : Slow) → next s ≡ None → SameRun next s zero room
none_runs next zero s e = record { whats = refl; stop = refl }
none_runs next (suc room) s e = record {
  whats = ap (settle_on (running next room) s) (sym e);
  stop = ap (λ (o : Option What). cond {A = Option Stop} (is_some o) (Some NoRoom) None) e ∙ ap (stop_on (run_stop next room) s) (sym e);
}

-- what a run does after an event, if the store has room for it
abbrev AfterIt : Order → Bool → Slow → ℕ → What → List What
AfterIt next c s room what = cond {A = List What} c (what ∷ running next room (after s what)) []

abbrev StopAfterIt : Order → Bool → Slow → ℕ → What → Option Stop
StopAfterIt next c s room what = cond {A = Option Stop} c (run_stop next room (after s what)) (Some NoCells)

-- neither stops for want of room
abbrev NeverStops : Bool → Option Stop → Option Stop → Type 0
NeverStops b o o' = (o ≡ Some NoRoom → ⊥) × (b ≡ false → o' ≡ Some NoRoom → ⊥)

after_same : (next : Order) (b : Bool) (s : Slow) (room room' : ℕ) (what : What) (c : Bool) → (NeverStops b (run_stop next room (after s what)) (run_stop next room' (after s what)) → SameRun next (after s what) room room')
    → NeverStops b (StopAfterIt next c s room what) (StopAfterIt next c s room' what) → (AfterIt next c s room what ≡ AfterIt next c s room' what) × (StopAfterIt next c s room what ≡ StopAfterIt next c s room' what)
after_same next b s room room' what true more n = let x = more n in (ap (λ (xs : List What). what ∷ xs) x.whats, x.stop)
after_same next b s room room' what false more n = (refl, refl)

next_same : (next : Order) (b : Bool) (s : Slow) (room room' : ℕ) (o : Option What) → ((what : What) → NeverStops b (run_stop next room (after s what)) (run_stop next room' (after s what)) → SameRun next (after s what) room room')
    → NeverStops b (stop_on (run_stop next room) s o) (stop_on (run_stop next room') s o)
    → (settle_on (running next room) s o ≡ settle_on (running next room') s o) × (stop_on (run_stop next room) s o ≡ stop_on (run_stop next room') s o)
next_same next b s room room' None more n = (refl, refl)
next_same next b s room room' (Some what) more n = after_same next b s room room' what (has_cells s what) (more what) n

lower_room : (b : Bool) (room room' : ℕ) → (b ≡ true → suc room ≤ suc room') → b ≡ true → room ≤ room'
lower_room b room room' l e = let low : suc room ≤ suc room' = l e in omega (arith, low)

run_same : (next : Order) (b : Bool) (room room' : ℕ) (s : Slow) → (b ≡ true → room ≤ room') → NeverStops b (run_stop next room s) (run_stop next room' s) → SameRun next s room room'
run_same next b zero room' s l n = none_runs next room' s (some_left (next s) n.0)
run_same next true (suc room) zero s l n = let low : suc room ≤ zero = l refl in absurd (omega (arith, low))
run_same next false (suc room) zero s l n =
    let e = none_runs next (suc room) s (some_left (next s) (n.1 refl)) in
    record { whats = sym e.whats; stop = sym e.stop }
run_same next b (suc room) (suc room') s l n =
    let p = next_same next b s room room' (next s) (λ what. run_same next b room room' (after s what) (lower_room b room room' l)) n in
    record { whats = p.0; stop = p.1 }

-- each of these may happen in its turn
abbrev MayHappenFrom : Slow → List What → Type 0
MayHappenFrom s [] = Unit {0}
MayHappenFrom s (x ∷ xs) = MayHappen s x × MayHappenFrom (after s x) xs

after_legal : (next : Order) (s : Slow) (room : ℕ) (what : What) (c : Bool) → has_cells s what ≡ c → IsAllowed s (Some what) → (Allows s what → MayHappenFrom (after s what) (running next room (after s what)))
    → MayHappenFrom s (AfterIt next c s room what)
after_legal next s room what true e a more = (a e, more (a e).0)
after_legal next s room what false e a more = tt

next_legal : (next : Order) (s : Slow) (room : ℕ) (o : Option What) → IsAllowed s o → ((what : What) → Allows s what → MayHappenFrom (after s what) (running next room (after s what)))
    → MayHappenFrom s (settle_on (running next room) s o)
next_legal next s room None a more = tt
next_legal next s room (Some what) a more = after_legal next s room what (has_cells s what) refl a (more what)

run_legal : (next : Order) → IsLawful next → (room : ℕ) (s : Slow) → IsPossible s → MayHappenFrom s (running next room s)
run_legal next lawful zero s p = tt
run_legal next lawful (suc room) s p = next_legal next s room (next s) (lawful s p.rising) (λ what a. run_legal next lawful room (after s what) (possible_after s what p a))

whats_alike : (b : Bool) (xs : List What) (d d' : DeskView) → MayHappenFrom (state_of d) xs → AlikeDesks b d d' → AlikeDesks b (with_whats d 0 xs) (with_whats d' 0 xs)
whats_alike b [] d d' l k = k
whats_alike b (x ∷ xs) d d' l k =
    whats_alike b xs (with_event d 0 x) (with_event d' 0 x)
    (subst (λ (s : Slow). MayHappenFrom s xs) (sym (state_later (start_state d) d.history (event 0 x))) l.1) (alike_event b d d' x l.0 k)

fewer_room : (l m n : ℕ) → m ≤ n → l - n ≤ l - m
fewer_room l m n h = omega arith

run_full : (line : ℕ → ℕ → List ℕ) (whats : List What) (o : Option Stop) → o ≡ Some NoRoom → SaysFull (run_text line whats o)
run_full line whats o e = inr (line (finishes whats) (installs whats), ap (run_text line whats) e)

-- an order of work that does the same on two states that look alike
pub record IsAlikeOrder (next : Order) : Type 0 where
  pub lawful : IsLawful next
  pub whats : (s s' : Slow) → AnswersAlike s s' → (room : ℕ) → running next room s ≡ running next room s'
  pub stops : (s s' : Slow) → AnswersAlike s s' → (room : ℕ) → run_stop next room s ≡ run_stop next room s'

pub settle_order : IsAlikeOrder next_what
settle_order = record { lawful = next_allowed; whats = λ s s' a. a.settling; stops = λ s s' a. a.stop }

pub drain_order : IsAlikeOrder next_drain
drain_order = record { lawful = drain_allowed; whats = λ s s' a. a.draining; stops = λ s s' a. a.drain_stop }

pub run_alike : (next : Order) → IsAlikeOrder next → (line : ℕ → ℕ → List ℕ) (b : Bool) (d d' : DeskView) → AlikeDesks b d d' → NotFull b (run_desk_step next line d).1 (run_desk_step next line d').1
    → AlikeSteps b (run_desk_step next line d) (run_desk_step next line d')
run_alike next order line b d d' k n =
    let s = state_of d in
    let s' = state_of d' in
    let room = d.limit - length d.history in
    let room' = d'.limit - length d'.history in
    let answers = same_answers b d d' k in
    let low : b ≡ true → room ≤ room' = λ e. subst (λ (l : ℕ). room ≤ l - length d'.history) k.limit (fewer_room d.limit (length d'.history) (length d.history) (k.fewer e)) in
    let same : SameRun next s room room' =
    run_same next b room room' s low (λ e. n.0 (run_full line (slow_run next d) (slow_run_stop next d) e), λ q e. n.1 q (run_full line (slow_run next d') (slow_run_stop next d') (sym (order.stops s s' answers room') ∙ e))) in
    let whats : slow_run next d ≡ slow_run next d' = same.whats ∙ order.whats s s' answers room' in
    let stop : slow_run_stop next d ≡ slow_run_stop next d' = same.stop ∙ order.stops s s' answers room' in
    record {
      desks = subst (λ (xs : List What). AlikeDesks b (with_whats d 0 (slow_run next d)) (with_whats d' 0 xs)) whats (whats_alike b (slow_run next d) d d' (run_legal next order.lawful room s k.possible) k);
      text = ap₂ (run_text line) whats stop;
    }

-- ---- atomically
rule_is : (d : DeskView) → (state_of d).rule ≡ Changed
rule_is d = state-rule (start_state d) d.history ∙ start_rule d.table d.checkpoint

-- the same is done on states that look alike
runs_alike : (s s' : Slow) (block : Block) (v : Verdict) (c : Bool) → IsPossible s → IsPossible s' → AreAlike s.waiters s'.waiters → s.store ≡ s'.store → s.next ≡ s'.next → s.rule ≡ s'.rule
    → verdict_on s.store block ≡ Some v → verdict_on s'.store block ≡ Some v → is_blocks v ≡ c → atomically s block ≡ atomically s' block
runs_alike s s' block v true p p' alike store next rule e e' q =
    whats_waiting s block v p e q ∙ ap (λ (t : ℕ). Submitted t block ∷ Installed t v ∷ []) next ∙ sym (whats_waiting s' block v p' e' q)
runs_alike s s' block v false p p' alike store next rule e e' q =
    let stale = stale_after (waking s.rule s.store v) s.waiters in
    let stale' = stale_after (waking s'.rule s'.store v) s'.waiters in
    let rest : stale ≡ stale' =
    same_stales (waking s.rule s.store v) s.waiters s'.waiters alike p.evaluated p'.evaluated
    ∙ ap (λ (r : StalenessRule). stale_after (waking r s.store v) s'.waiters) rule
    ∙ ap (λ (c : List Cell). stale_after (waking s'.rule c v) s'.waiters) store in
    whats_ending s block v p stale e q refl
    ∙ ap (λ (t : ℕ). Submitted t block ∷ Installed t v ∷ Finished t v (length s.store) stale ∷ []) next
    ∙ ap (λ (n : ℕ). Submitted s'.next block ∷ Installed s'.next v ∷ Finished s'.next v n stale ∷ []) (ap length store)
    ∙ ap (λ (l : List ℕ). Submitted s'.next block ∷ Installed s'.next v ∷ Finished s'.next v (length s'.store) l ∷ []) rest
    ∙ sym (whats_ending s' block v p' stale' e' q refl)

runs_same : (b : Bool) (d d' : DeskView) (block : Block) (o : Option Verdict) → AlikeDesks b d d' → verdict_on (state_of d).store block ≡ o → verdict_on (state_of d').store block ≡ o → atomically (state_of d) block ≡ atomically (state_of d') block
runs_same b d d' block None k e e' =
    let s = state_of d in
    let s' = state_of d' in
    ap (λ (o : Option Verdict). Submitted s.next block ∷ install_at_once (after s (Submitted s.next block)) s.next o) e
    ∙ ap (λ (t : ℕ). Submitted t block ∷ []) (same_next b d d' k)
    ∙ sym (ap (λ (o : Option Verdict). Submitted s'.next block ∷ install_at_once (after s' (Submitted s'.next block)) s'.next o) e')
runs_same b d d' block (Some v) k e e' =
    runs_alike (state_of d) (state_of d') block v (is_blocks v) k.possible k.possible_too (same_waiters b d d' k) (same_store b d d' k) (same_next b d d' k) (rule_is d ∙ sym (rule_is d')) e e' refl

run_same_whats : (b : Bool) (d d' : DeskView) (block : Block) → AlikeDesks b d d' → atomically (state_of d) block ≡ atomically (state_of d') block
run_same_whats b d d' block k =
    runs_same b d d' block (verdict_on (state_of d).store block) k refl (ap (λ (c : List Cell). verdict_on c block) (sym (same_store b d d' k)))

atomic_either : (m : Option ℕ) (many crowded : Bool) → (atomic_first m many true crowded ≡ atomic_first m many false crowded) ⊎ (atomic_first m many true crowded ≡ Some atomic.HistoryFull)
atomic_either (Some i) many crowded = inl refl
atomic_either None true crowded = inl refl
atomic_either None false crowded = inr refl

atomic_full : (d : DeskView) (block : Block) (o : Option AtomicError) → o ≡ Some atomic.HistoryFull → SaysFull (atomically_block_step d block o).1
atomic_full d block o e = inl (ap (λ (x : Option AtomicError). (atomically_block_step d block x).1) e)

fewer_lack : (limit m n k : ℕ) → m ≤ n → nat_lt limit (m + k) ≡ true → nat_lt limit (n + k) ≡ true
fewer_lack limit m n k l e = grind (arith, nat_tests)

lacks_too : (b : Bool) (d d' : DeskView) (n : ℕ) → AlikeDesks b d d' → b ≡ true → lacks_room d' n ≡ true → lacks_room d n ≡ true
lacks_too b d d' n k e f =
    fewer_lack d.limit (length d'.history) (length d.history) n (k.fewer e) (ap (λ (l : ℕ). nat_lt l (length d'.history + n)) k.limit ∙ f)

atomic_same : (b : Bool) (d d' : DeskView) (block : Block) → AlikeDesks b d d' → NotFull b (atomically_block_step d block (atomic_refusal d block)).1 (atomically_block_step d' block (atomic_refusal d' block)).1
    → atomic_refusal d block ≡ atomic_refusal d' block
atomic_same b d d' block k n =
    let s = state_of d in
    let s' = state_of d' in
    let many = nat_le max_waiting (length s.waiters) in
    let crowded = overflows s.store (verdict_on s.store block) in
    let needed = events_needed (verdict_on s.store block) in
    let first : Bool → Option AtomicError = λ full. atomic_first (missing (plains s.store) block.uses) many full crowded in
    let there : first (lacks_room d' needed) ≡ atomic_refusal d' block =
    ap₂ (λ (c : List Cell) (w : ℕ). atomic_first (missing (plains c) block.uses) (nat_le max_waiting w) (lacks_room d' (events_needed (verdict_on c block))) (overflows c (verdict_on c block))) (same_store b d d' k) (same_answers b d d' k).waiting in
    same_refusal first atomic.HistoryFull (atomic_either (missing (plains s.store) block.uses) many crowded) b (lacks_room d needed) (lacks_room d' needed) (lacks_too b d d' needed k)
    (λ e. n.0 (atomic_full d block (atomic_refusal d block) e)) (λ q e. n.1 q (atomic_full d' block (atomic_refusal d' block) (sym there ∙ e))) ∙ there

each_may_happen : (s : Slow) (xs : List What) → AllowsEach s xs → EachTyped xs → MayHappenFrom s xs
each_may_happen s [] a w = tt
each_may_happen s (x ∷ xs) a w = ((a.0, w.0), each_may_happen (after s x) xs a.1 w.1)

atomic_by : (b : Bool) (d d' : DeskView) (jobs : List HandedOut) (block : Block) → IsWellTyped block → Stands d jobs → AlikeDesks b d d' → (o : Option AtomicError) → atomic_refusal d block ≡ o
    → AlikeSteps b (atomically_block_step d block o) (atomically_block_step d' block o)
atomic_by b d d' jobs block w st k (Some x) e = record { desks = k; text = refl }
atomic_by b d d' jobs block w st k None e =
    let xs = atomically (state_of d) block in
    let same = run_same_whats b d d' block k in
    record {
      desks = subst (λ (ys : List What). AlikeDesks b (with_whats d 0 xs) (with_whats d' 0 ys)) same (whats_alike b xs d d' (each_may_happen (state_of d) xs (run_allowed d jobs block e st) (run_typed (state_of d) block w)) k);
      text = ap ran_text same;
    }

pub atomically_alike : (b : Bool) (d d' : DeskView) (jobs : List HandedOut) (r : Result Block Refusal) → BlockOrTold (state_of d).names r → Stands d jobs → AlikeDesks b d d'
    → NotFull b (atomically_text_step d r).1 (atomically_text_step d' r).1 → AlikeSteps b (atomically_text_step d r) (atomically_text_step d' r)
atomically_alike b d d' jobs (Err x) h st k n = record { desks = k; text = refl }
atomically_alike b d d' jobs (Ok block) h st k n =
    subst (λ (o : Option AtomicError). AlikeSteps b (atomically_block_step d block (atomic_refusal d block)) (atomically_block_step d' block o)) (atomic_same b d d' block k n)
    (atomic_by b d d' jobs block h.0 st k (atomic_refusal d block) refl)
