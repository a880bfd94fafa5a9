-- What the calls of a command did is its step.
use Rattle.std.proofs.Common.{◌≡◌, ◌≢◌, ℕ, ◌+◌, Bool, false, cond, List, ◌∷◌, ◌++◌, length, Option, Some, None, Result, Ok, Err, OnOk, refl, sym, ap, ap₂, subst, ◌∙◌, append_assoc}
use Rattle.std.specs.Prelude.{codes, nat_lt}
use Rattle.stm_check.specs.TypedBlock.{Block}
use Rattle.stm_terms.specs.UnlessNoMemory.{RefusedAs}
use Rattle.stm_store.specs.Cells.{changed_by}
use Rattle.stm_store.specs.Tables.{Declared}
use Rattle.stm_queue.specs.Queue.{Entry, is_out}
use Rattle.stm_machine.specs.JobsHandedOut.{sent}
use Rattle.stm_events.specs.declared.errors.DeliverError.{DeliverError}
use Rattle.stm_events.specs.declared.errors.SubmitError.{SubmitError}
use Rattle.stm_events.specs.declared.errors.SubmitError.TheVariants as submit
use Rattle.stm_events.specs.declared.errors.LateDeclareError.{LateDeclareError}
use Rattle.stm_events.specs.declared.errors.LateDeclareError.TheVariants as late
use Rattle.stm_events.specs.declared.errors.CancelError.{CancelError}
use Rattle.stm_events.specs.declared.errors.CancelError.TheVariants as cancel
use Rattle.stm_events.specs.declared.errors.LabelError.{LabelError}
use Rattle.stm_events.specs.declared.errors.LabelError.TheVariants as label
use Rattle.stm_events.specs.declared.errors.FinishError.{FinishError}
use Rattle.stm_events.specs.declared.errors.FinishError.TheVariants as finish
use Rattle.stm_events.specs.declared.event.What.TheVariants.{Submitted, Finished, Cancelled, Declared as DeclaredLate, Labelled}
use Rattle.stm_events.specs.declared.staleness.StalenessRule.{StalenessRule}
use Rattle.stm_events.specs.SlowDesk.{find_waiter, without_waiter, stale_after, waking}
use Rattle.stm_events.specs.SlowSettle.{Order, finishes}
use Rattle.stm_events.proofs.Folds.{state-rule}
use Rattle.stm_machine.specs.Plans.{IsPlan}
use Rattle.stm_desk.specs.declared.errors.SettleWhy.{SettleWhy}
use Rattle.stm_desk.specs.declared.errors.SettleWhy.TheVariants.{HistoryFull, CellsFull, NoMemory}
use Rattle.stm_events.specs.SlowAtomically.{atomically}
use Rattle.stm_desk.specs.declared.atomic.Ran.{Ran}
use Rattle.stm_desk.specs.declared.errors.AtomicError.{AtomicError}
use Rattle.stm_desk.specs.declared.errors.AtomicError.TheVariants as atomic
use Rattle.stm_desk.specs.Refusals.{IsAtomicError, submit_refusal, late_declare_refusal, atomic_refusal, cancel_refusal, label_refusal, finish_refusal}
use Rattle.stm_terms.proofs.Refused.{accepted, refusal_is}
use Rattle.stm_desk.proofs.Starts.{start_rule}
use Rattle.stm_desk.specs.declared.finish.Finish.{Finish}
use Rattle.stm_desk.specs.Events.{finish_of, evaluated_and_finished, whats_ran}
use Rattle.stm_desk.specs.DeskView.{DeskView, start_state, state_of, with_event}
use Rattle.stm_desk.specs.Settling.{with_whats, requeued_all, slow_run, slow_run_stop, HasRun, HasHalted}
use Rattle.stm_commands.specs.Atomically.{ran_text, atomically_block_step, atomically_text_step, atomically_step}
use Rattle.stm_commands.specs.Blocks.{ticket_line, submit_block_step}
use Rattle.stm_commands.specs.Declaring.{declared_line, declare_variable_step, declare_text_step, declare_step}
use Rattle.stm_commands.specs.Endings.{finished_line, finish_verdict_step, finish_waiter_step, finish_ticket_step, cancelled_line, cancel_ticket_step, why_text, run_text, run_desk_step}
use Rattle.stm_source.specs.declared.refusal.Refusal.{Refusal}
use Rattle.stm_source.specs.CompiledBlock.{compiled_block}
use Rattle.stm_source.specs.DeclaredVariable.{late_variable_of}
use Rattle.stm_desk.specs.declared.evaluate.Evaluation.{Evaluation}
use Rattle.stm_commands.specs.Evaluation.{DeliveredSoFar, delivered_so_far, evaluated, evaluation_text, eval_desk_step}
use Rattle.stm_commands.specs.Jobs.{max_jobs, jobs_of, taken, jobs_line, with_jobs, take_jobs_step, delivery_refusal, delivery_step, deliver_job_step, queued_line, handed_back, handback_ticket_step}
use Rattle.stm_commands.specs.Labelling.{labelled_line, label_ticket_step}
use Rattle.stm_commands.specs.OpenDesk.{HandedOut, OpenDesk, on_desk, known, Steps}
use Rattle.stm_commands.specs.Refusals.{refused, late_declare_error_text, submit_error_text, atomic_error_text, label_error_text, finish_error_text, cancel_error_text}
use Rattle.stm_commands.proofs.EvaluatedHere.{marked_queued}

abbrev opened_as : List HandedOut → DeskView → OpenDesk
opened_as js d = record { desk = d; jobs = js }

-- ---- submit
pub submit_ok : {A E : Type 0} → (d e : DeskView) (js : List HandedOut) (b : Block) (t : ℕ) (old new : List ℕ) (r : Result A E) → e ≡ with_event d 0 (Submitted t b) → t ≡ (state_of d).next → RefusedAs submit.NoMemory (submit_refusal d b) (Ok t)
    → OnOk r (new ≡ old ++ ticket_line t) → OnOk r (Steps (opened_as js e) old new (on_desk (opened_as js d) (submit_block_step d b (submit_refusal d b))))
submit_ok d e js b t old new (Ok x) p q n h =
    subst (λ (o : Option SubmitError). Steps (opened_as js e) old new (on_desk (opened_as js d) (submit_block_step d b o))) (sym (accepted submit.NoMemory (submit_refusal d b) t n))
    (ap (opened_as js) (p ∙ ap (λ (u : ℕ). with_event d 0 (Submitted u b)) q), h ∙ ap (λ (u : ℕ). old ++ ticket_line u) q)
submit_ok d e js b t old new (Err x) p q n h = tt

pub submit_err : {A E : Type 0} → (d e : DeskView) (js : List HandedOut) (b : Block) (x : SubmitError) (old new : List ℕ) (r : Result A E) → e ≡ d → RefusedAs {A = ℕ} submit.NoMemory (submit_refusal d b) (Err x) → OnOk r (x ≢ submit.NoMemory)
    → OnOk r (new ≡ old ++ submit_error_text x) → OnOk r (Steps (opened_as js e) old new (on_desk (opened_as js d) (submit_block_step d b (submit_refusal d b))))
submit_err d e js b x old new (Ok y) p n t h =
    subst (λ (o : Option SubmitError). Steps (opened_as js e) old new (on_desk (opened_as js d) (submit_block_step d b o))) (sym (refusal_is ℕ submit.NoMemory (submit_refusal d b) x n t)) (ap (opened_as js) p, h)
submit_err d e js b x old new (Err y) p n t h = tt

-- ---- declare
pub declare_ok : {A E : Type 0} → (d e : DeskView) (js : List HandedOut) (v : Declared) (i : ℕ) (old new : List ℕ) (r : Result A E) → e ≡ with_event d 0 (DeclaredLate v.name v.kind v.value) → i ≡ length (state_of d).store
    → RefusedAs late.NoMemory (late_declare_refusal d v.name v.kind v.value) (Ok i) → OnOk r (new ≡ old ++ declared_line i v.name)
    → OnOk r (Steps (opened_as js e) old new (on_desk (opened_as js d) (declare_variable_step d v (late_declare_refusal d v.name v.kind v.value))))
declare_ok d e js v i old new (Ok x) p q n h =
    subst (λ (o : Option LateDeclareError). Steps (opened_as js e) old new (on_desk (opened_as js d) (declare_variable_step d v o))) (sym (accepted late.NoMemory (late_declare_refusal d v.name v.kind v.value) i n))
    (ap (opened_as js) p, h ∙ ap (λ (k : ℕ). old ++ declared_line k v.name) q)
declare_ok d e js v i old new (Err x) p q n h = tt

pub declare_err : {A E : Type 0} → (d e : DeskView) (js : List HandedOut) (v : Declared) (x : LateDeclareError) (old new : List ℕ) (r : Result A E) → e ≡ d → RefusedAs {A = ℕ} late.NoMemory (late_declare_refusal d v.name v.kind v.value) (Err x)
    → OnOk r (x ≢ late.NoMemory) → OnOk r (new ≡ old ++ late_declare_error_text x)
    → OnOk r (Steps (opened_as js e) old new (on_desk (opened_as js d) (declare_variable_step d v (late_declare_refusal d v.name v.kind v.value))))
declare_err d e js v x old new (Ok y) p n t h =
    subst (λ (o : Option LateDeclareError). Steps (opened_as js e) old new (on_desk (opened_as js d) (declare_variable_step d v o))) (sym (refusal_is ℕ late.NoMemory (late_declare_refusal d v.name v.kind v.value) x n t)) (ap (opened_as js) p, h)
declare_err d e js v x old new (Err y) p n t h = tt

-- of a text that declares this variable
pub text_declared : {A E : Type 0} → (d after : OpenDesk) (text : List ℕ) (v : Declared) (old new : List ℕ) (r : Result A E) → late_variable_of (known d) text ≡ Ok v
    → OnOk r (Steps after old new (on_desk d (declare_variable_step d.desk v (late_declare_refusal d.desk v.name v.kind v.value)))) → OnOk r (Steps after old new (declare_step d text))
unfolding declare_step
text_declared d after text v old new r is h = subst (λ (x : Result Declared Refusal). OnOk r (Steps after old new (on_desk d (declare_text_step d.desk x)))) (sym is) h

-- ---- take
pub take_made : {A E : Type 0} → (d e : DeskView) (js made more : List HandedOut) (n first : ℕ) (old new : List ℕ) (r : Result A E) → nat_lt max_jobs (n + length js) ≡ false → first ≡ length js + 1 → new ≡ old ++ jobs_line first (taken d n)
    → made ≡ jobs_of (state_of d) (taken d n) → e ≡ record d { pending = sent (length (taken d n)) d.pending } → OnOk r (more ≡ js ++ made) → OnOk r (Steps (opened_as more e) old new (take_jobs_step (opened_as js d) n))
take_made d e js made more n first old new (Ok x) few f p m q h =
    subst (λ (b : Bool). Steps (opened_as more e) old new (cond b (opened_as js d, refused (codes "JobsFull")) (with_jobs (opened_as js d) (taken d n), jobs_line (length js + 1) (taken d n)))) (sym few)
    (ap₂ opened_as (h ∙ ap (λ (ks : List HandedOut). js ++ ks) m) q, p ∙ ap (λ (k : ℕ). old ++ jobs_line k (taken d n)) f)
take_made d e js made more n first old new (Err x) few f p m q h = tt

-- ---- deliver
pub delivered_job : {A E : Type 0} → (d e : DeskView) (j k : HandedOut) (o : Option DeliverError) (old line new : List ℕ) (r : Result A E) → j ≡ k → o ≡ delivery_refusal d j → e ≡ (deliver_job_step d (Some j)).0 → (delivery_step d k o).1 ≡ line
    → OnOk r (new ≡ old ++ line) → OnOk r (Steps e old new (deliver_job_step d (Some k)))
delivered_job d e j k o old line new (Ok x) s p q l h =
    let refusal : o ≡ delivery_refusal d k = p ∙ ap (delivery_refusal d) s in
    (q ∙ ap (λ (i : HandedOut). (deliver_job_step d (Some i)).0) s, h ∙ ap (λ (t : List ℕ). old ++ t) (sym l ∙ ap (λ (u : Option DeliverError). (delivery_step d k u).1) refusal))
delivered_job d e j k o old line new (Err x) s p q l h = tt

-- ---- handback
not_out : (d : DeskView) (t : ℕ) → is_out t d.pending ≡ false → handed_back d t ≡ d
not_out d t h = ap (λ (p : List Entry). record d { pending = p }) (marked_queued t d.pending h)

-- a ticket that isn't out is handed back to no effect
pub handback_refused : {A E : Type 0} → (d e : DeskView) (js : List HandedOut) (t : ℕ) (old new : List ℕ) (r : Result A E) → is_out t d.pending ≡ false → e ≡ handed_back d t → OnOk r (new ≡ old ++ refused (codes "NotOut"))
    → OnOk r (Steps (opened_as js e) old new (on_desk (opened_as js d) (handback_ticket_step d t)))
handback_refused d e js t old new (Ok x) h q p =
    subst (λ (b : Bool). Steps (opened_as js e) old new (on_desk (opened_as js d) (cond b (handed_back d t, queued_line t) (d, refused (codes "NotOut"))))) (sym h)
    (ap (opened_as js) (q ∙ not_out d t h), p)
handback_refused d e js t old new (Err x) h q p = tt

-- ---- eval
eval_here : {A E : Type 0} → (d e : DeskView) (js : List HandedOut) (p : Evaluation) (old new : List ℕ) (r : Result A E) → delivered_so_far e p ≡ evaluated d → OnOk r (new ≡ old ++ evaluation_text p.count p.stop)
    → OnOk r (Steps (opened_as js e) old new (on_desk (opened_as js d) (eval_desk_step d)))
eval_here d e js p old new (Ok x) q h = (ap (λ (v : DeliveredSoFar). opened_as js v.desk) q, h ∙ ap (λ (v : DeliveredSoFar). old ++ evaluation_text v.count v.stop) q)
eval_here d e js p old new (Err x) q h = tt

pub eval_made : {A E : Type 0} → (d e : DeskView) (js : List HandedOut) (s : OpenDesk) (p : Evaluation) (old new : List ℕ) (r : Result A E) → opened_as js d ≡ s → delivered_so_far e p ≡ evaluated d → OnOk r (new ≡ old ++ evaluation_text p.count p.stop)
    → OnOk r (Steps (opened_as js e) old new (on_desk s (eval_desk_step s.desk)))
eval_made d e js s p old new r w q h = subst (λ (t : OpenDesk). OnOk r (Steps (opened_as js e) old new (on_desk t (eval_desk_step t.desk)))) w (eval_here d e js p old new r q h)

-- ---- cancel
pub cancel_ok : {A E : Type 0} → (d e : DeskView) (js : List HandedOut) (t : ℕ) (old new : List ℕ) (r : Result A E) → e ≡ with_event d 0 (Cancelled t) → RefusedAs {A = Unit {0}} cancel.NoMemory (cancel_refusal d t) (Ok tt)
    → OnOk r (new ≡ old ++ cancelled_line t) → OnOk r (Steps (opened_as js e) old new (on_desk (opened_as js d) (cancel_ticket_step d t (cancel_refusal d t))))
cancel_ok d e js t old new (Ok x) p n h =
    subst (λ (o : Option CancelError). Steps (opened_as js e) old new (on_desk (opened_as js d) (cancel_ticket_step d t o))) (sym (accepted {A = Unit {0}} cancel.NoMemory (cancel_refusal d t) tt n))
    (ap (opened_as js) p, h)
cancel_ok d e js t old new (Err x) p n h = tt

pub cancel_err : {A E : Type 0} → (d e : DeskView) (js : List HandedOut) (t : ℕ) (x : CancelError) (old new : List ℕ) (r : Result A E) → e ≡ d → RefusedAs {A = Unit {0}} cancel.NoMemory (cancel_refusal d t) (Err x) → OnOk r (x ≢ cancel.NoMemory)
    → OnOk r (new ≡ old ++ cancel_error_text x) → OnOk r (Steps (opened_as js e) old new (on_desk (opened_as js d) (cancel_ticket_step d t (cancel_refusal d t))))
cancel_err d e js t x old new (Ok y) p n m h =
    subst (λ (o : Option CancelError). Steps (opened_as js e) old new (on_desk (opened_as js d) (cancel_ticket_step d t o))) (sym (refusal_is (Unit {0}) cancel.NoMemory (cancel_refusal d t) x n m)) (ap (opened_as js) p, h)
cancel_err d e js t x old new (Err y) p n m h = tt

-- ---- label
pub label_ok : {A E : Type 0} → (d e : DeskView) (js : List HandedOut) (t : ℕ) (text old new : List ℕ) (r : Result A E) → e ≡ with_event d 0 (Labelled t text) → RefusedAs {A = Unit {0}} label.NoMemory (label_refusal d t) (Ok tt)
    → OnOk r (new ≡ old ++ labelled_line t text) → OnOk r (Steps (opened_as js e) old new (on_desk (opened_as js d) (label_ticket_step d t text (label_refusal d t))))
label_ok d e js t text old new (Ok x) p n h =
    subst (λ (o : Option LabelError). Steps (opened_as js e) old new (on_desk (opened_as js d) (label_ticket_step d t text o))) (sym (accepted {A = Unit {0}} label.NoMemory (label_refusal d t) tt n))
    (ap (opened_as js) p, h)
label_ok d e js t text old new (Err x) p n h = tt

pub label_err : {A E : Type 0} → (d e : DeskView) (js : List HandedOut) (t : ℕ) (text : List ℕ) (x : LabelError) (old new : List ℕ) (r : Result A E) → e ≡ d → RefusedAs {A = Unit {0}} label.NoMemory (label_refusal d t) (Err x)
    → OnOk r (x ≢ label.NoMemory) → OnOk r (new ≡ old ++ label_error_text x)
    → OnOk r (Steps (opened_as js e) old new (on_desk (opened_as js d) (label_ticket_step d t text (label_refusal d t))))
label_err d e js t text x old new (Ok y) p n m h =
    subst (λ (o : Option LabelError). Steps (opened_as js e) old new (on_desk (opened_as js d) (label_ticket_step d t text o))) (sym (refusal_is (Unit {0}) label.NoMemory (label_refusal d t) x n m)) (ap (opened_as js) p, h)
label_err d e js t text x old new (Err y) p n m h = tt

-- ---- finish
-- the step of a finish that is planned
finish_planned : (d : DeskView) (t : ℕ) (f : Finish) → IsPlan (state_of d) t f.verdict f.applied.first_new f.stale
    → finish_waiter_step d t (find_waiter t (state_of d).waiters) ≡ (with_event d 0 (finish_of t f), finished_line t f.applied.first_new f.verdict f.stale)
finish_planned d t f plan =
    let s = state_of d in
    let may = plan.may in
    let ws = without_waiter t s.waiters in
    let stale : f.stale ≡ stale_after (changed_by s.store f.verdict) ws = may.listed ∙ ap (λ (r : StalenessRule). stale_after (waking r s.store f.verdict) ws) (state-rule (start_state d) d.history ∙ start_rule d.table d.checkpoint) in
    ap (finish_waiter_step d t) plan.found ∙ ap (finish_verdict_step d t) may.verdict_is ∙ sym (
    ap (λ (n : ℕ). (with_event d 0 (Finished t f.verdict n f.stale), finished_line t n f.verdict f.stale)) may.first_new
    ∙ ap (λ (l : List ℕ). (with_event d 0 (Finished t f.verdict (length s.store) l), finished_line t (length s.store) f.verdict l)) stale)

pub finish_ok : {A E : Type 0} → (d e : DeskView) (js : List HandedOut) (t : ℕ) (f : Finish) (old new : List ℕ) (r : Result A E) → e ≡ with_event d 0 (finish_of t f) → IsPlan (state_of d) t f.verdict f.applied.first_new f.stale
    → RefusedAs finish.NoMemory (finish_refusal d t) (Ok f) → OnOk r (new ≡ old ++ finished_line t f.applied.first_new f.verdict f.stale)
    → OnOk r (Steps (opened_as js e) old new (on_desk (opened_as js d) (finish_ticket_step d t (finish_refusal d t))))
finish_ok d e js t f old new (Ok x) p plan n h =
    subst (λ (o : Option FinishError). Steps (opened_as js e) old new (on_desk (opened_as js d) (finish_ticket_step d t o))) (sym (accepted finish.NoMemory (finish_refusal d t) f n))
    (subst (λ (s : DeskView × List ℕ). Steps (opened_as js e) old new (on_desk (opened_as js d) s)) (sym (finish_planned d t f plan)) (ap (opened_as js) p, h))
finish_ok d e js t f old new (Err x) p plan n h = tt

pub finish_err : {A E : Type 0} → (d e : DeskView) (js : List HandedOut) (t : ℕ) (x : FinishError) (old new : List ℕ) (r : Result A E) → e ≡ d → RefusedAs {A = Finish} finish.NoMemory (finish_refusal d t) (Err x) → OnOk r (x ≢ finish.NoMemory)
    → OnOk r (new ≡ old ++ finish_error_text x) → OnOk r (Steps (opened_as js e) old new (on_desk (opened_as js d) (finish_ticket_step d t (finish_refusal d t))))
finish_err d e js t x old new (Ok y) p n m h =
    subst (λ (o : Option FinishError). Steps (opened_as js e) old new (on_desk (opened_as js d) (finish_ticket_step d t o))) (sym (refusal_is Finish finish.NoMemory (finish_refusal d t) x n m)) (ap (opened_as js) p, h)
finish_err d e js t x old new (Err y) p n m h = tt

-- ---- atomically
-- the submission comes first, and what came after it is printed
ran_last : (b : Block) (t : ℕ) (f : Option Finish) → ran_text (evaluated_and_finished t f) ≡ ran_text (Submitted t b ∷ evaluated_and_finished t f)
ran_last b t None = refl
ran_last b t (Some f) = refl

pub ran_ok : {A E : Type 0} → (d e : DeskView) (js : List HandedOut) (b : Block) (ran : Ran) (old new : List ℕ) (r : Result A E) → e ≡ with_whats d 0 (atomically (state_of d) b) → atomically (state_of d) b ≡ whats_ran b ran → atomic_refusal d b ≡ None
    → OnOk r (new ≡ old ++ ran_text (evaluated_and_finished ran.ticket ran.finish)) → OnOk r (Steps (opened_as js e) old new (on_desk (opened_as js d) (atomically_block_step d b (atomic_refusal d b))))
ran_ok d e js b ran old new (Ok x) p q n h =
    subst (λ (o : Option AtomicError). Steps (opened_as js e) old new (on_desk (opened_as js d) (atomically_block_step d b o))) (sym n)
    (ap (opened_as js) p, h ∙ ap (λ (t : List ℕ). old ++ t) (ran_last b ran.ticket ran.finish ∙ ap ran_text (sym q)))
ran_ok d e js b ran old new (Err x) p q n h = tt

-- an error that is due is the first reason that holds, unless memory ran out
atomic_reason : (d : DeskView) (b : Block) (x : AtomicError) → IsAtomicError d b x → x ≢ atomic.NoMemory → atomic_refusal d b ≡ Some x
atomic_reason d b (atomic.Foreign i) h n = h
atomic_reason d b atomic.WaitingFull h n = h
atomic_reason d b atomic.HistoryFull h n = h
atomic_reason d b atomic.CellsFull h n = h
atomic_reason d b atomic.NoMemory h n = absurd (n refl)

pub ran_err : {A E : Type 0} → (d e : DeskView) (js : List HandedOut) (b : Block) (x : AtomicError) (old new : List ℕ) (r : Result A E) → e ≡ d → IsAtomicError d b x → OnOk r (x ≢ atomic.NoMemory)
    → OnOk r (new ≡ old ++ atomic_error_text x) → OnOk r (Steps (opened_as js e) old new (on_desk (opened_as js d) (atomically_block_step d b (atomic_refusal d b))))
ran_err d e js b x old new (Ok y) p n t h =
    subst (λ (o : Option AtomicError). Steps (opened_as js e) old new (on_desk (opened_as js d) (atomically_block_step d b o))) (sym (atomic_reason d b x n t)) (ap (opened_as js) p, h)
ran_err d e js b x old new (Err y) p n t h = tt

-- of a text that was compiled to this block
pub text_ran : {A E : Type 0} → (d e after : OpenDesk) (text : List ℕ) (b : Block) (old new : List ℕ) (r : Result A E) → e ≡ d → compiled_block (known d) text ≡ Ok b
    → OnOk r (Steps after old new (on_desk e (atomically_block_step e.desk b (atomic_refusal e.desk b)))) → OnOk r (Steps after old new (atomically_step d text))
unfolding atomically_step
text_ran d e after text b old new r same is h =
    subst (λ (x : Result Block Refusal). OnOk r (Steps after old new (on_desk d (atomically_text_step d.desk x)))) (sym is)
    (subst (λ (x : OpenDesk). OnOk r (Steps after old new (on_desk x (atomically_block_step x.desk b (atomic_refusal x.desk b))))) same h)

-- ---- settle and drain
pub run_ok : {A E : Type 0} → (next : Order) (line : ℕ → ℕ → List ℕ) (d e : DeskView) (js : List HandedOut) (f n : ℕ) (old new : List ℕ) (r : Result A E) → HasRun next 0 (requeued_all d) e f n None → OnOk r (new ≡ old ++ line f n)
    → OnOk r (Steps (opened_as js e) old new (on_desk (opened_as js d) (run_desk_step next line (requeued_all d))))
run_ok next line d e js f n old new (Ok x) s p =
    let c = requeued_all d in (
      ap (opened_as js) s.grown,
      p ∙ ap (λ (t : List ℕ). old ++ t) (ap (λ (k : ℕ). line k n) s.finished ∙ ap (λ (k : ℕ). line (finishes (slow_run next c)) k) s.evaluated ∙ ap (run_text line (slow_run next c)) (sym s.stopped)),
    )
run_ok next line d e js f n old new (Err x) s p = tt

-- a run that stopped, by what is known of where it stopped
stopped_told : (next : Order) (line : ℕ → ℕ → List ℕ) (d e : DeskView) (w : SettleWhy) (f n : ℕ) → HasHalted next w 0 d e f n → w ≢ NoMemory
    → (e ≡ with_whats d 0 (slow_run next d)) × (why_text w ++ line f n ≡ run_text line (slow_run next d) (slow_run_stop next d))
stopped_told next line d e HistoryFull f n s h = (
  s.0.grown,
  ap (λ k. why_text HistoryFull ++ line k n) s.0.finished ∙ ap (λ k. why_text HistoryFull ++ line (finishes (slow_run next d)) k) s.0.evaluated ∙ ap (run_text line (slow_run next d)) (sym s.0.stopped),
)
stopped_told next line d e CellsFull f n s h = (
  s.0.grown,
  ap (λ k. why_text CellsFull ++ line k n) s.0.finished ∙ ap (λ k. why_text CellsFull ++ line (finishes (slow_run next d)) k) s.0.evaluated ∙ ap (run_text line (slow_run next d)) (sym s.0.stopped),
)
stopped_told next line d e NoMemory f n s h = absurd (h refl)

pub run_err : {A E : Type 0} → (next : Order) (line : ℕ → ℕ → List ℕ) (d e : DeskView) (js : List HandedOut) (w : SettleWhy) (f n : ℕ) (old new : List ℕ) (r : Result A E) → HasHalted next w 0 (requeued_all d) e f n
    → OnOk r (new ≡ old ++ why_text w ++ line f n) → OnOk r (w ≢ NoMemory) → OnOk r (Steps (opened_as js e) old new (on_desk (opened_as js d) (run_desk_step next line (requeued_all d))))
run_err next line d e js w f n old new (Ok x) s p h =
    let t = stopped_told next line (requeued_all d) e w f n s h in
    (ap (opened_as js) t.0, p ∙ append_assoc old (why_text w) (line f n) ∙ ap (λ (line : List ℕ). old ++ line) t.1)
run_err next line d e js w f n old new (Err x) s p h = tt
