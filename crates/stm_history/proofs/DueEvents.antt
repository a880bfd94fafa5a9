-- What is due on a state is what is due after the history that leads to it; and what the calls say is what is due.
use Rattle.std.proofs.Common.{◌≡◌, ◌≢◌, ℕ, ◌<◌, Bool, true, false, List, Option, Some, None, refl, sym, ap, subst, ◌∙◌, arith, length}
use Rattle.std.specs.Prelude.{IfOk, IsSomeAnd, if◌then◌else◌, nat_le, option_map, IsTrue, Result, Ok, Err}
use Rattle.std.proofs.lemmas.Bool.Decides.{nat_tests}
use Rattle.stm_events.specs.Labels.{is_label}
use Rattle.stm_terms.specs.declared.kinds.Ty.{Ty}
use Rattle.stm_terms.specs.declared.values.Value.{Value}
use Rattle.stm_terms.specs.declared.verdicts.Verdict.{Verdict}
use Rattle.stm_terms.specs.Names.{is_name_text}
use Rattle.stm_terms.specs.UnlessNoMemory.{RefusedAs}
use Rattle.stm_check.specs.TypedBlock.{Block}
use Rattle.stm_eval.specs.declared.message.Evaluated.{Evaluated}
use Rattle.stm_eval.specs.EvaluatedFields.{message_ticket, message_block, message_reads}
use Rattle.stm_events.specs.declared.errors.DeliverError.{DeliverError}
use Rattle.stm_events.specs.declared.errors.DeliverError.TheVariants as deliver
use Rattle.stm_events.specs.declared.event.Event.{Event}
use Rattle.stm_events.specs.declared.event.What.TheVariants.{Submitted, Installed, Cancelled, Declared as DeclaredLate, Labelled}
use Rattle.stm_events.specs.Refusals.{late_declare_refused, cancel_first, cancel_refused, label_first, label_refused, differing, overtaken_first, install_first, DeliveryRefusedAt, DeliveryRefusedAs}
use Rattle.stm_events.specs.SlowDesk.{Waiter, Slow, Allows, under, is_current, find_waiter}
use Rattle.stm_terms.specs.Limits.{max_clients, max_events}
use Rattle.stm_events.specs.States.{IsLegalFrom}
use Rattle.stm_machine.specs.JobsHandedOut.{IsPresent, block_at}
use Rattle.stm_machine.specs.Machine.{IsAt}
use Rattle.stm_machine.proofs.Declaring.{may_declare}
use Rattle.stm_history.specs.declared.explanation.CallRefusal.{CallRefusal}
use Rattle.stm_history.specs.declared.expecting.Expectation.{Expectation}
use Rattle.stm_history.specs.declared.expecting.Expectation.TheVariants.{Due, Refuses}
use Rattle.stm_history.specs.declared.replayer.Replayer.{Replayer}
use Rattle.stm_history.specs.Expecting.{IsDueOn, IsDueAfter}
use Rattle.stm_history.specs.Explanation.{submission, delivery, declaration, labelling, deliver_first, deliver_refused, is_history_full}
use Rattle.stm_history.specs.Following.{Follows}
use Rattle.stm_history_text.specs.Starts.{Start, first_state, state_after_start}
use Rattle.stm_history.proofs.ExpectedEvents.{due_by}
use Rattle.stm_history.proofs.AllowedEvents.{legal_next}

-- ---- after a history
pub has_room : (history : List Event) → is_history_full history ≡ false → length history < max_events
has_room history e = grind (arith, nat_tests)

due_after : (start : Start) (history : List Event) (e : Event) (full : Bool) (x : Expectation) → IsLegalFrom (first_state start) history → e.client < max_clients → full ≡ is_history_full history
    → IsDueOn (state_after_start start history) full e.what x → IsDueAfter start history e x
due_after start history e full (Due what) legal low f d = record {
  same = d.1;
  expected = due_by (state_after_start start history) e.what what d.2 d.1;
  legal = legal_next start history e.client what legal (has_room history (sym f ∙ d.0)) low d.2;
}
due_after start history e full (Refuses r) legal low f d = subst (λ (b : Bool). IsDueOn (state_after_start start history) b e.what (Refuses r)) f d

pub expect_due : {E : Type 0} (r : Result Expectation E) (s : Replayer) (full : Bool) (e : Event) → e.client < max_clients → full ≡ nat_le max_events s.events
    → IfOk r (λ x. (z : Slow) → IsAt s.machine z → IsDueOn z full e.what x) → IfOk r (λ x. (S : Start) (H : List Event) → Follows S H s → IsDueAfter S H e x)
expect_due (Ok x) s full e low f h = λ S H g. due_after S H e full x g.legal low (f ∙ ap (nat_le max_events) g.counted) (h (state_after_start S H) g.at)
expect_due (Err x) s full e low f h = tt

-- ---- what isn't refused is allowed
waits_by : (o : Option Waiter) → cancel_first o false ≡ None → IsSomeAnd o (λ w. Unit {0})
waits_by None h = cc
waits_by (Some w) h = tt

pub cancel_allowed : (s : Slow) (t : ℕ) → cancel_refused s false t ≡ None → Allows s (Cancelled t)
cancel_allowed s t h = waits_by (find_waiter t s.waiters) h

-- a label
label_waits : (text : List ℕ) (o : Option Waiter) → label_first o false ≡ None → is_label text ≡ true → IsSomeAnd o (λ w. is_label text ≡ true)
label_waits text None h e = cc
label_waits text (Some w) h e = e

pub label_due : (s : Slow) (full : Bool) (t : ℕ) (text given : List ℕ) → full ≡ false → given ≡ text → is_label text ≡ true → label_refused s false t ≡ None
    → IsDueOn s full (Labelled t text) (Due (Labelled t given))
label_due s full t text given f g e h =
    (f, ap (λ (x : List ℕ). labelling t x) (sym g), subst (λ (x : List ℕ). Allows s (Labelled t x)) (sym g) (label_waits text (find_waiter t s.waiters) h e))

-- ---- a delivery of what the block does on the present store
-- it is refused only because its block is current
deliver_some_by : (A : Type 0) (s : Slow) (full : Bool) (w : Waiter) (reads : List (ℕ × Value)) (e : DeliverError) → differing (under s.store) reads ≡ None → RefusedAs {A = A} deliver.NoMemory (install_first s.store full w reads) (Err e) → e ≢ deliver.NoMemory
    → deliver_first full (Some w) ≡ Some e
deliver_some_by A s full w reads e d r n = from (is_current w) full (subst (λ (o : Option ℕ). RefusedAs {A = A} deliver.NoMemory (if is_current w then Some deliver.Already else overtaken_first o full) (Err e)) d r) where
  from : (b f : Bool) → RefusedAs {A = A} deliver.NoMemory (if b then Some deliver.Already else if f then Some deliver.HistoryFull else None) (Err e)
      → (if b then Some deliver.Already else if f then Some deliver.HistoryFull else None) ≡ Some e
  from true f k = cc
  from false true k = cc
  from false false k = absurd (n k)

deliver_at : (A : Type 0) (s : Slow) (full : Bool) (one : Waiter) (o : Option Waiter) (m : Evaluated) (e : DeliverError) → o ≡ Some one → message_block m ≡ one.block → differing (under s.store) (message_reads m) ≡ None
    → DeliveryRefusedAt {A = A} s.store full o (message_block m) (message_reads m) (Err e) → e ≢ deliver.NoMemory → deliver_first full o ≡ Some e
deliver_at A s full one None m e f b d r n = cc
deliver_at A s full one (Some w) m e f b d r n =
    let q : w ≡ one = cc in
    let trees : w.block.tree ≡ (message_block m).tree = ap (λ (y : Waiter). y.block.tree) q ∙ ap (λ (y : Block). y.tree) (sym b) in
    deliver_some_by A s full w (message_reads m) e d (r.1 trees) n

pub deliver_always : (A : Type 0) (s : Slow) (full : Bool) (m : Evaluated) (e : DeliverError) → IsPresent s (message_ticket m) m → DeliveryRefusedAs {A = A} s full (message_ticket m) (message_block m) (message_reads m) (Err e) → e ≢ deliver.NoMemory
    → deliver_refused s full (message_ticket m) ≡ Some e
deliver_always A s full m e p r n = deliver_at A s full p.one (find_waiter (message_ticket m) s.waiters) m e p.found p.block p.differs r n

pub none_gone : (s : Slow) (full : Bool) (t : ℕ) → block_at s t ≡ None → deliver_refused s full t ≡ Some deliver.Gone
none_gone s full t e = from (find_waiter t s.waiters) e where
  from : (o : Option Waiter) → option_map (λ w. w.block) o ≡ None → deliver_first full o ≡ Some deliver.Gone
  from None h = refl
  from (Some w) h = cc

-- ---- what a call returns
-- a refusal
pub refused_due : {E A : Type 0} (r : Result Expectation E) (reason : CallRefusal) (P : Expectation → Type 0) → IfOk r (λ x. A × (x ≡ Refuses reason)) → (A → P (Refuses reason)) → IfOk r P
refused_due (Ok x) reason P e h = subst P (sym e.1) (h e.0)
refused_due (Err y) reason P e h = tt

-- a submission under the ticket that it gets
pub submit_due : (s : Slow) (t u : ℕ) (asked held given : Block) → held ≡ asked → given ≡ asked → Allows s (Submitted u held) → IsDueOn s false (Submitted t asked) (Due (Submitted u given))
submit_due s t u asked held given h g a = (refl, ap submission (sym g), subst (λ (b : Block). Allows s (Submitted u b)) (h ∙ sym g) a)

-- the delivery of a verdict under the ticket that it is for
pub deliver_due : (s : Slow) (t u : ℕ) (asked brought given : Verdict) → u ≡ t → given ≡ brought → Allows s (Installed t brought) → IsDueOn s false (Installed t asked) (Due (Installed u given))
deliver_due s t u asked brought given same g a = (refl, ap delivery (sym same), subst (λ (v : Verdict). Allows s (Installed u v)) (sym g) (subst (λ (n : ℕ). Allows s (Installed n brought)) (sym same) a))

-- the declaration that was asked for
pub declare_due : (s : Slow) (full : Bool) (name given : List ℕ) (kind : Ty) (value : Value) → full ≡ false → given ≡ name → IsTrue (is_name_text name) → late_declare_refused s false name kind value ≡ None
    → IsDueOn s full (DeclaredLate name kind value) (Due (DeclaredLate given kind value))
declare_due s full name given kind value f g n e =
    (f, ap (λ (x : List ℕ). declaration x kind value) (sym g), subst (λ (x : List ℕ). Allows s (DeclaredLate x kind value)) (sym g) (may_declare s name kind value n e))
