-- What is due in place of an event: the allowed event of the same call is the one that is expected, and none is refused.
use Rattle.std.proofs.Common.{◌≡◌, ℕ, ◌<◌, Bool, false, List, length, Option, Some, None, refl, sym, ap, ◌∙◌, arith}
use Rattle.std.specs.Prelude.{IsSomeAnd, option_map}
use Rattle.std.proofs.lemmas.Bool.Decides.{nat_tests}
use Rattle.stm_terms.specs.declared.verdicts.Verdict.{Verdict}
use Rattle.stm_events.specs.declared.event.Event.{Event}
use Rattle.stm_events.specs.declared.event.What.{What}
use Rattle.stm_events.specs.declared.event.What.TheVariants.{Submitted, Installed, Finished, Cancelled, Declared as DeclaredLate, Labelled}
use Rattle.stm_events.specs.SlowDesk.{Waiter, Slow, Allows, MayInstall, MayFinish, find_waiter, stale_after, waking, without_waiter}
use Rattle.stm_terms.specs.Limits.{max_events}
use Rattle.stm_history.specs.declared.explanation.CallRefusal.TheVariants.{Submission, Delivery, Finish, Cancellation, Declaration, Labelling}
use Rattle.stm_history_text.specs.Starts.{state_after_start}
use Rattle.stm_history.specs.Explanation.{IsSameCall, call_of, deliver_first, expected_call, expected_what, finish_with, is_history_full, present_verdict, call_refusal, refusal_of_call, OneEventOfACall, RefusedAreIllegal}
use Rattle.stm_history.proofs.AllowedIsNotRefused.{submit_not_refused, cancel_not_refused, declare_not_refused, label_not_refused, finish_not_refused}
use Rattle.stm_history.proofs.AllowedEvents.{allowed, before_full}

-- ---- what is expected of an allowed event
installed_by : (s : Slow) (v : Verdict) (o : Option Waiter) → IsSomeAnd o (λ w. MayInstall s w v) → present_verdict s o ≡ Some v
installed_by s v None a = absurd a
installed_by s v (Some w) a = a.verdict_is

finished_by : (s : Slow) (t : ℕ) (v : Verdict) (n : ℕ) (stale : List ℕ) (o : Option Waiter) → IsSomeAnd o (λ w. MayFinish s t w v n stale)
    → option_map (finish_with s t) (present_verdict s o) ≡ Some (Finished t v n stale)
finished_by s t v n stale None a = absurd a
finished_by s t v n stale (Some w) a =
    ap (option_map (finish_with s t)) a.verdict_is
    ∙ ap (λ (m : ℕ). Some (Finished t v m (stale_after (waking s.rule s.store v) (without_waiter t s.waiters)))) (sym a.first_new)
    ∙ ap (λ (k : List ℕ). Some (Finished t v n k)) (sym a.listed)

pub allowed_expected : (s : Slow) (a : What) → Allows s a → expected_what s a ≡ Some a
allowed_expected s (Submitted t b) a = ap (λ (u : ℕ). Some (Submitted u b)) (sym a.0)
allowed_expected s (Installed t v) a = ap (option_map (Installed t)) (installed_by s v (find_waiter t s.waiters) a)
allowed_expected s (Finished t v n stale) a = finished_by s t v n stale (find_waiter t s.waiters) a
allowed_expected s (Cancelled t) a = refl
allowed_expected s (DeclaredLate name kind value) a = refl
allowed_expected s (Labelled t label) a = refl

-- ---- what is expected is one thing for all events of a call
pub same_expected : (s : Slow) (a b : What) → IsSameCall a b → expected_what s a ≡ expected_what s b
same_expected s a b e = let same : call_of a ≡ call_of b = e in ap (expected_call s) same

pub same_refused : (s : Slow) (full : Bool) (a b : What) → IsSameCall a b → call_refusal s full a ≡ call_refusal s full b
same_refused s full a b e = let same : call_of a ≡ call_of b = e in ap (refusal_of_call s full) same

some_one : {A : Type 0} (x y : A) (o : Option A) → o ≡ Some x → o ≡ Some y → x ≡ y
some_one x y o e f = cc

pub due_by : (s : Slow) (a b : What) → Allows s b → IsSameCall a b → expected_what s a ≡ Some b
due_by s a b m e = same_expected s a b e ∙ allowed_expected s b m

pub one_event_of_a_call : OneEventOfACall
one_event_of_a_call s a b m e = (due_by s a b m e, λ l. some_one a b (expected_what s a) (allowed_expected s a l) (due_by s a b m e))

-- ---- no allowed event is refused
deliver_by : (s : Slow) (v : Verdict) (o : Option Waiter) → IsSomeAnd o (λ w. MayInstall s w v) → deliver_first false o ≡ None
deliver_by s v None a = absurd a
deliver_by s v (Some w) a = rw a.not_current refl

pub none_refused : (s : Slow) (a : What) → Allows s a → call_refusal s false a ≡ None
none_refused s (Submitted t b) a = ap (option_map Submission) (submit_not_refused s t b a)
none_refused s (Installed t v) a = ap (option_map Delivery) (deliver_by s v (find_waiter t s.waiters) a)
none_refused s (Finished t v n stale) a = ap (option_map Finish) (finish_not_refused s t v n stale a)
none_refused s (Cancelled t) a = ap (option_map Cancellation) (cancel_not_refused s t a)
none_refused s (DeclaredLate name kind value) a = ap (option_map Declaration) (declare_not_refused s name kind value a)
none_refused s (Labelled t label) a = ap (option_map Labelling) (label_not_refused s t label a)

pub room_left : (history : List Event) → length history < max_events → is_history_full history ≡ false
room_left history h = grind (arith, nat_tests)

pub refused_are_illegal : RefusedAreIllegal
refused_are_illegal start history client a b r refused same legal =
    let s : Slow = state_after_start start history in
    let room : is_history_full history ≡ false = room_left history (before_full start history client b legal) in
    let none : call_refusal s false b ≡ None = none_refused s b (allowed start history client b legal) in
    let some : call_refusal s false b ≡ Some r = ap (λ (x : Bool). call_refusal s x b) (sym room) ∙ sym (same_refused s (is_history_full history) a b same) ∙ refused in
    cc
