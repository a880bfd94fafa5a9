-- What a finish leaves of the reads of a block may be kept as its cause from then on.
use Rattle.std.proofs.Common.{◌≡◌, ◌≢◌, ℕ, ◌<◌, ◌≤◌, Bool, true, false, List, [], ◌∷◌, Option, Some, None, refl, subst, ◌∙◌, arith}
use Rattle.std.specs.Prelude.{nat_lt, IsSomeAnd}
use Rattle.std.proofs.lemmas.Bool.Decides.{nat_tests}
use Rattle.stm_terms.specs.declared.kinds.Ty.{Ty}
use Rattle.stm_terms.specs.declared.values.Value.{Value}
use Rattle.stm_terms.specs.declared.values.Value.TheVariants as value
use Rattle.stm_terms.specs.declared.verdicts.Verdict.{Verdict}
use Rattle.stm_terms.specs.declared.verdicts.Verdict.TheVariants.{Commits}
use Rattle.stm_terms.specs.Typing.{Rising}
use Rattle.stm_store.specs.Cells.{plains, kinds_of, Fits, StoreIsTyped}
use Rattle.stm_store.proofs.ApplyPreservesTyping.{applied_typed}
use Rattle.stm_store.proofs.FreshNumbersInRange.{rising}
use Rattle.stm_eval.specs.Messages.{Agrees}
use Rattle.stm_events.specs.declared.event.Event.{Event}
use Rattle.stm_events.specs.declared.event.What.{What}
use Rattle.stm_events.specs.declared.event.What.TheVariants.{Submitted, Installed, Finished, Cancelled, Declared as DeclaredLate, Labelled}
use Rattle.stm_events.specs.declared.kept_cause.KeptCause.{KeptCause}
use Rattle.stm_events.specs.Laws.{AreRising, SubmittedAreWellTyped}
use Rattle.stm_events.specs.SlowDesk.{Waiter, Slow, MayFinish, under, find_waiter, after, Allows, state_from, LegalFrom}
use Rattle.stm_events.specs.States.{IsPossible, IsTypedState}
use Rattle.stm_events.proofs.KeptByLegalHistories.{variables_stay_covered}
use Rattle.stm_events.proofs.Possible.{possible_after}
use Rattle.stm_events.proofs.Rising.{low, not_above}
use Rattle.stm_events.proofs.TypedStores.{typed_after}
use Rattle.stm_machine.specs.Checkpoints.{store_with, all_differ, IsKeptCause}
use Rattle.stm_machine.proofs.StoreWith.{has_values, same_kinds, values_fit}
use Rattle.stm_desk.specs.declared.reason.Change.{Change}
use Rattle.stm_desk.specs.Reasons.{changes_from, ticket_of, Cause, cause_or}
use Rattle.stm_desk.specs.ReasonsByEvents.{changes_told, cause_told}
use Rattle.stm_desk.specs.Checkpointed.{kept_cause}
use Rattle.stm_desk.proofs.CausesTold.{FitFrom, told_here}
use Rattle.stm_desk.proofs.KeptAgain.{lefts, lefts_rise, lefts_agree, lefts_differ}
use Rattle.stm_desk.proofs.ReadValues.{AreRead}

-- ---- what later events leave as it is
next_grows : (s : Slow) (es : List Event) → s.next ≤ (state_from s es).next
next_grows s [] = omega arith
next_grows s (e ∷ es) = omega (arith, next_grows (after s e.what) es, one s e.what) where
  one : (s : Slow) (what : What) → s.next ≤ (after s what).next
  one s (Submitted t block) = omega arith
  one s (Installed t v) = omega arith
  one s (Finished t v n stale) = omega arith
  one s (Cancelled t) = omega arith
  one s (DeclaredLate name kind value) = omega arith
  one s (Labelled t label) = omega arith

kinds_stay : (s : Slow) (es : List Event) (i : ℕ) (k : Ty) → kinds_of (plains s.store) i ≡ Some k → kinds_of (plains (state_from s es).store) i ≡ Some k
kinds_stay s es i k e = (variables_stay_covered s es ((i, k) ∷ []) (e, tt)).0

-- values that fit a store fit it later
fits_later : (s : Slow) (es : List Event) (left : List (ℕ × Value)) → StoreIsTyped (plains s.store) → Fits (plains s.store) (Commits left [] value.Unit) → Fits (plains (state_from s es).store) (Commits left [] value.Unit)
fits_later s es left typed fits =
    values_fit (store_with left s.store) (state_from s es).store left (applied_typed s.store (Commits left [] value.Unit) fits typed)
    (λ i k e. kinds_stay s es i k (same_kinds s.store left fits i k e)) (rising s.store left [] value.Unit fits) (has_values s.store left fits)

pub kept_later : (s : Slow) (es : List Event) (reads : List (ℕ × Value)) (k : KeptCause) → StoreIsTyped (plains s.store) → IsKeptCause s.store s.next reads k → IsKeptCause (state_from s es).store (state_from s es).next reads k
kept_later s es reads k typed c = record {
  begun = c.begun;
  finished = let f = c.finished in omega (arith, next_grows s es);
  some = c.some;
  fits = fits_later s es k.left typed c.fits;
  changed = c.changed;
}

-- ---- what a finish left
lefts_some : (c : Change) (cs : List Change) → lefts (c ∷ cs) ≢ []
lefts_some c cs e = cc

positive : (b : Bool) (t n : ℕ) (ws : List Waiter) (w : Waiter) → nat_lt 0 t ≡ b → AreRising n 0 ws → find_waiter t ws ≡ Some w → 0 < t
positive true t n ws w e r f = grind (arith, nat_tests)
positive false t n ws w e r f =
    let z : t ≤ 0 = grind (arith, nat_tests) in
    let none = not_above t n 0 ws z r in
    absurd (cc)

-- a ticket that is given and below the next one
record IsGiven (t n : ℕ) : Type 0 where
  pub begun : 0 < t
  pub low : t < n

given_by : (s : Slow) (t : ℕ) (v : Verdict) (n : ℕ) (stale : List ℕ) (o : Option Waiter) → IsPossible s → find_waiter t s.waiters ≡ o → IsSomeAnd o (λ w. MayFinish s t w v n stale) → IsGiven t s.next
given_by s t v n stale None p e a = absurd a
given_by s t v n stale (Some w) p e a = record { begun = positive (nat_lt 0 t) t s.next s.waiters w refl p.rising e; low = low t s.next 0 s.waiters w p.rising e }

module _ (reads : List (ℕ × Value)) (ascend : Rising reads) where
  -- a cause that is told by these events may be kept after them
  kept_or : (s : Slow) (e : Event) (es : List Event) (c : Cause) (cs : List Change) → changes_told reads e.what ≡ cs → IsPossible s → IsTypedState s → LegalFrom s (e ∷ es) → FitFrom s (e ∷ es) → SubmittedAreWellTyped (e ∷ es) → AreRead reads (under s.store)
      → (cs ≢ [] → IsGiven (ticket_of e.what) s.next) → (AreRead reads (under (after s e.what).store) → cause_told reads es ≡ Some c → IsKeptCause (state_from (after s e.what) es).store (state_from (after s e.what) es).next reads (kept_cause c))
      → cause_or (ticket_of e.what) cs (cause_told reads es) ≡ Some c → IsKeptCause (state_from (after s e.what) es).store (state_from (after s e.what) es).next reads (kept_cause c)
  kept_or s e es c [] told p k l f typed read given more is = more ((told_here reads s e.what f.0 read).1 told) is
  kept_or s e es c (x ∷ cs) told p k l f typed read given more is =
      let now = after s e.what in
      let g = given (λ none. cc) in
      let changes : changes_from reads (under now.store) ≡ x ∷ cs = (told_here reads s e.what f.0 read).0 ∙ told in
      let cause : record { finish = ticket_of e.what; changes = x ∷ cs } ≡ c = cc in
      let state = typed_after s e.what p l.0.what typed.0 k in
      let fits : Fits (plains (state_from now es).store) (Commits (lefts (x ∷ cs)) [] value.Unit) =
      values_fit now.store (state_from now es).store (lefts (x ∷ cs)) state.store (kinds_stay now es)
      (subst (λ (ds : List Change). Rising (lefts ds)) changes (lefts_rise reads (under now.store) ascend))
      (subst (λ (ds : List Change). Agrees (lefts ds) (under now.store)) changes (lefts_agree reads (under now.store)))
      in
      subst (λ (d : Cause). IsKeptCause (state_from now es).store (state_from now es).next reads (kept_cause d)) cause (record {
        begun = g.begun;
        finished = let h = g.low in omega (arith, next_grows s (e ∷ es));
        some = lefts_some x cs;
        fits = fits;
        changed = subst (λ (ds : List Change). all_differ reads (lefts ds) ≡ true) changes (lefts_differ reads (under now.store) ascend);
      })

  given_here : (s : Slow) (what : What) → IsPossible s → Allows s what → changes_told reads what ≢ [] → IsGiven (ticket_of what) s.next
  given_here s (Submitted t block) p a n = absurd (n refl)
  given_here s (Installed t v) p a n = absurd (n refl)
  given_here s (Finished t v m stale) p a n = given_by s t v m stale (find_waiter t s.waiters) p refl a
  given_here s (Cancelled t) p a n = absurd (n refl)
  given_here s (DeclaredLate name kind value) p a n = absurd (n refl)
  given_here s (Labelled t label) p a n = absurd (n refl)

  pub told_may_be_kept : (s : Slow) (es : List Event) (c : Cause) → IsPossible s → IsTypedState s → LegalFrom s es → FitFrom s es → SubmittedAreWellTyped es → AreRead reads (under s.store) → cause_told reads es ≡ Some c
      → IsKeptCause (state_from s es).store (state_from s es).next reads (kept_cause c)
  told_may_be_kept s [] c p k l f typed read is = cc
  told_may_be_kept s (e ∷ es) c p k l f typed read is =
      kept_or s e es c (changes_told reads e.what) refl p k l f typed read (given_here s e.what p l.0.what)
      (λ now later. told_may_be_kept (after s e.what) es c (possible_after s e.what p l.0.what) (typed_after s e.what p l.0.what typed.0 k) l.1 f.1 typed.1 now later) is
