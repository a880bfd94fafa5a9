-- A stale block has a cause, and what the events write tells it.
use Rattle.std.proofs.Common.{◌≡◌, ℕ, ◌+◌, ◌≤◌, Bool, true, false, not, ◌&&◌, List, [], ◌∷◌, ◌++◌, Option, Some, None, IsSome, inl, inr, length, refl, sym, ap, subst, ◌∙◌, arith}
use Rattle.std.specs.Prelude.{nat_eq, is_some, IsSomeAnd}
use Rattle.std.specs.List.{list_any}
use Rattle.std.proofs.lemmas.Bool.Decides.{nat_tests}
use Rattle.std.proofs.lemmas.List.Folds.{list_any-append}
use Rattle.std.proofs.lemmas.Bool.{or_from}
use Rattle.stm_terms.specs.declared.kinds.Ty.{Ty}
use Rattle.stm_terms.specs.declared.values.Value.{Value}
use Rattle.stm_terms.specs.declared.verdicts.Verdict.{Verdict}
use Rattle.stm_terms.specs.declared.verdicts.Verdict.TheVariants.{Commits, Throws, Blocks}
use Rattle.stm_terms.specs.Changes.{find}
use Rattle.stm_terms.specs.ReadSet.{reads_of}
use Rattle.stm_store.specs.declared.cell.Cell.{Cell}
use Rattle.stm_store.specs.Cells.{plains, Fits, applied, made_by, changed_by}
use Rattle.stm_store.proofs.ChangedVariables.{changed_differ}
use Rattle.stm_store.proofs.FreshNumbersInRange.{writable, rising}
use Rattle.stm_store.specs.FreshReferences.{AreWritable}
use Rattle.stm_check.specs.TypedBlock.{Block}
use Rattle.stm_eval.specs.Laws.{In}
use Rattle.stm_eval.proofs.FragmentsAndStores.{looked}
use Rattle.stm_events.specs.declared.event.Event.{Event}
use Rattle.stm_events.specs.declared.event.What.{What}
use Rattle.stm_events.specs.declared.event.What.TheVariants.{Submitted, Installed, Finished, Cancelled, Declared as DeclaredLate, Labelled}
use Rattle.stm_events.specs.declared.staleness.StalenessRule.TheVariants.{Written, Changed}
use Rattle.stm_events.specs.Headline.{is_installed, waking_at, waking_from}
use Rattle.stm_events.specs.Laws.{SubmittedAreWellTyped}
use Rattle.stm_events.specs.SlowDesk.{Since, Waiter, Slow, declaration, MayFinish, Allows, under, verdict_on, looked_on, intersects, is_stale_since, is_new_since, current_since, find_waiter, after, state_from, LegalFrom}
use Rattle.stm_events.specs.States.{HadVerdict, IsPossible, IsTypedState}
use Rattle.stm_events.proofs.AlikeWaitersStay.{meets-append}
use Rattle.stm_events.proofs.Folds.{after-rule, state-rule}
use Rattle.stm_events.proofs.CurrentHoldsNow.{still_holds}
use Rattle.stm_events.proofs.Possible.{possible_after, had_waiter, some_verdict}
use Rattle.stm_events.proofs.Stores.{value_stays}
use Rattle.stm_events.proofs.SinceFrom.{IsSinceFrom, IsSinceBefore}
use Rattle.stm_events.proofs.TypedStores.{typed_after, typed_verdict}
use Rattle.stm_desk.specs.declared.reason.Change.{Change}
use Rattle.stm_desk.specs.Reasons.{changes_from, ticket_of, Cause, cause_or, first_cause, cause_since_delivery, was_stale}
use Rattle.stm_desk.specs.ReasonsByEvents.{left_by_verdict, HasWritable, IsWritable, EachIsWritable, changes_told, cause_told, events_since}
use Rattle.stm_desk.proofs.EventsSince.{installed_mid, since_delivery, cause_after, none_since}
use Rattle.stm_desk.proofs.ReadValues.{AreRead, reads_are, found_read, unchanged, is_within, are_left}
use Rattle.stm_desk.proofs.Starts.{IsTypedHistory}

-- ---- each verdict of a history fits the store on which it takes effect
pub record IsFinish (s : Slow) (v : Verdict) (n : ℕ) : Type 0 where
  pub fits : Fits (plains s.store) v
  pub first_new : n ≡ length s.store
  pub room : length s.store + length (made_by v) ≤ 1000000

abbrev pub FitsHere : Slow → What → Type 0
FitsHere s (Submitted t block) = Unit {0}
FitsHere s (Installed t v) = Unit {0}
FitsHere s (Finished t v n stale) = IsFinish s v n
FitsHere s (Cancelled t) = Unit {0}
FitsHere s (DeclaredLate name kind value) = Unit {0}
FitsHere s (Labelled t label) = Unit {0}

abbrev pub FitFrom : Slow → List Event → Type 0
FitFrom s [] = Unit {0}
FitFrom s (e ∷ es) = FitsHere s e.what × FitFrom (after s e.what) es

finish_fits : (s : Slow) (t : ℕ) (v : Verdict) (n : ℕ) (l : List ℕ) (o : Option Waiter) → IsPossible s → IsTypedState s → find_waiter t s.waiters ≡ o → IsSomeAnd o (λ w. MayFinish s t w v n l) → IsFinish s v n
finish_fits s t v n l None possible typed e m = absurd m
finish_fits s t v n l (Some w) possible typed e m =
    let p = typed_verdict s t w possible typed e in
    let q : p.0 ≡ v = (let f = m.verdict_is in let g = p.1 in cc (f, g)) in
    record { fits = subst (Fits (plains s.store)) q p.2; first_new = m.first_new; room = m.room }

fits_here : (s : Slow) (what : What) → IsPossible s → IsTypedState s → Allows s what → FitsHere s what
fits_here s (Submitted t block) possible typed a = tt
fits_here s (Installed t v) possible typed a = tt
fits_here s (Finished t v n l) possible typed a = finish_fits s t v n l (find_waiter t s.waiters) possible typed refl a
fits_here s (Cancelled t) possible typed a = tt
fits_here s (DeclaredLate name kind value) possible typed a = tt
fits_here s (Labelled t label) possible typed a = tt

fit_from : (s : Slow) (es : List Event) → IsPossible s → IsTypedState s → LegalFrom s es → SubmittedAreWellTyped es → FitFrom s es
fit_from s [] possible state legal typed = tt
fit_from s (e ∷ es) possible state legal typed = (
  fits_here s e.what possible state legal.0.what,
  fit_from (after s e.what) es (possible_after s e.what possible legal.0.what) (typed_after s e.what possible legal.0.what typed.0 state) legal.1 typed.1,
)

pub fit_all : (s : Slow) (history : List Event) → IsTypedHistory s history → FitFrom s history
fit_all s history k = fit_from s history k.possible k.state k.legal k.typed

pub fit_rest : (s : Slow) (before more : List Event) → FitFrom s (before ++ more) → FitFrom (state_from s before) more
fit_rest s [] more f = f
fit_rest s (e ∷ before) more f = fit_rest (after s e.what) before more f.1

-- ---- so what they write can be read
writable_by : (s : Slow) (v : Verdict) (n : ℕ) → IsFinish s v n → HasWritable n v
writable_by s (Commits writes news r) n f = (
  rising s.store writes news r f.fits,
  subst (λ (m : ℕ). AreWritable m writes) (sym f.first_new) (writable s.store writes news r f.fits f.room),
)
writable_by s (Throws x) n f = tt
writable_by s Blocks n f = tt

writable_what : (s : Slow) (what : What) → FitsHere s what → IsWritable what
writable_what s (Submitted t block) f = tt
writable_what s (Installed t v) f = tt
writable_what s (Finished t v n l) f = writable_by s v n f
writable_what s (Cancelled t) f = tt
writable_what s (DeclaredLate name kind value) f = tt
writable_what s (Labelled t label) f = tt

writable_from : (s : Slow) (es : List Event) → FitFrom s es → EachIsWritable es
writable_from s [] f = tt
writable_from s (e ∷ es) f = (writable_what s e.what f.0, writable_from (after s e.what) es f.1)

pub each_is_writable : (s : Slow) (history : List Event) → IsTypedHistory s history → EachIsWritable history
each_is_writable s history k = writable_from s history (fit_all s history k)

-- a declaration leaves what was read
declared_read : (reads : List (ℕ × Value)) (store : List Cell) (kind : Ty) (value : Value) → AreRead reads (under store) → AreRead reads (under (applied store (declaration kind value)))
declared_read [] store kind value h = tt
declared_read (r ∷ rs) store kind value h = (value_stays Written store (declaration kind value) r.0 r.1 refl h.0, declared_read rs store kind value h.1)

-- ---- the changes of an event are told by what it writes
pub told_here : (reads : List (ℕ × Value)) (s : Slow) (what : What) → FitsHere s what → AreRead reads (under s.store)
    → (changes_from reads (under (after s what).store) ≡ changes_told reads what) × (changes_told reads what ≡ [] → AreRead reads (under (after s what).store))
told_here reads s (Submitted t block) f h = (unchanged reads (under s.store) h, λ e. h)
told_here reads s (Installed t v) f h = (unchanged reads (under s.store) h, λ e. h)
told_here reads s (Finished t v n l) f h =
    let p = are_left reads s.store v f.fits h in
    let same : changes_from reads (left_by_verdict (length s.store) v) ≡ changes_from reads (left_by_verdict n v) = ap (λ (m : ℕ). changes_from reads (left_by_verdict m v)) (sym f.first_new) in
    (p.same ∙ same, λ e. p.stay (same ∙ e))
told_here reads s (Cancelled t) f h = (unchanged reads (under s.store) h, λ e. h)
told_here reads s (DeclaredLate name kind value) f h =
    let there = declared_read reads s.store kind value h in (unchanged reads (under (applied s.store (declaration kind value))) there, λ e. there)
told_here reads s (Labelled t label) f h = (unchanged reads (under s.store) h, λ e. h)

cause_same : (t : ℕ) (cs ds : List Change) (f g : Option Cause) → cs ≡ ds → (ds ≡ [] → f ≡ g) → cause_or t cs f ≡ cause_or t ds g
cause_same t cs [] f g e more = ap (λ (xs : List Change). cause_or t xs f) e ∙ more refl
cause_same t cs (d ∷ ds) f g e more = ap (λ (xs : List Change). cause_or t xs f) e

causes_agree : (reads : List (ℕ × Value)) (s : Slow) (es : List Event) → FitFrom s es → AreRead reads (under s.store) → first_cause reads s es ≡ cause_told reads es
causes_agree reads s [] f h = refl
causes_agree reads s (e ∷ es) f h =
    let p = told_here reads s e.what f.0 h in
    cause_same (ticket_of e.what) (changes_from reads (under (after s e.what).store)) (changes_told reads e.what) (first_cause reads (after s e.what) es) (cause_told reads es) p.0
    (λ z. causes_agree reads (after s e.what) es f.1 (p.1 z))

-- ---- without a cause none of the reads has made the block stale
none_told : (t : ℕ) (cs : List Change) (later : Option Cause) → cause_or t cs later ≡ None → (cs ≡ []) × (later ≡ None)
none_told t [] later e = (refl, e)
none_told t (c ∷ cs) later e = absurd (cc)

unchanged_by : (b : Bool) (cells : List Cell) (v : Verdict) (i : ℕ) (x : Value) → list_any (nat_eq i) (changed_by cells v) ≡ b → Fits (plains cells) v → under cells i ≡ Some x → under (applied cells v) i ≡ Some x → b ≡ false
unchanged_by true cells v i x p f e g = absurd ((changed_differ cells v i f (is_within cells i x e)).0 p (g ∙ sym e))
unchanged_by false cells v i x p f e g = refl

pub not_woken : (s : Slow) (what : What) (i : ℕ) (x : Value) → s.rule ≡ Changed → FitsHere s what → under s.store i ≡ Some x → under (after s what).store i ≡ Some x → list_any (nat_eq i) (waking_at s what) ≡ false
not_woken s (Submitted t block) i x r f e g = refl
not_woken s (Installed t v) i x r f e g = refl
not_woken s (Finished t v n l) i x r f e g = rw r (unchanged_by (list_any (nat_eq i) (changed_by s.store v)) s.store v i x refl f.fits e g)
not_woken s (Cancelled t) i x r f e g = refl
not_woken s (DeclaredLate name kind value) i x r f e g = refl
not_woken s (Labelled t label) i x r f e g = refl

never_woken : (reads : List (ℕ × Value)) (s : Slow) (es : List Event) (i : ℕ) (x : Value) → s.rule ≡ Changed → FitFrom s es → AreRead reads (under s.store) → find i reads ≡ Some x → cause_told reads es ≡ None → list_any (nat_eq i) (waking_from s es) ≡ false
never_woken reads s [] i x r f h there none = refl
never_woken reads s (e ∷ es) i x r f h there none =
    let p = told_here reads s e.what f.0 h in
    let q = none_told (ticket_of e.what) (changes_told reads e.what) (cause_told reads es) none in
    let now = p.1 q.0 in
    list_any-append (nat_eq i) (waking_at s e.what) (waking_from (after s e.what) es)
    ∙ or_from (list_any (nat_eq i) (waking_at s e.what)) (list_any (nat_eq i) (waking_from (after s e.what) es))
    (not_woken s e.what i x r f.0 (found_read i x reads (under s.store) h there) (found_read i x reads (under (after s e.what).store) now there))
    (never_woken reads (after s e.what) es i x (after-rule s e.what ∙ r) f.1 now there q.1)

pub none_met : (woken is : List ℕ) → ((j : ℕ) → In j is → list_any (nat_eq j) woken ≡ false) → intersects woken is ≡ false
none_met woken [] h = refl
none_met woken (i ∷ is) h = or_from (list_any (nat_eq i) woken) (intersects woken is) (h i (inl refl)) (none_met woken is (λ j m. h j (inr m)))

-- ---- the last delivery of a waiting block
itself : (t : ℕ) → nat_eq t t ≡ true
itself t = grind (arith, nat_tests)

some_by : (o : Option Cause) → (o ≡ None → true ≡ false) → is_some o ≡ true
some_by None h = sym (h refl)
some_by (Some c) h = refl

pub found_by : (i : ℕ) (reads : List (ℕ × Value)) (o : Option Value) (b : Bool) (woken : List ℕ) → find i reads ≡ o → IsSome o → ((x : Value) → find i reads ≡ Some x → list_any (nat_eq i) woken ≡ false) → list_any (nat_eq i) woken ≡ false
found_by i reads None b woken e some h = cc
found_by i reads (Some x) b woken e some h = h x e

-- where no event is a cause, none of them makes a block stale whose reads have their values where they begin
quiet : (block : Block) (store_then : List Cell) (v : Verdict) (s : Slow) (es : List Event) → verdict_on store_then block ≡ Some v → s.rule ≡ Changed → FitFrom s es → AreRead (reads_of (under store_then) block.tree) (under s.store)
    → cause_told (reads_of (under store_then) block.tree) es ≡ None → intersects (waking_from s es) (looked_on store_then block) ≡ false
quiet block store_then v s es verdict rule fit read none =
    let reads = reads_of (under store_then) block.tree in
    none_met (waking_from s es) (looked_on store_then block) (λ j m.
    found_by j reads (find j reads) true (waking_from s es) refl ((looked block.tree (under store_then) v verdict j).0 m) (λ x there. never_woken reads s es j x rule fit read there none))

-- ---- a delivery in the history
-- what is known of the cause of a block whose last delivery was made on this store
pub record IsCaused (start : Slow) (history : List Event) (t : ℕ) (w : Waiter) (s : Since) (later : List Event) : Type 0 where
  pub installed : is_installed t history ≡ true
  pub since : events_since t history ≡ Some later
  pub told : cause_since_delivery t (reads_of (under s.store_then) w.block.tree) start history ≡ cause_told (reads_of (under s.store_then) w.block.tree) later
  pub caused : is_stale_since w.block s ≡ true → is_some (cause_told (reads_of (under s.store_then) w.block.tree) later) ≡ true

pub is_caused : (start : Slow) (history : List Event) (t : ℕ) (w : Waiter) (s : Since) → IsTypedHistory start history → (since : IsSinceFrom start history t w.block s) → IsCaused start history t w s since.delivery.later
is_caused start history t w s k since =
    let d = since.delivery in
    let e : Event = record { client = d.client; what = Installed t d.verdict } in
    let reads = reads_of (under s.store_then) w.block.tree in
    let then : Slow = state_from start d.before in
    let fit : FitFrom (after then e.what) d.later = (fit_rest start d.before (e ∷ d.later) (subst (FitFrom start) d.whole (fit_all start history k))).1 in
    let read : AreRead reads (under then.store) = subst (λ (cells : List Cell). AreRead reads (under cells)) since.store (reads_are (under s.store_then) w.block.tree) in
    record {
      installed = ap (is_installed t) d.whole ∙ installed_mid t d.before e d.later (itself t);
      since = ap (events_since t) d.whole ∙ since_delivery t d.before e d.later (itself t) d.last;
      told =
          ap (cause_since_delivery t reads start) d.whole
          ∙ cause_after t reads start d.before e d.later (itself t) d.last
          ∙ causes_agree reads (after then e.what) d.later fit read;
      caused = λ stale. some_by (cause_told reads d.later) (λ none.
          let quiet_later : intersects (waking_from (after then e.what) d.later) (looked_on s.store_then w.block) ≡ false =
          quiet w.block s.store_then d.verdict (after then e.what) d.later since.verdict (after-rule then e.what ∙ state-rule start d.before ∙ k.rule) fit read none
          in
          sym stale ∙ ap (λ (woken : List ℕ). intersects woken (looked_on s.store_then w.block)) since.woken ∙ quiet_later);
    }

-- ---- a delivery before the history
-- what is known of the cause of a block whose last delivery came before the history
pub record IsCausedBefore (start : Slow) (history : List Event) (t : ℕ) (w : Waiter) (s : Since) : Type 0 where
  pub installed : is_installed t history ≡ false
  pub since : events_since t history ≡ None
  pub told : was_stale (find_waiter t start.waiters) ≡ false → first_cause (reads_of (under s.store_then) w.block.tree) start history ≡ cause_told (reads_of (under s.store_then) w.block.tree) history
  pub caused : was_stale (find_waiter t start.waiters) ≡ false → is_stale_since w.block s ≡ true → is_some (cause_told (reads_of (under s.store_then) w.block.tree) history) ≡ true

-- a block that was not stale was current
pub was_current : (w : Waiter) (s : Since) → w.since ≡ Some s → was_stale (Some w) ≡ false → is_stale_since w.block s ≡ false
was_current w s e h = by w.block w.since e h where
  twice : (b : Bool) → not (not b) ≡ false → b ≡ false
  twice true h = cc
  twice false h = refl

  by : (b : Block) (o : Option Since) → o ≡ Some s → (not (is_new_since o) && not (current_since b o)) ≡ false → is_stale_since b s ≡ false
  by b None e h = cc
  by b (Some r) e h = let q : r ≡ s = cc in subst (λ (x : Since). is_stale_since b x ≡ false) q (twice (is_stale_since b r) h)

pub is_caused_before : (start : Slow) (history : List Event) (t : ℕ) (w : Waiter) (s : Since) → IsTypedHistory start history → IsSinceBefore start history t w.block s → IsCausedBefore start history t w s
is_caused_before start history t w s k since =
    let reads = reads_of (under s.store_then) w.block.tree in
    let had = some_verdict (verdict_on since.since.store_then since.first.block) (subst (HadVerdict since.first.block) since.delivered (had_waiter t start.waiters since.first k.possible.evaluated since.found)) in
    let verdict : verdict_on s.store_then w.block ≡ Some had.0 = (let a = since.store in let b = since.block in let c = had.1 in rw (a, b) c) in
    let fresh : was_stale (find_waiter t start.waiters) ≡ false → is_stale_since since.first.block since.since ≡ false =
    λ h. was_current since.first since.since since.delivered (subst (λ (o : Option Waiter). was_stale o ≡ false) since.found h)
    in
    let read : was_stale (find_waiter t start.waiters) ≡ false → AreRead reads (under start.store) = λ h.
    let now = still_holds t start.store start.waiters since.first since.since (reads_of (under since.since.store_then) since.first.block.tree) had.0 k.possible.unwoken since.found since.delivered (fresh h) (record { verdict_is = had.1; reads_are = refl }) in
    let same : reads_of (under start.store) since.first.block.tree ≡ reads = now.reads_are ∙ (let a = since.store in let b = since.block in rw (a, b) refl) in
    subst (λ (rs : List (ℕ × Value)). AreRead rs (under start.store)) same (reads_are (under start.store) since.first.block.tree)
    in
    let fit = fit_all start history k in
    record {
      installed = since.none;
      since = none_since t history since.none;
      told = λ h. causes_agree reads start history fit (read h);
      caused = λ h stale. some_by (cause_told reads history) (λ none.
          let looks = looked_on s.store_then w.block in
          let before : intersects since.since.woken looks ≡ false = (let a = since.store in let b = since.block in rw (a, b) (fresh h)) in
          let later : intersects (waking_from start history) looks ≡ false = quiet w.block s.store_then had.0 start history verdict k.rule fit (read h) none in
          sym stale ∙ ap (λ (woken : List ℕ). intersects woken looks) since.woken ∙ meets-append since.since.woken (waking_from start history) looks
          ∙ or_from (intersects since.since.woken looks) (intersects (waking_from start history) looks) before later);
    }
