-- Of a stale block the last list that has its ticket is that of the finish which is its cause.
use Rattle.std.proofs.Common.{◌≡◌, ℕ, Bool, true, false, not, ◌&&◌, cond, List, [], ◌∷◌, ◌++◌, Option, Some, None, refl, sym, ap, subst, ◌∙◌, arith}
use Rattle.std.specs.Prelude.{nat_eq, is_some, IsSomeAnd, option_map}
use Rattle.std.specs.Option.{option_or}
use Rattle.std.proofs.lemmas.Bool.Decides.{nat_tests}
use Rattle.stm_terms.specs.declared.verdicts.Verdict.{Verdict}
use Rattle.stm_terms.specs.ReadSet.{reads_of}
use Rattle.stm_store.specs.declared.cell.Cell.{Cell}
use Rattle.stm_check.specs.TypedBlock.{Block}
use Rattle.stm_events.specs.declared.event.Event.{Event}
use Rattle.stm_events.specs.declared.event.What.TheVariants.{Installed}
use Rattle.stm_events.specs.declared.kept_cause.KeptCause.{KeptCause}
use Rattle.stm_events.specs.declared.staleness.StalenessRule.TheVariants.{Changed}
use Rattle.stm_events.specs.SlowDesk.{Since, Waiter, Slow, MayInstall, under, verdict_on, looked_on, intersects, is_stale_since, is_new_since, is_current, find_waiter, with_delivery, after, state_from, LegalFrom}
use Rattle.stm_events.specs.Laws.{SubmittedAreWellTyped}
use Rattle.stm_events.specs.States.{HadVerdict, IsPossible, IsTypedState}
use Rattle.stm_events.proofs.Folds.{after-rule, state-rule, state-append}
use Rattle.stm_events.proofs.KeptByLegalHistories.{IsLegalAppend, legal-append, ticket_waiting, ticket_from}
use Rattle.stm_events.proofs.Possible.{possible_after, possible_from, had_waiter, some_verdict}
use Rattle.stm_events.proofs.Rising.{waiter_delivered}
use Rattle.stm_events.proofs.SinceFrom.{IsSinceFrom, IsSinceBefore}
use Rattle.stm_events.proofs.TypedStores.{typed_after, typed_from}
use Rattle.stm_desk.specs.Reasons.{Cause, was_stale}
use Rattle.stm_desk.specs.ReasonsByEvents.{cause_told}
use Rattle.stm_desk.specs.Checkpointed.{kept_cause}
use Rattle.stm_desk.specs.Causes.{last_listed}
use Rattle.stm_desk.proofs.CausesTold.{FitFrom, fit_all, fit_rest, was_current, is_caused}
use Rattle.stm_desk.proofs.Listed.{IsWaiting, none_listed, or_none, last_listed-append, first_listed}
use Rattle.stm_desk.proofs.Starts.{IsTypedHistory}

some_of : (o : Option Waiter) (P : Waiter → Type 0) → IsSomeAnd o P → (w : Waiter) × (o ≡ Some w) × P w
some_of None P i = absurd i
some_of (Some w) P i = (w, refl, i)

itself : (t : ℕ) → nat_eq t t ≡ true
itself t = grind (arith, nat_tests)

none_met : (is : List ℕ) → intersects [] is ≡ false
none_met [] = refl
none_met (i ∷ is) = none_met is

-- a block that waits since a delivery
abbrev waiting : ℕ → Block → List Cell → List ℕ → Option Waiter
waiting n block store woken = Some (record { ticket = n; block = block; since = Some (record { store_then = store; woken = woken }) })

delivered_by : (b : Bool) (store : List Cell) (o : Option Waiter) (w : Waiter) → b ≡ true → o ≡ Some w → cond b (option_map (with_delivery store) o) o ≡ waiting w.ticket w.block store []
delivered_by true store o w e f = ap (option_map (with_delivery store)) f
delivered_by false store o w e f = cc

typed-append : (before more : List Event) → SubmittedAreWellTyped (before ++ more) → SubmittedAreWellTyped before × SubmittedAreWellTyped more
typed-append [] more h = (tt, h)
typed-append (e ∷ before) more h = let p = typed-append before more h.1 in ((h.0, p.0), p.1)

-- ---- a delivery in the history
module _ (start : Slow) (history : List Event) (t : ℕ) (w : Waiter) (s : Since) (k : IsTypedHistory start history) (there : find_waiter t (state_from start history).waiters ≡ Some w) (since : IsSinceFrom start history t w.block s) where
  abbrev then : Slow
  then = state_from start since.delivery.before

  abbrev delivery : Event
  delivery = record { client = since.delivery.client; what = Installed t since.delivery.verdict }

  abbrev pub delivered_state : Slow
  delivered_state = after then delivery.what

  parts : IsLegalAppend start since.delivery.before (delivery ∷ since.delivery.later)
  parts = legal-append start since.delivery.before (delivery ∷ since.delivery.later) (subst (LegalFrom start) since.delivery.whole k.legal)

  then_possible : IsPossible then
  then_possible = possible_from start since.delivery.before k.possible parts.first

  pub delivered_possible : IsPossible delivered_state
  delivered_possible = possible_after then delivery.what then_possible parts.rest.0.what

  pub delivered_rule : delivered_state.rule ≡ Changed
  delivered_rule = after-rule then delivery.what ∙ state-rule start since.delivery.before ∙ k.rule

  pub delivered_legal : LegalFrom delivered_state since.delivery.later
  delivered_legal = parts.rest.1

  pub delivered_fit : FitFrom delivered_state since.delivery.later
  delivered_fit = (fit_rest start since.delivery.before (delivery ∷ since.delivery.later) (subst (FitFrom start) since.delivery.whole (fit_all start history k))).1

  typed : SubmittedAreWellTyped since.delivery.before × SubmittedAreWellTyped (delivery ∷ since.delivery.later)
  typed = typed-append since.delivery.before (delivery ∷ since.delivery.later) (subst SubmittedAreWellTyped since.delivery.whole k.typed)

  pub delivered_submits : SubmittedAreWellTyped since.delivery.later
  delivered_submits = typed.1.1

  pub delivered_typed : IsTypedState delivered_state
  delivered_typed = typed_after then delivery.what then_possible parts.rest.0.what tt (typed_from start since.delivery.before k.possible parts.first typed.0 k.state)

  pub delivered_now : state_from start history ≡ state_from delivered_state since.delivery.later
  delivered_now = ap (state_from start) since.delivery.whole ∙ state-append start since.delivery.before (delivery ∷ since.delivery.later)

  pub delivered_there : find_waiter t (state_from delivered_state since.delivery.later).waiters ≡ Some w
  delivered_there = ap (λ (x : Slow). find_waiter t x.waiters) (sym delivered_now) ∙ there

  pub delivered_waiting : IsWaiting t w.block s.store_then since.delivery.verdict since.verdict delivered_state
  delivered_waiting =
      let p = some_of (find_waiter t then.waiters) (λ x. MayInstall then x since.delivery.verdict) parts.rest.0.what in
      let given = ticket_from then (delivery ∷ since.delivery.later) p.0.block t then_possible parts.rest (ticket_waiting then t p.0 then_possible p.1) in
      let same : w.block ≡ p.0.block = given.waits w delivered_there in
      record {
        number = p.0.ticket;
        woken = [];
        found =
            waiter_delivered t t then.store then.waiters ∙ delivered_by (nat_eq t t) then.store (find_waiter t then.waiters) p.0 (itself t) p.1
            ∙ ap (λ (b : Block). waiting p.0.ticket b then.store []) (sym same) ∙ ap (λ (cells : List Cell). waiting p.0.ticket w.block cells []) (sym since.store);
        fresh = none_met (looked_on s.store_then w.block);
      }

  or_some : (o : Option Cause) (r : Option KeptCause) → is_some o ≡ true → option_or (option_map kept_cause o) r ≡ option_map kept_cause o
  or_some None r e = cc
  or_some (Some c) r e = refl

  pub listed_here : is_stale_since w.block s ≡ true → last_listed t (reads_of (under s.store_then) w.block.tree) history ≡ option_map kept_cause (cause_told (reads_of (under s.store_then) w.block.tree) since.delivery.later)
  listed_here stale =
      let reads = reads_of (under s.store_then) w.block.tree in
      let later = since.delivery.later in
      let first : last_listed t reads later ≡ option_map kept_cause (cause_told reads later) =
      first_listed t w.block s.store_then since.delivery.verdict since.verdict delivered_state later w delivered_possible delivered_rule delivered_legal delivered_fit since.delivery.last delivered_waiting delivered_there
      in
      let caused : is_some (cause_told reads later) ≡ true = (is_caused start history t w s k since).caused stale in
      ap (last_listed t reads) since.delivery.whole ∙ last_listed-append t reads since.delivery.before (delivery ∷ later)
      ∙ ap (λ (o : Option KeptCause). option_or o (last_listed t reads since.delivery.before)) (or_none (last_listed t reads later) ∙ first)
      ∙ or_some (cause_told reads later) (last_listed t reads since.delivery.before) caused

-- ---- a delivery before the history
not_both : (a b : Bool) → (not a && not b) ≡ true → b ≡ false
not_both a true g = by a g where
  by : (a : Bool) → (not a && false) ≡ true → true ≡ false
  by true g = cc
  by false g = cc
not_both a false g = refl

not_current : (v : Waiter) (o : Option Waiter) → o ≡ Some v → was_stale o ≡ true → is_current v ≡ false
not_current v None e h = cc
not_current v (Some x) e h = let q : x ≡ v = cc in subst (λ (y : Waiter). is_current y ≡ false) q (not_both (is_new_since x.since) (is_current x) h)

module _ (start : Slow) (history : List Event) (t : ℕ) (w : Waiter) (s : Since) (k : IsTypedHistory start history) (since : IsSinceBefore start history t w.block s) where
  pub verdict_before : (v : Verdict) × (verdict_on s.store_then w.block ≡ Some v)
  verdict_before =
      let had = some_verdict (verdict_on since.since.store_then since.first.block) (subst (HadVerdict since.first.block) since.delivered (had_waiter t start.waiters since.first k.possible.evaluated since.found)) in
      (had.0, let a = since.store in let b = since.block in let c = had.1 in rw (a, b) c)

  pub waiting_before : was_stale (find_waiter t start.waiters) ≡ false → IsWaiting t w.block s.store_then verdict_before.0 verdict_before.1 start
  waiting_before fresh =
      let current : is_stale_since since.first.block since.since ≡ false = was_current since.first since.since since.delivered (subst (λ (o : Option Waiter). was_stale o ≡ false) since.found fresh) in
      record {
        number = since.first.ticket;
        woken = since.since.woken;
        found =
            since.found ∙ ap (λ (o : Option Since). Some (record { ticket = since.first.ticket; block = since.first.block; since = o })) since.delivered
            ∙ ap (λ (b : Block). waiting since.first.ticket b since.since.store_then since.since.woken) (sym since.block)
            ∙ ap (λ (cells : List Cell). waiting since.first.ticket w.block cells since.since.woken) (sym since.store);
        fresh = let a = since.store in let b = since.block in rw (a, b) current;
      }

  -- it was current where the history begins
  pub listed_later : find_waiter t (state_from start history).waiters ≡ Some w → was_stale (find_waiter t start.waiters) ≡ false
      → last_listed t (reads_of (under s.store_then) w.block.tree) history ≡ option_map kept_cause (cause_told (reads_of (under s.store_then) w.block.tree) history)
  listed_later there fresh =
      first_listed t w.block s.store_then verdict_before.0 verdict_before.1 start history w k.possible k.rule k.legal (fit_all start history k) since.none (waiting_before fresh) there

  -- it was stale there
  pub listed_never : was_stale (find_waiter t start.waiters) ≡ true → last_listed t (reads_of (under s.store_then) w.block.tree) history ≡ None
  listed_never stale =
      none_listed t (reads_of (under s.store_then) w.block.tree) start history k.possible k.legal since.none (λ v found. not_current v (find_waiter t start.waiters) found stale)
