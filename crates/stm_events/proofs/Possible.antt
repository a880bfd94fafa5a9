-- The state in which nothing has happened is possible, and so is each that allowed events lead to from a possible one.
use Rattle.std.proofs.Common.{◌≡◌, ℕ, Bool, true, false, cond, List, [], ◌∷◌, ◌++◌, map, Option, Some, None, refl, sym, ap, subst, ◌∙◌, arith}
use Rattle.std.specs.Prelude.{nat_eq, is_some, IsSomeAnd}
use Rattle.stm_terms.specs.declared.verdicts.Verdict.{Verdict}
use Rattle.stm_terms.specs.ReadSet.{reads_of}
use Rattle.stm_store.specs.Tables.{Declared}
use Rattle.stm_check.specs.TypedBlock.{Block}
use Rattle.stm_events.specs.declared.event.Event.{Event}
use Rattle.stm_events.specs.declared.event.What.{What}
use Rattle.stm_events.specs.declared.event.What.TheVariants.{Submitted, Installed, Finished, Cancelled, Declared as DeclaredLate, Labelled}
use Rattle.stm_events.specs.declared.staleness.StalenessRule.{StalenessRule}
use Rattle.stm_events.specs.SlowDesk.{Since, Waiter, Slow, under, verdict_on, is_stale_since, waking, MayInstall, find_waiter, without_waiter, with_delivery, delivered, woken_more, after_writes, after, Allows, initial_state, state_from, LegalFrom}
use Rattle.stm_events.specs.States.{HadVerdict, HadVerdicts, IsPossible, PossibleStatesStay}
use Rattle.stm_events.proofs.Covered.{covered_after}
use Rattle.stm_events.proofs.WaitingAreFew.{few_after}
use Rattle.stm_events.proofs.NamedVariables.{named_initial, named_after}
use Rattle.stm_events.proofs.CurrentHoldsNow.{fresh_after, still_holds}
use Rattle.stm_events.proofs.Rising.{rising_after, next_after}

-- ---- each waiting block had a verdict at its delivery
without_cons : (b : Bool) (w : Waiter) (ws vs : List Waiter) → HadVerdict w.block w.since → HadVerdicts ws → HadVerdicts vs → HadVerdicts (cond b ws (w ∷ vs))
without_cons true w ws vs c cs ds = cs
without_cons false w ws vs c cs ds = (c, ds)

pub had_without : (t : ℕ) (ws : List Waiter) → HadVerdicts ws → HadVerdicts (without_waiter t ws)
had_without t [] c = tt
had_without t (w ∷ ws) c = without_cons (nat_eq t w.ticket) w ws (without_waiter t ws) c.0 c.1 (had_without t ws c.1)

delivered_cons : (b : Bool) (s : Slow) (x : Verdict) (w : Waiter) (ws vs : List Waiter) (o : Option Waiter) → HadVerdict w.block w.since → HadVerdicts ws → (IsSomeAnd o (λ v. MayInstall s v x) → HadVerdicts vs)
    → IsSomeAnd (cond b (Some w) o) (λ v. MayInstall s v x) → HadVerdicts (cond b (with_delivery s.store w ∷ ws) (w ∷ vs))
delivered_cons true s x w ws vs o c cs more m = (ap is_some m.verdict_is, cs)
delivered_cons false s x w ws vs o c cs more m = (c, more m)

had_delivered : (t : ℕ) (s : Slow) (x : Verdict) (ws : List Waiter) → HadVerdicts ws → IsSomeAnd (find_waiter t ws) (λ v. MayInstall s v x) → HadVerdicts (delivered t s.store ws)
had_delivered t s x [] c m = tt
had_delivered t s x (w ∷ ws) c m = delivered_cons (nat_eq t w.ticket) s x w ws (delivered t s.store ws) (find_waiter t ws) c.0 c.1 (had_delivered t s x ws c.1) m

had_more : (woken : List ℕ) (block : Block) (o : Option Since) → HadVerdict block o → HadVerdict block (woken_more woken o)
had_more woken block None c = tt
had_more woken block (Some s) c = c

had_marks : (woken : List ℕ) (ws : List Waiter) → HadVerdicts ws → HadVerdicts (map (after_writes woken) ws)
had_marks woken [] c = tt
had_marks woken (w ∷ ws) c = (had_more woken w.block w.since c.0, had_marks woken ws c.1)

had_push : (t : ℕ) (block : Block) (ws : List Waiter) → HadVerdicts ws → HadVerdicts (ws ++ record { ticket = t; block = block; since = None } ∷ [])
had_push t block [] c = (tt, tt)
had_push t block (w ∷ ws) c = (c.0, had_push t block ws c.1)

had_after : (s : Slow) (d : What) → HadVerdicts s.waiters → Allows s d → HadVerdicts (after s d).waiters
had_after s (Submitted t b) c a = had_push t b s.waiters c
had_after s (Installed t v) c a = had_delivered t s v s.waiters c a
had_after s (Finished t v n l) c a = had_marks (waking s.rule s.store v) (without_waiter t s.waiters) (had_without t s.waiters c)
had_after s (Cancelled t) c a = had_without t s.waiters c
had_after s (DeclaredLate name kind value) c a = c
had_after s (Labelled t label) c a = c

had_cons : (b : Bool) (w one : Waiter) (o : Option Waiter) → HadVerdict w.block w.since → (o ≡ Some one → HadVerdict one.block one.since) → cond b (Some w) o ≡ Some one → HadVerdict one.block one.since
had_cons true w one o c more e = let h : w ≡ one = cc in subst (λ (x : Waiter). HadVerdict x.block x.since) h c
had_cons false w one o c more e = more e

pub had_waiter : (t : ℕ) (ws : List Waiter) (one : Waiter) → HadVerdicts ws → find_waiter t ws ≡ Some one → HadVerdict one.block one.since
had_waiter t [] one c e = cc
had_waiter t (w ∷ ws) one c e = had_cons (nat_eq t w.ticket) w one (find_waiter t ws) c.0 (had_waiter t ws one c.1) e

pub some_verdict : (o : Option Verdict) → is_some o ≡ true → (v : Verdict) × (o ≡ Some v)
some_verdict None h = cc
some_verdict (Some v) h = (v, refl)

-- ---- all of it
pub possible_initial : (rule : StalenessRule) (table : List Declared) → IsPossible (initial_state rule table)
possible_initial rule table = record { begun = omega arith; rising = tt; few = omega arith; named = named_initial table; covered = tt; unwoken = tt; evaluated = tt }

pub possible_after : (s : Slow) (what : What) → IsPossible s → Allows s what → IsPossible (after s what)
possible_after s what p a = record {
  begun = next_after s what p.begun;
  rising = rising_after s what p.begun p.rising a;
  few = few_after s what a p.few;
  named = named_after s what p.named;
  covered = covered_after s what p.covered a;
  unwoken = fresh_after s what p.unwoken;
  evaluated = had_after s what p.evaluated a;
}

pub possible_from : (s : Slow) (events : List Event) → IsPossible s → LegalFrom s events → IsPossible (state_from s events)
possible_from s [] p l = p
possible_from s (e ∷ es) p l = possible_from (after s e.what) es (possible_after s e.what p l.0.what) l.1

pub possible_states_stay : PossibleStatesStay
possible_states_stay = record { initial = possible_initial; next = possible_after; later = possible_from }

-- ---- a current block's verdict on the present store is that of its last delivery
pub current_verdict : (s : Slow) (t : ℕ) (w : Waiter) (d : Since) → IsPossible s → find_waiter t s.waiters ≡ Some w → w.since ≡ Some d → is_stale_since w.block d ≡ false → verdict_on s.store w.block ≡ verdict_on d.store_then w.block
current_verdict s t w d p f e n =
    let had = some_verdict (verdict_on d.store_then w.block) (subst (HadVerdict w.block) e (had_waiter t s.waiters w p.evaluated f)) in
    (still_holds t s.store s.waiters w d (reads_of (under d.store_then) w.block.tree) had.0 p.unwoken f e n (record { verdict_is = had.1; reads_are = refl })).verdict_is ∙ sym had.1
