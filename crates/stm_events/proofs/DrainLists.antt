-- The waiting blocks of draining beside those of settling: the same blocks, of which more may be new or stale.
use Rattle.std.proofs.Common.{◌≡◌, ℕ, suc, ◌+◌, ◌<◌, ◌≤◌, Bool, true, false, not, ◌||◌, cond, List, [], ◌∷◌, map, Option, Some, None, refl, sym, ap, subst, ◌∙◌, arith}
use Rattle.std.specs.Prelude.{nat_eq}
use Rattle.std.proofs.lemmas.Bool.Decides.{nat_tests}
use Rattle.stm_terms.specs.ReadSet.{reads_of}
use Rattle.stm_store.specs.declared.cell.Cell.{Cell}
use Rattle.stm_check.specs.TypedBlock.{Block}
use Rattle.stm_events.specs.BlockStatus.{read_since_then}
use Rattle.stm_events.specs.SlowDesk.{Since, Waiter, Current, under, verdict_on, looked_on, intersects, is_stale_since, current_since, woken_more, after_writes, without_waiter, with_delivery, delivered, weak_since}
use Rattle.stm_events.specs.SlowSettle.{lowest, is_due, ends, can_end}
use Rattle.stm_events.specs.SlowDrain.{is_next}
use Rattle.stm_events.specs.Laws.{AreRising}
use Rattle.stm_events.specs.States.{IsUnwoken, AreUnwoken, HadVerdict, HadVerdicts}
use Rattle.stm_events.proofs.AlikeWaitersStay.{IsAlike, AreAlike, same_current, alike_marked, meets-append}
use Rattle.stm_events.proofs.CurrentHoldsNow.{stays}
use Rattle.stm_events.proofs.Possible.{some_verdict}
use Rattle.stm_events.proofs.Rounds.{not_due}
use Rattle.stm_events.proofs.SettlingAllowed.{lowest_found}

itself : (t : ℕ) → nat_eq t t ≡ true
itself t = grind (arith, nat_tests)

apart : (m n : ℕ) → n < m → nat_eq m n ≡ false
apart m n h = grind (arith, nat_tests)

first_none : (b : Bool) (w : Waiter) (o : Option Waiter) → cond b (Some w) o ≡ None → (b ≡ false) × (o ≡ None)
first_none true w o e = cc
first_none false w o e = (refl, e)

-- ---- how many are new or stale
abbrev pub one_if : Bool → ℕ
one_if true = 1
one_if false = 0

abbrev pub dues : List Waiter → ℕ
dues [] = 0
dues (w ∷ ws) = one_if (is_due w) + dues ws

installed_step : (b : Bool) (store : List Cell) (w one : Waiter) (ws : List Waiter) → is_due w ≡ b → (lowest is_due ws ≡ Some one → w.ticket < one.ticket) → (lowest is_due ws ≡ Some one → suc (dues (delivered one.ticket store ws)) ≡ dues ws)
    → cond b (Some w) (lowest is_due ws) ≡ Some one → suc (dues (delivered one.ticket store (w ∷ ws))) ≡ one_if b + dues ws
installed_step true store w one ws h above more e =
    let q : w ≡ one = cc in
    subst (λ (x : Waiter). suc (dues (delivered x.ticket store (w ∷ ws))) ≡ 1 + dues ws) q (rw (itself w.ticket, not_due store w) (omega arith))
installed_step false store w one ws h above more e = rw (apart one.ticket w.ticket (above e), h) (omega (arith, more e))

-- an installation of the lowest one makes it one less
pub dues_installed : (store : List Cell) (n k : ℕ) (ws : List Waiter) (one : Waiter) → AreRising n k ws → lowest is_due ws ≡ Some one → suc (dues (delivered one.ticket store ws)) ≡ dues ws
dues_installed store n k [] one r e = absurd cc
dues_installed store n k (w ∷ ws) one r e =
    installed_step (is_due w) store w one ws refl (λ f. (lowest_found is_due n w.ticket ws one r.2 f).above) (dues_installed store n w.ticket ws one r.2) e

without_step : (b : Bool) (w : Waiter) (ws vs : List Waiter) → dues vs ≤ dues ws → dues (cond b ws (w ∷ vs)) ≤ one_if (is_due w) + dues ws
without_step true w ws vs l = omega arith
without_step false w ws vs l = omega arith

pub dues_without : (t : ℕ) (ws : List Waiter) → dues (without_waiter t ws) ≤ dues ws
dues_without t [] = omega arith
dues_without t (w ∷ ws) = without_step (nat_eq t w.ticket) w ws (without_waiter t ws) (dues_without t ws)

-- ---- all are current
abbrev pub AllCurrent : List Waiter → Type 0
AllCurrent [] = Unit {0}
AllCurrent (w ∷ ws) = (is_due w ≡ false) × AllCurrent ws

pub all_current : (ws : List Waiter) → lowest is_due ws ≡ None → AllCurrent ws
all_current [] e = tt
all_current (w ∷ ws) e = let a = first_none (is_due w) w (lowest is_due ws) e in (a.0, all_current ws a.1)

pub no_dues : (ws : List Waiter) → AllCurrent ws → dues ws ≡ 0
no_dues [] c = refl
no_dues (w ∷ ws) c = rw (c.0, no_dues ws c.1) refl

current_without_by : (b : Bool) (w : Waiter) (ws vs : List Waiter) → is_due w ≡ false → AllCurrent ws → AllCurrent vs → AllCurrent (cond b ws (w ∷ vs))
current_without_by true w ws vs c cs ds = cs
current_without_by false w ws vs c cs ds = (c, ds)

pub current_without : (t : ℕ) (ws : List Waiter) → AllCurrent ws → AllCurrent (without_waiter t ws)
current_without t [] c = tt
current_without t (w ∷ ws) c = current_without_by (nat_eq t w.ticket) w ws (without_waiter t ws) c.0 c.1 (current_without t ws c.1)

-- ---- the same blocks: where the first is current, so is the second
pub record IsBehind (d w : Waiter) : Type 0 where
  pub ticket : d.ticket ≡ w.ticket
  pub block : d.block ≡ w.block
  pub due : is_due d ≡ false → is_due w ≡ false

abbrev pub AreBehind : List Waiter → List Waiter → Type 0
AreBehind [] [] = Unit {0}
AreBehind [] (w ∷ ws) = ⊥
AreBehind (d ∷ ds) [] = ⊥
AreBehind (d ∷ ds) (w ∷ ws) = IsBehind d w × AreBehind ds ws

abbrev pub MayBeBehind : Option Waiter → Option Waiter → Type 0
MayBeBehind None None = Unit {0}
MayBeBehind None (Some w) = ⊥
MayBeBehind (Some d) None = ⊥
MayBeBehind (Some d) (Some w) = IsBehind d w

pub behind_itself : (ws : List Waiter) → AreBehind ws ws
behind_itself [] = tt
behind_itself (w ∷ ws) = (record { ticket = refl; block = refl; due = λ e. e }, behind_itself ws)

-- an installation by settling
installed_by : (b : Bool) (store : List Cell) (d w : Waiter) (ds ws vs : List Waiter) → IsBehind d w → AreBehind ds ws → AreBehind ds vs → AreBehind (d ∷ ds) (cond b (with_delivery store w ∷ ws) (w ∷ vs))
installed_by true store d w ds ws vs k ks ls = (record { ticket = k.ticket; block = k.block; due = λ e. not_due store w }, ks)
installed_by false store d w ds ws vs k ks ls = (k, ls)

pub behind_installed : (t : ℕ) (store : List Cell) (ds ws : List Waiter) → AreBehind ds ws → AreBehind ds (delivered t store ws)
behind_installed t store [] [] k = tt
behind_installed t store [] (w ∷ ws) k = absurd k
behind_installed t store (d ∷ ds) [] k = absurd k
behind_installed t store (d ∷ ds) (w ∷ ws) k = installed_by (nat_eq t w.ticket) store d w ds ws (delivered t store ws) k.0 k.1 (behind_installed t store ds ws k.1)

-- an installation by draining
caught_by : (b : Bool) (store : List Cell) (d w : Waiter) (ds es ws : List Waiter) → IsBehind d w → is_due w ≡ false → AreBehind ds ws → AreBehind es ws → AreBehind (cond b (with_delivery store d ∷ ds) (d ∷ es)) (w ∷ ws)
caught_by true store d w ds es ws k c ks ls = (record { ticket = k.ticket; block = k.block; due = λ e. c }, ks)
caught_by false store d w ds es ws k c ks ls = (k, ls)

pub caught_up : (t : ℕ) (store : List Cell) (ds ws : List Waiter) → AreBehind ds ws → AllCurrent ws → AreBehind (delivered t store ds) ws
caught_up t store [] [] k c = tt
caught_up t store [] (w ∷ ws) k c = absurd k
caught_up t store (d ∷ ds) [] k c = absurd k
caught_up t store (d ∷ ds) (w ∷ ws) k c = caught_by (nat_eq t d.ticket) store d w ds (delivered t store ds) ws k.0 c.0 k.1 (caught_up t store ds ws k.1 c.1)

-- a block less
without_by : (b b' : Bool) (d w : Waiter) (ds ws es vs : List Waiter) → b ≡ b' → IsBehind d w → AreBehind ds ws → AreBehind es vs → AreBehind (cond b ds (d ∷ es)) (cond b' ws (w ∷ vs))
without_by true true d w ds ws es vs e k ks ls = ks
without_by true false d w ds ws es vs e k ks ls = absurd cc
without_by false true d w ds ws es vs e k ks ls = absurd cc
without_by false false d w ds ws es vs e k ks ls = (k, ls)

pub behind_without : (t : ℕ) (ds ws : List Waiter) → AreBehind ds ws → AreBehind (without_waiter t ds) (without_waiter t ws)
behind_without t [] [] k = tt
behind_without t [] (w ∷ ws) k = absurd k
behind_without t (d ∷ ds) [] k = absurd k
behind_without t (d ∷ ds) (w ∷ ws) k =
    without_by (nat_eq t d.ticket) (nat_eq t w.ticket) d w ds ws (without_waiter t ds) (without_waiter t ws) (ap (nat_eq t) k.0.ticket) k.0 k.1 (behind_without t ds ws k.1)

-- ---- a current block does on the present store what it did at its delivery, so two current ones are alike
unnot : (b : Bool) → not (not b) ≡ false → b ≡ false
unnot true e = cc
unnot false e = refl

abbrev at_rest : List Cell → Block → Option Since → Type 0
at_rest store b o = (weak_since b o ≡ Current (verdict_on store b)) × (read_since_then b o ≡ Some (reads_of (under store) b.tree))

rests : (store : List Cell) (b : Block) (o : Option Since) → IsUnwoken store o → HadVerdict b o → not (current_since b o) ≡ false → at_rest store b o
rests store b None u h e = absurd cc
rests store b (Some s) u h e =
    let p = some_verdict (verdict_on s.store_then b) h in
    let n : is_stale_since b s ≡ false = unnot (is_stale_since b s) e in
    let k = stays b store s (reads_of (under s.store_then) b.tree) p.0 u n (record { verdict_is = p.1; reads_are = refl }) in
    (rw n (ap Current (p.1 ∙ sym k.verdict_is)), ap Some (sym k.reads_are))

current_alike : (store : List Cell) (d w : Waiter) → d.ticket ≡ w.ticket → d.block ≡ w.block → IsUnwoken store d.since → IsUnwoken store w.since → HadVerdict d.block d.since → HadVerdict w.block w.since
    → is_due d ≡ false → is_due w ≡ false → IsAlike d w
current_alike store d w t b u u' h h' e e' =
    let r = rests store d.block d.since u h e in
    let r' = rests store w.block w.since u' h' e' in
    record {
      ticket = t;
      block = b;
      standing = r.0 ∙ ap (λ (x : Block). Current (verdict_on store x)) b ∙ sym r'.0;
      reads = r.1 ∙ ap (λ (x : Block). Some (reads_of (under store) x.tree)) b ∙ sym r'.1;
    }

pub rest_alike : (store : List Cell) (ds ws : List Waiter) → AreBehind ds ws → AllCurrent ds → AreUnwoken store ds → AreUnwoken store ws → HadVerdicts ds → HadVerdicts ws → AreAlike ds ws
rest_alike store [] [] k c u u' h h' = tt
rest_alike store [] (w ∷ ws) k c u u' h h' = absurd k
rest_alike store (d ∷ ds) [] k c u u' h h' = absurd k
rest_alike store (d ∷ ds) (w ∷ ws) k c u u' h h' = (
  current_alike store d w k.0.ticket k.0.block u.0 u'.0 h.0 h'.0 c.0 (k.0.due c.0),
  rest_alike store ds ws k.1 c.1 u.1 u'.1 h.1 h'.1,
)

-- ---- a finish makes stale in settling what it makes stale in draining
both_not : (a b : Bool) → not (not (a || b)) ≡ false → not (not a) ≡ false
both_not true b e = e
both_not false b e = refl

pub was_current : (woken : List ℕ) (b : Block) (o : Option Since) → not (current_since b (woken_more woken o)) ≡ false → not (current_since b o) ≡ false
was_current woken b None e = e
was_current woken b (Some s) e =
    let l = looked_on s.store_then b in
    both_not (intersects s.woken l) (intersects woken l) (ap (λ (x : Bool). not (not x)) (sym (meets-append s.woken woken l)) ∙ e)

same_after : (woken : List ℕ) (store : List Cell) (d w : Waiter) → IsBehind d w → is_due w ≡ false → IsUnwoken store d.since → IsUnwoken store w.since → HadVerdict d.block d.since → HadVerdict w.block w.since
    → is_due d ≡ false → is_due (after_writes woken d) ≡ is_due (after_writes woken w)
same_after woken store d w k c u u' h h' e =
    let a = current_alike store d w k.ticket k.block u u' h h' e c in
    ap not (same_current (after_writes woken d) (after_writes woken w) (alike_marked woken d w a h h'))

behind_marked : (woken : List ℕ) (store : List Cell) (d w : Waiter) → IsBehind d w → is_due w ≡ false → IsUnwoken store d.since → IsUnwoken store w.since → HadVerdict d.block d.since → HadVerdict w.block w.since
    → IsBehind (after_writes woken d) (after_writes woken w)
behind_marked woken store d w k c u u' h h' = record {
  ticket = k.ticket;
  block = k.block;
  due = λ e. sym (same_after woken store d w k c u u' h h' (was_current woken d.block d.since e)) ∙ e;
}

pub behind_marks : (woken : List ℕ) (store : List Cell) (ds ws : List Waiter) → AreBehind ds ws → AllCurrent ws → AreUnwoken store ds → AreUnwoken store ws → HadVerdicts ds → HadVerdicts ws
    → AreBehind (map (after_writes woken) ds) (map (after_writes woken) ws)
behind_marks woken store [] [] k c u u' h h' = tt
behind_marks woken store [] (w ∷ ws) k c u u' h h' = absurd k
behind_marks woken store (d ∷ ds) [] k c u u' h h' = absurd k
behind_marks woken store (d ∷ ds) (w ∷ ws) k c u u' h h' = (behind_marked woken store d w k.0 c.0 u.0 u'.0 h.0 h'.0, behind_marks woken store ds ws k.1 c.1 u.1 u'.1 h.1 h'.1)

one_of : (a b c : Bool) → (c ≡ false → a ≡ b) → one_if a ≤ one_if b + one_if c
one_of true true true f = omega arith
one_of true false true f = omega arith
one_of false true true f = omega arith
one_of false false true f = omega arith
one_of true true false f = omega arith
one_of false true false f = omega arith
one_of false false false f = omega arith
one_of true false false f = let q : true ≡ false = f refl in absurd cc

pub dues_marks : (woken : List ℕ) (store : List Cell) (ds ws : List Waiter) → AreBehind ds ws → AllCurrent ws → AreUnwoken store ds → AreUnwoken store ws → HadVerdicts ds → HadVerdicts ws
    → dues (map (after_writes woken) ds) ≤ dues (map (after_writes woken) ws) + dues ds
dues_marks woken store [] [] k c u u' h h' = omega arith
dues_marks woken store [] (w ∷ ws) k c u u' h h' = absurd k
dues_marks woken store (d ∷ ds) [] k c u u' h h' = absurd k
dues_marks woken store (d ∷ ds) (w ∷ ws) k c u u' h h' =
    let one = one_of (is_due (after_writes woken d)) (is_due (after_writes woken w)) (is_due d) (same_after woken store d w k.0 c.0 u.0 u'.0 h.0 h'.0) in
    let rest = dues_marks woken store ds ws k.1 c.1 u.1 u'.1 h.1 h'.1 in
    omega (arith, one, rest)

-- ---- what comes next
lowest_by : (b b' : Bool) (d w : Waiter) (o o' : Option Waiter) → b ≡ b' → IsBehind d w → MayBeBehind o o' → MayBeBehind (cond b (Some d) o) (cond b' (Some w) o')
lowest_by true true d w o o' e k m = k
lowest_by true false d w o o' e k m = absurd cc
lowest_by false true d w o o' e k m = absurd cc
lowest_by false false d w o o' e k m = m

-- the lowest block that doesn't block is the same
pub lowest_ends : (store : List Cell) (ds ws : List Waiter) → AreBehind ds ws → MayBeBehind (lowest (can_end store) ds) (lowest (can_end store) ws)
lowest_ends store [] [] k = tt
lowest_ends store [] (w ∷ ws) k = absurd k
lowest_ends store (d ∷ ds) [] k = absurd k
lowest_ends store (d ∷ ds) (w ∷ ws) k =
    lowest_by (can_end store d) (can_end store w) d w (lowest (can_end store) ds) (lowest (can_end store) ws) (ap (λ (b : Block). ends (verdict_on store b)) k.0.block) k.0 (lowest_ends store ds ws k.1)

none_step : (a b : Bool) (w : Waiter) (o p q : Option Waiter) → cond (a || b) (Some w) o ≡ None → (o ≡ None → (p ≡ None) × (q ≡ None)) → (cond a (Some w) p ≡ None) × (cond b (Some w) q ≡ None)
none_step true b w o p q e more = absurd cc
none_step false true w o p q e more = absurd cc
none_step false false w o p q e more = more e

-- if draining has nothing to do, none is new or stale, and none can end
pub next_none : (store : List Cell) (ws : List Waiter) → lowest (is_next store) ws ≡ None → (lowest is_due ws ≡ None) × (lowest (can_end store) ws ≡ None)
next_none store [] e = (refl, refl)
next_none store (w ∷ ws) e = none_step (is_due w) (can_end store w) w (lowest (is_next store) ws) (lowest is_due ws) (lowest (can_end store) ws) e (next_none store ws)

due_step : (a b : Bool) (w one : Waiter) (o p : Option Waiter) → is_due w ≡ a → is_due one ≡ true → cond (a || b) (Some w) o ≡ Some one → (o ≡ Some one → p ≡ Some one) → cond a (Some w) p ≡ Some one
due_step true b w one o p h d e more = e
due_step false true w one o p h d e more = let q : w ≡ one = cc in let r : is_due one ≡ false = subst (λ (x : Waiter). is_due x ≡ false) q h in absurd cc
due_step false false w one o p h d e more = more e

-- if its lowest block is new or stale, that is the lowest one that is so
pub next_due : (store : List Cell) (ws : List Waiter) (one : Waiter) → lowest (is_next store) ws ≡ Some one → is_due one ≡ true → lowest is_due ws ≡ Some one
next_due store [] one e d = absurd cc
next_due store (w ∷ ws) one e d = due_step (is_due w) (can_end store w) w one (lowest (is_next store) ws) (lowest is_due ws) refl d e (λ f. next_due store ws one f d)

end_step : (a b : Bool) (w one : Waiter) (o p : Option Waiter) → is_due w ≡ a → is_due one ≡ false → cond (a || b) (Some w) o ≡ Some one → (o ≡ Some one → p ≡ Some one) → cond b (Some w) p ≡ Some one
end_step true b w one o p h d e more = let q : w ≡ one = cc in let r : is_due one ≡ true = subst (λ (x : Waiter). is_due x ≡ true) q h in absurd cc
end_step false true w one o p h d e more = e
end_step false false w one o p h d e more = more e

-- if it is current, it is the lowest one that doesn't block
pub next_end : (store : List Cell) (ws : List Waiter) (one : Waiter) → lowest (is_next store) ws ≡ Some one → is_due one ≡ false → lowest (can_end store) ws ≡ Some one
next_end store [] one e d = absurd cc
next_end store (w ∷ ws) one e d = end_step (is_due w) (can_end store w) w one (lowest (is_next store) ws) (lowest (can_end store) ws) refl d e (λ f. next_end store ws one f d)
