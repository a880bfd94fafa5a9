-- What the index tells of the variables of a finish is what becomes stale.
use Rattle.std.proofs.Common.{◌≡◌, ◌⊎◌, inl, inr, ⊎_elim, ℕ, Bool, true, false, not, ◌&&◌, ◌||◌, cond, List, [], ◌∷◌, ◌++◌, Option, Some, None, refl, sym, ap, ap₂, subst, ◌∙◌, arith, eqb-true}
use Rattle.std.specs.Prelude.{nat_eq, is_some}
use Rattle.std.specs.List.{list_any}
use Rattle.std.proofs.lemmas.Bool.Decides.{nat_tests}
use Rattle.std.proofs.lemmas.Bool.{or_cases, or_left, or_right}
use Rattle.stm_terms.specs.declared.values.Value.{Value}
use Rattle.stm_terms.specs.declared.verdicts.Verdict.{Verdict}
use Rattle.stm_terms.specs.Changes.{find}
use Rattle.stm_terms.specs.ReadSet.{looks_of, reads_of}
use Rattle.stm_check.specs.TypedBlock.{Block}
use Rattle.stm_eval.specs.Laws.{In}
use Rattle.stm_eval.specs.Messages.{Holds}
use Rattle.stm_eval.proofs.FragmentsAndStores.{looked}
use Rattle.stm_watch.specs.Pairs.{Pairs, is_read, watches}
use Rattle.stm_events.specs.SlowDesk.{Since, Waiter, under, looked_on, intersects, is_stale_since, current_since, is_current, woken_more, find_waiter}
use Rattle.stm_waiting.specs.declared.waiting.Waiting.{Waiting}
use Rattle.stm_waiting.specs.Entries.{kept_at}
use Rattle.stm_machine.specs.Entries.{AreKeptOf, IsHeld}
use Rattle.stm_machine.specs.QueueAndIndex.{read_since, watches_of}
use Rattle.stm_machine.specs.Machine.{AreWatched}
use Rattle.stm_machine.proofs.KeptBlocksWait.{IsSame, IsFound, found}
use Rattle.stm_machine.proofs.QueueAndIndexByTicket.{meets-append, stale_of}

same_bools : (a b : Bool) → (a ≡ true → b ≡ true) → (b ≡ true → a ≡ true) → a ≡ b
same_bools true b f g = sym (f refl)
same_bools false true f g = absurd (cc (g refl))
same_bools false false f g = refl

itself : (i : ℕ) → nat_eq i i ≡ true
itself i = grind (arith, nat_tests)

find_read_step : (b c : Bool) (v : Value) (o : Option Value) → c ≡ b → is_some (cond b (Some v) o) ≡ (c || is_some o)
find_read_step true c v o e = rw e
find_read_step false c v o e = rw e

swapped : (i j : ℕ) → nat_eq i j ≡ nat_eq j i
swapped i j = grind (arith, nat_tests)

is_read_find : (i : ℕ) (rs : List (ℕ × Value)) → is_some (find i rs) ≡ is_read rs i
is_read_find i [] = refl
is_read_find i (r ∷ rs) = find_read_step (nat_eq r.0 i) (nat_eq i r.0) r.1 (find i rs) (swapped i r.0) ∙ ap (λ (b : Bool). nat_eq i r.0 || b) (is_read_find i rs)

any_in : (woken : List ℕ) (i : ℕ) (p : ℕ → Bool) → list_any (nat_eq i) woken ≡ true → p i ≡ true → list_any p woken ≡ true
any_in [] i p h q = cc
any_in (j ∷ js) i p h q =
    ⊎_elim (λ (e : nat_eq i j ≡ true). or_left (p j) (list_any p js) (subst (λ (k : ℕ). p k ≡ true) (eqb-true i j e) q))
    (λ (e : list_any (nat_eq i) js ≡ true). or_right (p j) (list_any p js) (any_in js i p e q)) (or_cases (nat_eq i j) (list_any (nat_eq i) js) h)

meets_in : (woken is : List ℕ) (i : ℕ) → list_any (nat_eq i) woken ≡ true → In i is → intersects woken is ≡ true
meets_in woken [] i h m = absurd m
meets_in woken (j ∷ is) i h m =
    ⊎_elim (λ (e : j ≡ i). or_left (list_any (nat_eq j) woken) (intersects woken is) (subst (λ (k : ℕ). list_any (nat_eq k) woken ≡ true) (sym e) h))
    (λ (n : In i is). or_right (list_any (nat_eq j) woken) (intersects woken is) (meets_in woken is i h n)) m

-- from a variable of the one list that is in the other
to_read : (woken is : List ℕ) (p : ℕ → Bool) → ((i : ℕ) → In i is → p i ≡ true) → intersects woken is ≡ true → list_any p woken ≡ true
to_read woken [] p f h = cc
to_read woken (i ∷ is) p f h =
    ⊎_elim (λ (e : list_any (nat_eq i) woken ≡ true). any_in woken i p e (f i (inl refl)))
    (λ (e : intersects woken is ≡ true). to_read woken is p (λ j m. f j (inr m)) e) (or_cases (list_any (nat_eq i) woken) (intersects woken is) h)

to_looked : (woken all is : List ℕ) (p : ℕ → Bool) → ((i : ℕ) → p i ≡ true → In i is) → ((i : ℕ) → list_any (nat_eq i) woken ≡ true → list_any (nat_eq i) all ≡ true) → list_any p woken ≡ true → intersects all is ≡ true
to_looked [] all is p f sub h = cc
to_looked (j ∷ js) all is p f sub h =
    ⊎_elim (λ (e : p j ≡ true). meets_in all is j (sub j (or_left (nat_eq j j) (list_any (nat_eq j) js) (itself j))) (f j e))
    (λ (e : list_any p js ≡ true). to_looked js all is p f (λ i m. sub i (or_right (nat_eq i j) (list_any (nat_eq i) js) m)) e) (or_cases (p j) (list_any p js) h)

-- the variables of a finish meet those looked at where some of them were read
pub meets_read : (b : Block) (s : Since) (reads : List (ℕ × Value)) (v : Verdict) (woken : List ℕ) → Holds b.tree (under s.store_then) reads v
    → intersects woken (looked_on s.store_then b) ≡ list_any (is_read (read_since b (Some s))) woken
meets_read b s reads v woken holds =
    let S = under s.store_then in
    let rs = reads_of S b.tree in
    same_bools (intersects woken (looks_of S b.tree)) (list_any (is_read rs) woken)
    (to_read woken (looks_of S b.tree) (is_read rs) (λ i m. sym (is_read_find i rs) ∙ (looked b.tree S v holds.verdict_is i).0 m))
    (to_looked woken woken (looks_of S b.tree) (is_read rs) (λ i e. (looked b.tree S v holds.verdict_is i).1 (is_read_find i rs ∙ e)) (λ i m. m))

-- ---- the index at the variables of a finish
any_none : (vs : List ℕ) → list_any (λ v. false) vs ≡ false
any_none [] = refl
any_none (v ∷ vs) = any_none vs

any_both : (b : Bool) (p : ℕ → Bool) (vs : List ℕ) → list_any (λ v. b && p v) vs ≡ (b && list_any p vs)
any_both true p vs = refl
any_both false p vs = any_none vs

stale_bools : (a b c : Bool) → c ≡ (a || b) → (not a && b) ≡ (not a && not (not c))
stale_bools true b c e = refl
stale_bools false true c e = rw e
stale_bools false false c e = rw e

stale_held : (woken : List ℕ) (w : Waiter) (o : Option Since) → (s : Since) → o ≡ Some s → intersects woken (looked_on s.store_then w.block) ≡ list_any (is_read (read_since w.block o)) woken
    → (current_since w.block o && list_any (is_read (read_since w.block o)) woken) ≡ (current_since w.block o && not (current_since w.block (woken_more woken o)))
stale_held woken w None s e m = refl
stale_held woken w (Some z) s e m =
    let q : z ≡ s = cc in
    let n : intersects woken (looked_on z.store_then w.block) ≡ list_any (is_read (read_since w.block (Some z))) woken = subst (λ (x : Since). intersects woken (looked_on x.store_then w.block) ≡ list_any (is_read (read_since w.block (Some z))) woken) (sym q) m in
    ap (λ (b : Bool). not (is_stale_since w.block z) && b) (sym n)
    ∙ stale_bools (intersects z.woken (looked_on z.store_then w.block)) (intersects woken (looked_on z.store_then w.block)) (intersects (z.woken ++ woken) (looked_on z.store_then w.block))
    (meets-append z.woken woken (looked_on z.store_then w.block))

watched_one : (woken : List ℕ) (x : Waiting) (w : Waiter) → IsSame x w → list_any (λ v. watches_of (Some w) v) woken ≡ stale_of woken (Some w)
watched_one woken x w same =
    any_both (is_current w) (is_read (read_since w.block w.since)) woken ∙ by x.held w.since same.held where
      by : (h : Option _) (o : Option Since) → IsHeld w.block h o
          → (current_since w.block o && list_any (is_read (read_since w.block o)) woken) ≡ (current_since w.block o && not (current_since w.block (woken_more woken o)))
      by None None i = refl
      by None (Some s) i = absurd i
      by (Some h) None i = absurd i
      by (Some h) (Some s) i = stale_held woken w (Some s) s refl (meets_read w.block s h.reads h.verdict woken i)

watched_of : (woken : List ℕ) (o : Option Waiting) (p : Option Waiter) → IsFound o p → list_any (λ v. watches_of p v) woken ≡ stale_of woken p
watched_of woken None None f = any_none woken
watched_of woken None (Some w) f = absurd f
watched_of woken (Some x) None f = absurd f
watched_of woken (Some x) (Some w) f = watched_one woken x w f

by_index : (watch : Pairs) (ws : List Waiter) (woken : List ℕ) (u : ℕ) → AreWatched watch ws → watches watch woken u ≡ list_any (λ v. watches_of (find_waiter u ws) v) woken
by_index watch ws [] u i = refl
by_index watch ws (v ∷ vs) u i = ap₂ (λ a b. a || b) (i v u) (by_index watch ws vs u i)

-- a ticket watches some of the variables where it becomes stale by them
pub watches_stale : (watch : Pairs) (es : List (ℕ × Waiting)) (ws : List Waiter) (woken : List ℕ) (u : ℕ) → AreKeptOf es ws → AreWatched watch ws → watches watch woken u ≡ stale_of woken (find_waiter u ws)
watches_stale watch es ws woken u d i = by_index watch ws woken u i ∙ watched_of woken (kept_at u es) (find_waiter u ws) (found u es ws d)
