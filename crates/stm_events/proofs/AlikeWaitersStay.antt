-- Waiting blocks of which the same is observed, and that they stay so.
use Rattle.std.proofs.Common.{◌≡◌, ⊎_elim, inl, inr, ℕ, suc, Bool, true, false, not, ◌||◌, ◌&&◌, cond, List, [], ◌∷◌, ◌++◌, map, filter, length, Option, Some, None, IsSome, refl, sym, ap, subst, ◌∙◌}
use Rattle.std.specs.Prelude.{nat_eq}
use Rattle.std.specs.List.{list_any}
use Rattle.std.proofs.lemmas.List.Folds.{list_any-append}
use Rattle.stm_terms.specs.declared.values.Value.{Value}
use Rattle.stm_terms.specs.declared.verdicts.Verdict.{Verdict}
use Rattle.stm_terms.specs.Changes.{find}
use Rattle.stm_terms.specs.ReadSet.{reads_of}
use Rattle.stm_store.specs.declared.cell.Cell.{Cell}
use Rattle.stm_check.specs.TypedBlock.{Block}
use Rattle.stm_eval.specs.Laws.{In}
use Rattle.stm_eval.proofs.FragmentsAndStores.{looked}
use Rattle.stm_events.specs.declared.event.What.{What}
use Rattle.stm_events.specs.declared.event.What.TheVariants.{Submitted, Installed, Finished, Cancelled, Declared as DeclaredLate, Labelled}
use Rattle.stm_events.specs.BlockStatus.{read_since_then}
use Rattle.stm_events.specs.SlowDesk.{Since, Waiter, Slow, Standing, New, Stale, Current, under, verdict_on, looked_on, waking, intersects, is_stale_since, is_new_since, is_new, current_since, is_current, woken_more, after_writes, becomes_stale, find_waiter, without_waiter, with_delivery, delivered, stale_after, after, standing_since, weak_since}
use Rattle.stm_events.specs.SlowSettle.{lowest}
use Rattle.stm_events.specs.States.{HadVerdict, HadVerdicts, observed_waiter}
use Rattle.stm_events.proofs.Possible.{had_without, some_verdict}

-- ---- the relation
-- the same is observed of both
pub record IsAlike (w w' : Waiter) : Type 0 where
  pub ticket : w.ticket ≡ w'.ticket
  pub block : w.block ≡ w'.block
  pub standing : weak_since w.block w.since ≡ weak_since w'.block w'.since
  pub reads : read_since_then w.block w.since ≡ read_since_then w'.block w'.since

-- of each in turn
abbrev pub AreAlike : List Waiter → List Waiter → Type 0
AreAlike [] [] = Unit {0}
AreAlike [] (w' ∷ ws') = ⊥
AreAlike (w ∷ ws) [] = ⊥
AreAlike (w ∷ ws) (w' ∷ ws') = IsAlike w w' × AreAlike ws ws'

-- of one that may be there
abbrev pub MayBeAlike : Option Waiter → Option Waiter → Type 0
MayBeAlike None None = Unit {0}
MayBeAlike None (Some w') = ⊥
MayBeAlike (Some w) None = ⊥
MayBeAlike (Some w) (Some w') = IsAlike w w'

pub alike_from : (ws ws' : List Waiter) → map observed_waiter ws ≡ map observed_waiter ws' → AreAlike ws ws'
alike_from [] [] e = tt
alike_from [] (w' ∷ ws') e = absurd cc
alike_from (w ∷ ws) [] e = absurd cc
alike_from (w ∷ ws) (w' ∷ ws') e =
    let first : observed_waiter w ≡ observed_waiter w' = cc in
    let rest : map observed_waiter ws ≡ map observed_waiter ws' = cc in (
      record { ticket = ap (λ x. x.ticket) first; block = ap (λ x. x.block) first; standing = ap (λ x. x.standing) first; reads = ap (λ x. x.reads) first },
      alike_from ws ws' rest,
    )

observed_alike : (w w' : Waiter) → IsAlike w w' → observed_waiter w ≡ observed_waiter w'
observed_alike w w' k = λ i. record { ticket = k.ticket i; block = k.block i; standing = k.standing i; reads = k.reads i }

pub alike_to : (ws ws' : List Waiter) → AreAlike ws ws' → map observed_waiter ws ≡ map observed_waiter ws'
alike_to [] [] k = refl
alike_to [] (w' ∷ ws') k = absurd k
alike_to (w ∷ ws) [] k = absurd k
alike_to (w ∷ ws) (w' ∷ ws') k = let first = observed_alike w w' k.0 in let rest = alike_to ws ws' k.1 in λ i. first i ∷ rest i

-- ---- what is read off how a block stands
abbrev is_current_there : Standing → Bool
is_current_there New = false
is_current_there (Stale v) = false
is_current_there (Current v) = true

abbrev is_new_there : Standing → Bool
is_new_there New = true
is_new_there (Stale v) = false
is_new_there (Current v) = false

abbrev verdict_there : Standing → Option Verdict
verdict_there New = None
verdict_there (Stale v) = v
verdict_there (Current v) = v

-- the standing with this verdict for a current block
abbrev with_present : Option Verdict → Standing → Standing
with_present present New = New
with_present present (Stale v) = Stale v
with_present present (Current v) = Current present

current_cond : (b : Bool) (v : Option Verdict) → is_current_there (cond b (Stale v) (Current v)) ≡ not b
current_cond true v = refl
current_cond false v = refl

new_cond : (b : Bool) (v : Option Verdict) → is_new_there (cond b (Stale v) (Current v)) ≡ false
new_cond true v = refl
new_cond false v = refl

verdict_cond : (b : Bool) (v : Option Verdict) → verdict_there (cond b (Stale v) (Current v)) ≡ v
verdict_cond true v = refl
verdict_cond false v = refl

present_cond : (b : Bool) (v present : Option Verdict) → with_present present (cond b (Stale v) (Current v)) ≡ cond b (Stale v) (Current present)
present_cond true v present = refl
present_cond false v present = refl

current_off : (b : Block) (o : Option Since) → is_current_there (weak_since b o) ≡ current_since b o
current_off b None = refl
current_off b (Some s) = current_cond (is_stale_since b s) (verdict_on s.store_then b)

new_off : (b : Block) (o : Option Since) → is_new_there (weak_since b o) ≡ is_new_since o
new_off b None = refl
new_off b (Some s) = new_cond (is_stale_since b s) (verdict_on s.store_then b)

present_off : (store : List Cell) (b : Block) (o : Option Since) → with_present (verdict_on store b) (weak_since b o) ≡ standing_since store b o
present_off store b None = refl
present_off store b (Some s) = present_cond (is_stale_since b s) (verdict_on s.store_then b) (verdict_on store b)

pub same_current : (w w' : Waiter) → IsAlike w w' → is_current w ≡ is_current w'
same_current w w' k = sym (current_off w.block w.since) ∙ ap is_current_there k.standing ∙ current_off w'.block w'.since

pub same_new : (w w' : Waiter) → IsAlike w w' → is_new w ≡ is_new w'
same_new w w' k = sym (new_off w.block w.since) ∙ ap is_new_there k.standing ∙ new_off w'.block w'.since

pub same_standing : (store : List Cell) (w w' : Waiter) → IsAlike w w' → standing_since store w.block w.since ≡ standing_since store w'.block w'.since
same_standing store w w' k =
    sym (present_off store w.block w.since) ∙ (λ i. with_present (verdict_on store (k.block i)) (k.standing i)) ∙ present_off store w'.block w'.since

pub same_verdict : (store : List Cell) (w w' : Waiter) → IsAlike w w' → verdict_on store w.block ≡ verdict_on store w'.block
same_verdict store w w' k = ap (verdict_on store) k.block

-- ---- the variables that make a block stale
any_in : (p : ℕ → Bool) (i : ℕ) (is : List ℕ) → In i is → p i ≡ true → list_any p is ≡ true
any_in p i [] m h = absurd m
any_in p i (j ∷ is) m h =
    ⊎_elim (λ (e : j ≡ i). ap (λ (b : Bool). b || list_any p is) (ap p e ∙ h)) (λ (n : In i is). or_right (p j) (list_any p is) (any_in p i is n h)) m where
      or_right : (a b : Bool) → b ≡ true → (a || b) ≡ true
      or_right true b e = refl
      or_right false b e = e

-- one of them has the property
record IsFound (p : ℕ → Bool) (is : List ℕ) : Type 0 where
  pub it : ℕ
  pub among : In it is
  pub holds : p it ≡ true

found_cons : (p : ℕ → Bool) (b : Bool) (i : ℕ) (is : List ℕ) → p i ≡ b → (list_any p is ≡ true → IsFound p is) → (b || list_any p is) ≡ true → IsFound p (i ∷ is)
found_cons p true i is h more e = record { it = i; among = inl refl; holds = h }
found_cons p false i is h more e = let f = more e in record { it = f.it; among = inr f.among; holds = f.holds }

any_found : (p : ℕ → Bool) (is : List ℕ) → list_any p is ≡ true → IsFound p is
any_found p [] e = absurd cc
any_found p (i ∷ is) e = found_cons p (p i) i is refl (any_found p is) e

any_within : (p : ℕ → Bool) (is js : List ℕ) → ((i : ℕ) → In i is → In i js) → list_any p is ≡ true → list_any p js ≡ true
any_within p is js within e = let f = any_found p is e in any_in p f.it js (within f.it f.among) f.holds

both_ways : (a b : Bool) → (a ≡ true → b ≡ true) → (b ≡ true → a ≡ true) → a ≡ b
both_ways true b f g = sym (f refl)
both_ways false true f g = g refl
both_ways false false f g = refl

-- what was read at one delivery was read at the other
looked_within : (b : Block) (s s' : Since) (v v' : Verdict) → verdict_on s.store_then b ≡ Some v → verdict_on s'.store_then b ≡ Some v' → reads_of (under s.store_then) b.tree ≡ reads_of (under s'.store_then) b.tree
    → (i : ℕ) → In i (looked_on s.store_then b) → In i (looked_on s'.store_then b)
looked_within b s s' v v' e e' r i m =
    (looked b.tree (under s'.store_then) v' e' i).1 (subst (λ (rs : List (ℕ × Value)). IsSome (find i rs)) r ((looked b.tree (under s.store_then) v e i).0 m))

same_meets : (woken : List ℕ) (b : Block) (s s' : Since) (v v' : Verdict) → verdict_on s.store_then b ≡ Some v → verdict_on s'.store_then b ≡ Some v' → reads_of (under s.store_then) b.tree ≡ reads_of (under s'.store_then) b.tree
    → intersects woken (looked_on s.store_then b) ≡ intersects woken (looked_on s'.store_then b)
same_meets woken b s s' v v' e e' r =
    both_ways _ _ (any_within (λ i. list_any (nat_eq i) woken) (looked_on s.store_then b) (looked_on s'.store_then b) (looked_within b s s' v v' e e' r))
    (any_within (λ i. list_any (nat_eq i) woken) (looked_on s'.store_then b) (looked_on s.store_then b) (looked_within b s' s v' v e' e (sym r)))

apart_or : (a b c d : Bool) → ((a || b) || (c || d)) ≡ ((a || c) || (b || d))
apart_or true b c d = refl
apart_or false true true d = refl
apart_or false true false d = refl
apart_or false false c d = refl

pub meets-append : (woken more is : List ℕ) → intersects (woken ++ more) is ≡ (intersects woken is || intersects more is)
meets-append woken more [] = refl
meets-append woken more (i ∷ is) =
    (λ k. list_any-append (nat_eq i) woken more k || meets-append woken more is k)
    ∙ apart_or (list_any (nat_eq i) woken) (list_any (nat_eq i) more) (intersects woken is) (intersects more is)

-- ---- after a finish
flip : (a b : Bool) → not a ≡ not b → a ≡ b
flip true true e = refl
flip true false e = absurd cc
flip false true e = absurd cc
flip false false e = refl

stands_more : (woken : List ℕ) (b : Block) (s s' : Since) → HadVerdict b (Some s) → HadVerdict b (Some s') → weak_since b (Some s) ≡ weak_since b (Some s') → reads_of (under s.store_then) b.tree ≡ reads_of (under s'.store_then) b.tree
    → weak_since b (woken_more woken (Some s)) ≡ weak_since b (woken_more woken (Some s'))
stands_more woken b s s' h h' e r =
    let p = some_verdict (verdict_on s.store_then b) h in
    let p' = some_verdict (verdict_on s'.store_then b) h' in
    let was : is_stale_since b s ≡ is_stale_since b s' = flip _ _ (sym (current_off b (Some s)) ∙ ap is_current_there e ∙ current_off b (Some s')) in
    let verdict : verdict_on s.store_then b ≡ verdict_on s'.store_then b =
    sym (verdict_cond (is_stale_since b s) (verdict_on s.store_then b)) ∙ ap verdict_there e ∙ verdict_cond (is_stale_since b s') (verdict_on s'.store_then b) in
    let meets = same_meets woken b s s' p.0 p'.0 p.1 p'.1 r in
    let now : intersects (s.woken ++ woken) (looked_on s.store_then b) ≡ intersects (s'.woken ++ woken) (looked_on s'.store_then b) =
    meets-append s.woken woken (looked_on s.store_then b) ∙ (λ k. was k || meets k) ∙ sym (meets-append s'.woken woken (looked_on s'.store_then b)) in
    λ k. cond (now k) (Stale (verdict k)) (Current (verdict k))

reads_more : (woken : List ℕ) (b : Block) (o : Option Since) → read_since_then b (woken_more woken o) ≡ read_since_then b o
reads_more woken b None = refl
reads_more woken b (Some s) = refl

marks_by : (woken : List ℕ) (b : Block) (o o' : Option Since) → HadVerdict b o → HadVerdict b o' → weak_since b o ≡ weak_since b o' → read_since_then b o ≡ read_since_then b o'
    → weak_since b (woken_more woken o) ≡ weak_since b (woken_more woken o')
marks_by woken b None None h h' e r = refl
marks_by woken b None (Some s') h h' e r = absurd cc
marks_by woken b (Some s) None h h' e r = absurd cc
marks_by woken b (Some s) (Some s') h h' e r = let q : reads_of (under s.store_then) b.tree ≡ reads_of (under s'.store_then) b.tree = cc in stands_more woken b s s' h h' e q

pub alike_marked : (woken : List ℕ) (w w' : Waiter) → IsAlike w w' → HadVerdict w.block w.since → HadVerdict w'.block w'.since → IsAlike (after_writes woken w) (after_writes woken w')
alike_marked woken w w' k h h' = record {
  ticket = k.ticket;
  block = k.block;
  standing =
      marks_by woken w.block w.since w'.since h (subst (λ (b : Block). HadVerdict b w'.since) (sym k.block) h') (k.standing ∙ ap (λ (b : Block). weak_since b w'.since) (sym k.block))
      (k.reads ∙ ap (λ (b : Block). read_since_then b w'.since) (sym k.block))
      ∙ ap (λ (b : Block). weak_since b (woken_more woken w'.since)) k.block;
  reads = reads_more woken w.block w.since ∙ k.reads ∙ sym (reads_more woken w'.block w'.since);
}

-- ---- each change of the list
alike_marks : (woken : List ℕ) (ws ws' : List Waiter) → AreAlike ws ws' → HadVerdicts ws → HadVerdicts ws' → AreAlike (map (after_writes woken) ws) (map (after_writes woken) ws')
alike_marks woken [] [] k h h' = tt
alike_marks woken [] (w' ∷ ws') k h h' = absurd k
alike_marks woken (w ∷ ws) [] k h h' = absurd k
alike_marks woken (w ∷ ws) (w' ∷ ws') k h h' = (alike_marked woken w w' k.0 h.0 h'.0, alike_marks woken ws ws' k.1 h.1 h'.1)

without_by : (b b' : Bool) (w w' : Waiter) (ws ws' vs vs' : List Waiter) → b ≡ b' → IsAlike w w' → AreAlike ws ws' → AreAlike vs vs' → AreAlike (cond b ws (w ∷ vs)) (cond b' ws' (w' ∷ vs'))
without_by true true w w' ws ws' vs vs' e k ks ls = ks
without_by true false w w' ws ws' vs vs' e k ks ls = absurd cc
without_by false true w w' ws ws' vs vs' e k ks ls = absurd cc
without_by false false w w' ws ws' vs vs' e k ks ls = (k, ls)

pub alike_without : (t : ℕ) (ws ws' : List Waiter) → AreAlike ws ws' → AreAlike (without_waiter t ws) (without_waiter t ws')
alike_without t [] [] k = tt
alike_without t [] (w' ∷ ws') k = absurd k
alike_without t (w ∷ ws) [] k = absurd k
alike_without t (w ∷ ws) (w' ∷ ws') k =
    without_by (nat_eq t w.ticket) (nat_eq t w'.ticket) w w' ws ws' (without_waiter t ws) (without_waiter t ws') (ap (nat_eq t) k.0.ticket) k.0 k.1 (alike_without t ws ws' k.1)

alike_delivery : (store : List Cell) (w w' : Waiter) → IsAlike w w' → IsAlike (with_delivery store w) (with_delivery store w')
alike_delivery store w w' k =
    let since : Option Since = Some (record { store_then = store; woken = [] }) in
    record { ticket = k.ticket; block = k.block; standing = ap (λ (b : Block). weak_since b since) k.block; reads = ap (λ (b : Block). read_since_then b since) k.block }

delivered_by : (b b' : Bool) (v v' w w' : Waiter) (ws ws' vs vs' : List Waiter) → b ≡ b' → IsAlike v v' → IsAlike w w' → AreAlike ws ws' → AreAlike vs vs' → AreAlike (cond b (v ∷ ws) (w ∷ vs)) (cond b' (v' ∷ ws') (w' ∷ vs'))
delivered_by true true v v' w w' ws ws' vs vs' e d k ks ls = (d, ks)
delivered_by true false v v' w w' ws ws' vs vs' e d k ks ls = absurd cc
delivered_by false true v v' w w' ws ws' vs vs' e d k ks ls = absurd cc
delivered_by false false v v' w w' ws ws' vs vs' e d k ks ls = (k, ls)

alike_delivered : (t : ℕ) (store : List Cell) (ws ws' : List Waiter) → AreAlike ws ws' → AreAlike (delivered t store ws) (delivered t store ws')
alike_delivered t store [] [] k = tt
alike_delivered t store [] (w' ∷ ws') k = absurd k
alike_delivered t store (w ∷ ws) [] k = absurd k
alike_delivered t store (w ∷ ws) (w' ∷ ws') k =
    delivered_by (nat_eq t w.ticket) (nat_eq t w'.ticket) (with_delivery store w) (with_delivery store w') w w' ws ws' (delivered t store ws) (delivered t store ws') (ap (nat_eq t) k.0.ticket)
    (alike_delivery store w w' k.0) k.0 k.1 (alike_delivered t store ws ws' k.1)

alike_push : (v : Waiter) (ws ws' : List Waiter) → AreAlike ws ws' → AreAlike (ws ++ v ∷ []) (ws' ++ v ∷ [])
alike_push v [] [] k = (record { ticket = refl; block = refl; standing = refl; reads = refl }, tt)
alike_push v [] (w' ∷ ws') k = absurd k
alike_push v (w ∷ ws) [] k = absurd k
alike_push v (w ∷ ws) (w' ∷ ws') k = (k.0, alike_push v ws ws' k.1)

abbrev pub with_waiters : Slow → List Waiter → Slow
with_waiters s ws = record s { waiters = ws }

pub alike_after : (s : Slow) (ws' : List Waiter) (d : What) → AreAlike s.waiters ws' → HadVerdicts s.waiters → HadVerdicts ws' → AreAlike (after s d).waiters (after (with_waiters s ws') d).waiters
alike_after s ws' (Submitted t b) k h h' = alike_push _ s.waiters ws' k
alike_after s ws' (Installed t v) k h h' = alike_delivered t s.store s.waiters ws' k
alike_after s ws' (Finished t v n l) k h h' =
    alike_marks (waking s.rule s.store v) (without_waiter t s.waiters) (without_waiter t ws') (alike_without t s.waiters ws' k) (had_without t s.waiters h) (had_without t ws' h')
alike_after s ws' (Cancelled t) k h h' = alike_without t s.waiters ws' k
alike_after s ws' (DeclaredLate name kind value) k h h' = k
alike_after s ws' (Labelled t label) k h h' = k

-- ---- what is read off the list
pub same_length : (ws ws' : List Waiter) → AreAlike ws ws' → length ws ≡ length ws'
same_length [] [] k = refl
same_length [] (w' ∷ ws') k = absurd k
same_length (w ∷ ws) [] k = absurd k
same_length (w ∷ ws) (w' ∷ ws') k = ap suc (same_length ws ws' k.1)

first_by : (b b' : Bool) (w w' : Waiter) (o o' : Option Waiter) → b ≡ b' → IsAlike w w' → MayBeAlike o o' → MayBeAlike (cond b (Some w) o) (cond b' (Some w') o')
first_by true true w w' o o' e k m = k
first_by true false w w' o o' e k m = absurd cc
first_by false true w w' o o' e k m = absurd cc
first_by false false w w' o o' e k m = m

pub alike_found : (t : ℕ) (ws ws' : List Waiter) → AreAlike ws ws' → MayBeAlike (find_waiter t ws) (find_waiter t ws')
alike_found t [] [] k = tt
alike_found t [] (w' ∷ ws') k = absurd k
alike_found t (w ∷ ws) [] k = absurd k
alike_found t (w ∷ ws) (w' ∷ ws') k = first_by (nat_eq t w.ticket) (nat_eq t w'.ticket) w w' (find_waiter t ws) (find_waiter t ws') (ap (nat_eq t) k.0.ticket) k.0 (alike_found t ws ws' k.1)

pub alike_lowest : (p : Waiter → Bool) (ws ws' : List Waiter) → ((w w' : Waiter) → IsAlike w w' → p w ≡ p w') → AreAlike ws ws' → MayBeAlike (lowest p ws) (lowest p ws')
alike_lowest p [] [] same k = tt
alike_lowest p [] (w' ∷ ws') same k = absurd k
alike_lowest p (w ∷ ws) [] same k = absurd k
alike_lowest p (w ∷ ws) (w' ∷ ws') same k = first_by (p w) (p w') w w' (lowest p ws) (lowest p ws') (same w w' k.0) k.0 (alike_lowest p ws ws' same k.1)

same_stale : (woken : List ℕ) (w w' : Waiter) → IsAlike w w' → HadVerdict w.block w.since → HadVerdict w'.block w'.since → becomes_stale woken w ≡ becomes_stale woken w'
same_stale woken w w' k h h' =
    let before = same_current w w' k in
    let later = same_current (after_writes woken w) (after_writes woken w') (alike_marked woken w w' k h h') in
    λ i. before i && not (later i)

kept_by : (b b' : Bool) (w w' : Waiter) (ws ws' : List Waiter) → b ≡ b' → w.ticket ≡ w'.ticket → map (λ x. x.ticket) ws ≡ map (λ x. x.ticket) ws'
    → map (λ (x : Waiter). x.ticket) (cond b (w ∷ ws) ws) ≡ map (λ (x : Waiter). x.ticket) (cond b' (w' ∷ ws') ws')
kept_by true true w w' ws ws' e t r = λ i. t i ∷ r i
kept_by true false w w' ws ws' e t r = absurd cc
kept_by false true w w' ws ws' e t r = absurd cc
kept_by false false w w' ws ws' e t r = r

pub same_stales : (woken : List ℕ) (ws ws' : List Waiter) → AreAlike ws ws' → HadVerdicts ws → HadVerdicts ws' → stale_after woken ws ≡ stale_after woken ws'
same_stales woken [] [] k h h' = refl
same_stales woken [] (w' ∷ ws') k h h' = absurd k
same_stales woken (w ∷ ws) [] k h h' = absurd k
same_stales woken (w ∷ ws) (w' ∷ ws') k h h' =
    kept_by (becomes_stale woken w) (becomes_stale woken w') w w' (filter (becomes_stale woken) ws) (filter (becomes_stale woken) ws') (same_stale woken w w' k.0 h.0 h'.0) k.0.ticket
    (same_stales woken ws ws' k.1 h.1 h'.1)
