-- The reads of two branches that began with the same reads, joined, are those of one branch after the other.
use Rattle.std.proofs.Common.{◌≡◌, ℕ, zero, suc, ◌<◌, ◌≤◌, List, [], ◌∷◌, ◌++◌, Option, Some, None, nat_eq, refl, sym, ap, ◌∙◌, ⊎_elim, ◌⊎◌, arith}
use Rattle.std.specs.Prelude.{if◌then◌else◌}
use Rattle.std.proofs.lemmas.Bool.Decides.{nat_tests}
use Rattle.stm_terms.specs.declared.values.Value.{Value}
use Rattle.stm_terms.specs.Typing.{Rising, AllAbove}
use Rattle.stm_terms.specs.Changes.{Variables, find, put, first_of}
use Rattle.stm_terms.specs.ReadSet.{insert_reads, insert_read}
use Rattle.stm_log.specs.LogModel.{joined_reads}
use Rattle.stm_log.proofs.SortedAfterInsert.{put_rises}
use Rattle.stm_eval.proofs.InsertedReads.{noted-append}
use Rattle.stm_eval.proofs.ReadsLookedUp.{find_put, inserted_reads_rise, keeps, part_all}

abbrev Pairs : Type 0
Pairs = List (ℕ × Value)

-- ---- rising lists with the same value at each variable are one
none_step : (a i : ℕ) (v : Value) (o : Option Value) → i < a → o ≡ None → (if nat_eq a i then Some v else o) ≡ None
none_step a i v o l h = grind (arith, nat_tests)

none_above : (n i : ℕ) (es : Pairs) → AllAbove n es → i ≤ n → find i es ≡ None
none_above n i [] p l = refl
none_above n i (e ∷ es) p l = none_step e.0 i e.1 (find i es) (omega (arith, p.0)) (none_above n i es p.1 l)

no_head : (n : ℕ) (v : Value) (o : Option Value) → None ≡ (if nat_eq n n then Some v else o) → ⊥
no_head n v o h = grind (arith, nat_tests)

below_step : (n m : ℕ) (v w : Value) (o p : Option Value) → n < m → p ≡ None → (if nat_eq n n then Some v else o) ≡ (if nat_eq m n then Some w else p) → ⊥
below_step n m v w o p l k e = grind (arith, nat_tests)

one_head : (n m : ℕ) → (n < m → ⊥) → (m < n → ⊥) → n ≡ m
one_head zero zero h k = refl
one_head zero (suc m) h k = absurd (h (omega arith))
one_head (suc n) zero h k = absurd (k (omega arith))
one_head (suc n) (suc m) h k = ap suc (one_head n m (λ l. h (omega (arith, l))) (λ l. k (omega (arith, l))))

values_step : (n m : ℕ) (v w : Value) (o p : Option Value) → n ≡ m → (if nat_eq n n then Some v else o) ≡ (if nat_eq m n then Some w else p) → v ≡ w
values_step n m v w o p s e = grind (arith, nat_tests)

tails_step : (n m i : ℕ) (v w : Value) (o p : Option Value) → n ≡ m → (i ≤ n → o ≡ p) → (if nat_eq n i then Some v else o) ≡ (if nat_eq m i then Some w else p) → o ≡ p
tails_step n m i v w o p s k e = grind (arith, nat_tests)

pair_is : (x y : ℕ × Value) → x.0 ≡ y.0 → x.1 ≡ y.1 → x ≡ y
pair_is (n, v) (m, w) p q = ap (λ (k : ℕ). (k, v)) p ∙ ap (λ (z : Value). (m, z)) q

same_lists : (xs ys : Pairs) → Rising xs → Rising ys → ((i : ℕ) → find i xs ≡ find i ys) → xs ≡ ys
same_lists [] [] p q h = refl
same_lists [] (y ∷ ys) p q h = absurd (no_head y.0 y.1 (find y.0 ys) (h y.0))
same_lists (x ∷ xs) [] p q h = absurd (no_head x.0 x.1 (find x.0 xs) (sym (h x.0)))
same_lists (x ∷ xs) (y ∷ ys) p q h =
    let at : x.0 ≡ y.0 = one_head x.0 y.0
    (λ l. below_step x.0 y.0 x.1 y.1 (find x.0 xs) (find x.0 ys) l (none_above y.0 x.0 ys q.0 (omega (arith, l))) (h x.0))
    (λ l. below_step y.0 x.0 y.1 x.1 (find y.0 ys) (find y.0 xs) l (none_above x.0 y.0 xs p.0 (omega (arith, l))) (sym (h y.0))) in
    let value : x.1 ≡ y.1 = values_step x.0 y.0 x.1 y.1 (find x.0 xs) (find x.0 ys) at (h x.0) in
    let rest : xs ≡ ys = same_lists xs ys p.1 q.1 (λ i. tails_step x.0 y.0 i x.1 y.1 (find i xs) (find i ys) at
    (λ l. none_above x.0 i xs p.0 l ∙ sym (none_above y.0 i ys q.0 (omega (arith, at, l)))) (h i)) in
    ap (λ (e : ℕ × Value). e ∷ xs) (pair_is x y at value) ∙ ap (λ (es : Pairs). y ∷ es) rest

-- ---- what a joined list has
head_step : (n j : ℕ) (v : Value) (o p : Option Value) → (j ≤ n → o ≡ None) → first_of o (if nat_eq n j then Some v else p) ≡ first_of (if nat_eq n j then Some v else o) p
head_step n j v None p k = grind (arith, nat_tests)
head_step n j v (Some w) p k = grind (arith, nat_tests)

find_joined : (es rs : Pairs) (j : ℕ) → Rising es → find j (joined_reads es rs) ≡ first_of (find j es) (find j rs)
find_joined [] rs j p = refl
find_joined (e ∷ es) rs j p =
    find_joined es (put e.0 e.1 rs) j p.1
    ∙ ap (λ (o : Option Value). first_of (find j es) o) (find_put e.0 e.1 rs j)
    ∙ head_step e.0 j e.1 (find j es) (find j rs) (λ l. none_above e.0 j es p.0 l)

joined_rises : (es rs : Pairs) → Rising rs → Rising (joined_reads es rs)
joined_rises [] rs p = p
joined_rises (e ∷ es) rs p = joined_rises es (put e.0 e.1 rs) (put_rises e.0 e.1 rs p)

module _ (S : Variables) where
  -- what is put at a variable depends on what was there alone
  alike_one : (o : Option Value) (i j : ℕ) (xs ys : Pairs) → find j xs ≡ find j ys → find j (insert_read i o xs) ≡ find j (insert_read i o ys)
  alike_one (Some v) i j xs ys h = find_put i v xs j ∙ ap (λ (o : Option Value). if nat_eq i j then Some v else o) h ∙ sym (find_put i v ys j)
  alike_one None i j xs ys h = h

  alike : (is : List ℕ) (j : ℕ) (xs ys : Pairs) → find j xs ≡ find j ys → find j (insert_reads S is xs) ≡ find j (insert_reads S is ys)
  alike [] j xs ys h = h
  alike (i ∷ is) j xs ys h = alike is j (insert_read i (S i) xs) (insert_read i (S i) ys) (alike_one (S i) i j xs ys h)

  twice : (o : Option Value) → first_of o o ≡ o
  twice (Some v) = refl
  twice None = refl

  first_none : (o : Option Value) → first_of o None ≡ o
  first_none (Some v) = refl
  first_none None = refl

  either : (o s : Option Value) → (o ≡ None) ⊎ (o ≡ s) → first_of s o ≡ s
  either o s h = ⊎_elim (λ n. ap (first_of s) n ∙ first_none s) (λ n. ap (first_of s) n ∙ twice s) h

  module _ (is js : List ℕ) (r : Pairs) (parts : (j : ℕ) → (find j r ≡ None) ⊎ (find j r ≡ S j)) where
    same_at : (j : ℕ) → first_of (find j (insert_reads S is r)) (find j (insert_reads S js r)) ≡ find j (insert_reads S js (insert_reads S is r))
    same_at j =
        let mine = insert_reads S is r in let theirs = insert_reads S js r in
        let late : (find j theirs ≡ None) ⊎ (find j theirs ≡ S j) = part_all S js r parts j in
        let found : find j mine ≡ S j → first_of (find j mine) (find j theirs) ≡ find j (insert_reads S js mine) =
        (λ h. ap (λ (o : Option Value). first_of o (find j theirs)) h ∙ either (find j theirs) (S j) late ∙ sym (keeps S js mine j h)) in
        let lost : find j mine ≡ None → find j r ≡ None → first_of (find j mine) (find j theirs) ≡ find j (insert_reads S js mine) =
        (λ h k. ap (λ (o : Option Value). first_of o (find j theirs)) h ∙ alike js j r mine (k ∙ sym h)) in
        ⊎_elim (λ k. ⊎_elim (λ h. lost h k) found (part_all S is r parts j)) (λ h. found (keeps S is r j h)) (parts j)

    pub joined_in_turn : Rising r → joined_reads (insert_reads S is r) (insert_reads S js r) ≡ insert_reads S (is ++ js) r
    joined_in_turn p =
        same_lists (joined_reads (insert_reads S is r) (insert_reads S js r)) (insert_reads S js (insert_reads S is r))
        (joined_rises (insert_reads S is r) (insert_reads S js r) (inserted_reads_rise S js r p)) (inserted_reads_rise S js (insert_reads S is r) (inserted_reads_rise S is r p))
        (λ j. find_joined (insert_reads S is r) (insert_reads S js r) j (inserted_reads_rise S is r p) ∙ same_at j)
        ∙ sym (noted-append S is js r)
