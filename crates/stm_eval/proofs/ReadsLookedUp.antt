-- What a list of reads has of the variables underneath.
use Rattle.std.proofs.Common.{ℕ, ◌≡◌, refl, sym, ◌∙◌, ap, subst, Option, Some, None, IsSome, List, [], ◌∷◌, nat_eq, nat_lt, inl, inr, ◌⊎◌, ⊎_elim, arith}
use Rattle.std.specs.Prelude.{if◌then◌else◌}
use Rattle.std.proofs.lemmas.Bool.Decides.{nat_tests}
use Rattle.stm_terms.specs.declared.values.Value.{Value}
use Rattle.stm_terms.specs.Typing.{Rising}
use Rattle.stm_terms.specs.Changes.{Variables, find, put}
use Rattle.stm_terms.specs.ReadSet.{insert_reads, insert_read}
use Rattle.stm_log.proofs.SortedAfterInsert.{put_rises}
use Rattle.stm_eval.specs.Laws.{In, AgreeOn}

put_step : (i k j : ℕ) (v w : Value) (es ps : List (ℕ × Value)) → find j ps ≡ (if nat_eq i j then Some v else find j es) → find j (if nat_lt k i then (k, w) ∷ ps else if nat_eq k i then (i, v) ∷ es else (i, v) ∷ (k, w) ∷ es) ≡ (if nat_eq i j then Some v else if nat_eq k j then Some w else find j es)
put_step i k j v w es ps h = grind (arith, nat_tests)

pub find_put : (i : ℕ) (v : Value) (es : List (ℕ × Value)) (j : ℕ) → find j (put i v es) ≡ (if nat_eq i j then Some v else find j es)
find_put i v [] j = refl
find_put i v (e ∷ es) j = put_step i e.0 j v e.1 es (put i v es) (find_put i v es j)

-- a list of reads rises
one_rises : (i : ℕ) (o : Option Value) (reads : List (ℕ × Value)) → Rising reads → Rising (insert_read i o reads)
one_rises i (Some v) reads h = put_rises i v reads h
one_rises i None reads h = h

pub inserted_reads_rise : (S : Variables) (is : List ℕ) (reads : List (ℕ × Value)) → Rising reads → Rising (insert_reads S is reads)
inserted_reads_rise S [] reads h = h
inserted_reads_rise S (i ∷ is) reads h = inserted_reads_rise S is (insert_read i (S i) reads) (one_rises i (S i) reads h)

module _ (S : Variables) where
  -- at i the reads have what the store has, or nothing
  abbrev pub IsPart : List (ℕ × Value) → ℕ → Type 0
  IsPart reads i = (find i reads ≡ None) ⊎ (find i reads ≡ S i)

  at_put : (i j : ℕ) (v : Value) (reads : List (ℕ × Value)) → S i ≡ Some v → find j reads ≡ S j → (if nat_eq i j then Some v else find j reads) ≡ S j
  at_put i j v reads e h = grind (arith, nat_tests)

  at_note : (o : Option Value) (i j : ℕ) (reads : List (ℕ × Value)) → S i ≡ o → find j reads ≡ S j → find j (insert_read i o reads) ≡ S j
  at_note (Some v) i j reads e h = find_put i v reads j ∙ at_put i j v reads e h
  at_note None i j reads e h = h

  part_put : (i j : ℕ) (v : Value) (reads : List (ℕ × Value)) → find j (put i v reads) ≡ (if nat_eq i j then Some v else find j reads) → S i ≡ Some v → IsPart reads j → IsPart (put i v reads) j
  part_put i j v reads p e h = grind (arith, nat_tests)

  noted_put : (i : ℕ) (v : Value) (reads : List (ℕ × Value)) → find i (put i v reads) ≡ (if nat_eq i i then Some v else find i reads) → S i ≡ Some v → find i (put i v reads) ≡ S i
  noted_put i v reads p e = grind (arith, nat_tests)

  part_note : (o : Option Value) (i j : ℕ) (reads : List (ℕ × Value)) → S i ≡ o → IsPart reads j → IsPart (insert_read i o reads) j
  part_note (Some v) i j reads e h = part_put i j v reads (find_put i v reads j) e h
  part_note None i j reads e h = h

  one_noted : (o : Option Value) (i : ℕ) (reads : List (ℕ × Value)) → S i ≡ o → IsPart reads i → find i (insert_read i o reads) ≡ S i
  one_noted (Some v) i reads e h = noted_put i v reads (find_put i v reads i) e
  one_noted None i reads e h = ⊎_elim (λ n. n ∙ sym e) (λ n. n) h

  pub keeps : (is : List ℕ) (reads : List (ℕ × Value)) (j : ℕ) → find j reads ≡ S j → find j (insert_reads S is reads) ≡ S j
  keeps [] reads j h = h
  keeps (i ∷ is) reads j h = keeps is (insert_read i (S i) reads) j (at_note (S i) i j reads refl h)

  pub noted_at : (is : List ℕ) (reads : List (ℕ × Value)) → ((j : ℕ) → IsPart reads j) → (j : ℕ) → In j is → find j (insert_reads S is reads) ≡ S j
  noted_at [] reads h j m = elim m [ ]
  noted_at (i ∷ is) reads h j (inl e) = keeps is (insert_read i (S i) reads) j (subst (λ k. find k (insert_read i (S i) reads) ≡ S k) e (one_noted (S i) i reads refl (h i)))
  noted_at (i ∷ is) reads h j (inr m) = noted_at is (insert_read i (S i) reads) (λ k. part_note (S i) i k reads refl (h k)) j m

  pub part_all : (is : List ℕ) (reads : List (ℕ × Value)) → ((j : ℕ) → IsPart reads j) → (j : ℕ) → IsPart (insert_reads S is reads) j
  part_all [] reads h = h
  part_all (i ∷ is) reads h = part_all is (insert_read i (S i) reads) (λ k. part_note (S i) i k reads refl (h k))

-- stores that agree on these give one list of reads
pub noted_same : (S T : Variables) (is : List ℕ) (reads : List (ℕ × Value)) → AgreeOn is S T → insert_reads T is reads ≡ insert_reads S is reads
noted_same S T [] reads agree = refl
noted_same S T (i ∷ is) reads agree =
    ap (λ o. insert_reads T is (insert_read i o reads)) (agree i (inl refl)) ∙ noted_same S T is (insert_read i (S i) reads) (λ j m. agree j (inr m))

-- what is among the reads was looked at, or was there before
module _ (S : Variables) (j : ℕ) where
  only_put : (i : ℕ) (v : Value) (reads : List (ℕ × Value)) → find j (put i v reads) ≡ (if nat_eq i j then Some v else find j reads) → IsSome (find j (put i v reads)) → (i ≡ j) ⊎ IsSome (find j reads)
  only_put i v reads p h = grind (arith, nat_tests)

  only_note : (o : Option Value) (i : ℕ) (reads : List (ℕ × Value)) → IsSome (find j (insert_read i o reads)) → (i ≡ j) ⊎ IsSome (find j reads)
  only_note (Some v) i reads h = only_put i v reads (find_put i v reads j) h
  only_note None i reads h = inr h

  pub noted_only : (is : List ℕ) (reads : List (ℕ × Value)) → IsSome (find j (insert_reads S is reads)) → In j is ⊎ IsSome (find j reads)
  noted_only [] reads h = inr h
  noted_only (i ∷ is) reads h =
      ⊎_elim (λ m. inl (inr m)) (λ w. ⊎_elim (λ e. inl (inl e)) inr (only_note (S i) i reads w)) (noted_only is (insert_read i (S i) reads) h)
