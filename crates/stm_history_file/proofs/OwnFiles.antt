-- A front of a file in which a first batch is begun is such a file, too.
use Rattle.std.proofs.Common.{◌≡◌, ◌⊎◌, inl, inr, ℕ, zero, suc, ◌≤◌, List, [], ◌∷◌, ◌++◌, length, drop, sym, ◌∙◌, ap, subst, arith, length-append, take-append-drop}
use Rattle.std.proofs.lemmas.List.{drop-append-le, take-append-le}
use Rattle.stm_journal.specs.FirstBatch.{IsAsFar, IsBegun, front_steps}
use Rattle.stm_history_file.specs.Durable.{history_front, OwnStaysOwn}

no_more_or_less : (n m : ℕ) → (n ≤ m) ⊎ (m ≤ n)
no_more_or_less zero m = inl (omega arith)
no_more_or_less (suc n) zero = inr (omega arith)
no_more_or_less (suc n) (suc m) = elim (no_more_or_less n m) [ inl le ↦ inl (omega (arith, le)) | inr ge ↦ inr (omega (arith, ge)) ]

front_is_as_far : (steps : List (List ℕ)) (front rest : List ℕ) → IsAsFar steps (front ++ rest) → IsAsFar steps front
front_is_as_far [] front rest is = tt
front_is_as_far (step ∷ steps) front rest (inl short) = inl (omega (arith, short, length-append front rest))
front_is_as_far (step ∷ steps) front rest (inr more) = elim (no_more_or_less (length front) (length step)) [
  | inl short ↦ inl short
  | inr long ↦
      inr (
        sym (take-append-le (length step) front rest long) ∙ more.0,
        front_is_as_far steps (drop (length step) front) rest (subst (IsAsFar steps) (drop-append-le (length step) front rest long) more.1),
      )
]

pub own_stays_own : OwnStaysOwn
own_stays_own file other same own foreign =
    own (record {
      nothing = sym same.lines ∙ foreign.nothing;
      other = λ begun.
          let parts : file ≡ other ++ drop (length other) file =
          sym (take-append-drop (length other) file) ∙ ap (λ (l : List ℕ). l ++ drop (length other) file) same.front in
          foreign.other (front_is_as_far (front_steps history_front) other (drop (length other) file) (subst (IsBegun history_front) parts begun));
    })
