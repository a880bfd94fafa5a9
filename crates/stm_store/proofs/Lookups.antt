-- The cells that a verdict leaves, variable by variable.
use Rattle.std.proofs.Common.{◌≡◌, ℕ, zero, suc, ◌+◌, ◌<◌, Bool, true, false, List, [], ◌∷◌, ◌++◌, map, Option, Some, None, length, set, refl, sym, ap, subst, ◌∙◌, arith, eqb-true}
use Rattle.std.specs.Prelude.{slice_get, option_map, nat_eq, if◌then◌else◌}
use Rattle.std.proofs.lemmas.Bool.Decides.{nat_tests}
use Rattle.std.proofs.lemmas.Option.{slice_get-map, slice_get_past}
use Rattle.stm_terms.specs.declared.values.Value.{Value}
use Rattle.stm_terms.specs.declared.verdicts.Verdict.TheVariants.{Commits, Throws, Blocks}
use Rattle.stm_terms.specs.Changes.{find}
use Rattle.stm_terms.specs.Typing.{AllAbove, Rising}
use Rattle.stm_store.specs.declared.cell.Cell.{Cell}
use Rattle.stm_store.specs.Cells.{Fits, rewritten, with_write, with_writes, new_cell, after_write}
use Rattle.stm_store.specs.Laws.{UnwrittenStay, FittingAreApplied}
use Rattle.stm_store.proofs.PageLists.{get_left, get_right}
use Rattle.stm_store.proofs.ApplyPreservesTyping.{length-writes}

get-set_same : (cs : List Cell) (i : ℕ) (c d : Cell) → slice_get cs i ≡ Some c → slice_get (set cs i d) i ≡ Some d
get-set_same [] i c d e = absurd (cc)
get-set_same (x ∷ cs) zero c d e = refl
get-set_same (x ∷ cs) (suc i) c d e = get-set_same cs i c d e

unequal : (i j : ℕ) → nat_eq (suc i) (suc j) ≡ false → nat_eq i j ≡ false
unequal i j e = grind (arith, nat_tests)

get-set_other : (cs : List Cell) (i j : ℕ) (d : Cell) → nat_eq i j ≡ false → slice_get (set cs i d) j ≡ slice_get cs j
get-set_other [] i j d e = refl
get-set_other (x ∷ cs) zero zero d e = absurd (cc)
get-set_other (x ∷ cs) zero (suc j) d e = refl
get-set_other (x ∷ cs) (suc i) zero d e = refl
get-set_other (x ∷ cs) (suc i) (suc j) d e = get-set_other cs i j d (unequal i j e)

pub write-here : (n : ℕ) (cs : List Cell) (i : ℕ) (v : Value) (o : Option Cell) → slice_get cs i ≡ o → slice_get (with_write n cs i v o) i ≡ option_map (rewritten n v) o
write-here n cs i v (Some c) e = get-set_same cs i c (rewritten n v c) e
write-here n cs i v None e = e

pub write-other : (n : ℕ) (cs : List Cell) (i j : ℕ) (v : Value) (o : Option Cell) → nat_eq i j ≡ false → slice_get (with_write n cs i v o) j ≡ slice_get cs j
write-other n cs i j v (Some c) e = get-set_other cs i j (rewritten n v c) e
write-other n cs i j v None e = refl

find-above : (n i : ℕ) (ws : List (ℕ × Value)) → AllAbove n ws → nat_eq n i ≡ true → find i ws ≡ None
find-above n i [] a e = refl
find-above n i (w ∷ ws) a e =
    let other : nat_eq w.0 i ≡ false = (let less : n < w.0 = a.0 in grind (arith, nat_tests)) in
    rw other (find-above n i ws a.1 e)

same : (n : ℕ) (o : Option Cell) → option_map (after_write n None) o ≡ o
same n (Some c) = refl
same n None = refl

get-writes : (n : ℕ) (ws : List (ℕ × Value)) (cs : List Cell) (i : ℕ) → Rising ws → slice_get (with_writes n ws cs) i ≡ option_map (after_write n (find i ws)) (slice_get cs i)
get-writes n [] cs i r = sym (same n (slice_get cs i))
get-writes n (w ∷ ws) cs i r =
    let cells = with_write n cs w.0 w.1 (slice_get cs w.0) in
    let rest = get-writes n ws cells i r.1 in
    elim (nat_eq w.0 i) as (λ b. nat_eq w.0 i ≡ b → slice_get (with_writes n ws cells) i ≡ option_map (after_write n (if b then Some w.1 else find i ws)) (slice_get cs i)) [
      | true ↦ λ e.
          let p : w.0 ≡ i = eqb-true w.0 i e in
          let here : slice_get cells i ≡ option_map (rewritten n w.1) (slice_get cs i) =
          subst (λ (j : ℕ). slice_get cells j ≡ option_map (rewritten n w.1) (slice_get cs j)) p (write-here n cs w.0 w.1 (slice_get cs w.0) refl) in
          rest ∙ ap (λ (o : Option Value). option_map (after_write n o) (slice_get cells i)) (find-above w.0 i ws r.0 e) ∙ same n (slice_get cells i) ∙ here
      | false ↦ λ e. rest ∙ ap (option_map (after_write n (find i ws))) (write-other n cs w.0 i w.1 (slice_get cs w.0) e)
    ] refl

-- ---- a variable that isn't written
unwritten_step : (b : Bool) (n i : ℕ) (w : ℕ × Value) (ws : List (ℕ × Value)) (cs : List Cell) → nat_eq w.0 i ≡ b → (if b then Some w.1 else find i ws) ≡ None
    → (find i ws ≡ None → slice_get (with_writes n ws (with_write n cs w.0 w.1 (slice_get cs w.0))) i ≡ slice_get (with_write n cs w.0 w.1 (slice_get cs w.0)) i)
    → slice_get (with_writes n ws (with_write n cs w.0 w.1 (slice_get cs w.0))) i ≡ slice_get cs i
unwritten_step true n i w ws cs e none rest = absurd (cc)
unwritten_step false n i w ws cs e none rest = rest none ∙ write-other n cs w.0 i w.1 (slice_get cs w.0) e

unwritten-writes : (n : ℕ) (ws : List (ℕ × Value)) (cs : List Cell) (i : ℕ) → find i ws ≡ None → slice_get (with_writes n ws cs) i ≡ slice_get cs i
unwritten-writes n [] cs i none = refl
unwritten-writes n (w ∷ ws) cs i none =
    unwritten_step (nat_eq w.0 i) n i w ws cs refl none (unwritten-writes n ws (with_write n cs w.0 w.1 (slice_get cs w.0)) i)

pub before : (cs ds : List Cell) (i : ℕ) (c : Cell) → slice_get cs i ≡ Some c → slice_get (cs ++ ds) i ≡ Some c
before [] ds i c e = absurd (cc)
before (x ∷ cs) ds zero c e = e
before (x ∷ cs) ds (suc i) c e = before cs ds i c e

pub unwritten_stay : UnwrittenStay
unwritten_stay cells (Commits writes news v) i c none e =
    before (with_writes (length cells) writes cells) (map (new_cell (length cells)) news) i c (unwritten-writes (length cells) writes cells i none ∙ e)
unwritten_stay cells (Throws x) i c none e = e
unwritten_stay cells Blocks i c none e = e

-- ---- all of them
pub is_applied : FittingAreApplied
unfolding Fits
is_applied cells (Commits writes news v) f =
    let n = length cells in
    let kept : length (with_writes n writes cells) ≡ n = length-writes n writes cells in
    record {
      olds = λ i h. get_left (with_writes n writes cells) (map (new_cell n) news) i (omega arith) ∙ get-writes n writes cells i f.rising;
      news = λ k. get_right (with_writes n writes cells) (map (new_cell n) news) (n + k) k (omega arith) ∙ slice_get-map (new_cell n) news k;
    }
is_applied cells (Throws x) f = record {
  olds = λ i h. sym (same (length cells) (slice_get cells i));
  news = λ k. slice_get_past cells (length cells + k) (omega arith);
}
is_applied cells Blocks f = record {
  olds = λ i h. sym (same (length cells) (slice_get cells i));
  news = λ k. slice_get_past cells (length cells + k) (omega arith);
}
