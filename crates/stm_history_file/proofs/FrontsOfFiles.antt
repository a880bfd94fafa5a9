-- How a file begins, byte by byte.
use Rattle.std.proofs.Common.{◌≡◌, ℕ, zero, suc, ◌+◌, ◌≤◌, ◌<◌, List, [], ◌∷◌, ◌++◌, length, take, drop, get_or, refl, sym, ◌∙◌, ap, arith, length-drop}
use Rattle.std.proofs.Math.Seq.{take-suc}
use Rattle.std.proofs.lemmas.List.{drop-drop, length-take}
use Rattle.stm_journal.specs.Device.{Gives}

-- the first byte that a read gives
first_given : (follow buffer : List ℕ) (count : ℕ) → Gives follow count buffer → (count ≡ 0 → ⊥) → count ≤ length buffer
    → (get_or follow 0 0 ≡ get_or buffer 0 0) × (1 ≤ length follow)
first_given follow buffer zero gives some bound = absurd (some refl)
first_given follow [] (suc n) gives some bound = absurd (omega (arith, bound))
first_given follow (x ∷ buffer) (suc n) gives some bound = (ap (λ (l : List ℕ). get_or l 0 0) gives.front, omega (arith, ap length gives.front))

get_drop : (i : ℕ) (xs : List ℕ) → get_or (drop i xs) 0 0 ≡ get_or xs i 0
get_drop zero xs = refl
get_drop (suc i) [] = refl
get_drop (suc i) (x ∷ xs) = get_drop i xs

get_take : (n i : ℕ) (xs : List ℕ) → i < n → get_or (take n xs) i 0 ≡ get_or xs i 0
get_take zero i xs lt = absurd (omega (arith, lt))
get_take (suc n) i [] lt = refl
get_take (suc n) zero (x ∷ xs) lt = refl
get_take (suc n) (suc i) (x ∷ xs) lt = get_take n i xs (omega (arith, lt))

-- a byte of the file, which a read has given, is compared with one of these
module _ (file bytes buffer : List ℕ) (at i count : ℕ) (gives : Gives (drop (at + i) file) count buffer) (bound : count ≤ length buffer) (here : i < length bytes) where
  abbrev xs : List ℕ
  xs = drop at file

  byte : (count ≡ 0 → ⊥) → get_or xs i 0 ≡ get_or buffer 0 0
  byte some =
      sym (get_drop i xs) ∙ ap (λ (l : List ℕ). get_or l 0 0) (drop-drop i at file)
      ∙ (first_given (drop (at + i) file) buffer count gives some bound).0

  pub room : (count ≡ 0 → ⊥) → at + i + 1 ≤ length file
  room some = omega (arith, (first_given (drop (at + i) file) buffer count gives some bound).1, length-drop (at + i) file)

  pub ends : count ≡ 0 → 0 < length buffer → take (length bytes) xs ≡ bytes → ⊥
  ends none full is =
      omega (arith, here, ap length (gives.end none full), length-drop (at + i) file, length-drop at file, length-take (length bytes) xs, ap length is)

  pub differs : (count ≡ 0 → ⊥) → (get_or buffer 0 0 ≡ get_or bytes i 0 → ⊥) → take (length bytes) xs ≡ bytes → ⊥
  differs some not is = not (sym (byte some) ∙ sym (get_take (length bytes) i xs here) ∙ ap (λ (l : List ℕ). get_or l i 0) is)

  pub goes_on : (count ≡ 0 → ⊥) → get_or buffer 0 0 ≡ get_or bytes i 0 → take i xs ≡ take i bytes → take (i + 1) xs ≡ take (i + 1) bytes
  goes_on some same so_far =
      let next : i + 1 ≡ suc i = omega arith in
      let within : i < length xs = omega (arith, room some, length-drop at file) in
      ap (λ (k : ℕ). take k xs) next ∙ take-suc xs i 0 within
      ∙ ap (λ (l : List ℕ). l ++ get_or xs i 0 ∷ []) so_far ∙ ap (λ (b : ℕ). take i bytes ++ b ∷ []) (byte some ∙ same)
      ∙ sym (take-suc bytes i 0 here) ∙ ap (λ (k : ℕ). take k bytes) (sym next)
