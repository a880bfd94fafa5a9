-- The bits of the names in scope.
use Rattle.std.proofs.Common.{◌≡◌, ℕ, ◌*◌, ◌%◌, ◌/◌, ◌^◌, ◌<◌, List, [], ◌∷◌, Bool, true, false, cond, Some, None, length, refl, sym, ap, ◌∙◌, arith, inl, inr, w64}
use Rattle.std.specs.Prelude.{bit_and, bit_or}
use Rattle.std.specs.Int.{bit_at}
use Rattle.std.specs.Str.{bytes_eq}
use Rattle.std.proofs.lemmas.Bool.{cases_eq}
use Rattle.std.proofs.lemmas.Nat.Bits.{bit_at_set_same, bit_at_set_other, shr_and_one}
use Rattle.std.proofs.lemmas.Slice.Eq.{bytes_eq-Decides}
use Rattle.stm_check.specs.Scopes.{Locals, innermost, names_of, bit_of, HasBits}

-- the bits stay when one more is set
bits_stay : (m k : ℕ) → k < 64 → (names : List (List ℕ)) → HasBits m names → HasBits (bit_or m (1 * 2 ^ k % 2 ^ 64)) names
bits_stay m k low [] h = tt
bits_stay m k low (n ∷ names) h = (one, bits_stay m k low names h.1)
  where
    one : bit_at (bit_or m (1 * 2 ^ k % 2 ^ 64)) (bit_of n) ≡ 1
    one =
        elim (cases_eq (bit_of n) k) [
          | inl same ↦ ap (bit_at (bit_or m (1 * 2 ^ k % 2 ^ 64))) same ∙ bit_at_set_same w64 m k low
          | inr other ↦ bit_at_set_other w64 m k low (bit_of n) other ∙ h.0
        ]

pub bits_more : (m k : ℕ) (names : List (List ℕ)) (own : List ℕ) → k ≡ bit_of own → k < 64 → HasBits m names → HasBits (bit_or m (1 * 2 ^ k % 2 ^ 64)) (own ∷ names)
bits_more m k names own e low h =
    (ap (bit_at (bit_or m (1 * 2 ^ k % 2 ^ 64))) (sym e) ∙ bit_at_set_same w64 m k low, bits_stay m k low names h)

not_both : (x : ℕ) → x ≡ 0 → x ≡ 1 → ⊥
not_both x a b = omega arith

-- a name whose bit is missing is no local
none_here : (m : ℕ) (name : List ℕ) → bit_at m (bit_of name) ≡ 0 → (ls : Locals) → HasBits m (names_of ls) → innermost name ls ≡ None
none_here m name z [] h = refl
none_here m name z (l ∷ outer) h = by (bytes_eq l.0 name) refl (none_here m name z outer h.1)
  where
    by : (t : Bool) → bytes_eq l.0 name ≡ t → innermost name outer ≡ None → cond t (Some (length outer, l.1)) (innermost name outer) ≡ None
    by true q rest =
        let same : l.0 ≡ name = (bytes_eq-Decides l.0 name).0 q in
        let zero : bit_at m (bit_of l.0) ≡ 0 = ap (λ (n : List ℕ). bit_at m (bit_of n)) same ∙ z in
        absurd (not_both (bit_at m (bit_of l.0)) zero h.0)
    by false q rest = rest

pub no_local : (m k : ℕ) (name : List ℕ) (ls : Locals) → k ≡ bit_of name → HasBits m (names_of ls) → bit_and (m / 2 ^ k) 1 ≡ 0 → innermost name ls ≡ None
no_local m k name ls e h z = none_here m name (ap (bit_at m) (sym e) ∙ sym (shr_and_one m k) ∙ z) ls h
