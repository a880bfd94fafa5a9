-- Why a desk isn't closed, and that its passes are handed back as they came.
use Rattle.std.proofs.Common.{◌≡◌, List, ◌++◌, take, drop, length, sym, ap, ◌∙◌, subst}
use Rattle.std.proofs.Math.Nat.{ℕ_set}
use Rattle.std.proofs.lemmas.List.{with_items_is}
use Rattle.std.specs.List.{length_refill}
use Rattle.std.specs.Vec.{with_items}
use Rattle.std.specs.declared.vec.Vec.{Vec}

-- a Vec with its own items in their place is the same
abbrev remade : {X Z : Type 0} (v : Vec X Z) (xs : List X) → v.len ≡ length xs → Vec X Z
remade v xs p = record { ptr = v.ptr; len = v.len; cap = v.cap; alloc = v.alloc; items = xs; ok = (p, v.ok.1); small = v.small }

remade_is : {X Z : Type 0} (v : Vec X Z) (xs : List X) → v.items ≡ xs → (p : v.len ≡ length xs) → remade v xs p ≡ v
remade_is {X = X} v xs e = subst (λ (ys : List X). (p : v.len ≡ length ys) → remade v ys p ≡ v) e (λ p. ap (λ (q : v.len ≡ length v.items). remade v v.items q) (ℕ_set v.len (length v.items) p v.ok.0))

pub refilled : {X Z : Type 0} (v : Vec X Z) (ws : List X) → ws ≡ v.items → with_items v ws ≡ v
refilled v ws e =
    let l : length ws ≡ v.len = ap length e ∙ sym v.ok.0 in
    remade_is v (take v.len (ws ++ drop (length ws) v.items)) (sym (with_items_is v ws l ∙ e)) (length_refill v.len v.items ws v.ok.0)
