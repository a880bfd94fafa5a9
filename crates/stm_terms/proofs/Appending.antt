-- A text appended part by part.
use Rattle.std.proofs.Common.{◌≡◌, ℕ, List, ◌++◌, Result, Ok, Err, ◌∙◌, ap, sym, append_assoc, codes, refl, sub-one, ◌-◌, zero, suc, [], ◌∷◌, length, take, drop, subst, get_or, ◌<◌, ◌≤◌, ◌+◌, add-one, arith}
use Rattle.std.proofs.Math.Seq.{drop-cons, take-length}
use Rattle.stm_terms.specs.declared.kinds.Base.{Base}
use Rattle.stm_terms.specs.Texts.{AppendsText, AppendsPart, refs_text, spaced, list_text}

-- a text that was appended, and then another
pub AppendsText-more : {E : Type 0} (r : Result (Unit {0}) E) (a b c t u : List ℕ) → b ≡ a ++ t → AppendsText r b c u → AppendsText r a c (t ++ u)
AppendsText-more (Ok x) a b c t u e h = h ∙ ap (λ l. l ++ u) e ∙ append_assoc a t u
AppendsText-more (Err x) a b c t u e h =
    (t ++ h.0, (h.1.0, ap (λ l. t ++ l) h.1.1 ∙ sym (append_assoc t h.0 h.1.0)), h.2 ∙ ap (λ l. l ++ h.0) e ∙ append_assoc a t h.0)

-- after a text that was appended another failed, and a third was to follow
pub AppendsText-fails : {E : Type 0} (r : Result (Unit {0}) E) (y : E) (a b c t u v : List ℕ) → r ≡ Err y → b ≡ a ++ t → AppendsPart b c u → AppendsText r a c ((t ++ u) ++ v)
AppendsText-fails (Ok x) y a b c t u v e eq h = cc
AppendsText-fails (Err x) y a b c t u v e eq h =
    (t ++ h.0, (h.1.0 ++ v, ap (λ l. (t ++ l) ++ v) h.1.1 ∙ simp append_assoc), h.2 ∙ ap (λ l. l ++ h.0) eq ∙ append_assoc a t h.0)

pub refs_text-more : (base : Base) (n : ℕ) → (n ≡ 0 → ⊥) → (n ≡ 1 → ⊥) → refs_text base n ≡ (codes "TVar (" ++ refs_text base (n - 1)) ++ codes ")"
refs_text-more base zero p q = absurd (p refl)
refs_text-more base (suc zero) p q = absurd (q refl)
refs_text-more base (suc (suc n)) p q = rw sub-one refl

-- the next of a list's texts
pub spaced-next : {X : Type 0} (text : X → List ℕ) (xs : List X) (i : ℕ) (x : X) (done : List ℕ) → i < length xs → spaced text xs ≡ done ++ spaced text (drop i xs)
    → spaced text xs ≡ ((done ++ codes " ") ++ text (get_or xs i x)) ++ spaced text (drop (i + 1) xs)
spaced-next text xs i x done h e =
    let next : drop i xs ≡ get_or xs i x ∷ drop (i + 1) xs = rw add-one (drop-cons xs i x h) in
    e ∙ ap (λ l. done ++ spaced text l) next ∙ simp append_assoc

-- a list with a first item
pub list_text-first : {X : Type 0} (text : X → List ℕ) (xs : List X) (x : X) → 1 ≤ length xs → list_text text xs ≡ text (get_or xs 0 x) ++ spaced text (take (length xs - 1) (drop 1 xs))
list_text-first text [] x h = absurd (omega arith)
list_text-first text (y ∷ xs) x h =
    let all : suc (length xs) - 1 ≡ length xs = omega arith in
    ap (λ l. text y ++ spaced text l) (sym (ap (λ n. take n xs) all ∙ take-length xs))

-- a text in two parts, in another grouping of them
pub AppendsText-more_of : {E : Type 0} (r : Result (Unit {0}) E) (a b c t u text : List ℕ) → b ≡ a ++ t → AppendsText r b c u → text ≡ t ++ u → AppendsText r a c text
AppendsText-more_of r a b c t u text e h same = subst (AppendsText r a c) (sym same) (AppendsText-more r a b c t u e h)

pub AppendsText-fails_of : {E : Type 0} (r : Result (Unit {0}) E) (y : E) (a b c t u v text : List ℕ) → r ≡ Err y → b ≡ a ++ t → AppendsPart b c u → text ≡ (t ++ u) ++ v → AppendsText r a c text
AppendsText-fails_of r y a b c t u v text e eq h same = subst (AppendsText r a c) (sym same) (AppendsText-fails r y a b c t u v e eq h)
