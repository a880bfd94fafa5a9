-- The numbers of names ascend, so the variable of a number is at one place, and that of no name is nowhere.
use Rattle.std.proofs.Common.{◌≡◌, ◌≢◌, ℕ, zero, suc, ◌+◌, ◌<◌, ◌≤◌, Bool, true, false, ◌&&◌, List, [], ◌∷◌, drop, Option, Some, None, refl, sym, ap, subst, ◌∙◌, arith}
use Rattle.std.specs.Prelude.{slice_get, option_map, nat_eq, nat_lt}
use Rattle.std.proofs.lemmas.Bool.Decides.{nat_tests}
use Rattle.stm_terms.specs.declared.kinds.Ty.{Ty}
use Rattle.stm_store.specs.Naming.{Named, known_kinds, name_numbered, is_gapless_from, AreKnown}

abbrev pub Ascend : List Named → Type 0
Ascend known = (i j : ℕ) (d e : Named) → slice_get known i ≡ Some d → slice_get known j ≡ Some e → i < j → d.number < e.number

-- no variable has the number
abbrev pub IsNowhere : ℕ → List Named → Type 0
IsNowhere number known = (i : ℕ) (d : Named) → slice_get known i ≡ Some d → d.number ≢ number

apart : (m n : ℕ) → m ≢ n → nat_eq m n ≡ false
apart m n h = grind (arith, nat_tests)

less_apart : (m n : ℕ) → m < n → nat_eq m n ≡ false
less_apart m n h = grind (arith, nat_tests)

itself : (n : ℕ) → nat_eq n n ≡ true
itself n = grind (arith, nat_tests)

-- ---- a number that is nowhere
pub kind_nowhere : (known : List Named) (number : ℕ) → IsNowhere number known → known_kinds known number ≡ None
kind_nowhere [] number h = refl
kind_nowhere (d ∷ known) number h =
    let other : nat_eq d.number number ≡ false = apart d.number number (h zero d refl) in
    rw other (kind_nowhere known number (λ i x f. h (suc i) x f))

pub name_nowhere : (known : List Named) (number : ℕ) → IsNowhere number known → name_numbered number known ≡ None
name_nowhere [] number h = refl
name_nowhere (d ∷ known) number h =
    let other : nat_eq d.number number ≡ false = apart d.number number (h zero d refl) in
    rw other (name_nowhere known number (λ i x f. h (suc i) x f))

differs_by : (low high i x number : ℕ) (b : Bool) → high ≤ low → (i < low → x < number) → (high ≤ i → number < x) → nat_lt i low ≡ b → x ≢ number
differs_by low high i x number true e f g t = λ q. let p : i < low = (let r = t in grind (arith, nat_tests)) in let less = f p in absurd (omega (arith, less, q))
differs_by low high i x number false e f g t = λ q. let p : high ≤ i = (let r = t in grind (arith, nat_tests)) in let more = g p in absurd (omega (arith, more, q))

-- neither before the one place nor from the other on
pub nowhere_between : (known : List Named) (low high number : ℕ) → high ≤ low → ((i : ℕ) (d : Named) → slice_get known i ≡ Some d → i < low → d.number < number) → ((i : ℕ) (d : Named) → slice_get known i ≡ Some d → high ≤ i → number < d.number)
    → IsNowhere number known
nowhere_between known low high number e f g = λ i d h. differs_by low high i d.number number (nat_lt i low) e (f i d h) (g i d h) refl

-- ---- one that is at a place
pub name_there : (known : List Named) (place : ℕ) (d : Named) → Ascend known → slice_get known place ≡ Some d → name_numbered d.number known ≡ Some d.name
name_there [] place d a e = absurd (cc)
name_there (n ∷ known) zero d a e =
    let p : n ≡ d = cc in
    let same : nat_eq d.number d.number ≡ true = itself d.number in
    subst (λ (x : Named). name_numbered d.number (x ∷ known) ≡ Some d.name) (sym p) (rw same refl)
name_there (n ∷ known) (suc place) d a e =
    let less : n.number < d.number = a zero (suc place) n d refl e (omega arith) in
    let other : nat_eq n.number d.number ≡ false = less_apart n.number d.number less in
    rw other (name_there known place d (λ i j x y f g l. a (suc i) (suc j) x y f g (omega (arith, l))) e)

kind_by : (known : List Named) (place number : ℕ) (kind : Ty) (o : Option Named) → slice_get known place ≡ o → AreKnown known → option_map (λ d. d.number) o ≡ Some number → option_map (λ d. d.kind) o ≡ Some kind → known_kinds known number ≡ Some kind
kind_by known place number kind None e k n t = absurd (cc)
kind_by known place number kind (Some d) e k n t =
    let p : d.number ≡ number = cc in let q : d.kind ≡ kind = cc in
    ap (known_kinds known) (sym p) ∙ k.typed place d e ∙ ap Some q

pub kind_at_place : (known : List Named) (place number : ℕ) (kind : Ty) → AreKnown known → option_map (λ d. d.number) (slice_get known place) ≡ Some number → option_map (λ d. d.kind) (slice_get known place) ≡ Some kind → known_kinds known number ≡ Some kind
kind_at_place known place number kind = kind_by known place number kind (slice_get known place) refl

name_by : (known : List Named) (place number : ℕ) (name : List ℕ) (o : Option Named) → slice_get known place ≡ o → AreKnown known → option_map (λ d. d.number) o ≡ Some number → option_map (λ d. d.name) o ≡ Some name → name_numbered number known ≡ Some name
name_by known place number name None e k n t = absurd (cc)
name_by known place number name (Some d) e k n t =
    let p : d.number ≡ number = cc in let q : d.name ≡ name = cc in
    ap (λ (m : ℕ). name_numbered m known) (sym p) ∙ name_there known place d k.ascending e ∙ ap Some q

pub name_at_place : (known : List Named) (place number : ℕ) (name : List ℕ) → AreKnown known → option_map (λ d. d.number) (slice_get known place) ≡ Some number → option_map (λ d. d.name) (slice_get known place) ≡ Some name → name_numbered number known ≡ Some name
name_at_place known place number name = name_by known place number name (slice_get known place) refl

gap_by : (known : List Named) (place number : ℕ) (o : Option Named) → slice_get known place ≡ o → option_map (λ d. d.number) o ≡ Some number → (d : Named) × (slice_get known place ≡ Some d) × (d.number ≡ number)
gap_by known place number None e n = absurd (cc)
gap_by known place number (Some d) e n = (d, e, cc)

-- ---- names without a gap
-- the numbers from a place on, where this name is
gap_step : (known : List Named) (i place : ℕ) (d : Named) → slice_get known place ≡ Some d → is_gapless_from i (drop place known) ≡ (nat_eq d.number i && is_gapless_from (i + 1) (drop (suc place) known))
gap_step [] i place d e = absurd (cc)
gap_step (n ∷ known) i zero d e = let p : n ≡ d = cc in ap (λ (x : Named). nat_eq x.number i && is_gapless_from (i + 1) known) p
gap_step (n ∷ known) i (suc place) d e = gap_step known i place d e

pub gap_next : (known : List Named) (place : ℕ) (d : Named) → slice_get known place ≡ Some d → d.number ≡ place → is_gapless_from place (drop place known) ≡ is_gapless_from (place + 1) (drop (place + 1) known)
gap_next known place d e q =
    let same : nat_eq d.number place ≡ true = subst (λ (n : ℕ). nat_eq n place ≡ true) (sym q) (itself place) in
    let next : suc place ≡ place + 1 = omega arith in
    gap_step known place place d e ∙ ap (λ (b : Bool). b && is_gapless_from (place + 1) (drop (suc place) known)) same
    ∙ ap (λ (k : ℕ). is_gapless_from (place + 1) (drop k known)) next

pub gap_here : (known : List Named) (place : ℕ) (d : Named) → slice_get known place ≡ Some d → d.number ≢ place → is_gapless_from place (drop place known) ≡ false
gap_here known place d e h = let other = apart d.number place h in gap_step known place place d e ∙ ap (λ (b : Bool). b && is_gapless_from (place + 1) (drop (suc place) known)) other

pub gap_next_at : (known : List Named) (place number : ℕ) → option_map (λ d. d.number) (slice_get known place) ≡ Some number → number ≡ place → is_gapless_from place (drop place known) ≡ is_gapless_from (place + 1) (drop (place + 1) known)
gap_next_at known place number n q = let p = gap_by known place number (slice_get known place) refl n in gap_next known place p.0 p.1 (p.2 ∙ q)

pub gap_here_at : (known : List Named) (place number : ℕ) → option_map (λ d. d.number) (slice_get known place) ≡ Some number → number ≢ place → is_gapless_from place (drop place known) ≡ false
gap_here_at known place number n h = let p = gap_by known place number (slice_get known place) refl n in gap_here known place p.0 p.1 (λ q. h (sym p.2 ∙ q))
