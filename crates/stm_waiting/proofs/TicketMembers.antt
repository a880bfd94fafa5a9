-- Which tickets a set has after a call.
use Rattle.std.proofs.Common.{◌≡◌, ℕ, Bool, true, false, not, ◌&&◌, ◌||◌, List, [], ◌∷◌, refl, ap, ◌∙◌}
use Rattle.std.specs.Prelude.{nat_eq}
use Rattle.std.specs.List.{list_any}
use Rattle.stm_queue.specs.SortedTickets.{member, delete}
use Rattle.stm_queue.proofs.InvariantPreserved.{member_insert, member_delete}
use Rattle.stm_waiting.specs.TicketSets.{with_if, without_all}

turn : (a b : Bool) → (a && b) ≡ (b && a)
turn true true = refl
turn true false = refl
turn false true = refl
turn false false = refl

keeps : (b : Bool) → b ≡ (b && true)
keeps true = refl
keeps false = refl

neither_gone : (m a b : Bool) → ((m && not a) && not b) ≡ (m && not (a || b))
neither_gone true true b = refl
neither_gone true false b = refl
neither_gone false a b = refl

-- ---- one more
has_if : (wanted : Bool) (t u : ℕ) (ts : List ℕ) → member u (with_if wanted t ts) ≡ ((wanted && nat_eq u t) || member u ts)
has_if true t u ts = member_insert u t ts
has_if false t u ts = refl

pub member_if : (wanted : Bool) (t : ℕ) (old new : List ℕ) → new ≡ with_if wanted t old → (u : ℕ) → member u new ≡ ((wanted && nat_eq u t) || member u old)
member_if wanted t old new e u = ap (λ (ts : List ℕ). member u ts) e ∙ has_if wanted t u old

-- ---- one less
pub member_left : (t : ℕ) (old new : List ℕ) → new ≡ delete t old → (u : ℕ) → member u new ≡ (member u old && not (nat_eq u t))
member_left t old new e u = ap (λ (ts : List ℕ). member u ts) e ∙ member_delete u t old ∙ turn (not (nat_eq u t)) (member u old)

-- ---- several less
has_rest : (gone ts : List ℕ) (u : ℕ) → member u (without_all gone ts) ≡ (member u ts && not (list_any (nat_eq u) gone))
has_rest [] ts u = keeps (member u ts)
has_rest (t ∷ gone) ts u =
    has_rest gone (delete t ts) u
    ∙ ap (λ (b : Bool). b && not (list_any (nat_eq u) gone)) (member_left t ts (delete t ts) refl u)
    ∙ neither_gone (member u ts) (nat_eq u t) (list_any (nat_eq u) gone)

pub member_rest : (gone old new : List ℕ) → new ≡ without_all gone old → (u : ℕ) → member u new ≡ (member u old && not (list_any (nat_eq u) gone))
member_rest gone old new e u = ap (λ (ts : List ℕ). member u ts) e ∙ has_rest gone old u

-- nothing is left of nothing
pub none_left : (gone : List ℕ) → [] ≡ without_all gone []
none_left [] = refl
none_left (t ∷ gone) = none_left gone
