-- A variable that is declared.
use Rattle.std.proofs.Common.{◌≡◌, ℕ, zero, suc, ◌<◌, Bool, true, false, List, [], ◌∷◌, ◌++◌, length, Option, Some, None, refl, sym, ap, subst, ◌∙◌, arith}
use Rattle.std.specs.Prelude.{is_some, nat_lt, IsTrue}
use Rattle.std.proofs.lemmas.Bool.{ltb-true}
use Rattle.stm_terms.specs.declared.kinds.Ty.{Ty}
use Rattle.stm_terms.specs.declared.values.Value.{Value}
use Rattle.stm_terms.specs.Names.{is_name_text}
use Rattle.stm_store.specs.declared.cell.Cell.{Cell}
use Rattle.stm_store.specs.Cells.{plains, kinds_of, Covers, Fits, applied}
use Rattle.stm_store.specs.Naming.{Named, named_uses, number_named, may_hold_known, MayHaveType, NumbersAreBelow}
use Rattle.stm_events.specs.declared.event.What.TheVariants.{Declared as DeclaredLate}
use Rattle.stm_events.specs.Refusals.{declare_first, late_declare_refused}
use Rattle.stm_events.specs.SlowDesk.{Slow, MayDeclareLate, declaration, max_cells, after, Allows}
use Rattle.stm_events.proofs.NamedVariables.{declaration_fits}
use Rattle.stm_machine.specs.Machine.{Parts, Stands, IsAt}
use Rattle.stm_machine.proofs.States.{moves_to}

-- ---- what is allowed
pub record IsFree (taken holds room : Bool) : Type 0 where
  pub fresh : taken ≡ false
  pub of_type : holds ≡ true
  pub room_is : room ≡ true

free_by : (taken holds room : Bool) → declare_first taken holds false room ≡ None → IsFree taken holds room
free_by true holds room e = absurd (cc)
free_by false false room e = absurd (cc)
free_by false true false e = absurd (cc)
free_by false true true e = record { fresh = refl; of_type = refl; room_is = refl }

none_is : (o : Option ℕ) → is_some o ≡ false → o ≡ None
none_is (Some n) e = absurd (cc)
none_is None e = refl

pub may_declare : (s : Slow) (name : List ℕ) (kind : Ty) (value : Value) → IsTrue (is_name_text name) → late_declare_refused s false name kind value ≡ None → MayDeclareLate s name kind value
may_declare s name kind value n e =
    let f = free_by _ _ _ e in
    record { name_is = n; fresh = none_is _ f.fresh; holds = f.of_type; room = ltb-true _ _ f.room_is }

-- ---- the names are below the next variable
kind_within : (cells : List (Ty × Value)) (i : ℕ) (t : Ty) → kinds_of cells i ≡ Some t → i < length cells
kind_within [] i t e = absurd (cc)
kind_within (c ∷ cells) zero t e = omega arith
kind_within (c ∷ cells) (suc i) t e = let h = kind_within cells i t e in omega arith

covers_below : (cells : List (Ty × Value)) (known : List Named) → Covers cells (named_uses known) → NumbersAreBelow (length cells) known
covers_below cells [] c i d e = absurd (cc)
covers_below cells (k ∷ known) c zero d e = let p : k ≡ d = cc in subst (λ (x : Named). x.number < length cells) p (kind_within cells k.number k.kind c.0)
covers_below cells (k ∷ known) c (suc i) d e = covers_below cells known c.1 i d e

length-plains : (store : List Cell) → length (plains store) ≡ length store
length-plains [] = refl
length-plains (c ∷ store) = ap suc (length-plains store)

module _ (m : Parts) (s : Slow) (k : IsAt m s) (name : List ℕ) (kind : Ty) (value : Value) (e : late_declare_refused s false name kind value ≡ None) where
  pub fresh_at : number_named name m.names ≡ None
  fresh_at = ap (number_named name) k.stands.names_are ∙ none_is _ (free_by _ _ _ e).fresh

  pub below_at : NumbersAreBelow (length m.store) m.names
  below_at =
      subst (λ (ns : List Named). NumbersAreBelow (length m.store) ns) (sym k.stands.names_are)
      (subst (λ (n : ℕ). NumbersAreBelow n s.names) (length-plains s.store ∙ ap length (sym k.stands.store_is)) (covers_below (plains s.store) s.names k.possible.named))

  pub held_at : MayHaveType m.names kind
  held_at = (value, subst (λ (ns : List Named). may_hold_known ns kind value ≡ true) (sym k.stands.names_are) (free_by _ _ _ e).of_type)

  pub fits_at : IsTrue (is_name_text name) → Fits (plains m.store) (declaration kind value)
  fits_at n = subst (λ (z : List Cell). Fits (plains z) (declaration kind value)) (sym k.stands.store_is) (declaration_fits s name kind value k.possible.named (may_declare s name kind value n e))

-- ---- the move
stands_declare : (s : Slow) (m : Parts) (name : List ℕ) (kind : Ty) (value : Value) → Stands s m
    → Stands (after s (DeclaredLate name kind value)) (record m { store = applied m.store (declaration kind value); names = m.names ++ record { name = name; number = length m.store; kind = kind } ∷ [] })
stands_declare s m name kind value k = record {
  rule_is = k.rule_is;
  store_is = ap (λ (z : List Cell). applied z (declaration kind value)) k.store_is;
  names_are = (λ i. k.names_are i ++ record { name = name; number = length (k.store_is i); kind = kind } ∷ []);
  next_is = k.next_is;
  entries_are = k.entries_are;
  queue = k.queue;
  index = k.index;
}

-- another state of the machine refuses it no more than this one
refused_alike : (m : Parts) (s s' : Slow) → IsAt m s → IsAt m s' → (name : List ℕ) (kind : Ty) (value : Value) → late_declare_refused s false name kind value ≡ None → late_declare_refused s' false name kind value ≡ None
refused_alike m s s' k k' name kind value e =
    let names : s'.names ≡ s.names = sym k'.stands.names_are ∙ k.stands.names_are in
    let store : s'.store ≡ s.store = sym k'.stands.store_is ∙ k.stands.store_is in
    (λ i. declare_first (is_some (number_named name (names i))) (may_hold_known (names i) kind value) false (nat_lt (length (store i)) max_cells)) ∙ e

pub moves_declare : (m : Parts) (s s' : Slow) (name : List ℕ) (kind : Ty) (value : Value) → IsAt m s → IsTrue (is_name_text name) → late_declare_refused s false name kind value ≡ None → IsAt m s'
    → (Allows s' (DeclaredLate name kind value)
    × IsAt (record m { store = applied m.store (declaration kind value); names = m.names ++ record { name = name; number = length m.store; kind = kind } ∷ [] }) (after s' (DeclaredLate name kind value)))
moves_declare m s s' name kind value k n e k' =
    moves_to m _ s' (DeclaredLate name kind value) k' (may_declare s' name kind value n (refused_alike m s s' k k' name kind value e)) (stands_declare s' m name kind value k'.stands)
