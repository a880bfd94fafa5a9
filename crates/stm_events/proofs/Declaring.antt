-- What a declaration leaves as it is, and what later names leave of texts.
use Rattle.std.proofs.Common.{◌≡◌, ℕ, List, [], ◌∷◌, ◌++◌, Option, Some, None, Ok, refl, sym, ap, subst, ◌∙◌}
use Rattle.std.proofs.lemmas.List.{append_assoc, append-nil}
use Rattle.stm_terms.specs.declared.kinds.Ty.{Ty}
use Rattle.stm_terms.specs.declared.values.Value.{Value}
use Rattle.stm_terms.specs.declared.verdicts.Verdict.{Verdict}
use Rattle.stm_terms.specs.Ast.{Act}
use Rattle.stm_terms.specs.ParsedAst as raw
use Rattle.stm_terms.specs.ReadSet.{reads_of}
use Rattle.stm_terms.specs.Typing.{TypeEnv, ActionType, named, kinds_in, record_use_as, record_use, record_uses, uses_of}
use Rattle.stm_store.specs.declared.cell.Cell.{Cell}
use Rattle.stm_store.specs.Cells.{plains, kinds_of, Covers, applied}
use Rattle.stm_store.specs.Naming.{Named, named_uses, known_kinds, number_named}
use Rattle.stm_store.proofs.Naming.{number_stays}
use Rattle.stm_check.specs.TypedBlock.{Block}
use Rattle.stm_check.specs.CheckFunction.{checked}
use Rattle.stm_check.proofs.LaterNames.{checked_stay}
use Rattle.stm_check.proofs.Weakening.{covered}
use Rattle.stm_eval.specs.Messages.{Agrees, Holds}
use Rattle.stm_eval.proofs.FragmentsAndStores.{holds_agrees, holds_again}
use Rattle.stm_events.specs.declared.event.Event.{Event}
use Rattle.stm_events.specs.declared.event.What.{What}
use Rattle.stm_events.specs.declared.event.What.TheVariants.{Submitted, Installed, Finished, Cancelled, Declared as DeclaredLate, Labelled}
use Rattle.stm_events.specs.declared.staleness.StalenessRule.TheVariants.{Written}
use Rattle.stm_events.specs.Declaring.{DeclarationsChangeNothing, NamesStay}
use Rattle.stm_events.specs.SlowDesk.{Slow, Waiter, declaration, under, verdict_on, standing, find_waiter, after, Allows, state_from}
use Rattle.stm_events.specs.States.{IsPossible}
use Rattle.stm_events.proofs.Headline.{weak_possible}
use Rattle.stm_events.proofs.NamedVariables.{covers-append}
use Rattle.stm_events.proofs.Possible.{possible_after}
use Rattle.stm_events.proofs.Stores.{value_stays}

-- ---- the blocks that wait
same_verdict : (store : List Cell) (kind : Ty) (value : Value) (block : Block) (v : Verdict) → verdict_on store block ≡ Some v → verdict_on (applied store (declaration kind value)) block ≡ Some v
same_verdict store kind value block v e =
    let new = applied store (declaration kind value) in
    let reads = reads_of (under store) block.tree in
    let holds : Holds block.tree (under store) reads v = record { verdict_is = e; reads_are = refl } in
    let agrees : Agrees reads (under new) = λ i x f. value_stays Written store (declaration kind value) i x refl (holds_agrees block.tree (under store) reads v holds i x f) in
    (holds_again block.tree reads v (under store) (under new) holds agrees).verdict_is

same_standing : (s : Slow) (name : List ℕ) (kind : Ty) (value : Value) (t : ℕ) (w : Waiter) → IsPossible s → Allows s (DeclaredLate name kind value) → find_waiter t s.waiters ≡ Some w
    → standing (after s (DeclaredLate name kind value)).store w ≡ standing s.store w
same_standing s name kind value t w p a f =
    weak_possible (after s (DeclaredLate name kind value)) t w (possible_after s (DeclaredLate name kind value) p a) f ∙ sym (weak_possible s t w p f)

pub declarations_change_nothing : DeclarationsChangeNothing
declarations_change_nothing = record { waiters = λ s name kind value. refl; verdicts = same_verdict; standing = same_standing }

-- ---- the names
-- names that come after others
record IsLonger (few more : List Named) : Type 0 where
  pub later : List Named
  pub are : more ≡ few ++ later

longer_after : (s : Slow) (d : What) → IsLonger s.names (after s d).names
longer_after s (Submitted t b) = record { later = []; are = sym (append-nil s.names) }
longer_after s (Installed t v) = record { later = []; are = sym (append-nil s.names) }
longer_after s (Finished t v n l) = record { later = []; are = sym (append-nil s.names) }
longer_after s (Cancelled t) = record { later = []; are = sym (append-nil s.names) }
longer_after s (DeclaredLate name kind value) = record { later = _; are = refl }
longer_after s (Labelled t label) = record { later = []; are = sym (append-nil s.names) }

longer_from : (s : Slow) (es : List Event) → IsLonger s.names (state_from s es).names
longer_from s [] = record { later = []; are = sym (append-nil s.names) }
longer_from s (e ∷ es) =
    let one = longer_after s e.what in
    let rest = longer_from (after s e.what) es in
    record { later = one.later ++ rest.later; are = rest.are ∙ ap (λ (xs : List Named). xs ++ rest.later) one.are ∙ append_assoc s.names one.later rest.later }

same_number : (s : Slow) (es : List Event) (name : List ℕ) (n : ℕ) → number_named name s.names ≡ Some n → number_named name (state_from s es).names ≡ Some n
same_number s es name n e =
    let l = longer_from s es in
    subst (λ (xs : List Named). number_named name xs ≡ Some n) (sym l.are) (number_stays name s.names l.later n e)

same_text : (s : Slow) (es : List Event) (text : List ℕ) (parsed : raw.RawAct) (a : Act) (r : ActionType) → checked s.names text [] parsed ≡ Ok (a, r)
    → (checked (state_from s es).names text [] parsed ≡ Ok (a, r)) × (uses_of (known_kinds (state_from s es).names) a ≡ uses_of (known_kinds s.names) a)
same_text s es text parsed a r e =
    let l = longer_from s es in
    subst (λ (xs : List Named). (checked xs text [] parsed ≡ Ok (a, r)) × (uses_of (known_kinds xs) a ≡ uses_of (known_kinds s.names) a)) (sym l.are) (checked_stay s.names l.later text parsed [] a r e)

-- ---- the variables that a block names
module _ (k : TypeEnv) (cells : List (Ty × Value)) (known : (i : ℕ) (t : Ty) → k i ≡ Some t → kinds_of cells i ≡ Some t) where
  recorded_one : (o p : Option Ty) (i : ℕ) (us : List (ℕ × Ty)) → k i ≡ p → Covers cells us → Covers cells (record_use_as o p i us)
  recorded_one (Some u) p i us e c = c
  recorded_one None (Some t) i us e c = covers-append cells us ((i, t) ∷ []) c (known i t e, tt)
  recorded_one None None i us e c = c

  recorded_all : (is : List ℕ) (us : List (ℕ × Ty)) → Covers cells us → Covers cells (record_uses k is us)
  recorded_all [] us c = c
  recorded_all (i ∷ is) us c = recorded_all is (record_use k i us) (recorded_one (kinds_in us i) (k i) i us refl c)

uses_covered : (s : Slow) (a : Act) → IsPossible s → Covers (plains s.store) (uses_of (known_kinds s.names) a)
uses_covered s a p = recorded_all (known_kinds s.names) (plains s.store) (covered (plains s.store) (named_uses s.names) p.named) (named a) [] tt

pub names_stay : NamesStay
names_stay = record { numbers = same_number; texts = same_text; covered = uses_covered }
