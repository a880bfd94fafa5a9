-- Each name is that of a variable that is there, with its type.
use Rattle.std.proofs.Common.{◌≡◌, ℕ, zero, suc, ◌+◌, ◌≤◌, List, [], ◌∷◌, ◌++◌, length, Some, refl, sym, subst, append_assoc, length-append}
use Rattle.std.specs.Prelude.{slice_get}
use Rattle.std.proofs.lemmas.List.{map-append}
use Rattle.stm_terms.specs.declared.kinds.Ty.{Ty}
use Rattle.stm_terms.specs.declared.values.Ref.TheVariants.{Old, New}
use Rattle.stm_terms.specs.declared.values.Value.{Value}
use Rattle.stm_terms.specs.declared.values.Value.TheVariants.{Int, Bool as Truth, Unit as Nil, Var}
use Rattle.stm_terms.specs.Changes.{no_changes}
use Rattle.stm_terms.specs.Typing.{TypeEnv, var_ty, type_of}
use Rattle.stm_store.specs.declared.cell.Cell.{Cell}
use Rattle.stm_store.specs.Cells.{plains, kinds_of, Covers, Fits, applied}
use Rattle.stm_store.specs.Naming.{Named, named_use, named_uses, known_kinds, named_from, named_in_table}
use Rattle.stm_store.specs.Tables.{Declared, declared_cells, opened}
use Rattle.stm_store.proofs.ApplyPreservesTyping.{covered_stay}
use Rattle.stm_store.proofs.Opening.{plains-opened}
use Rattle.stm_store.proofs.TypeTestsDecide.{and_left, and_right, le_true, kind_from}
use Rattle.stm_store.proofs.Typed.{mapped}
use Rattle.stm_check.proofs.Weakening.{covered}
use Rattle.stm_events.specs.declared.event.What.{What}
use Rattle.stm_events.specs.declared.event.What.TheVariants.{Submitted, Installed, Finished, Cancelled, Declared as DeclaredLate, Labelled}
use Rattle.stm_events.specs.SlowDesk.{Slow, MayDeclareLate, declaration, after}

-- ---- one more
pub covers-append : (cells : List (Ty × Value)) (us vs : List (ℕ × Ty)) → Covers cells us → Covers cells vs → Covers cells (us ++ vs)
covers-append cells [] vs c d = d
covers-append cells (u ∷ us) vs c d = (c.0, covers-append cells us vs c.1 d)

last_kind : (cells : List Cell) (c : Cell) → kinds_of (plains (cells ++ c ∷ [])) (length cells) ≡ Some c.kind
last_kind [] c = refl
last_kind (d ∷ cells) c = last_kind cells c

named_more : (s : Slow) (name : List ℕ) (kind : Ty) (value : Value) → Covers (plains s.store) (named_uses s.names)
    → Covers (plains (applied s.store (declaration kind value))) (named_uses (s.names ++ record { name = name; number = length s.store; kind = kind } ∷ []))
named_more s name kind value c =
    let one : Named = record { name = name; number = length s.store; kind = kind } in
    subst (Covers (plains (applied s.store (declaration kind value)))) (sym (map-append named_use s.names (one ∷ [])))
    (covers-append (plains (applied s.store (declaration kind value))) (named_uses s.names) (named_use one ∷ []) (covered_stay s.store (declaration kind value) (named_uses s.names) c)
    (last_kind s.store _, tt))

pub named_after : (s : Slow) (what : What) → Covers (plains s.store) (named_uses s.names) → Covers (plains (after s what).store) (named_uses (after s what).names)
named_after s (Submitted t b) c = c
named_after s (Installed t v) c = c
named_after s (Finished t v n l) c = covered_stay s.store v (named_uses s.names) c
named_after s (Cancelled t) c = c
named_after s (DeclaredLate name kind value) c = named_more s name kind value c
named_after s (Labelled t label) c = c

-- ---- the variables of a table
get_after : (before : List Declared) (d : Declared) (ds : List Declared) → kinds_of (declared_cells (before ++ d ∷ ds)) (length before) ≡ Some d.kind
get_after [] d ds = refl
get_after (x ∷ before) d ds = get_after before d ds

named_table : (before ds : List Declared) → Covers (declared_cells (before ++ ds)) (named_uses (named_from (length before) ds))
named_table before [] = tt
named_table before (d ∷ ds) =
    let n : length (before ++ d ∷ []) ≡ length before + 1 = length-append before (d ∷ []) in
    let whole : (before ++ d ∷ []) ++ ds ≡ before ++ d ∷ ds = append_assoc before (d ∷ []) ds in (
      get_after before d ds,
      subst (λ (xs : List Declared). Covers (declared_cells xs) (named_uses (named_from (length before + 1) ds))) whole
          (subst (λ (k : ℕ). Covers (declared_cells ((before ++ d ∷ []) ++ ds)) (named_uses (named_from k ds))) n (named_table (before ++ d ∷ []) ds)),
    )

pub named_initial : (table : List Declared) → Covers (plains (opened table)) (named_uses (named_in_table table))
named_initial table = subst (λ (cells : List (Ty × Value)). Covers cells (named_uses (named_in_table table))) (sym (plains-opened table)) (named_table [] table)

-- ---- the value of a variable that is declared
-- a value of known names is one of the store, whatever a verdict makes
known_type : (k l : TypeEnv) (news : List (Ty × Value)) → ((i : ℕ) (t : Ty) → k i ≡ Some t → l i ≡ Some t) → (v : Value) (t : Ty) → type_of k no_changes v ≡ Some t → type_of l (record { writes = []; news = news }) v ≡ Some t
known_type k l news old (Int z) t e = e
known_type k l news old (Truth b) t e = e
known_type k l news old Nil t e = e
known_type k l news old (Var (Old i)) t e = mapped (k i) (l i) t (old i) e
known_type k l news old (Var (New i)) t e = absurd (cc)

one_new : (kind : Ty) (value : Value) (k : ℕ) (c : Ty × Value) → slice_get ((kind, value) ∷ []) k ≡ Some c → (kind, value) ≡ c
one_new kind value zero c e = cc
one_new kind value (suc k) c e = absurd (cc)

pub declaration_fits : (s : Slow) (name : List ℕ) (kind : Ty) (value : Value) → Covers (plains s.store) (named_uses s.names) → MayDeclareLate s name kind value → Fits (plains s.store) (declaration kind value)
unfolding Fits
declaration_fits s name kind value c m =
    let news : List (Ty × Value) = (kind, value) ∷ [] in
    let typed : type_of (kinds_of (plains s.store)) (record { writes = []; news = news }) value ≡ Some kind =
    known_type (known_kinds s.names) (kinds_of (plains s.store)) news (covered (plains s.store) (named_uses s.names) c) value kind (kind_from _ _ (and_right _ _ m.holds)) in
    let low : kind.refs ≤ 8 = le_true _ _ (and_left _ _ m.holds) in
    record {
      rising = tt;
      writes = λ i v e. absurd (cc);
      news = λ k d e.
          subst (λ (x : Ty × Value). (type_of (kinds_of (plains s.store)) (record { writes = []; news = news }) x.1 ≡ Some x.0) × (x.0.refs ≤ 8)) (one_new kind value k d e) (typed, low);
      result = (var_ty kind, refl);
    }
