-- The names of a state stay known ones: each is a name of the language, and has a variable of its own.
use Rattle.std.proofs.Common.{◌≡◌, ◌⊎◌, inl, inr, ℕ, zero, suc, ◌+◌, ◌<◌, ◌≤◌, List, [], ◌∷◌, ◌++◌, length, take, get_or, Some, None, refl, ap, sym, subst, ◌∙◌, arith, append_assoc, append-nil}
use Rattle.std.specs.Prelude.{IsTrue, slice_get}
use Rattle.std.proofs.Math.Seq.{take-length}
use Rattle.std.proofs.lemmas.Option.{slice_get_cases}
use Rattle.stm_terms.specs.declared.kinds.Ty.{Ty}
use Rattle.stm_terms.specs.declared.values.Value.{Value}
use Rattle.stm_terms.specs.Names.{is_name_text}
use Rattle.stm_store.specs.Cells.{plains, Covers}
use Rattle.stm_store.specs.Naming.{Named, named_in_table, named_uses, AreKnown}
use Rattle.stm_store.specs.Tables.{Declared, AreDeclared, declare_refusal}
use Rattle.stm_store.proofs.NewNames.{known-added}
use Rattle.stm_store.proofs.TableNames.{IsEntry, fresh_name, is_name, held_kind, names_next, numbers_below}
use Rattle.stm_events.specs.declared.event.Event.{Event}
use Rattle.stm_events.specs.declared.event.What.{What}
use Rattle.stm_events.specs.declared.event.What.TheVariants.{Submitted, Installed, Finished, Cancelled, Declared as DeclaredLate, Labelled}
use Rattle.stm_events.specs.SlowDesk.{Slow, after, Allows, LegalFrom, state_from}
use Rattle.stm_events.specs.States.{IsPossible}
use Rattle.stm_events.proofs.Possible.{possible_after}
use Rattle.stm_history.specs.Judgement.{AreVariablesFrom}
use Rattle.stm_run.proofs.SmallNumbers.{length-plains, within}

-- ---- the names of a table
declared_at : (prior ds : List Declared) → AreVariablesFrom prior ds → (i : ℕ) (d : Declared) → slice_get ds i ≡ Some d
    → IsTrue (is_name_text d.name) × (declare_refusal (prior ++ take i ds) d.name d.kind d.value ≡ None)
declared_at prior [] a i d e = absurd (cc e)
declared_at prior (x ∷ ds) a zero d e =
    let same : x ≡ d = cc in
    subst (λ (y : Declared). IsTrue (is_name_text y.name) × (declare_refusal (prior ++ []) y.name y.kind y.value ≡ None)) same
    (a.0.fits.0, subst (λ (t : List Declared). declare_refusal t x.name x.kind x.value ≡ None) (sym (append-nil prior)) a.0.may)
declared_at prior (x ∷ ds) a (suc i) d e =
    let h = declared_at (prior ++ x ∷ []) ds a.1 i d e in
    (h.0, subst (λ (t : List Declared). declare_refusal t d.name d.kind d.value ≡ None) (append_assoc prior (x ∷ []) (take i ds)) h.1)

known_more : (table : List Declared) → AreDeclared table → (i : ℕ) (d : Declared) → i < length table → slice_get table i ≡ Some d → AreKnown (named_in_table (take i table))
    → AreKnown (named_in_table (take (suc i) table))
known_more table declared i d l there k =
    let entry : IsEntry table i d.name d.kind = record { entry = d; there = there; name_is = refl; kind_is = refl } in
    let next : i + 1 ≡ suc i = omega arith in
    let more = known-added (named_in_table (take i table)) (record { name = d.name; number = i; kind = d.kind }) k (is_name table i d.name d.kind declared entry)
    (fresh_name table i d.name d.kind declared entry) (numbers_below table i (omega (arith, l))) (held_kind table i d.name d.kind declared entry) in
    subst AreKnown (names_next table i d.name d.kind entry ∙ ap (λ (n : ℕ). named_in_table (take n table)) next) more

known_front : (table : List Declared) → AreDeclared table → (i : ℕ) → i ≤ length table → AreKnown (named_in_table (take i table))
known_front table declared zero l = record {
  named = λ i d e. absurd (cc e);
  ascending = λ i j d x e f m. absurd (cc e);
  distinct = λ i d e. absurd (cc e);
  typed = λ i d e. absurd (cc e);
  held = λ i d e. absurd (cc e);
}
known_front table declared (suc i) l = by (slice_get_cases table i).1 (known_front table declared i (omega (arith, l)))
  where
    by : ((x : Declared) × (i < length table) × (slice_get table i ≡ Some x) × (get_or table i x ≡ x)) ⊎ ((length table ≤ i) × (slice_get table i ≡ None)) → AreKnown (named_in_table (take i table))
        → AreKnown (named_in_table (take (suc i) table))
    by (inl h) k = known_more table declared i h.0 h.1 h.2 k
    by (inr h) k = absurd (omega (arith, l, h.0))

pub known_table : (table : List Declared) → AreVariablesFrom [] table → AreKnown (named_in_table table)
known_table table a =
    subst (λ (t : List Declared). AreKnown (named_in_table t)) (take-length table) (known_front table (declared_at [] table a) (length table) (omega arith))

-- ---- events
below : (cells : List (Ty × Value)) (ns : List Named) → Covers cells (named_uses ns) → (i : ℕ) (d : Named) → slice_get ns i ≡ Some d → d.number < length cells
below cells [] c i d e = absurd (cc e)
below cells (n ∷ ns) c zero d e = let same : n ≡ d = cc in subst (λ (x : Named). x.number < length cells) same (within cells n.number n.kind c.0)
below cells (n ∷ ns) c (suc i) d e = below cells ns c.1 i d e

known_after : (s : Slow) (what : What) → IsPossible s → Allows s what → AreKnown s.names → AreKnown (after s what).names
known_after s (Submitted t block) p a k = k
known_after s (Installed t v) p a k = k
known_after s (Finished t v n stale) p a k = k
known_after s (Cancelled t) p a k = k
known_after s (DeclaredLate name kind value) p a k =
    known-added s.names (record { name = name; number = length s.store; kind = kind }) k a.name_is a.fresh
    (λ i d e. let low = below (plains s.store) s.names p.named i d e in omega (arith, low, length-plains s.store)) (value, a.holds)
known_after s (Labelled t label) p a k = k

pub known_from : (s : Slow) (es : List Event) → IsPossible s → LegalFrom s es → AreKnown s.names → AreKnown (state_from s es).names
known_from s [] p l k = k
known_from s (e ∷ es) p l k =
    let a = l.0.what in known_from (after s e.what) es (possible_after s e.what p a) l.1 (known_after s e.what p a k)
