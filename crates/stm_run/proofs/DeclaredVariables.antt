-- A variable that a text declares can be in a line of a history, also one that it declares late if its number is small.
use Rattle.std.proofs.Common.{◌≡◌, ℕ, zero, suc, ◌+◌, ◌-◌, ◌<◌, ◌≤◌, ◌^◌, Bool, true, false, cond, IsTrue, List, [], ◌∷◌, ◌++◌, length, drop, Option, Some, None, Result, Ok, Err, IfOk, pos, refl, sym, subst, rules, arith, length-drop}
use Rattle.std.specs.Prelude.{not, ◌&&◌, nat_le, nat_lt, neg_ℤ, is_some}
use Rattle.std.specs.Str.{bytes_eq}
use Rattle.std.proofs.lemmas.Bool.Decides.{nat_tests}
use Rattle.stm_terms.specs.ParsedAst.{text_at, RawTerm}
use Rattle.stm_terms.specs.declared.kinds.Ty.{Ty}
use Rattle.stm_terms.specs.declared.values.Value.{Value}
use Rattle.stm_terms.specs.declared.values.Value.TheVariants as value
use Rattle.stm_terms.specs.declared.values.Ref.TheVariants.{Old, New}
use Rattle.stm_terms.specs.Limits.{most_refs}
use Rattle.stm_terms.specs.Names.{is_name_text}
use Rattle.stm_parse.specs.declared.fault.ParseFault.{ParseFault}
use Rattle.stm_parse.specs.declared.token.Lexeme.{Lexeme}
use Rattle.stm_parse.specs.declared.tokenizer.TokenClass.{TokenClass}
use Rattle.stm_parse.specs.Declarations.{ParsedInit, literal, named, init_of}
use Rattle.stm_parse.specs.Grammar.{At, at, greatest, WithinLimits, IsInit, is_number_init, is_negative_init, is_true_init, is_false_init, is_unit_init, is_name_init, DeclarationTree, IsDeclaration, is_declaration}
use Rattle.stm_parse.specs.MaximalMunch.{IsLongest, Tokenization, token_before, IsTokenization, at_end, at_blank, at_token, at_fault, at_bad_byte}
use Rattle.stm_parse.specs.NameTokens.{NamesOf}
use Rattle.stm_parse.specs.ParseFunction.{IsAnswer, declared_tree, declaration_result, parsed_declaration, DeclarationAnswersAreRight}
use Rattle.stm_parse.specs.ParseResult.{Lexes, IsTextOf}
use Rattle.stm_parse.specs.Tokenizer.{SpansRise}
use Rattle.stm_parse.proofs.LongestTokenInFront.{nothing_is_no_token}
use Rattle.stm_parse.proofs.TreeNamesAndSize.{names_of, kept_declaration}
use Rattle.stm_store.specs.declared.table.DeclareError.{DeclareError}
use Rattle.stm_store.specs.declared.table.DeclareError.TheVariants as declare
use Rattle.stm_store.specs.Naming.{Named, number_named}
use Rattle.stm_store.specs.Tables.{Declared, declared_cells, number_from, number_of, is_of, may_hold, declare_refusal}
use Rattle.stm_events.specs.SlowDesk.{max_cells}
use Rattle.stm_event_lines.specs.Fits.{FitsInt, FitsValue}
use Rattle.stm_history.specs.Judgement.{MayDeclare}
use Rattle.stm_source.specs.declared.refusal.Refusal.{Refusal}
use Rattle.stm_source.specs.DeclaredVariable.{reference_to, initial, unless_refused, with_initial_value, on_declaration, variable_of, late_initial, with_late_value, on_late_declaration, late_variable_of}
use Rattle.stm_source.specs.OutOfMemory.{IsOutOfMemory}
use Rattle.stm_run.specs.Fitting.{IsReferenceSmall}

-- ---- the tokens of a text come one after another
abbrev Rises : ℕ → ℕ → Tokenization → Type 0
Rises p n (Ok ts) = SpansRise p n ts
Rises p n (Err e) = Unit {0}

lower : (p q n : ℕ) (r : Tokenization) → p ≤ q → Rises q n r → Rises p n r
lower p q n (Ok []) l h = omega (arith, l, h)
lower p q n (Ok (t ∷ ts)) l h = (omega (arith, l, h.0), h.1, h.2, h.3)
lower p q n (Err e) l h = tt

one_before : (p e n : ℕ) (k : TokenClass) (r : Tokenization) → p < e → e ≤ n → Rises e n r → Rises p n (token_before (record { kind = k; start = p; end = e }) r)
one_before p e n k (Ok ts) some within h = (omega arith, some, within, h)
one_before p e n k (Err f) some within h = tt

has_bytes : (bytes : List ℕ) (k : TokenClass) (n : ℕ) → IsLongest bytes k n → 0 < n
has_bytes bytes k zero l = let t = l.token in let none = nothing_is_no_token k in absurd cc
has_bytes bytes k (suc n) l = omega arith

rises : (place : ℕ) (bytes : List ℕ) (told : Tokenization) → IsTokenization place bytes told → (n : ℕ) → n ≡ place + length bytes → Rises place n told
rises place bytes told at_end n e = omega (arith, e)
rises place bytes told (at_blank {bytes = rest} w h) n e = lower place (place + 1) n told (omega arith) (rises (place + 1) rest told h n (omega (arith, e)))
rises place bytes told (at_token {n = m} {k = k} {cut = r} l f h) n e =
    let within = l.within in
    one_before place (place + m) n k r (omega (arith, has_bytes bytes k m l)) (omega (arith, e, within)) (rises (place + m) (drop m bytes) r h n (omega (arith, e, length-drop m bytes, within)))
rises place bytes told (at_fault l f) n e = tt
rises place bytes told (at_bad_byte b f) n e = tt

pub text_names : (text : List ℕ) (ls : List Lexeme) → Lexes text ls → NamesOf text ls
text_names text ls lexes = subst (NamesOf text) (sym lexes.2) (names_of text 0 lexes.0 (rises 0 text (Ok lexes.0) lexes.1 (length text) (omega arith)))

name_text : (text : List ℕ) (t : DeclarationTree) → IsTextOf IsDeclaration text t → is_name_text (text_at text t.name) ≡ true
name_text text t h = (kept_declaration text h.0 t h.2 (text_names text h.0 (h.1).1)).1

-- ---- the first value is in range
abbrev InitFits : ParsedInit → Type 0
InitFits (literal v) = FitsValue v
InitFits (named name place) = Unit {0}

pub within_back : (us vs : List At) → WithinLimits (us ++ vs) → WithinLimits vs
within_back [] vs w = w
within_back (u ∷ us) vs w = within_back us vs w.1

pub number_fits : (n : ℕ) → n ≤ greatest → n < 2 ^ 63
unfolding greatest
number_fits n l = omega (arith, l)

pub negative_fits : (n : ℕ) → n - 1 ≤ greatest → FitsInt (neg_ℤ (pos n))
unfolding greatest
negative_fits zero l = omega arith
negative_fits (suc n) l = omega (arith, l)

init_fits : (text : List ℕ) (us : List At) (e : RawTerm) → IsInit us e → WithinLimits us → InitFits (init_of text e)
init_fits text us e (is_number_init {n = n} p) w = number_fits n (w.0).2
init_fits text us e (is_negative_init {n = n} o m p c) w = negative_fits n (w.1.1.0).2
init_fits text us e (is_true_init p) w = tt
init_fits text us e (is_false_init p) w = tt
init_fits text us e (is_unit_init o c) w = tt
init_fits text us e (is_name_init p) w = tt

tree_fits : (text : List ℕ) (us : List At) (t : DeclarationTree) → IsDeclaration us t → WithinLimits us → InitFits (init_of text t.init)
tree_fits text us t (is_declaration z {us = vs} {vs = ws} p q g c i) w = init_fits text ws _ i (within_back vs (at 0 z ∷ ws) w.1.1).1

-- ---- and what it names is declared
number_low : (name : List ℕ) (i : ℕ) (ds : List Declared) (j : ℕ) → number_from name i ds ≡ Some j → j < i + length ds
number_low name i [] j e = absurd cc
number_low name i (d ∷ ds) j e = by (bytes_eq d.name name) (number_low name (i + 1) ds j) e
  where
    by : (b : Bool) → (number_from name (i + 1) ds ≡ Some j → j < i + 1 + length ds) → cond b (Some i) (number_from name (i + 1) ds) ≡ Some j → j < i + length (d ∷ ds)
    by true more q = let same : i ≡ j = cc in omega (arith, same)
    by false more q = omega (arith, more q)

reference_fits : (table : List Declared) (place : ℕ) (name : List ℕ) (o : Option ℕ) → length table ≤ max_cells → number_of name table ≡ o → IfOk (reference_to place o) FitsValue
reference_fits table place name None few e = tt
reference_fits table place name (Some i) few e = omega (arith, few, number_low name 0 table i e)

initial_fits : (table : List Declared) (init : ParsedInit) → length table ≤ max_cells → InitFits init → IfOk (initial table init) FitsValue
initial_fits table (literal v) few f = f
initial_fits table (named name place) few f = reference_fits table place name (number_of name table) few refl

-- ---- so it may be declared
pub record MayBeNext (table : List Declared) (d : Declared) : Type 0 where
  pub may : MayDeclare table d
  pub room : length table < max_cells

record IsTaken (holds room : Bool) : Type 0 where
  pub holds_it : holds ≡ true
  pub room_for_it : room ≡ true

taken : (twice holds room : Bool) → cond twice (Some declare.Twice) (cond (not holds) (Some declare.TypeOfValue) (cond room None (Some declare.TableFull))) ≡ None → IsTaken holds room
taken true holds room e = absurd cc
taken false false room e = absurd cc
taken false true true e = record { holds_it = refl; room_for_it = refl }
taken false true false e = absurd cc

first_of : (a b : Bool) → a && b ≡ true → a ≡ true
first_of true b e = refl
first_of false b e = absurd cc

next_of : (table : List Declared) (d : Declared) → is_name_text d.name ≡ true → FitsValue d.value → declare_refusal table d.name d.kind d.value ≡ None → MayBeNext table d
next_of table d name value e =
    let t = taken (is_some (number_of d.name table)) (may_hold (declared_cells table) d.kind d.value) (nat_lt (length table) 1000000) e in
    let few : nat_le d.kind.refs most_refs ≡ true = first_of (nat_le d.kind.refs most_refs) (is_of (declared_cells table) d.value d.kind) t.holds_it in
    let room = t.room_for_it in
    record { may = record { fits = (subst IsTrue (sym name) truth, grind (arith, nat_tests), value); may = e }; room = grind (arith, nat_tests) }
  where
    truth : IsTrue true
    truth = search rules

by_refusal : (table : List Declared) (x d : Declared) (o : Option DeclareError) → is_name_text x.name ≡ true → FitsValue x.value → declare_refusal table x.name x.kind x.value ≡ o → unless_refused x o ≡ Ok d → MayBeNext table d
by_refusal table x d None name value r e = let q : x ≡ d = cc in subst (MayBeNext table) q (next_of table x name value r)
by_refusal table x d (Some f) name value r e = absurd cc

by_value : (table : List Declared) (name : List ℕ) (kind : Ty) (d : Declared) (r : Result Value Refusal) → is_name_text name ≡ true → IfOk r FitsValue → with_initial_value table name kind r ≡ Ok d → MayBeNext table d
by_value table name kind d (Ok v) word value e = by_refusal table (record { name = name; kind = kind; value = v }) d (declare_refusal table name kind v) word value refl e
by_value table name kind d (Err f) word value e = absurd cc

module _ (declarations : DeclarationAnswersAreRight) where
  by_tree : (table : List Declared) (text : List ℕ) (d : Declared) → length table ≤ max_cells → (r : Result DeclarationTree ParseFault) → IsAnswer IsDeclaration text r → on_declaration table (declaration_result text r) ≡ Ok d → MayBeNext table d
  by_tree table text d few (Err f) h e = absurd cc
  by_tree table text d few (Ok t) h e =
      let tree = h.2 in
      by_value table (text_at text t.name) t.ty d (initial table (init_of text t.init)) (name_text text t h) (initial_fits table (init_of text t.init) few (tree_fits text tree.0 t tree.1 tree.2)) e

  pub may_be_next : (table : List Declared) (text : List ℕ) (d : Declared) → length table ≤ max_cells → variable_of table text ≡ Ok d → MayBeNext table d
  unfolding variable_of parsed_declaration
  may_be_next table text d few e = by_tree table text d few (declared_tree text) (declarations text) e

-- ---- a variable that is declared late
-- the value is in range, if it is no reference
abbrev pub IsLiteralInRange : Value → Type 0
IsLiteralInRange (value.Int n) = FitsValue (value.Int n)
IsLiteralInRange (value.Bool b) = Unit {0}
IsLiteralInRange value.Unit = Unit {0}
IsLiteralInRange (value.Var r) = Unit {0}

pub literal_in_range : (v : Value) → FitsValue v → IsLiteralInRange v
literal_in_range (value.Int n) f = f
literal_in_range (value.Bool b) f = tt
literal_in_range value.Unit f = tt
literal_in_range (value.Var r) f = tt

pub fits_value : (v : Value) → IsLiteralInRange v → IsReferenceSmall v → FitsValue v
fits_value (value.Int n) f r = f
fits_value (value.Bool b) f r = tt
fits_value value.Unit f r = tt
fits_value (value.Var (Old i)) f r = r
fits_value (value.Var (New k)) f r = r

-- its name is one, and its first value is in range if it is no reference; a refusal isn't for lack of memory
abbrev pub LateOrTold : Result Declared Refusal → Type 0
LateOrTold (Ok v) = IsTrue (is_name_text v.name) × IsLiteralInRange v.value
LateOrTold (Err e) = ¬ IsOutOfMemory e

abbrev ValueOrTold : Result Value Refusal → Type 0
ValueOrTold (Ok v) = IsLiteralInRange v
ValueOrTold (Err e) = ¬ IsOutOfMemory e

late_reference : (place : ℕ) (o : Option ℕ) → ValueOrTold (reference_to place o)
late_reference place (Some i) = tt
late_reference place None = λ k. k

late_value : (known : List Named) (init : ParsedInit) → InitFits init → ValueOrTold (late_initial known init)
late_value known (literal v) f = literal_in_range v f
late_value known (named name place) f = late_reference place (number_named name known)

late_by_value : (name : List ℕ) (kind : Ty) (r : Result Value Refusal) → is_name_text name ≡ true → ValueOrTold r → LateOrTold (with_late_value name kind r)
late_by_value name kind (Ok v) word value = (subst IsTrue (sym word) truth, value)
  where
    truth : IsTrue true
    truth = search rules
late_by_value name kind (Err e) word value = value

module _ (declarations : DeclarationAnswersAreRight) where
  late_by_tree : (known : List Named) (text : List ℕ) (r : Result DeclarationTree ParseFault) → IsAnswer IsDeclaration text r → LateOrTold (on_late_declaration known (declaration_result text r))
  late_by_tree known text (Err f) h = h.0
  late_by_tree known text (Ok t) h =
      let tree = h.2 in
      late_by_value (text_at text t.name) t.ty (late_initial known (init_of text t.init)) (name_text text t h) (late_value known (init_of text t.init) (tree_fits text tree.0 t tree.1 tree.2))

  pub late_judged : (known : List Named) (text : List ℕ) → LateOrTold (late_variable_of known text)
  unfolding late_variable_of parsed_declaration
  late_judged known text = late_by_tree known text (declared_tree text) (declarations text)
