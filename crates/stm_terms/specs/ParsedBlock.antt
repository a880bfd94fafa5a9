-- A parsed block as callers see it.
use Rattle.std.specs.Prelude.{◌≡◌, ℕ, ◌≤◌, ◌^◌, List, length, true, refl, slice_range}
use Rattle.std.specs.Str.{IsAscii}
use Rattle.std.specs.Global.{Box}
use denote.RawPtr.{null_ptr}
use Rattle.std.specs.Coded.{Coded, code_by}
use Rattle.std.proofs.Common.{ap, ap₂, ◌∙◌}
use Rattle.stm_terms.specs.Names.{is_name_text}
use Rattle.stm_terms.specs.declared.raw.RawExpr.{RawExpr}
use Rattle.stm_terms.specs.declared.raw.RawExpr.TheVariants as E
use Rattle.stm_terms.specs.declared.raw.RawAction.{RawAction}
use Rattle.stm_terms.specs.declared.raw.RawAction.TheVariants as A
use Rattle.stm_terms.specs.ParsedAst.{RawTerm, int, truth, unit, name, bin, RawAct, return, read, write, make, retry, throw, if_else, or_else, bind, let_in, seq, catch, raw_term_of, raw_act_of, SpansWithin, actions}
use Rattle.stm_terms.specs.contracts.raw.RawAction as tree

-- the tree and the text
pub record RawBlock : Type 0 where
  pub tree : RawAct
  pub text : List ℕ

-- the span is a name of the text
abbrev pub IsNameOf : List ℕ → ℕ → ℕ → Type 0
IsNameOf text from to = is_name_text (slice_range text from to) ≡ true

-- each name of an expression is a name of the text
abbrev pub TermNamesAre : List ℕ → RawTerm → Type 0
TermNamesAre text (int n at) = Unit {0}
TermNamesAre text (truth b at) = Unit {0}
TermNamesAre text (unit at) = Unit {0}
TermNamesAre text (name span) = IsNameOf text span.start span.end
TermNamesAre text (bin op a b) = TermNamesAre text a × TermNamesAre text b

-- each name of an action is a name of the text
abbrev pub NamesAreOfText : List ℕ → RawAct → Type 0
NamesAreOfText text (return e) = TermNamesAre text e
NamesAreOfText text (read e) = TermNamesAre text e
NamesAreOfText text (write r e) = TermNamesAre text r × TermNamesAre text e
NamesAreOfText text (make e) = TermNamesAre text e
NamesAreOfText text retry = Unit {0}
NamesAreOfText text (throw e) = TermNamesAre text e
NamesAreOfText text (if_else e a at b) = TermNamesAre text e × NamesAreOfText text a × NamesAreOfText text b
NamesAreOfText text (or_else a at b) = NamesAreOfText text a × NamesAreOfText text b
NamesAreOfText text (bind span at a b) = IsNameOf text span.start span.end × NamesAreOfText text a × NamesAreOfText text b
NamesAreOfText text (let_in span e b) = IsNameOf text span.start span.end × TermNamesAre text e × NamesAreOfText text b
NamesAreOfText text (seq a b) = NamesAreOfText text a × NamesAreOfText text b
NamesAreOfText text (catch a span at b) = NamesAreOfText text a × IsNameOf text span.start span.end × NamesAreOfText text b

-- the tree fits the text that it was parsed from
pub record IsParsed (text : List ℕ) (tree : RawAct) : Type 0 where
  -- the text is ASCII
  pub ascii : IsAscii text
  -- each name of the tree is a part of the text
  pub spans : SpansWithin (length text) tree
  -- that part is a name
  pub names : NamesAreOfText text tree
  -- there are few enough actions to count
  pub few : actions tree ≤ 2 ^ 32

-- a box at no place in memory
abbrev nowhere : Box (Unit {0})
nowhere = record { ptr = null_ptr; alloc = record { memory = record { seal = tt } }; value = tt }

-- an expression with its parts in such boxes
abbrev boxed_term : RawTerm → RawExpr
boxed_term (int n at) = E.Int n at
boxed_term (truth b at) = E.Bool b at
boxed_term (unit at) = E.Unit at
boxed_term (name span) = E.Name span
boxed_term (bin op a b) = E.Bin' op nowhere (boxed_term a) nowhere (boxed_term b)

-- an action with its parts in such boxes
abbrev boxed : RawAct → RawAction
boxed (return e) = A.Return (boxed_term e)
boxed (read e) = A.Read (boxed_term e)
boxed (write r e) = A.Write (boxed_term r) (boxed_term e)
boxed (make e) = A.Make (boxed_term e)
boxed retry = A.Retry
boxed (throw e) = A.Throw (boxed_term e)
boxed (if_else e a at b) = A.If' (boxed_term e) nowhere (boxed a) at nowhere (boxed b)
boxed (or_else a at b) = A.OrElse' nowhere (boxed a) at nowhere (boxed b)
boxed (bind span at a b) = A.Bind' span at nowhere (boxed a) nowhere (boxed b)
boxed (let_in span e b) = A.Let' span (boxed_term e) nowhere (boxed b)
boxed (seq a b) = A.Seq' nowhere (boxed a) nowhere (boxed b)
boxed (catch a span at b) = A.Catch' nowhere (boxed a) span at nowhere (boxed b)

term_back : (e : RawTerm) → raw_term_of (boxed_term e) ≡ e
term_back (int n at) = refl
term_back (truth b at) = refl
term_back (unit at) = refl
term_back (name span) = refl
term_back (bin op a b) = ap₂ (λ x y. bin op x y) (term_back a) (term_back b)

pub raw_act_back : (a : RawAct) → raw_act_of (boxed a) ≡ a
raw_act_back (return e) = ap return (term_back e)
raw_act_back (read e) = ap read (term_back e)
raw_act_back (write r e) = ap₂ (λ x y. write x y) (term_back r) (term_back e)
raw_act_back (make e) = ap make (term_back e)
raw_act_back retry = refl
raw_act_back (throw e) = ap throw (term_back e)
raw_act_back (if_else e a at b) =
    ap (λ x. if_else x (raw_act_of (boxed a)) at (raw_act_of (boxed b))) (term_back e)
    ∙ ap₂ (λ x y. if_else e x at y) (raw_act_back a) (raw_act_back b)
raw_act_back (or_else a at b) = ap₂ (λ x y. or_else x at y) (raw_act_back a) (raw_act_back b)
raw_act_back (bind span at a b) = ap₂ (λ x y. bind span at x y) (raw_act_back a) (raw_act_back b)
raw_act_back (let_in span e b) = ap₂ (λ x y. let_in span x y) (term_back e) (raw_act_back b)
raw_act_back (seq a b) = ap₂ (λ x y. seq x y) (raw_act_back a) (raw_act_back b)
raw_act_back (catch a span at b) = ap₂ (λ x y. catch x span at y) (raw_act_back a) (raw_act_back b)

-- parsed trees are values that contracts can speak of, by the trees of the code
abbrev pub raw_code : Coded RawAct
raw_code = code_by RawAction tree.the_row.coded boxed raw_act_of raw_act_back
