-- The printed text of values, types and verdicts.
use Rattle.std.specs.Prelude.{◌≡◌, ℕ, zero, suc, List, [], ◌∷◌, ◌++◌, if◌then◌else◌, codes, decimal, MatchResult, Result}
use Rattle.std.specs.Fmt.{signed_decimal}
use Rattle.stm_terms.specs.declared.kinds.Base.{Base}
use Rattle.stm_terms.specs.declared.kinds.Base.TheVariants.{Int as IntType, Bool as BoolType, Unit as UnitType}
use Rattle.stm_terms.specs.declared.kinds.Ty.{Ty}
use Rattle.stm_terms.specs.declared.values.Ref.{Ref}
use Rattle.stm_terms.specs.declared.values.Ref.TheVariants.{Old, New}
use Rattle.stm_terms.specs.declared.values.Value.{Value}
use Rattle.stm_terms.specs.declared.values.Value.TheVariants.{Int as IntValue, Bool as BoolValue, Unit as UnitValue, Var as VarValue}
use Rattle.stm_terms.specs.declared.values.Fault.{Fault}
use Rattle.stm_terms.specs.declared.values.Fault.TheVariants.{Thrown, Overflow}
use Rattle.stm_terms.specs.declared.verdicts.Verdict.{Verdict}
use Rattle.stm_terms.specs.declared.verdicts.Verdict.TheVariants.{Commits, Throws, Blocks}

-- a text begins with this part
abbrev pub IsPrefixOf : List ℕ → List ℕ → Type 0
IsPrefixOf front text = (rest : List ℕ) × (text ≡ front ++ rest)

-- a part of a text from its front was appended
abbrev pub AppendsPart : List ℕ → List ℕ → List ℕ → Type 0
AppendsPart old new text = (front : List ℕ) × IsPrefixOf front text × (new ≡ old ++ front)

-- the text was appended, or, where memory ran out, a part of it from its front
abbrev pub AppendsText : {E : Type 0} → Result (Unit {0}) E → List ℕ → List ℕ → List ℕ → Type 0
AppendsText result old new text =
    MatchResult result (λ _. new ≡ old ++ text) (λ _. AppendsPart old new text)

-- a reference, as `#2` of the store or `new0` of the block
abbrev pub ref_text : Ref → List ℕ
ref_text (Old i) = codes "#" ++ decimal i
ref_text (New k) = codes "new" ++ decimal k

-- a value, as `-3`, `True`, `()` or a reference
abbrev pub value_text : Value → List ℕ
value_text (IntValue n) = signed_decimal n
value_text (BoolValue b) = if b then codes "True" else codes "False"
value_text UnitValue = codes "()"
value_text (VarValue r) = ref_text r

-- a type without `TVar`
abbrev pub base_text : Base → List ℕ
base_text IntType = codes "Int"
base_text BoolType = codes "Bool"
base_text UnitType = codes "()"

-- the given number of `TVar` around a base
abbrev pub refs_text : Base → ℕ → List ℕ
refs_text base zero = base_text base
refs_text base (suc zero) = codes "TVar " ++ base_text base
refs_text base (suc (suc n)) = codes "TVar (" ++ refs_text base (suc n) ++ codes ")"

-- a type, as `TVar (TVar Int)`
unfoldable pub type_text : Ty → List ℕ
type_text ty = refs_text ty.base ty.refs

-- items, each after a space
abbrev pub spaced : {X : Type 0} → (X → List ℕ) → List X → List ℕ
spaced text [] = []
spaced text (x ∷ xs) = codes " " ++ text x ++ spaced text xs

-- a list with single spaces between, or `none`
abbrev pub list_text : {X : Type 0} → (X → List ℕ) → List X → List ℕ
list_text text [] = codes "none"
list_text text (x ∷ xs) = text x ++ spaced text xs

-- a variable with its value, as `#0=2`
abbrev pub write_text : ℕ × Value → List ℕ
write_text w = codes "#" ++ decimal w.0 ++ codes "=" ++ value_text w.1

-- the number that was thrown, or `overflow`
abbrev pub fault_text : Fault → List ℕ
fault_text (Thrown n) = signed_decimal n
fault_text Overflow = codes "overflow"

-- the values of new variables
abbrev pub new_text : Ty × Value → List ℕ
new_text n = value_text n.1

-- what a commit writes and makes
unfoldable pub changes_text : List (ℕ × Value) → List (Ty × Value) → List ℕ
changes_text writes news = list_text write_text writes ++ codes " news " ++ list_text new_text news

-- what a block returns
unfoldable pub result_text : Value → List ℕ
result_text value = codes " result " ++ value_text value

-- the verdict of a block that returns, by its writes, its new variables and its result
abbrev pub commits_text : List (ℕ × Value) → List (Ty × Value) → Value → List ℕ
commits_text writes news result = codes "commits writes " ++ changes_text writes news ++ result_text result

-- a verdict, as `throws 4` or `blocks`
abbrev pub verdict_text : Verdict → List ℕ
verdict_text (Commits writes news result) = commits_text writes news result
verdict_text (Throws fault) = codes "throws " ++ fault_text fault
verdict_text Blocks = codes "blocks"
