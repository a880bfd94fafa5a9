-- What typing promises, and how the check is tied to it.
use Rattle.std.specs.Prelude.{◌≡◌, ◌≢◌, ◌↔◌, ℕ, ◌⊎◌, List, [], ◌∷◌, ◌++◌, Some, None, Result, Ok, Err, ⊤}
use Rattle.stm_terms.specs.declared.kinds.Ty.{Ty}
use Rattle.stm_terms.specs.declared.values.Value.{Value}
use Rattle.stm_terms.specs.declared.verdicts.Verdict.{Verdict}
use Rattle.stm_terms.specs.Ast.{Act}
use Rattle.stm_terms.specs.ParsedAst as raw
use Rattle.stm_terms.specs.Changes.{Variables, Changes, cell_value}
use Rattle.stm_terms.specs.Semantics.{Returned, Stuck, run}
use Rattle.stm_terms.specs.Typing.{TypeEnv, type_of, ActionType, Gives, Any, kinds_in, action_type, uses_of, WellTyped, HaveTypes}
use Rattle.stm_terms.specs.Verdict.{verdict}
use Rattle.stm_store.specs.Cells.{StoreIsTyped, Covers, Fits}
use Rattle.stm_store.specs.Naming.{Named, known_kinds}
use Rattle.stm_check.specs.CheckFunction.{checked}
use Rattle.stm_check.specs.Resolving.{IsAct}
use Rattle.stm_check.specs.Scopes.{Locals, types_of, names_of}
use Rattle.stm_check.specs.declared.fault.TypeFault.{TypeFault}
use Rattle.stm_check.specs.declared.fault.TypeFault.TheVariants.{NoMemory, Unknown}

-- a well typed action that runs in a well typed view, under locals of their types, is never stuck
abbrev pub Progress : Type 0
Progress =
    (kinds : TypeEnv) (under : Variables) (a : Act) (locals : List Value) (types : List Ty) (h : Changes) (r : ActionType)
    → WellTyped kinds under h → HaveTypes kinds h locals types → action_type kinds types a ≡ Some r
    → run under a locals h ≢ Stuck

-- a returned value has the type of the result; an action of any type never returns
abbrev pub OfType : TypeEnv → Changes → ActionType → Value → Type 0
OfType kinds h (Gives t) v = type_of kinds h v ≡ Some t
OfType kinds h Any v = ⊥

-- what a well typed action returns has the type of its result, and the view that it leaves is well typed
abbrev pub Preservation : Type 0
Preservation =
    (kinds : TypeEnv) (under : Variables) (a : Act) (locals : List Value) (types : List Ty) (h : Changes) (r : ActionType)
    (v : Value) (k : Changes)
    → WellTyped kinds under h → HaveTypes kinds h locals types → action_type kinds types a ≡ Some r
    → run under a locals h ≡ Returned v k
    → OfType kinds k r v × WellTyped kinds under k

-- an action keeps its type if more variables are known
abbrev pub Weakening : Type 0
Weakening =
    (few more : TypeEnv) (a : Act) (types : List Ty) (r : ActionType)
    → ((i : ℕ) (t : Ty) → few i ≡ Some t → more i ≡ Some t)
    → action_type few types a ≡ Some r → action_type more types a ≡ Some r

-- on a well typed store that covers a well typed block's variables, the block has a verdict, and the verdict fits
abbrev pub VerdictFits : Type 0
VerdictFits =
    (cells : List (Ty × Value)) (uses : List (ℕ × Ty)) (block : Act) (r : ActionType)
    → StoreIsTyped cells → Covers cells uses → action_type (kinds_in uses) [] block ≡ Some r
    → (v : Verdict) × (verdict (cell_value cells) block ≡ Some v) × Fits cells v

-- the check accepts a parsed tree exactly if its names resolve and the tree that they give has a type: that tree, with
-- that type
abbrev pub CheckIsExact : Type 0
CheckIsExact =
    (known : List Named) (text : List ℕ) (parsed : raw.RawAct) (locals : Locals) (a : Act) (r : ActionType)
    → (checked known text locals parsed ≡ Ok (a, r))
    ↔ (IsAct known text (names_of locals) parsed a × (action_type (known_kinds known) (types_of locals) a ≡ Some r))

-- and it reports a fault exactly if no tree that the names give has a type
abbrev pub CheckErrsExactly : Type 0
CheckErrsExactly =
    (known : List Named) (text : List ℕ) (parsed : raw.RawAct) (locals : Locals)
    → ((f : TypeFault) × (checked known text locals parsed ≡ Err f))
    ↔ ((a : Act) → IsAct known text (names_of locals) parsed a → action_type (known_kinds known) (types_of locals) a ≡ None)

-- the types of the variables that a block names are enough to type it
abbrev pub Strengthening : Type 0
Strengthening =
    (kinds : TypeEnv) (block : Act) (r : ActionType)
    → action_type kinds [] block ≡ Some r → action_type (kinds_in (uses_of kinds block)) [] block ≡ Some r

-- no variable is there twice
abbrev pub AreDistinct : List (ℕ × Ty) → Type 0
AreDistinct [] = ⊤
AreDistinct (u ∷ us) = (kinds_in us u.0 ≡ None) × AreDistinct us

-- a block names each variable once
abbrev pub UsesAreDistinct : Type 0
UsesAreDistinct = (kinds : TypeEnv) (a : Act) → AreDistinct (uses_of kinds a)

-- a fault that the check reports is the text's: an out-of-memory error is none
abbrev pub CheckNeverSaysNoMemory : Type 0
CheckNeverSaysNoMemory =
    (known : List Named) (text : List ℕ) (parsed : raw.RawAct) (locals : Locals)
    → checked known text locals parsed ≢ Err NoMemory

-- ---- names that are declared later
-- the check stopped at a name that is unknown
abbrev pub IsUnknown : {A : Type 0} → Result A TypeFault → Type 0
IsUnknown (Ok x) = ⊥
IsUnknown (Err (Unknown at)) = ⊤
IsUnknown (Err f) = ⊥

-- More names change what the check finds only if it stopped at an unknown one: what it accepts it accepts as the same tree of the
-- same type, and any other fault stays the same.
abbrev pub LaterNamesChangeUnknown : Type 0
LaterNamesChangeUnknown =
    (few more : List Named) (text : List ℕ) (parsed : raw.RawAct) (locals : Locals)
    → (checked few text locals parsed ≡ checked (few ++ more) text locals parsed) ⊎ IsUnknown (checked few text locals parsed)

-- so a block that the check accepts stays what it is, with its type and the variables that it names
abbrev pub CheckedStay : Type 0
CheckedStay =
    (few more : List Named) (text : List ℕ) (parsed : raw.RawAct) (locals : Locals) (a : Act) (r : ActionType)
    → checked few text locals parsed ≡ Ok (a, r)
    → (checked (few ++ more) text locals parsed ≡ Ok (a, r))
    × (uses_of (known_kinds (few ++ more)) a ≡ uses_of (known_kinds few) a)
