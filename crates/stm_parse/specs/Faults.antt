-- Which token is the first at fault, for any language.
use Rattle.std.specs.Prelude.{◌≡◌, suc, ◌<◌, ◌⊎◌, List, [], ◌∷◌, ◌++◌, length}
use Rattle.stm_parse.specs.declared.token.Lexeme.{Lexeme}
use Rattle.stm_parse.specs.declared.token.ErrorKind.{ErrorKind}
use Rattle.stm_parse.specs.declared.token.ErrorKind.TheVariants as cause
use Rattle.stm_parse.specs.declared.token.Fault.{Fault}
use Rattle.stm_terms.specs.Limits.{most_refs}
use Rattle.stm_parse.specs.Grammar.{At, erase, deepest, greatest, WithinLimits}

-- a language: which tokens, in their places, are a text of which tree
abbrev pub Language : Type 0 → Type 1
Language A = List At → A → Type 0

-- these tokens are a text of this tree, within the limits
abbrev pub IsText : {A : Type 0} → Language A → List Lexeme → A → Type 0
IsText L toks t = (us : List At) × L us t × WithinLimits us × (toks ≡ erase us)

-- these tokens begin a text, in which none of them is past a limit
abbrev pub Begins : {A : Type 0} → Language A → List Lexeme → Type 0
Begins {A} L q = (us ws : List At) × (t : A) × L (us ++ ws) t × WithinLimits us × (q ≡ erase us)

-- these tokens begin no text, however deep
abbrev pub BeginsNone : {A : Type 0} → Language A → List Lexeme → Type 0
BeginsNone {A} L q = (us ws : List At) (t : A) → L (us ++ ws) t → q ≡ erase us → ⊥

-- a token past a limit: at depth 65 or the ninth `TVar` of a type; a literal that is no `Int`
abbrev pub IsBeyond : ErrorKind → At → Type 0
IsBeyond cause.Unexpected u = ⊥
IsBeyond cause.TooDeep u = (u.depth ≡ suc deepest) ⊎ (u.refs ≡ suc most_refs)
IsBeyond cause.BadNumber u = greatest < u.reach

-- after the tokens q, the token x goes on with a text, in which it is past a limit
abbrev pub IsPast : {A : Type 0} → Language A → ErrorKind → List Lexeme → Lexeme → Type 0
IsPast {A} L c q x =
    (us ws : List At) × (u : At) × (t : A) × L (us ++ (u ∷ ws)) t
    × WithinLimits us × (q ≡ erase us) × (u.lexeme ≡ x) × IsBeyond c u

-- after the tokens q, the first of the tokens s is at fault; with none left, q is no text
abbrev pub AtFault : {A : Type 0} → Language A → ErrorKind → List Lexeme → List Lexeme → Type 0
AtFault {A} L cause.Unexpected q [] = (t : A) → IsText L q t → ⊥
AtFault L cause.Unexpected q (x ∷ s) = BeginsNone L (q ++ (x ∷ []))
AtFault L cause.TooDeep q [] = ⊥
AtFault L cause.TooDeep q (x ∷ s) = IsPast L cause.TooDeep q x
AtFault L cause.BadNumber q [] = ⊥
AtFault L cause.BadNumber q (x ∷ s) = IsPast L cause.BadNumber q x

-- the first token at fault, given by how many are left from it on; none, if the tokens end too soon
abbrev pub IsFault : {A : Type 0} → Language A → List Lexeme → Fault → Type 0
IsFault L toks f = (q s : List Lexeme) × (toks ≡ q ++ s) × (f.left ≡ length s) × Begins L q × AtFault L f.cause q s
