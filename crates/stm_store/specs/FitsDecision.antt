-- Whether a block or a verdict fits cells, as tests.
use Rattle.std.specs.Prelude.{ℕ, ◌+◌, Bool, true, false, ◌&&◌, is_some, nat_le, List, [], ◌∷◌, Option, Some, None}
use Rattle.stm_terms.specs.declared.kinds.Ty.{Ty}
use Rattle.stm_terms.specs.declared.values.Value.{Value}
use Rattle.stm_terms.specs.declared.verdicts.Verdict.{Verdict}
use Rattle.stm_terms.specs.declared.verdicts.Verdict.TheVariants.{Commits, Throws, Blocks}
use Rattle.stm_terms.specs.Changes.{Changes}
use Rattle.stm_terms.specs.Limits.{most_refs}
use Rattle.stm_terms.specs.Typing.{TypeEnv, type_of}
use Rattle.stm_store.specs.Cells.{kinds_of}
use Rattle.stm_store.specs.Tables.{is_type}

-- these variables exist with these types
abbrev pub covers_all : List (Ty × Value) → List (ℕ × Ty) → Bool
covers_all cells [] = true
covers_all cells (u ∷ us) = is_type (kinds_of cells u.0) u.1 && covers_all cells us

-- the keys ascend, and are not below n
abbrev pub rise_from : ℕ → List (ℕ × Value) → Bool
rise_from n [] = true
rise_from n (w ∷ ws) = nat_le n w.0 && rise_from (w.0 + 1) ws

-- the cells that a verdict made, without its writes, on which no type depends
abbrev pub making : List (Ty × Value) → Changes
making news = record { writes = []; news = news }

-- the value has the type
abbrev pub has_type : TypeEnv → Changes → Value → Ty → Bool
has_type k h v t = is_type (type_of k h v) t

-- the type exists, and the value has it
abbrev pub value_fits : TypeEnv → Changes → Value → Option Ty → Bool
value_fits k h v (Some t) = has_type k h v t
value_fits k h v None = false

-- each variable written exists, and its new value has its type
abbrev pub writes_fit : TypeEnv → Changes → List (ℕ × Value) → Bool
writes_fit k h [] = true
writes_fit k h (w ∷ ws) = value_fits k h w.1 (k w.0) && writes_fit k h ws

-- each new cell has a type of at most 8 `TVar` and a value of it
abbrev pub news_fit : TypeEnv → Changes → List (Ty × Value) → Bool
news_fit k h [] = true
news_fit k h (c ∷ cs) = (nat_le c.0.refs most_refs && has_type k h c.1 c.0) && news_fit k h cs

-- the verdict can be applied
abbrev pub fits_decision : List (Ty × Value) → Verdict → Bool
fits_decision cells (Commits writes news v) =
    (rise_from 0 writes && writes_fit (kinds_of cells) (making news) writes)
    && (news_fit (kinds_of cells) (making news) news && is_some (type_of (kinds_of cells) (making news) v))
fits_decision cells (Throws f) = true
fits_decision cells Blocks = true
