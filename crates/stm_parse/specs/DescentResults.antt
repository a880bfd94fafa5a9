-- What the functions of the descent return, without addresses.
use Rattle.std.specs.Prelude.{◌≡◌, ℕ, ◌-◌, ◌<◌, List, Result, Ok, Err, MatchResult}
use Rattle.std.proofs.Common.{Bor, Box, Global}
use Rattle.stm_terms.specs.declared.raw.RawAction.{RawAction}
use Rattle.stm_terms.specs.ParsedAst.{RawAct, raw_act_of}
use Rattle.stm_parse.specs.declared.token.Lexeme.{Lexeme}
use Rattle.stm_parse.specs.declared.token.Failure.{Failure}
use Rattle.stm_parse.specs.declared.token.Failure.TheVariants as stop
use Rattle.stm_parse.specs.declared.token.Fault.{Fault}
use Rattle.stm_parse.specs.Grammar.{Placed}
use Rattle.stm_parse.specs.Descent.{Reading, StopsAs, Leaves, too_deep}

-- what was read, seen by view, is what the definition reads, unless memory ran out
abbrev pub GivesResult : {X Y : Type 0} → (X → Y) → Result X Failure → Result Y Fault → Type 0
GivesResult view result reading = MatchResult result (λ x. reading ≡ Ok (view x)) (λ e. StopsAs e reading)

-- what was read, seen by view, and the tokens that are left are what the definition reads and leaves, unless memory ran out
abbrev pub GivesReading : {X Y : Type 0} → (X → Y) → Result (X × Bor (List Lexeme)) Failure → Reading Y → Type 0
GivesReading view result reading = GivesResult (λ r. (view r.0, r.1.now)) result reading

-- the tokens that are left are those that the definition leaves, unless memory ran out
abbrev pub GivesRest : {A : Type 0} → Result (Bor (List Lexeme)) Failure → Reading A → Type 0
GivesRest result reading = MatchResult result (λ rest. Leaves rest.now reading) (λ e. StopsAs e reading)

-- one level deeper: how many levels are left there, or the error if none is left here
abbrev pub IsOneDeeper : ℕ → List Lexeme → Result ℕ Failure → Type 0
IsOneDeeper levels toks (Ok l) = (0 < levels) × (l ≡ levels - 1)
IsOneDeeper levels toks (Err e) = (levels ≡ 0) × (e ≡ stop.At (too_deep toks))

-- an action in a box
abbrev pub boxed_tree : Box RawAction Global → RawAct
boxed_tree a = raw_act_of a.value

-- an action in a box, with its place
abbrev pub placed_tree : Box RawAction Global × ℕ → Placed
placed_tree a = (raw_act_of a.0.value, a.1)
