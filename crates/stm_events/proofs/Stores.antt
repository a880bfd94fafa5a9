-- Variables by which a verdict makes nobody stale keep their values.
use Rattle.std.proofs.Common.{◌≡◌, ℕ, Bool, true, false, ◌||◌, List, [], ◌∷◌, map, Option, Some, None, refl, sym, ap, ◌∙◌, arith}
use Rattle.std.specs.Prelude.{slice_get, option_map, nat_eq}
use Rattle.std.specs.List.{list_any}
use Rattle.std.proofs.lemmas.Bool.Decides.{nat_tests}
use Rattle.std.proofs.lemmas.Option.{slice_get-map}
use Rattle.stm_terms.specs.declared.values.Value.{Value}
use Rattle.stm_terms.specs.declared.verdicts.Verdict.{Verdict}
use Rattle.stm_terms.specs.declared.verdicts.Verdict.TheVariants.{Commits, Throws, Blocks}
use Rattle.stm_terms.specs.Changes.{find}
use Rattle.stm_store.specs.declared.cell.Cell.{Cell}
use Rattle.stm_store.specs.Cells.{plain, applied, written_by}
use Rattle.stm_store.proofs.ChangedVariables.{unchanged_stay}
use Rattle.stm_store.proofs.Lookups.{unwritten_stay}
use Rattle.stm_events.specs.declared.staleness.StalenessRule.{StalenessRule}
use Rattle.stm_events.specs.declared.staleness.StalenessRule.TheVariants.{Written, Changed}
use Rattle.stm_events.specs.SlowDesk.{under, written_in, waking}

pub or_left : (a b : Bool) → (a || b) ≡ false → a ≡ false
or_left true b h = cc
or_left false b h = refl

pub or_right : (a b : Bool) → (a || b) ≡ false → b ≡ false
or_right true b h = cc
or_right false b h = h

-- the value of a variable is that of its cell
value_at : (cells : List Cell) (i : ℕ) → under cells i ≡ option_map (λ c. c.value) (slice_get cells i)
value_at cells i = ap (option_map (λ c. c.1)) (slice_get-map plain cells i) ∙ twice (slice_get cells i) where
  twice : (o : Option Cell) → option_map (λ c. c.1) (option_map plain o) ≡ option_map (λ c. c.value) o
  twice None = refl
  twice (Some c) = refl

turned : (i j : ℕ) → nat_eq i j ≡ false → nat_eq j i ≡ false
turned i j e = grind (arith, nat_tests)

not_found : (ws : List (ℕ × Value)) (i : ℕ) → list_any (nat_eq i) (map (λ w. w.0) ws) ≡ false → find i ws ≡ None
not_found [] i h = refl
not_found (w ∷ ws) i h =
    let here : nat_eq w.0 i ≡ false = turned i w.0 (or_left (nat_eq i w.0) (list_any (nat_eq i) (map (λ x. x.0) ws)) h) in
    rw here (not_found ws i (or_right (nat_eq i w.0) (list_any (nat_eq i) (map (λ x. x.0) ws)) h))

unwritten : (v : Verdict) (i : ℕ) → list_any (nat_eq i) (written_in v) ≡ false → written_by v i ≡ None
unwritten (Commits writes news r) i h = not_found writes i h
unwritten (Throws f) i h = refl
unwritten Blocks i h = refl

-- by either rule a variable that makes nobody stale keeps its cell
cell_stays : (rule : StalenessRule) (cells : List Cell) (v : Verdict) (i : ℕ) (c : Cell) → list_any (nat_eq i) (waking rule cells v) ≡ false → slice_get cells i ≡ Some c → slice_get (applied cells v) i ≡ Some c
cell_stays Written cells v i c h at = unwritten_stay cells v i c (unwritten v i h) at
cell_stays Changed cells v i c h at = unchanged_stay cells v i c h at

stays_by : (rule : StalenessRule) (cells : List Cell) (v : Verdict) (i : ℕ) (x : Value) (o : Option Cell) → slice_get cells i ≡ o → list_any (nat_eq i) (waking rule cells v) ≡ false → option_map (λ c. c.value) o ≡ Some x → under (applied cells v) i ≡ Some x
stays_by rule cells v i x None at none e = cc
stays_by rule cells v i x (Some c) at none e =
    value_at (applied cells v) i ∙ ap (option_map (λ d. d.value)) (cell_stays rule cells v i c none at) ∙ e

pub value_stays : (rule : StalenessRule) (cells : List Cell) (v : Verdict) (i : ℕ) (x : Value) → list_any (nat_eq i) (waking rule cells v) ≡ false → under cells i ≡ Some x → under (applied cells v) i ≡ Some x
value_stays rule cells v i x h e = stays_by rule cells v i x (slice_get cells i) refl h (sym (value_at cells i) ∙ e)
