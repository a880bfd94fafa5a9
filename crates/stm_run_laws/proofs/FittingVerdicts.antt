-- A verdict that fits a store can be in a line if its integers are in range and it makes few variables: each reference is to a variable
-- that is there.
use Rattle.std.proofs.Common.{◌≡◌, ℕ, suc, ◌<◌, ◌≤◌, ◌^◌, List, [], ◌∷◌, length, Option, Some, None, refl, arith}
use Rattle.std.specs.Prelude.{slice_get, option_map}
use Rattle.stm_terms.specs.declared.kinds.Ty.{Ty}
use Rattle.stm_terms.specs.declared.values.Ref.TheVariants.{Old, New}
use Rattle.stm_terms.specs.declared.values.Value.{Value}
use Rattle.stm_terms.specs.declared.values.Value.TheVariants.{Int, Bool as Truth, Unit as Nil, Var}
use Rattle.stm_terms.specs.declared.values.Fault.TheVariants.{Thrown, Overflow}
use Rattle.stm_terms.specs.declared.verdicts.Verdict.{Verdict}
use Rattle.stm_terms.specs.declared.verdicts.Verdict.TheVariants.{Commits, Throws, Blocks}
use Rattle.stm_terms.specs.Changes.{Changes}
use Rattle.stm_terms.specs.Limits.{most_refs}
use Rattle.stm_terms.specs.Typing.{var_ty, type_of}
use Rattle.stm_store.specs.Cells.{most_cells, kinds_of, Fits, made_by}
use Rattle.stm_store.proofs.WritesInTurn.{EachWrite, each_found}
use Rattle.stm_event_lines.specs.Fits.{Is32Bit, FitsValue, FitWrites, FitNews, FitsVerdict}
use Rattle.stm_desk_laws.specs.IntegerRange.{Is64Bit, AreWrites64Bit, AreNews64Bit, IsVerdict64Bit}
use Rattle.stm_run.proofs.SmallNumbers.{within}
use Rattle.stm_run_laws.proofs.LiteralsInRange.{int_fits}

-- a variable that is referred to is there
referred : (cells : List (Ty × Value)) (i : ℕ) (t : Ty) (o : Option Ty) → kinds_of cells i ≡ o → option_map var_ty o ≡ Some t → i < length cells
referred cells i t None e k = absurd (cc k)
referred cells i t (Some u) e k = within cells i u e

pub value_fits : (cells : List (Ty × Value)) (h : Changes) (v : Value) (t : Ty) → length cells ≤ most_cells → length h.news ≤ 2 ^ 32 → type_of (kinds_of cells) h v ≡ Some t → Is64Bit v
    → FitsValue v
value_fits cells h (Int n) t few made e f = int_fits n f
value_fits cells h (Truth b) t few made e f = tt
value_fits cells h Nil t few made e f = tt
value_fits cells h (Var (Old i)) t few made e f = let low = referred cells i t (kinds_of cells i) refl e in omega (arith, few, low)
value_fits cells h (Var (New k)) t few made e f = let low = referred h.news k t (kinds_of h.news k) refl e in omega (arith, made, low)

-- a write of this variable and value, if it is in range, can be in a line
abbrev IsWriteFit : ℕ → Value → Type 0
IsWriteFit i v = Is32Bit i × (Is64Bit v → FitsValue v)

writes_fit : (ws : List (ℕ × Value)) → EachWrite IsWriteFit ws → AreWrites64Bit ws → FitWrites ws
writes_fit [] p b = tt
writes_fit (w ∷ ws) p b = ((p.0).0, (p.0).1 b.0, writes_fit ws p.1 b.1)

news_fit : (cells : List (Ty × Value)) (h : Changes) (ns : List (Ty × Value)) → length cells ≤ most_cells → length h.news ≤ 2 ^ 32
    → ((k : ℕ) (c : Ty × Value) → slice_get ns k ≡ Some c → (type_of (kinds_of cells) h c.1 ≡ Some c.0) × (c.0.refs ≤ most_refs)) → AreNews64Bit ns
    → FitNews ns
news_fit cells h [] few made p b = tt
news_fit cells h (n ∷ ns) few made p b =
    let one = p 0 n refl in (one.1, value_fits cells h n.1 n.0 few made one.0 b.0, news_fit cells h ns few made (λ k c e. p (suc k) c e) b.1)

pub verdict_fits : (cells : List (Ty × Value)) (v : Verdict) → length cells ≤ most_cells → length (made_by v) ≤ 2 ^ 32 → Fits cells v → IsVerdict64Bit v → FitsVerdict v
unfolding Fits
verdict_fits cells (Commits writes news result) few made f b =
    let h : Changes = record { writes = writes; news = news } in
    let each : EachWrite IsWriteFit writes =
    each_found IsWriteFit writes f.rising (λ i v e. let w = f.writes i v e in let low = within cells i w.0 w.1 in (omega (arith, few, low), λ r. value_fits cells h v w.0 few made w.2 r)) in
    (writes_fit writes each b.0, news_fit cells h news few made f.news b.1, value_fits cells h result f.result.0 few made f.result.1 b.2)
verdict_fits cells (Throws (Thrown n)) few made f b = int_fits n b
verdict_fits cells (Throws Overflow) few made f b = tt
verdict_fits cells Blocks few made f b = tt
