-- The numbers of a verdict that fits are those of cells.
use Rattle.std.proofs.Common.{◌≡◌, ℕ, zero, suc, ◌+◌, ◌<◌, ◌≤◌, ◌^◌, List, [], ◌∷◌, Some, None, length, refl, arith}
use Rattle.std.specs.Prelude.{slice_get, option_map}
use Rattle.std.proofs.lemmas.Option.{slice_get_within}
use Rattle.stm_terms.specs.declared.kinds.Ty.{Ty}
use Rattle.stm_terms.specs.declared.values.Ref.TheVariants.{Old, New}
use Rattle.stm_terms.specs.declared.values.Value.{Value}
use Rattle.stm_terms.specs.declared.values.Value.TheVariants.{Int, Bool as Truth, Unit as Nil, Var}
use Rattle.stm_terms.specs.declared.verdicts.Verdict.TheVariants.{Commits}
use Rattle.stm_terms.specs.Changes.{Changes}
use Rattle.stm_terms.specs.Typing.{TypeEnv, var_ty, type_of, Rising}
use Rattle.stm_store.specs.declared.cell.Cell.{Cell}
use Rattle.stm_store.specs.Cells.{plains, kinds_of, Fits}
use Rattle.stm_store.specs.FreshReferences.{HasNumber, AreWritable, AreAddable}
use Rattle.stm_store.proofs.WritesInTurn.{EachWrite, each_found}

number_new : (news : List (Ty × Value)) (n i : ℕ) (t : Ty) → n + length news ≤ 1000000 → option_map var_ty (option_map (λ c. c.0) (slice_get news i)) ≡ Some t → n + i < 2 ^ 32
number_new news n i t room e = elim (slice_get news i) as (λ o. slice_get news i ≡ o → option_map var_ty (option_map (λ c. c.0) o) ≡ Some t → n + i < 2 ^ 32) [ Some c ↦ λ p q. omega (arith, slice_get_within news i c p) | None ↦ λ p q. absurd (cc) ] refl e

number : (k : TypeEnv) (h : Changes) (n : ℕ) (v : Value) (t : Ty) → n + length h.news ≤ 1000000 → type_of k h v ≡ Some t → HasNumber n v
number k h n (Int z) t room e = tt
number k h n (Truth b) t room e = tt
number k h n Nil t room e = tt
number k h n (Var (Old i)) t room e = tt
number k h n (Var (New i)) t room e = number_new h.news n i t room e

kinds_within : (cs : List Cell) (i : ℕ) (t : Ty) → kinds_of (plains cs) i ≡ Some t → i < length cs
kinds_within [] i t e = absurd (cc)
kinds_within (c ∷ cs) zero t e = omega arith
kinds_within (c ∷ cs) (suc i) t e = omega (arith, kinds_within cs i t e)

writable_each : (n : ℕ) (ws : List (ℕ × Value)) → EachWrite (λ i v. (i < n) × HasNumber n v) ws → AreWritable n ws
writable_each n [] r = tt
writable_each n (w ∷ ws) r = (r.0.0, r.0.1, writable_each n ws r.1)

addable_each : (n : ℕ) (cs : List (Ty × Value)) → ((i : ℕ) (c : Ty × Value) → slice_get cs i ≡ Some c → HasNumber n c.1) → AreAddable n cs
addable_each n [] f = tt
addable_each n (c ∷ cs) f = (f 0 c refl, addable_each n cs (λ i d e. f (suc i) d e))

pub writable : (cells : List Cell) (writes : List (ℕ × Value)) (news : List (Ty × Value)) (v : Value) → Fits (plains cells) (Commits writes news v) → length cells + length news ≤ 1000000 → AreWritable (length cells) writes
unfolding Fits
writable cells writes news v f room =
    writable_each (length cells) writes (each_found (λ i u. (i < length cells) × HasNumber (length cells) u) writes f.rising (λ i u e. let p = f.writes i u e in (kinds_within cells i p.0 p.1, number (kinds_of (plains cells)) (record { writes = writes; news = news }) (length cells) u p.0 room p.2)))

pub rising : (cells : List Cell) (writes : List (ℕ × Value)) (news : List (Ty × Value)) (v : Value) → Fits (plains cells) (Commits writes news v) → Rising writes
unfolding Fits
rising cells writes news v f = f.rising

pub addable : (cells : List Cell) (writes : List (ℕ × Value)) (news : List (Ty × Value)) (v : Value) → Fits (plains cells) (Commits writes news v) → length cells + length news ≤ 1000000 → AreAddable (length cells) news
unfolding Fits
addable cells writes news v f room =
    addable_each (length cells) news (λ i c e. number (kinds_of (plains cells)) (record { writes = writes; news = news }) (length cells) c.1 c.0 room ((f.news i c e).0))

pub result_number : (cells : List Cell) (writes : List (ℕ × Value)) (news : List (Ty × Value)) (v : Value) → Fits (plains cells) (Commits writes news v) → length cells + length news ≤ 1000000 → HasNumber (length cells) v
unfolding Fits
result_number cells writes news v f room = number (kinds_of (plains cells)) (record { writes = writes; news = news }) (length cells) v f.result.0 room f.result.1
