-- The test of a verdict decides whether it fits.
use Rattle.std.proofs.Common.{◌≡◌, ℕ, zero, suc, ◌+◌, ◌<◌, ◌≤◌, true, false, length, List, [], ◌∷◌, Option, Some, None, refl, sym, ap, subst, ◌∙◌, arith, eqb-true}
use Rattle.std.specs.Prelude.{slice_get, is_some, nat_eq, if◌then◌else◌}
use Rattle.std.proofs.lemmas.Bool.{false≢true}
use Rattle.stm_terms.specs.declared.kinds.Ty.{Ty}
use Rattle.stm_terms.specs.declared.values.Ref.TheVariants.{Old, New}
use Rattle.stm_terms.specs.declared.values.Value.{Value}
use Rattle.stm_terms.specs.declared.values.Value.TheVariants.{Int, Bool as Truth, Unit as Nil, Var}
use Rattle.stm_terms.specs.declared.verdicts.Verdict.{Verdict}
use Rattle.stm_terms.specs.declared.verdicts.Verdict.TheVariants.{Commits, Throws, Blocks}
use Rattle.stm_terms.specs.Changes.{Changes, find}
use Rattle.stm_terms.specs.Typing.{TypeEnv, type_of, AllAbove, Rising}
use Rattle.stm_store.specs.Cells.{most_cells, kinds_of, Covers, Fits, IsStore}
use Rattle.stm_store.specs.FitsDecision.{covers_all, value_fits, making, rise_from, writes_fit, news_fit, fits_decision}
use Rattle.stm_store.proofs.TypeTestsDecide.{and_left, and_right, both, le_true, true_le, kind_from, kind_to}
use Rattle.stm_store.proofs.WritesInTurn.{EachWrite, each_found}

pub covers_from : (cells : List (Ty × Value)) (us : List (ℕ × Ty)) → covers_all cells us ≡ true → Covers cells us
covers_from cells [] e = tt
covers_from cells (u ∷ us) e = (kind_from (kinds_of cells u.0) u.1 (and_left _ _ e), covers_from cells us (and_right _ _ e))

pub covers_to : (cells : List (Ty × Value)) (us : List (ℕ × Ty)) → Covers cells us → covers_all cells us ≡ true
covers_to cells [] t = refl
covers_to cells (u ∷ us) t = both _ _ (kind_to (kinds_of cells u.0) u.1 t.0) (covers_to cells us t.1)

-- ---- types do not depend on the writes
news_only : (k : TypeEnv) (ws : List (ℕ × Value)) (news : List (Ty × Value)) (v : Value) → type_of k (record { writes = ws; news = news }) v ≡ type_of k (making news) v
news_only k ws news (Int z) = refl
news_only k ws news (Truth b) = refl
news_only k ws news Nil = refl
news_only k ws news (Var (Old i)) = refl
news_only k ws news (Var (New i)) = refl

-- ---- the parts of the test, from it
above : (ws : List (ℕ × Value)) (n m : ℕ) → m < n → rise_from n ws ≡ true → AllAbove m ws
above [] n m h e = tt
above (w ∷ ws) n m h e =
    let l : n ≤ w.0 = le_true n w.0 (and_left _ _ e) in
    (omega arith, above ws (w.0 + 1) m (omega arith) (and_right _ _ e))

rises : (ws : List (ℕ × Value)) (n : ℕ) → rise_from n ws ≡ true → Rising ws
rises [] n e = tt
rises (w ∷ ws) n e = (above ws (w.0 + 1) w.0 (omega arith) (and_right _ _ e), rises ws (w.0 + 1) (and_right _ _ e))

rise_above : (ws : List (ℕ × Value)) (m : ℕ) → AllAbove m ws → Rising ws → rise_from (m + 1) ws ≡ true
rise_above [] m a r = refl
rise_above (w ∷ ws) m a r = both _ _ (true_le (m + 1) w.0 (omega (arith, a.0))) (rise_above ws w.0 r.0 r.1)

rise_all : (ws : List (ℕ × Value)) → Rising ws → rise_from 0 ws ≡ true
rise_all [] r = refl
rise_all (w ∷ ws) r = both _ _ (true_le 0 w.0 (omega arith)) (rise_above ws w.0 r.0 r.1)

some_from : (o : Option Ty) → is_some o ≡ true → (t : Ty) × (o ≡ Some t)
some_from (Some t) e = (t, refl)
some_from None e = absurd (false≢true e)

module _ (k : TypeEnv) (h : Changes) where
  value_from : (v : Value) (o : Option Ty) → value_fits k h v o ≡ true → (t : Ty) × (o ≡ Some t) × (type_of k h v ≡ Some t)
  value_from v (Some t) e = (t, refl, kind_from (type_of k h v) t e)
  value_from v None e = absurd (false≢true e)

  value_to : (v : Value) (o : Option Ty) (t : Ty) → o ≡ Some t → type_of k h v ≡ Some t → value_fits k h v o ≡ true
  value_to v o t p q = rw p (kind_to (type_of k h v) t q)

  write_here : (j i : ℕ) (u v : Value) → value_fits k h u (k j) ≡ true → j ≡ i → Some u ≡ Some v → (t : Ty) × (k i ≡ Some t) × (type_of k h v ≡ Some t)
  write_here j i u v e same g =
      let r = value_from u (k j) e in
      let q : u ≡ v = cc in
      (r.0, ap k (sym same) ∙ r.1, ap (type_of k h) (sym q) ∙ r.2)

  writes_from : (ws : List (ℕ × Value)) → writes_fit k h ws ≡ true → (i : ℕ) (v : Value) → find i ws ≡ Some v → (t : Ty) × (k i ≡ Some t) × (type_of k h v ≡ Some t)
  writes_from [] e i v f = absurd (cc)
  writes_from (w ∷ ws) e i v f =
      elim (nat_eq w.0 i) as (λ b. nat_eq w.0 i ≡ b → (if b then Some w.1 else find i ws) ≡ Some v → (t : Ty) × (k i ≡ Some t) × (type_of k h v ≡ Some t)) [ true ↦ λ same g. write_here w.0 i w.1 v (and_left _ _ e) (eqb-true w.0 i same) g | false ↦ λ other g. writes_from ws (and_right _ _ e) i v g ] refl f

  writes_to : (ws : List (ℕ × Value)) → EachWrite (λ i v. (t : Ty) × (k i ≡ Some t) × (type_of k h v ≡ Some t)) ws → writes_fit k h ws ≡ true
  writes_to [] r = refl
  writes_to (w ∷ ws) r = both _ _ (value_to w.1 (k w.0) r.0.0 r.0.1 r.0.2) (writes_to ws r.1)

  news_from : (cs : List (Ty × Value)) → news_fit k h cs ≡ true → (i : ℕ) (c : Ty × Value) → slice_get cs i ≡ Some c → (type_of k h c.1 ≡ Some c.0) × (c.0.refs ≤ 8)
  news_from [] e i c f = absurd (cc)
  news_from (d ∷ cs) e zero c f =
      let p : d ≡ c = cc in
      let a = and_left _ _ e in
      subst (λ (x : Ty × Value). (type_of k h x.1 ≡ Some x.0) × (x.0.refs ≤ 8)) p (kind_from (type_of k h d.1) d.0 (and_right _ _ a), le_true d.0.refs 8 (and_left _ _ a))
  news_from (d ∷ cs) e (suc i) c f = news_from cs (and_right _ _ e) i c f

  news_to : (cs : List (Ty × Value)) → ((i : ℕ) (c : Ty × Value) → slice_get cs i ≡ Some c → (type_of k h c.1 ≡ Some c.0) × (c.0.refs ≤ 8)) → news_fit k h cs ≡ true
  news_to [] f = refl
  news_to (c ∷ cs) f = both _ _ (both _ _ (true_le c.0.refs 8 ((f 0 c refl).1)) (kind_to (type_of k h c.1) c.0 ((f 0 c refl).0))) (news_to cs (λ i d e. f (suc i) d e))

pub fits_from : (cells : List (Ty × Value)) (verdict : Verdict) → fits_decision cells verdict ≡ true → Fits cells verdict
unfolding Fits
fits_from cells (Commits writes news v) e =
    let k : TypeEnv = kinds_of cells in
    let ww = and_left _ _ e in
    let nr = and_right _ _ e in
    let r = some_from (type_of k (making news) v) (and_right _ _ nr) in
    record {
      rising = rises writes 0 (and_left _ _ ww);
      writes = λ i u f. let p = writes_from k (making news) writes (and_right _ _ ww) i u f in (p.0, p.1, news_only k writes news u ∙ p.2);
      news = λ i c f. let p = news_from k (making news) news (and_left _ _ nr) i c f in (news_only k writes news c.1 ∙ p.0, p.1);
      result = (r.0, news_only k writes news v ∙ r.1);
    }
fits_from cells (Throws f) e = tt
fits_from cells Blocks e = tt

pub fits_to : (cells : List (Ty × Value)) (verdict : Verdict) → Fits cells verdict → fits_decision cells verdict ≡ true
unfolding Fits
fits_to cells (Commits writes news v) f =
    let k : TypeEnv = kinds_of cells in
    let result : type_of k (making news) v ≡ Some f.result.0 = sym (news_only k writes news v) ∙ f.result.1 in
    both _ _
    (both _ _ (rise_all writes f.rising) (writes_to k (making news) writes (each_found (λ i u. (t : Ty) × (k i ≡ Some t) × (type_of k (making news) u ≡ Some t)) writes f.rising (λ i u e. let p = f.writes i u e in (p.0, p.1, sym (news_only k writes news u) ∙ p.2)))))
    (both _ _ (news_to k (making news) news (λ i c e. let p = f.news i c e in (sym (news_only k writes news c.1) ∙ p.0, p.1))) (ap is_some result))
fits_to cells (Throws x) f = refl
fits_to cells Blocks f = refl

-- ---- cells
pub store_from : (cells : List (Ty × Value)) → length cells ≤ most_cells → news_fit (kinds_of cells) (making []) cells ≡ true → IsStore cells
store_from cells few e = record {
  small = few;
  typed = λ i c f. (news_from (kinds_of cells) (making []) cells e i c f).0;
  low = λ i c f. (news_from (kinds_of cells) (making []) cells e i c f).1;
}

pub store_to : (cells : List (Ty × Value)) → IsStore cells → news_fit (kinds_of cells) (making []) cells ≡ true
store_to cells k = news_to (kinds_of cells) (making []) cells (λ i c f. (k.typed i c f, k.low i c f))
