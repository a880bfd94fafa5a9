-- Two heaps that are the same as a third one but for names are the same as each other, by the names of the one in the other.
use Rattle.std.proofs.Common.{◌≡◌, [], ◌∷◌, Option, Some, None, refl, ap, sym, ◌∙◌, subst}
use Rattle.stm_terms.specs.declared.values.Ref.{Ref}
use Rattle.stm_terms.specs.declared.values.Ref.TheVariants.{Old}
use Rattle.stm_terms.specs.declared.values.Value.{Value}
use Rattle.stm_terms.specs.Changes.{Variables}
use Rattle.stm_paper_laws.specs.Transitions.{Heap, Allocations}
use Rattle.stm_paper_laws.specs.Laws.{Ending, Returns, Throws, Retries, Naming, IsSame, same_int, same_truth, same_unit, same_var, AreSameHeaps, AreSameCells, AreSameEnds}
use Rattle.stm_paper_laws.proofs.Names.{same_some, nothing}

module _ {f g : Naming} {here Θ Θ' : Heap} (n : AreSameHeaps f here Θ) (m : AreSameHeaps g here Θ') where
  -- what a name of Θ, which is that of a cell here, is in Θ'
  abbrev at : (s : Ref) (o : Option Value) → Θ s ≡ o → Option Ref
  at s None e = None
  at s (Some w) e = g (n.only s w e).0

  abbrev pub across : Naming
  across s = at s (Θ s) refl

  at_is : (r s : Ref) → f r ≡ Some s → (o : Option Value) (e : Θ s ≡ o) → at s o e ≡ g r
  at_is r s p None e = let h = n.holds r s p in nothing (Θ s) h.1 e h.3
  at_is r s p (Some w) e = let o = n.only s w e in ap g (n.apart o.0 r s o.1 p)

  pub across_is : (r s : Ref) → f r ≡ Some s → across s ≡ g r
  across_is r s p = at_is r s p (Θ s) refl

  back_at : (s t : Ref) (o : Option Value) (e : Θ s ≡ o) → at s o e ≡ Some t → (r : Ref) × (f r ≡ Some s) × (g r ≡ Some t)
  back_at s t None e p = nothing (at s None e) t refl p
  back_at s t (Some w) e p = let o = n.only s w e in (o.0, o.1, p)

  pub back : (s t : Ref) → across s ≡ Some t → (r : Ref) × (f r ≡ Some s) × (g r ≡ Some t)
  back s t p = back_at s t (Θ s) refl p

  pub same_across : {v w x : Value} → IsSame f v w → IsSame g v x → IsSame across w x
  same_across same_int same_int = same_int
  same_across same_truth same_truth = same_truth
  same_across same_unit same_unit = same_unit
  same_across (same_var {r} {s} p) (same_var q) = same_var (across_is r s p ∙ q)

  pub heaps_across : AreSameHeaps across Θ Θ'
  heaps_across = record {
    apart = λ q r s e p.
        let a = back q s e in
        let b = back r s p in
        let one : a.0 ≡ b.0 = m.apart a.0 b.0 s a.2 b.2 in
        same_some q r (sym a.1 ∙ ap f one ∙ b.1);
    holds = λ s t e.
        let a = back s t e in
        let h = n.holds a.0 s a.1 in
        let k = m.holds a.0 t a.2 in
        let one : k.0 ≡ h.0 = same_some k.0 h.0 (sym k.2 ∙ h.2) in
        (h.1, k.1, h.3, k.3, same_across h.4 (subst (λ v. IsSame g v k.1) one k.4));
    all = λ s w e.
        let o = n.only s w e in
        let h = n.holds o.0 s o.1 in
        let a = m.all o.0 h.0 h.2 in
        (a.0, across_is o.0 s o.1 ∙ a.1);
    only = λ t w e.
        let o = m.only t w e in
        let h = m.holds o.0 t o.1 in
        let a = n.all o.0 h.0 h.2 in
        (a.0, across_is o.0 a.0 a.1 ∙ o.1);
  }

  pub cells_across : (cs Δ Δ' : Allocations) → AreSameCells f cs Δ → AreSameCells g cs Δ' → AreSameCells across Δ Δ'
  cells_across [] [] [] p q = tt
  cells_across (c ∷ cs) (d ∷ Δ) (e ∷ Δ') p q =
      (across_is c.0 d.0 p.0 ∙ q.0, sym p.1 ∙ q.1, cells_across cs Δ Δ' p.2 q.2)
  cells_across [] [] (e ∷ Δ') p q = absurd q
  cells_across [] (d ∷ Δ) Δ' p q = absurd p
  cells_across (c ∷ cs) [] Δ' p q = absurd p
  cells_across (c ∷ cs) (d ∷ Δ) [] p q = absurd q

pub both_are_same : (under : Variables) (said end other : Ending) → AreSameEnds under said end → AreSameEnds under said other → AreSameEnds under end other
both_are_same under (Returns v here cs) (Returns w Θ Δ) (Returns x Θ' Δ') p q = (
  across p.3 q.3,
  λ i y e. across_is p.3 q.3 (Old i) (Old i) (p.1 i y e) ∙ q.1 i y e,
  same_across p.3 q.3 p.2 q.2,
  heaps_across p.3 q.3,
  cells_across p.3 q.3 cs Δ Δ' p.4 q.4,
)
both_are_same under (Throws f) (Throws g) (Throws h) p q = sym p ∙ q
both_are_same under Retries Retries Retries p q = tt
both_are_same under (Returns v here cs) (Returns w Θ Δ) (Throws h) p q = absurd q
both_are_same under (Returns v here cs) (Returns w Θ Δ) Retries p q = absurd q
both_are_same under (Returns v here cs) (Throws g) other p q = absurd p
both_are_same under (Returns v here cs) Retries other p q = absurd p
both_are_same under (Throws f) (Throws g) (Returns x Θ' Δ') p q = absurd q
both_are_same under (Throws f) (Throws g) Retries p q = absurd q
both_are_same under (Throws f) (Returns w Θ Δ) other p q = absurd p
both_are_same under (Throws f) Retries other p q = absurd p
both_are_same under Retries Retries (Returns x Θ' Δ') p q = absurd q
both_are_same under Retries Retries (Throws h) p q = absurd q
both_are_same under Retries (Returns w Θ Δ) other p q = absurd p
both_are_same under Retries (Throws g) other p q = absurd p
