-- A reader that is good reads all of the tokens right: what it reads is a text, each text is read, and a fault is the first.
use Rattle.std.proofs.Common.{◌≡◌, ℕ, suc, List, [], ◌∷◌, ◌++◌, length, refl, sym, ap, ◌∙◌, subst, append_assoc, append-nil, Result, Ok, Err, inl, inr}
use Rattle.stm_terms.specs.ParsedAst.{RawAct}
use Rattle.stm_parse.specs.declared.token.Lexeme.{Lexeme}
use Rattle.stm_parse.specs.declared.token.Fault.{Fault}
use Rattle.stm_parse.specs.declared.token.ErrorKind.{ErrorKind}
use Rattle.stm_parse.specs.declared.token.ErrorKind.TheVariants as cause
use Rattle.stm_parse.specs.Descent.{Reading, Reader, ◌>>=◌, action_at, block_reader, ended, whole}
use Rattle.stm_parse.specs.Grammar.{At, erase, Placed, IsAction, IsBlock, WithinLimits}
use Rattle.stm_parse.specs.Faults.{Language, IsText, BeginsNone, IsBeyond, IsPast, AtFault, IsFault}
use Rattle.stm_parse.proofs.ReaderPromises.{Took, Failed, Points, PointsAt, SaysOf, plain-split, Mapped, mapped}
use Rattle.stm_parse.proofs.ReaderCorrect.{Outcome, passes_out, Good, Any, good_same, good_map, each_says, each_reads}
use Rattle.stm_parse.proofs.ActionReaders.{good_action}

-- what is right to answer
abbrev pub Right : {A : Type 0} → Language A → List Lexeme → Result A Fault → Type 0
Right L toks (Ok t) = IsText L toks t
Right L toks (Err f) = IsFault L toks f

module _ {A : Type 0} (r : Reader A) (L : Language A) (good : (n : ℕ) → Good n r L Any) where
  outcome : (us : List At) (t : A) → L us t → Outcome (r (erase us ++ [])) us t []
  outcome us t h = each_reads r L Any good us t [] h tt

  -- each text is read
  pub only : (toks : List Lexeme) (t : A) → IsText L toks t → whole r toks ≡ Ok t
  only toks t h = of (outcome h.0 t h.1)
    where
      same : erase h.0 ++ [] ≡ toks
      same = append-nil (erase h.0) ∙ sym h.3

      of : Outcome (r (erase h.0 ++ [])) h.0 t [] → whole r toks ≡ Ok t
      of (inl e) = ap (λ l. r l >>= λ x. ended x.0 x.1) (sym same) ∙ ap (λ y. y >>= λ x. ended x.0 x.1) e.0
      of (inr f) = absurd (passes_out f.0 h.0 [] f.2 h.2)

  -- what no text can be read as
  Refuses : List Lexeme → Reading A → Type 0
  Refuses l (Ok x) = x.1 ≡ l
  Refuses l (Err f) = f.cause ≡ cause.Unexpected

  -- tokens on which the reading stops at x, whatever follows, begin no text
  dead : (q : List Lexeme) (x : Lexeme) → ((s : List Lexeme) → (y : Reading A) × (r (q ++ (x ∷ s)) ≡ y) × Refuses (x ∷ s) y) → BeginsNone L (q ++ (x ∷ []))
  unfolding Refuses
  dead q x h us ws t g e = of (h l).0 (h l).1 (h l).2 (outcome (us ++ ws) t g)
    where
      l : List Lexeme
      l = erase ws ++ []

      same : erase (us ++ ws) ++ [] ≡ q ++ (x ∷ l)
      same = plain-split us ws [] ∙ ap (λ p. p ++ l) (sym e) ∙ append_assoc q (x ∷ []) l

      of : (y : Reading A) → r (q ++ (x ∷ l)) ≡ y → Refuses (x ∷ l) y → Outcome (r (erase (us ++ ws) ++ [])) (us ++ ws) t [] → ⊥
      of (Ok y) e j (inl k) = let f = ap r same ∙ e in let g = k.0 in cc
      of (Ok y) e j (inr k) = let f = ap r same ∙ e in let g = k.1 in cc
      of (Err y) e j (inl k) = let f = ap r same ∙ e in let g = k.0 in cc
      of (Err y) e j (inr k) = let f = ap r same ∙ e in let g = k.1 in let p : k.0 ≡ y = cc in subst (λ c. IsBeyond c k.2.past) (ap (λ z. z.cause) p ∙ j) k.2.beyond

  ended_right : (toks rest : List Lexeme) (a : A) → Took r L toks a rest → Right L toks (ended a rest)
  unfolding Refuses
  ended_right toks [] a t = (t.us, t.text, t.within, t.cut ∙ append-nil (erase t.us))
  ended_right toks (x ∷ s) a t =
      (erase t.us, x ∷ s, t.cut, refl, (t.us, [], a, subst (λ l. L l a) (sym (append-nil t.us)) t.text, t.within, refl), dead (erase t.us) x (λ s'. (Ok (a, x ∷ s'), t.again x s s' refl, refl)))

  past : (c : ErrorKind) (us ws : List At) (x : Lexeme) (s : List Lexeme) (t : A) → L (us ++ ws) t → WithinLimits us → PointsAt c ws (x ∷ s) → IsPast L c (erase us) x
  past c us [] x s t h w p = absurd p
  past c us (u ∷ ws) x s t h w p = (us, ws, u, t, h, w, refl, p.0, p.1)

  none_left : (c : ErrorKind) (ws : List At) → PointsAt c ws [] → ⊥
  none_left c [] p = p
  none_left c (w ∷ ws) p = p

  at_fault : (toks : List Lexeme) (c : ErrorKind) (n : ℕ) → whole r toks ≡ Err (record { cause = c; left = n }) → Failed r L toks (record { cause = c; left = n }) → IsFault L toks (record { cause = c; left = n })
  unfolding Refuses
  at_fault toks c n e t = (erase t.us, t.s, t.cut, t.left, (t.us, t.ws, t.tree, t.text, t.within, refl), of c t.s t.cut t.points t.again e)
    where
      of : (c : ErrorKind) (s : List Lexeme) → toks ≡ erase t.us ++ s → Points c t.ws s → ((x : Lexeme) (s0 s' : List Lexeme) → s ≡ x ∷ s0 → r (erase t.us ++ (x ∷ s')) ≡ Err (record { cause = c; left = suc (length s') })) → whole r toks ≡ Err (record { cause = c; left = n }) → AtFault L c (erase t.us) s
      of cause.Unexpected [] cut p again e = λ b h. let f = only toks b (h.0, h.1, h.2, cut ∙ append-nil (erase t.us) ∙ h.3) in cc
      of cause.Unexpected (x ∷ s) cut p again e = dead (erase t.us) x (λ s'. (Err (record { cause = cause.Unexpected; left = suc (length s') }), again x s s' refl, refl))
      of cause.TooDeep [] cut p again e = none_left cause.TooDeep t.ws p
      of cause.TooDeep (x ∷ s) cut p again e = past cause.TooDeep t.us t.ws x s t.tree t.text t.within p
      of cause.BadNumber [] cut p again e = none_left cause.BadNumber t.ws p
      of cause.BadNumber (x ∷ s) cut p again e = past cause.BadNumber t.us t.ws x s t.tree t.text t.within p

  -- what the reading gives is right
  pub right : (toks : List Lexeme) → Right L toks (whole r toks)
  right toks = of (r toks) refl (each_says r L Any good toks)
    where
      of : (y : Reading A) → r toks ≡ y → SaysOf r L toks y → Right L toks (y >>= λ x. ended x.0 x.1)
      of (Ok x) e t = ended_right toks x.1 x.0 t
      of (Err f) e t = at_fault toks f.cause f.left (ap (λ y. y >>= λ x. ended x.0 x.1) e) t

-- a block
to_block : (us : List At) (t : RawAct) → Mapped (λ (a : Placed). a.0) (IsAction 0) us t → IsBlock us t
to_block us t (mapped vs a h) = (a.1, h)

from_block : (us : List At) (t : RawAct) → IsBlock us t → Mapped (λ (a : Placed). a.0) (IsAction 0) us t
from_block us t h = mapped us (t, h.0) h.1

pub good_block : (n : ℕ) → Good n block_reader IsBlock Any
good_block n = good_same n block_reader (Mapped (λ (a : Placed). a.0) (IsAction 0)) IsBlock Any to_block from_block (good_map n (action_at 64) (λ a. a.0) (IsAction 0) Any (good_action 64 0 refl n))
