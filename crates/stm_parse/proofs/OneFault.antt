-- A text has one fault, and none where it has a tree: what is reported by the relation is what the descent answers.
use Rattle.std.proofs.Common.{◌≡◌, ◌≢◌, ℕ, suc, ◌<◌, List, [], ◌∷◌, ◌++◌, length, length-append, append-nil, append_assoc, slice_get, refl, sym, ap, ap₂, ◌∙◌, subst, arith, Some, Result, Ok, Err, inl, inr}
use Rattle.stm_parse.specs.declared.token.Lexeme.{Lexeme}
use Rattle.stm_parse.specs.declared.token.ErrorKind.{ErrorKind}
use Rattle.stm_parse.specs.declared.token.ErrorKind.TheVariants as cause
use Rattle.stm_parse.specs.declared.token.Fault.{Fault}
use Rattle.stm_parse.specs.declared.fault.ParseFault.{ParseFault}
use Rattle.stm_parse.specs.declared.fault.ParseFault.TheVariants as fault
use Rattle.stm_parse.specs.Grammar.{At, erase, IsAllowed, WithinLimits}
use Rattle.stm_parse.specs.Faults.{Language, IsText, Begins, BeginsNone, IsBeyond, IsPast, AtFault}
use Rattle.stm_parse.specs.ParseResult.{IsTextOf, FirstAtFault, IsReported, fault_of_cause}
use Rattle.stm_parse.specs.ParseFunction.{located, answered}
use Rattle.stm_parse.specs.Descent.{Reading, Reader, whole}
use Rattle.stm_parse.specs.Laws.{AtMostOneFault, HasNoFault}
use Rattle.stm_parse.proofs.ReaderPromises.{plain-append, plain-length, plain-split, within-back, SaysOf, Failed}
use Rattle.stm_parse.proofs.ReaderCorrect.{Outcome, beyond_out, Good, Any, each_says, each_reads}
use Rattle.stm_parse.proofs.WholeTextRead.{Right, right, only}
use Rattle.stm_parse.proofs.FaultReported.{place_is, get_end, get_next}
use Rattle.stm_parse.proofs.AnswersCorrect.{fits_answer, ok_answer, early_answer}

-- the first token that isn't allowed is one
same_first : (us vs : List At) (u v : At) (ws xs : List At) → WithinLimits us → WithinLimits vs → (IsAllowed u → ⊥) → (IsAllowed v → ⊥) → us ++ (u ∷ ws) ≡ vs ++ (v ∷ xs) → (u ≡ v) × (length ws ≡ length xs)
same_first [] [] u v ws xs a b m n e = let p : u ≡ v = cc in let q : ws ≡ xs = cc in (p, ap length q)
same_first [] (y ∷ vs) u v ws xs a b m n e = let p : y ≡ u = cc in absurd (m (subst IsAllowed p b.0))
same_first (x ∷ us) [] u v ws xs a b m n e = let p : x ≡ v = cc in absurd (n (subst IsAllowed p a.0))
same_first (x ∷ us) (y ∷ vs) u v ws xs a b m n e = let p : us ++ (u ∷ ws) ≡ vs ++ (v ∷ xs) = cc in same_first us vs u v ws xs a.1 b.1 m n p

-- and it stands after all that are
behind_allowed : (us ws vs : List At) (v : At) (xs : List At) → us ++ ws ≡ vs ++ (v ∷ xs) → WithinLimits us → (IsAllowed v → ⊥) → length xs < length ws
behind_allowed [] ws vs v xs e a n = omega (arith, ap length e, length-append vs (v ∷ xs))
behind_allowed (x ∷ us) ws [] v xs e a n = let p : x ≡ v = cc in absurd (n (subst IsAllowed p a.0))
behind_allowed (x ∷ us) ws (y ∷ vs) v xs e a n = let p : us ++ ws ≡ vs ++ (v ∷ xs) = cc in behind_allowed us ws vs v xs p a.1 n

-- two cuts of a list at one place are one
same_cut : (a b c d : List Lexeme) → a ++ b ≡ c ++ d → length b ≡ length d → (a ≡ c) × (b ≡ d)
same_cut [] b [] d e n = (refl, e)
same_cut [] b (y ∷ c) d e n = absurd (omega (arith, ap length e, length-append c d))
same_cut (x ∷ a) b [] d e n = absurd (omega (arith, ap length e, length-append a b))
same_cut (x ∷ a) b (y ∷ c) d e n =
    let p : x ≡ y = cc in
    let q : a ++ b ≡ c ++ d = cc in
    let k = same_cut a b c d q n in
    (ap₂ (λ z l. z ∷ l) p k.0, k.1)

-- of two cuts the first is before the second, after it, or the same
data Cuts (a b c d : List Lexeme) : Type 0 where
  first_is_behind : (y : Lexeme) (m : List Lexeme) → a ≡ c ++ (y ∷ m) → d ≡ y ∷ (m ++ b) → Cuts a b c d
  first_is_before : (y : Lexeme) (m : List Lexeme) → c ≡ a ++ (y ∷ m) → b ≡ y ∷ (m ++ d) → Cuts a b c d
  same : a ≡ c → b ≡ d → Cuts a b c d

cuts : (a b c d : List Lexeme) → a ++ b ≡ c ++ d → Cuts a b c d
cuts [] b [] d e = same refl e
cuts [] b (y ∷ c) d e = first_is_before y c refl e
cuts (x ∷ a) b [] d e = first_is_behind x a refl (sym e)
cuts (x ∷ a) b (y ∷ c) d e = of (cuts a b c d q)
  where
    p : x ≡ y
    p = cc

    q : a ++ b ≡ c ++ d
    q = cc

    of : Cuts a b c d → Cuts (x ∷ a) b (y ∷ c) d
    of (first_is_behind z m f g) = first_is_behind z m (ap₂ (λ w l. w ∷ l) p f) g
    of (first_is_before z m f g) = first_is_before z m (ap₂ (λ w l. w ∷ l) (sym p) f) g
    of (same f g) = same (ap₂ (λ w l. w ∷ l) p f) g

-- where the tokens are cut, the places of the tokens are
plain_cut : (us : List At) (a b : List Lexeme) → a ++ b ≡ erase us → (vs ws : List At) × (us ≡ vs ++ ws) × (a ≡ erase vs)
plain_cut us [] b e = ([], us, refl, refl)
plain_cut [] (x ∷ a) b e = absurd cc
plain_cut (u ∷ us) (x ∷ a) b e =
    let p : x ≡ u.lexeme = cc in
    let q : a ++ b ≡ erase us = cc in
    let k = plain_cut us a b q in
    (u ∷ k.0, k.1, ap (λ l. u ∷ l) k.2, ap₂ (λ z l. z ∷ l) p k.3)

module _ {A : Type 0} (r : Reader A) (L : Language A) (good : (n : ℕ) → Good n r L Any) where
  -- the reading of a text stops at the first token that is past a limit
  stops_at : (us ws : List At) (u : At) (t : A) (c : ErrorKind) → L (us ++ (u ∷ ws)) t → WithinLimits us → IsBeyond c u → r (erase us ++ (u.lexeme ∷ erase ws)) ≡ Err (record { cause = c; left = suc (length ws) })
  stops_at us ws u t c h w b = of (each_reads r L Any good (us ++ (u ∷ ws)) t [] h tt)
    where
      same_tokens : erase (us ++ (u ∷ ws)) ++ [] ≡ erase us ++ (u.lexeme ∷ erase ws)
      same_tokens = append-nil (erase (us ++ (u ∷ ws))) ∙ plain-append us (u ∷ ws)

      of : Outcome (r (erase (us ++ (u ∷ ws)) ++ [])) (us ++ (u ∷ ws)) t [] → r (erase us ++ (u.lexeme ∷ erase ws)) ≡ Err (record { cause = c; left = suc (length ws) })
      of (inl k) = absurd (beyond_out c u b (within-back us (u ∷ ws) k.1).0)
      of (inr k) =
          let p = k.2 in
          let q = same_first us p.front u p.past ws p.back w p.within (beyond_out c u b) (beyond_out k.0.cause p.past p.beyond) p.cut in
          let d : k.0.cause ≡ c = sym (p.only c (subst (IsBeyond c) q.0 b)) in
          let l = p.left in
          let s = q.1 in
          let n : k.0.left ≡ suc (length ws) = omega arith in
          ap r (sym same_tokens) ∙ k.1 ∙ ap₂ (λ c n. Err (record { cause = c; left = n })) d n

  -- and does so whatever follows that token
  stops_before : (us ws : List At) (u : At) (t : A) (c : ErrorKind) → L (us ++ (u ∷ ws)) t → WithinLimits us → IsBeyond c u → (s : List Lexeme) → r (erase us ++ (u.lexeme ∷ s)) ≡ Err (record { cause = c; left = suc (length s) })
  stops_before us ws u t c h w b s =
      let toks : List Lexeme = erase us ++ (u.lexeme ∷ erase ws) in
      let failed : Failed r L toks (record { cause = c; left = suc (length ws) }) = subst (SaysOf r L toks) (stops_at us ws u t c h w b) (each_says r L Any good toks) in
      let l = failed.left in
      let m = plain-length ws in
      let k = same_cut (erase us) (u.lexeme ∷ erase ws) (erase failed.us) failed.s failed.cut (omega arith) in
      ap (λ p. r (p ++ (u.lexeme ∷ s))) k.0 ∙ failed.again u.lexeme (erase ws) s (sym k.1)

  stops_there : (c : ErrorKind) (q : List Lexeme) (x : Lexeme) → IsPast L c q x → (s : List Lexeme) → r (q ++ (x ∷ s)) ≡ Err (record { cause = c; left = suc (length s) })
  stops_there c q x h s = ap₂ (λ p y. r (p ++ (y ∷ s))) h.6 (sym h.7) ∙ stops_before h.0 h.1 h.2 h.3 c h.4 h.5 h.8 s

  -- none of the tokens that begin a text is past a limit
  none_past : (q : List Lexeme) (y : Lexeme) (m : List Lexeme) (c : ErrorKind) → Begins L (q ++ (y ∷ m)) → IsPast L c q y → ⊥
  none_past q y m c b p = of (each_reads r L Any good (b.0 ++ b.1) b.2 [] b.3 tt)
    where
      same_tokens : erase (b.0 ++ b.1) ++ [] ≡ q ++ (y ∷ (m ++ erase b.1))
      same_tokens = plain-split b.0 b.1 [] ∙ ap₂ (λ k l. k ++ l) (sym b.5) (append-nil (erase b.1)) ∙ append_assoc q (y ∷ m) (erase b.1)

      stopped : r (erase (b.0 ++ b.1) ++ []) ≡ Err (record { cause = c; left = suc (length (m ++ erase b.1)) })
      stopped = ap r same_tokens ∙ stops_there c q y p (m ++ erase b.1)

      of : Outcome (r (erase (b.0 ++ b.1) ++ [])) (b.0 ++ b.1) b.2 [] → ⊥
      of (inl k) = let e = stopped in let f = k.0 in cc
      of (inr k) =
          let e = stopped in
          let f = k.1 in
          let g = k.2 in
          let same_fault : k.0 ≡ record { cause = c; left = suc (length (m ++ erase b.1)) } = cc in
          let same_left = ap (λ f. f.left) same_fault in
          let l = g.left in
          let n = behind_allowed b.0 b.1 g.front g.past g.back g.cut b.4 (beyond_out k.0.cause g.past g.beyond) in
          let i = length-append m (erase b.1) in
          let j = plain-length b.1 in
          omega arith

  -- none of them is at fault
  none_begun : (q : List Lexeme) (y : Lexeme) (m s : List Lexeme) (c : ErrorKind) → Begins L (q ++ (y ∷ m)) → AtFault L c q (y ∷ s) → ⊥
  none_begun q y m s cause.Unexpected b a =
      let k = plain_cut b.0 (q ++ (y ∷ [])) m (append_assoc q (y ∷ []) m ∙ b.5) in
      a k.0 (k.1 ++ b.1) b.2 (subst (λ l. L l b.2) (ap (λ l. l ++ b.1) k.2 ∙ append_assoc k.0 k.1 b.1) b.3) k.3
  none_begun q y m s cause.TooDeep b a = none_past q y m cause.TooDeep b a
  none_begun q y m s cause.BadNumber b a = none_past q y m cause.BadNumber b a

  -- where there is a fault, there is no tree
  no_text : (q s : List Lexeme) (c : ErrorKind) (t : A) → AtFault L c q s → IsText L (q ++ s) t → ⊥
  no_text q [] cause.Unexpected t a h = a t (subst (λ l. IsText L l t) (append-nil q) h)
  no_text q [] cause.TooDeep t a h = a
  no_text q [] cause.BadNumber t a h = a
  no_text q (x ∷ s) c t a h = none_begun q x s s c (h.0, [], t, subst (λ l. L l t) (sym (append-nil h.0)) h.1, h.2, h.3) a

  -- what is past a limit begins a text
  past_begins : (c : ErrorKind) (q : List Lexeme) (x : Lexeme) → IsPast L c q x → BeginsNone L (q ++ (x ∷ [])) → ⊥
  past_begins c q x p none =
      none (p.0 ++ (p.2 ∷ [])) p.1 p.3 (subst (λ l. L l p.3) (sym (append_assoc p.0 (p.2 ∷ []) p.1)) p.4)
      (ap₂ (λ k y. k ++ (y ∷ [])) p.6 (sym p.7) ∙ sym (plain-append p.0 (p.2 ∷ [])))

  same_fault : (f g : Fault) → (let y : Reading A = Err f in y ≡ Err g) → f ≡ g
  same_fault f g e = cc

  -- a token has one fault
  same_cause : (q s : List Lexeme) (c d : ErrorKind) → AtFault L c q s → AtFault L d q s → d ≡ c
  same_cause q s cause.Unexpected cause.Unexpected a b = refl
  same_cause q [] cause.Unexpected cause.TooDeep a b = absurd b
  same_cause q [] cause.Unexpected cause.BadNumber a b = absurd b
  same_cause q (x ∷ s) cause.Unexpected cause.TooDeep a b = absurd (past_begins cause.TooDeep q x b a)
  same_cause q (x ∷ s) cause.Unexpected cause.BadNumber a b = absurd (past_begins cause.BadNumber q x b a)
  same_cause q [] cause.TooDeep d a b = absurd a
  same_cause q [] cause.BadNumber d a b = absurd a
  same_cause q (x ∷ s) cause.TooDeep cause.Unexpected a b = absurd (past_begins cause.TooDeep q x a b)
  same_cause q (x ∷ s) cause.TooDeep cause.TooDeep a b = refl
  same_cause q (x ∷ s) cause.TooDeep cause.BadNumber a b = let e : cause.BadNumber ≡ cause.TooDeep = ap (λ f. f.cause) (same_fault _ _ (sym (stops_there cause.BadNumber q x b s) ∙ stops_there cause.TooDeep q x a s)) in absurd cc
  same_cause q (x ∷ s) cause.BadNumber cause.Unexpected a b = absurd (past_begins cause.BadNumber q x a b)
  same_cause q (x ∷ s) cause.BadNumber cause.TooDeep a b = let e : cause.TooDeep ≡ cause.BadNumber = ap (λ f. f.cause) (same_fault _ _ (sym (stops_there cause.TooDeep q x b s) ∙ stops_there cause.BadNumber q x a s)) in absurd cc
  same_cause q (x ∷ s) cause.BadNumber cause.BadNumber a b = refl

  -- the fault of some tokens is what the reading answers
  fault_read : (q s : List Lexeme) (c : ErrorKind) → Begins L q → AtFault L c q s → whole r (q ++ s) ≡ Err (record { cause = c; left = length s })
  fault_read q s c b a = of (whole r (q ++ s)) (right r L good (q ++ s))
    where
      of : (y : Result A Fault) → Right L (q ++ s) y → y ≡ Err (record { cause = c; left = length s })
      of (Ok t) h = absurd (no_text q s c t a h)
      of (Err f) h = ap Err (by (cuts q s h.0 h.1 h.2))
        where
          by : Cuts q s h.0 h.1 → f ≡ record { cause = c; left = length s }
          by (first_is_behind y m e g) = absurd (none_begun h.0 y m (m ++ s) f.cause (subst (Begins L) e b) (subst (AtFault L f.cause h.0) g h.5))
          by (first_is_before y m e g) = absurd (none_begun q y m (m ++ h.1) c (subst (Begins L) e h.4) (subst (AtFault L c q) g a))
          by (same e g) =
              let d : f.cause ≡ c = same_cause q s c f.cause a (subst (AtFault L f.cause q) (sym g) (subst (λ l. AtFault L f.cause l h.1) (sym e) h.5)) in
              let n : f.left ≡ length s = h.3 ∙ ap length (sym g) in
              ap₂ (λ c n. record { cause = c; left = n }) d n

  module _ (text : List ℕ) where
    fault_located : (ls q s : List Lexeme) (c : ErrorKind) → ls ≡ q ++ s → Begins L q → AtFault L c q s → located ls (whole r ls) ≡ Err (fault_of_cause c (slice_get (q ++ s) (length q)))
    fault_located ls q s c e b a =
        ap (located ls) (ap (whole r) e ∙ fault_read q s c b a) ∙ ap (λ o. Err (fault_of_cause c o)) (place_is ls q s (length s) e refl)

    first_answered : (c : ErrorKind) (n : ℕ) → FirstAtFault L text c n → (x : Lexeme) × (x.start ≡ n) × (answered r text ≡ Err (fault_of_cause c (Some x)))
    first_answered c n h = (h.3, h.6, fits_answer r text h.0 h.4 ∙ fault_located h.0 h.1 (h.3 ∷ h.2) c h.5 h.7 h.8 ∙ ap (λ o. Err (fault_of_cause c o)) (get_next h.1 h.2 h.3))

    -- what is reported is what is answered
    reported_answered : (e : ParseFault) → e ≢ fault.NoMemory → IsReported L text e → answered r text ≡ Err e
    reported_answered fault.TooLarge n h = early_answer r text fault.TooLarge h n
    reported_answered (fault.BadByte k) n h = early_answer r text (fault.BadByte k) h n
    reported_answered (fault.BadNumber k) n (inl h) = early_answer r text (fault.BadNumber k) h n
    reported_answered (fault.BadNumber k) n (inr h) = let a = first_answered cause.BadNumber k h in a.2 ∙ ap (λ k. Err (fault.BadNumber k)) a.1
    reported_answered (fault.NameTooLong k) n h = early_answer r text (fault.NameTooLong k) h n
    reported_answered (fault.Unexpected k) n h = let a = first_answered cause.Unexpected k h in a.2 ∙ ap (λ k. Err (fault.Unexpected k)) a.1
    reported_answered fault.EndOfText n h =
        fits_answer r text h.0 h.1 ∙ fault_located h.0 h.0 [] cause.Unexpected (sym (append-nil h.0)) h.2 h.3 ∙ ap (λ o. Err (fault_of_cause cause.Unexpected o)) (get_end h.0)
    reported_answered fault.TooDeep n h = (first_answered cause.TooDeep h.0 h.1).2
    reported_answered fault.NoMemory n h = absurd (n refl)

    -- the tree of a text is the answer for it
    text_answered : (t : A) → IsTextOf L text t → answered r text ≡ Ok t
    text_answered t h = ok_answer r text h.0 h.1 t (only r L good h.0 t h.2)

  pub one_fault : AtMostOneFault L
  one_fault text e f n m h k = let p = reported_answered text e n h in let q = reported_answered text f m k in cc

  pub has_no_fault : HasNoFault L
  has_no_fault text t e h k = by e (reported_answered text e) k
    where
      by : (e : ParseFault) → (e ≢ fault.NoMemory → IsReported L text e → answered r text ≡ Err e) → IsReported L text e → e ≡ fault.NoMemory
      by fault.NoMemory f k = refl
      by fault.TooLarge f k = let p = f (λ q. cc) k in let q = text_answered text t h in absurd cc
      by (fault.BadByte n) f k = let p = f (λ q. cc) k in let q = text_answered text t h in absurd cc
      by (fault.BadNumber n) f k = let p = f (λ q. cc) k in let q = text_answered text t h in absurd cc
      by (fault.NameTooLong n) f k = let p = f (λ q. cc) k in let q = text_answered text t h in absurd cc
      by (fault.Unexpected n) f k = let p = f (λ q. cc) k in let q = text_answered text t h in absurd cc
      by fault.EndOfText f k = let p = f (λ q. cc) k in let q = text_answered text t h in absurd cc
      by fault.TooDeep f k = let p = f (λ q. cc) k in let q = text_answered text t h in absurd cc
