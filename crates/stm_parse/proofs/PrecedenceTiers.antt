-- The three forms of operators: grouped to the left, not chained, grouped to the right. Over a good reader of operands, each is good.
use Rattle.std.proofs.Common.{◌≡◌, ℕ, zero, suc, ◌+◌, ◌<◌, ◌≤◌, List, [], ◌∷◌, ◌++◌, length, length-append, refl, sym, ap, ◌∙◌, arith, Option, Some, None, Result, Ok, Err, Bool, true, false, cond, nat_eq}
use Rattle.std.proofs.lemmas.Bool.{eqb-true, eq-eqb}
use Rattle.stm_terms.specs.declared.expr.Op.{Op}
use Rattle.stm_terms.specs.ParsedAst.{RawTerm, bin}
use Rattle.stm_parse.specs.declared.token.Lexeme.{Lexeme}
use Rattle.stm_parse.specs.declared.token.Fault.{Fault}
use Rattle.stm_parse.specs.declared.cursor.Grouping.{Grouping}
use Rattle.stm_parse.specs.declared.cursor.Grouping.TheVariants as grouping
use Rattle.stm_parse.specs.Grammar.{At, at, erase, deepest, operator_of, grouping_of, IsExpression, is_tier, IsTail, no_more, to_left, not_chained, to_right}
use Rattle.stm_parse.specs.Descent.{Reading, Reader, ◌>>=◌, op_pick, op_next, tail_by, tail_turn, tails, tail_from, step_from}
use Rattle.stm_parse.proofs.ReaderPromises.{Says, Then, then_, Mapped, mapped, says_stop, says_token, says_chain, says_map}
use Rattle.stm_parse.proofs.ReaderCorrect.{Reads, reads_stop, reads_step, reads_chain, reads_map, Good, good_same, good_chain, each_says, each_reads, shorter, from_below, allowed}

-- the tier of the operator that is next
abbrev pub tier_of : Option (ℕ × Op) → ℕ
tier_of None = 5
tier_of (Some p) = p.0

abbrev pub tier_next : List Lexeme → ℕ
tier_next [] = 5
tier_next (x ∷ s) = tier_of (operator_of x.sym)

-- no operator of a tier below k is next
abbrev pub Follows : ℕ → List Lexeme → Type 0
Follows k rest = k ≤ tier_next rest

pub under : {A B : Type 0} (f g : A → Reading B) (r : Result A Fault) → ((x : A) → r ≡ Ok x → f x ≡ g x) → (r >>= f) ≡ (r >>= g)
under f g (Ok x) e = e x refl
under f g (Err x) e = refl

pick_shorter : (k : ℕ) (o : Option (ℕ × Op)) (s : List Lexeme) (p : Op × List Lexeme) → op_pick k o s ≡ Some p → length p.1 ≤ length s
pick_shorter k None s p e = absurd cc
pick_shorter k (Some q) s p e = of (nat_eq q.0 k) e
  where
    of : (b : Bool) → cond b (Some (q.1, s)) None ≡ Some p → length p.1 ≤ length s
    of true e = let f : s ≡ p.1 = cc in omega (arith, ap length f)
    of false e = absurd cc

next_shorter : (k : ℕ) (toks : List Lexeme) (p : Op × List Lexeme) → op_next k toks ≡ Some p → length p.1 < length toks
next_shorter k [] p e = absurd cc
next_shorter k (x ∷ s) p e = let l = pick_shorter k (operator_of x.sym) s p e in omega arith

-- after no operator of a tier up to k
none_follows : (k : ℕ) (rest : List Lexeme) → Follows (suc k) rest → op_next k rest ≡ None
none_follows k [] f = refl
none_follows k (x ∷ s) f = of (operator_of x.sym) f
  where
    of : (o : Option (ℕ × Op)) → suc k ≤ tier_of o → op_pick k o s ≡ None
    of None f = refl
    of (Some p) f = other (nat_eq p.0 k) refl
      where
        other : (b : Bool) → nat_eq p.0 k ≡ b → cond {A = Option (Op × List Lexeme)} b (Some (p.1, s)) None ≡ None
        other true e = let q = eqb-true p.0 k e in absurd (omega arith)
        other false e = refl

-- an operator of tier k
next_is : (k : ℕ) (o : Op) (x : Lexeme) (s : List Lexeme) → operator_of x.sym ≡ Some (k, o) → op_next k (x ∷ s) ≡ Some (o, s)
next_is k o x s e = ap (λ p. op_pick k p s) e ∙ ap (λ b. cond b (Some (o, s)) None) (eq-eqb k k refl)

module _ (k d : ℕ) (low : d ≤ deepest) (next : Reader RawTerm) (good : (n : ℕ) → Good n next (IsExpression k d) (Follows k)) where
  g : Grouping
  g = grouping_of k

  r : RawTerm → Reader RawTerm
  r = tail_from (grouping_of k) k next

  Agree : {A : Type 0} → ℕ → Reader A → Reader A → Type 0
  Agree n f h = (s : List Lexeme) → length s < n → f s ≡ h s

  by_same : (h : Grouping) (self self' : Reader RawTerm) (go go' : RawTerm → Reader RawTerm) (left : RawTerm) (o : Op) (rest : List Lexeme) (n : ℕ) → length rest < n → Agree n self self' → ((a : RawTerm) → Agree n (go a) (go' a)) → tail_by h next self go left o rest ≡ tail_by h next self' go' left o rest
  unfolding Agree
  by_same grouping.ToLeft self self' go go' left o rest n l e f =
      under (λ b. go (bin o left b.0) b.1) (λ b. go' (bin o left b.0) b.1) (next rest) (λ b q. let m = shorter next (IsExpression k d) (Follows k) good rest b q in f (bin o left b.0) b.1 (omega arith))
  by_same grouping.NotChained self self' go go' left o rest n l e f = refl
  by_same grouping.ToRight self self' go go' left o rest n l e f = ap (λ y. y >>= λ b. Ok (bin o left b.0, b.1)) (e rest l)

  turn_same : (h : Grouping) (self self' : Reader RawTerm) (go go' : RawTerm → Reader RawTerm) (left : RawTerm) (toks : List Lexeme) (o : Option (Op × List Lexeme)) → op_next k toks ≡ o → Agree (length toks) self self' → ((a : RawTerm) → Agree (length toks) (go a) (go' a)) → tail_turn h next self go left toks o ≡ tail_turn h next self' go' left toks o
  turn_same h self self' go go' left toks None q e f = refl
  turn_same h self self' go go' left toks (Some p) q e f = by_same h self self' go go' left p.0 p.1 (length toks) (next_shorter k toks p q) e f

  self_same : (f h : RawTerm → Reader RawTerm) (n : ℕ) → ((a : RawTerm) → Agree n (f a) (h a)) → Agree n (λ s. next s >>= λ a. f a.0 a.1) (λ s. next s >>= λ a. h a.0 a.1)
  unfolding Agree
  self_same f h n e s l = under (λ a. f a.0 a.1) (λ a. h a.0 a.1) (next s) (λ a q. let m = shorter next (IsExpression k d) (Follows k) good s a q in e a.0 a.1 (omega arith))

  tails_clock : (c n : ℕ) (left : RawTerm) (toks : List Lexeme) → length toks ≤ c → length toks ≤ n → tails c g k next left toks ≡ tails n g k next left toks
  unfolding tails Agree
  tails_clock zero zero left toks a b = refl
  tails_clock zero (suc n) left [] a b = refl
  tails_clock zero (suc n) left (x ∷ s) a b = absurd (omega arith)
  tails_clock (suc c) zero left [] a b = refl
  tails_clock (suc c) zero left (x ∷ s) a b = absurd (omega arith)
  tails_clock (suc c) (suc n) left toks a b =
      turn_same g (λ s. next s >>= λ a. tails c g k next a.0 a.1) (λ s. next s >>= λ a. tails n g k next a.0 a.1) (tails c g k next) (tails n g k next) left toks (op_next k toks) refl
      (self_same (tails c g k next) (tails n g k next) (length toks) (λ v s l. let m : length s < length toks = l in tails_clock c n v s (omega arith) (omega arith)))
      (λ v s l. let m : length s < length toks = l in tails_clock c n v s (omega arith) (omega arith))

  pub tail_more : (left : RawTerm) (toks : List Lexeme) → tail_from (grouping_of k) k next left toks ≡ tail_turn (grouping_of k) next (step_from (grouping_of k) k next) (tail_from (grouping_of k) k next) left toks (op_next k toks)
  unfolding tails tail_from step_from Agree g
  tail_more left [] = refl
  tail_more left (x ∷ s) =
      turn_same g (λ t. next t >>= λ a. tails (length s) g k next a.0 a.1) (step_from g k next) (tails (length s) g k next) (tail_from g k next) left (x ∷ s) (op_next k (x ∷ s)) refl
      (self_same (tails (length s) g k next) (tail_from g k next) (suc (length s)) (λ a t l. let m : length t < suc (length s) = l in tails_clock (length s) (length t) a t (omega arith) (omega arith)))
      (λ a t l. let m : length t < suc (length s) = l in tails_clock (length s) (length t) a t (omega arith) (omega arith))

  stops : (left : RawTerm) (toks : List Lexeme) → op_next k toks ≡ None → r left toks ≡ Ok (left, toks)
  unfolding r
  stops left toks e = tail_more left toks ∙ ap (tail_turn (grouping_of k) next (step_from (grouping_of k) k next) (tail_from (grouping_of k) k next) left toks) e

  goes_on : (h : Grouping) (left : RawTerm) (o : Op) (x : Lexeme) (s : List Lexeme) → grouping_of k ≡ h → operator_of x.sym ≡ Some (k, o) → r left (x ∷ s) ≡ tail_by h next (step_from (grouping_of k) k next) r left o s
  unfolding r
  goes_on h left o x s e q =
      tail_more left (x ∷ s) ∙ ap (tail_turn (grouping_of k) next (step_from (grouping_of k) k next) (tail_from (grouping_of k) k next) left (x ∷ s)) (next_is k o x s q) ∙ ap (λ h. tail_by h next (step_from (grouping_of k) k next) (tail_from (grouping_of k) k next) left o s) e

  tail_follows : (a : RawTerm) (us : List At) (b : RawTerm) (rest : List Lexeme) → IsTail k d a us b → Follows (suc k) rest → Follows k (erase us ++ rest)
  tail_follows a us b rest no_more f = omega arith
  tail_follows a us b rest (to_left e q h t) f = omega (arith, ap tier_of q)
  tail_follows a us b rest (not_chained e q h) f = omega (arith, ap tier_of q)
  tail_follows a us b rest (to_right e q h) f = omega (arith, ap tier_of q)

  tier_to : (us : List At) (e : RawTerm) → Then (IsExpression k d) (IsTail k d) us e → IsExpression (suc k) d us e
  tier_to us e (then_ vs ws a h t) = is_tier h t

  tier_back : (us : List At) (e : RawTerm) → IsExpression (suc k) d us e → Then (IsExpression k d) (IsTail k d) us e
  tier_back us e (is_tier h t) = then_ _ _ _ h t

  Tail : ℕ → Type 0
  Tail n = (left : RawTerm) → Good n (r left) (IsTail k d left) (Follows (suc k))

  step : (n : ℕ) → Tail n → Good n (step_from (grouping_of k) k next) (IsExpression (suc k) d) (Follows (suc k))
  unfolding Tail r step_from
  step n t = good_same n (step_from (grouping_of k) k next) (Then (IsExpression k d) (IsTail k d)) (IsExpression (suc k) d) (Follows (suc k)) tier_to tier_back (good_chain n next (tail_from (grouping_of k) k next) (IsExpression k d) (IsTail k d) (Follows k) (Follows (suc k)) (good n) t tail_follows)

  module _ (n : ℕ) (rec : (m : ℕ) → m < n → Tail m) where
    says_stopped : (left : RawTerm) (x : Lexeme) (s : List Lexeme) → op_next k (x ∷ []) ≡ None → ((s' : List Lexeme) → op_next k (x ∷ s') ≡ None) → Says (r left) (IsTail k d left) (x ∷ s)
    says_stopped left x s e same = says_stop (r left) (IsTail k d left) left (x ∷ s) no_more (stops left (x ∷ s) (same s)) (λ y s0 s' q. let p : x ≡ y = cc in stops left (y ∷ s') (ap (λ z. op_next k (z ∷ s')) (sym p) ∙ same s'))

    says_on : (h : Grouping) (left : RawTerm) (o : Op) (x : Lexeme) (s : List Lexeme) → length s < n → grouping_of k ≡ h → operator_of x.sym ≡ Some (k, o) → Says (r left) (IsTail k d left) (x ∷ s)
    unfolding Tail
    says_on grouping.ToLeft left o x s l e q =
        let t = rec (length s) l in
        says_token (r left) (λ s'. next s' >>= λ b. r (bin o left b.0) b.1) (IsTail k d left) (Then (IsExpression k d) (λ b. IsTail k d (bin o left b))) (at d x) s (allowed d x low) (λ s'. goes_on grouping.ToLeft left o x s' e q)
        (λ us b h. left_to us b h)
        (says_chain next (λ b. r (bin o left b)) (IsExpression k d) (λ b. IsTail k d (bin o left b)) s (each_says next (IsExpression k d) (Follows k) good s) (λ b rest le. (t (bin o left b)).says rest le) (λ b. ([], bin o left b, no_more)))
      where
        left_to : (us : List At) (b : RawTerm) → Then (IsExpression k d) (λ b. IsTail k d (bin o left b)) us b → IsTail k d left (at d x ∷ us) b
        left_to us b (then_ vs ws a h t) = to_left e q h t
    says_on grouping.NotChained left o x s l e q =
        says_token (r left) (λ s'. next s' >>= λ b. Ok (bin o left b.0, b.1)) (IsTail k d left) (Mapped (bin o left) (IsExpression k d)) (at d x) s (allowed d x low) (λ s'. goes_on grouping.NotChained left o x s' e q)
        (λ us b h. once_to us b h)
        (says_map next (bin o left) (IsExpression k d) s (each_says next (IsExpression k d) (Follows k) good s))
      where
        once_to : (us : List At) (b : RawTerm) → Mapped (bin o left) (IsExpression k d) us b → IsTail k d left (at d x ∷ us) b
        once_to us b (mapped vs a h) = not_chained e q h
    says_on grouping.ToRight left o x s l e q =
        says_token (r left) (λ s'. step_from (grouping_of k) k next s' >>= λ b. Ok (bin o left b.0, b.1)) (IsTail k d left) (Mapped (bin o left) (IsExpression (suc k) d)) (at d x) s (allowed d x low) (λ s'. goes_on grouping.ToRight left o x s' e q)
        (λ us b h. right_to us b h)
        (says_map (step_from (grouping_of k) k next) (bin o left) (IsExpression (suc k) d) s ((step (length s) (rec (length s) l)).says s (omega arith)))
      where
        right_to : (us : List At) (b : RawTerm) → Mapped (bin o left) (IsExpression (suc k) d) us b → IsTail k d left (at d x ∷ us) b
        right_to us b (mapped vs a h) = to_right e q h

    says_tail : (left : RawTerm) (toks : List Lexeme) → length toks ≤ n → Says (r left) (IsTail k d left) toks
    says_tail left [] l = says_stop (r left) (IsTail k d left) left [] no_more (stops left [] refl) (λ x s s' q. absurd cc)
    says_tail left (x ∷ s) l = of (operator_of x.sym) refl
      where
        of : (o : Option (ℕ × Op)) → operator_of x.sym ≡ o → Says (r left) (IsTail k d left) (x ∷ s)
        of None e = says_stopped left x s (ap (λ p. op_pick k p []) e) (λ s'. ap (λ p. op_pick k p s') e)
        of (Some p) e = by (nat_eq p.0 k) refl
          where
            by : (b : Bool) → nat_eq p.0 k ≡ b → Says (r left) (IsTail k d left) (x ∷ s)
            by true q = says_on (grouping_of k) left p.1 x s (omega arith) refl (e ∙ ap (λ m. Some (m, p.1)) (eqb-true p.0 k q))
            by false q = says_stopped left x s (ap (λ o. op_pick k o []) e ∙ ap (λ b. cond b (Some (p.1, [])) None) q) (λ s'. ap (λ o. op_pick k o s') e ∙ ap (λ b. cond b (Some (p.1, s')) None) q)

    reads_tail : (left : RawTerm) (us : List At) (t : RawTerm) → IsTail k d left us t → (rest : List Lexeme) → length us + length rest ≤ n → Follows (suc k) rest → Reads (r left) us t rest
    unfolding Tail
    reads_tail left us t no_more rest l f = reads_stop (r left) left rest (stops left rest (none_follows k rest f))
    reads_tail left us t (to_left {o} {x} {us = vs} {vs = ws} {b} e q h u) rest l f =
        let s = length-append vs ws in
        reads_step (r left) (λ s. next s >>= λ b. r (bin o left b.0) b.1) (at d x) (vs ++ ws) t rest (allowed d x low) (λ s. goes_on grouping.ToLeft left o x s e q)
        (reads_chain next (λ b. r (bin o left b)) vs ws b t rest (each_reads next (IsExpression k d) (Follows k) good vs b (erase ws ++ rest) h (tail_follows (bin o left b) ws t rest u f)) ((rec (length ws + length rest) (omega arith) (bin o left b)).reads ws t rest (omega arith) u f))
    reads_tail left us t (not_chained {o} {x} {us = vs} {b} e q h) rest l f =
        reads_step (r left) (λ s. next s >>= λ b. Ok (bin o left b.0, b.1)) (at d x) vs (bin o left b) rest (allowed d x low) (λ s. goes_on grouping.NotChained left o x s e q)
        (reads_map next (bin o left) vs b rest (each_reads next (IsExpression k d) (Follows k) good vs b rest h (omega arith)))
    reads_tail left us t (to_right {o} {x} {us = vs} {b} e q h) rest l f =
        reads_step (r left) (λ s. step_from (grouping_of k) k next s >>= λ b. Ok (bin o left b.0, b.1)) (at d x) vs (bin o left b) rest (allowed d x low) (λ s. goes_on grouping.ToRight left o x s e q)
        (reads_map (step_from (grouping_of k) k next) (bin o left) vs b rest ((step (length vs + length rest) (rec (length vs + length rest) (omega arith))).reads vs b rest (omega arith) h f))

  good_tail : (n : ℕ) → Tail n
  unfolding Tail
  good_tail = from_below Tail (λ n rec left. record { says = says_tail n rec left; reads = λ us t rest l h f. reads_tail n rec left us t h rest l f; some = ([], left, no_more) })

  pub good_step : (n : ℕ) → Good n (step_from (grouping_of k) k next) (IsExpression (suc k) d) (Follows (suc k))
  good_step n = step n (good_tail n)
