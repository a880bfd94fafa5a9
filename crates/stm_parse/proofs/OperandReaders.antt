-- The reader of operands is good, over what reads inside brackets.
use Rattle.std.proofs.Common.{◌≡◌, ℕ, suc, ◌+◌, ◌-◌, ◌<◌, ◌≤◌, List, [], ◌∷◌, ◌++◌, length, refl, ap, ◌∙◌, arith, Option, Some, None, Ok, Err, Bool, true, false, cond, inl, pos, neg_ℤ}
use Rattle.std.proofs.lemmas.Bool.Decides.{nat_tests}
use Rattle.stm_terms.specs.ParsedAst.{RawTerm, int, truth, unit, name}
use Rattle.stm_parse.specs.declared.token.Mark.{Mark}
use Rattle.stm_parse.specs.declared.token.Mark.TheVariants as mark
use Rattle.stm_parse.specs.declared.token.TokenKind.{TokenKind}
use Rattle.stm_parse.specs.declared.token.TokenKind.TheVariants as tok
use Rattle.stm_parse.specs.declared.token.Lexeme.{Lexeme}
use Rattle.stm_parse.specs.declared.token.ErrorKind.TheVariants as cause
use Rattle.stm_parse.specs.Terminals.{is_mark, IsMark}
use Rattle.stm_parse.specs.Grammar.{span_of, At, at, at_number, erase, deepest, greatest}
use Rattle.stm_parse.specs.Faults.{Language}
use Rattle.stm_parse.specs.Descent.{Reading, Reader, bad_number, accept, or_accepted, expect, in_reach, close_literal, literal_of, literal, closed, bracketed, short_of, deeper, atom_with}
use Rattle.stm_parse.proofs.ReaderPromises.{plain-split, Says, Some_text, Mapped, mapped, says_map, says_end, says_refused, says_beyond, says_token, says_one, says_same_first, says_same_end}
use Rattle.stm_parse.proofs.ReaderCorrect.{Reads, reads_same, reads_step, reads_map, reads_beyond, only_deep, only_number, Good, Any, is_mark-true, is_mark-same, some_mark, Token, token, good_expect, allowed}

pub within_reach : (n : ℕ) → in_reach n ≡ true → n ≤ greatest
within_reach n e = grind (arith, nat_tests)

pub out_of_reach : (n : ℕ) → in_reach n ≡ false → greatest < n
out_of_reach n e = grind (arith, nat_tests)

-- an operand, with expressions of E in brackets
pub data Operand (d : ℕ) (E : Language RawTerm) : List At → RawTerm → Type 0 where
  of_number : {n : ℕ} {x : Lexeme} → x.sym ≡ tok.Number n → Operand d E (at_number d n x ∷ []) (int (pos n) x.start)
  of_negative : {n : ℕ} {x y z w : Lexeme} → IsMark mark.LParen x → IsMark mark.Minus y → z.sym ≡ tok.Number n → IsMark mark.RParen w → Operand d E (at (suc d) x ∷ at (suc d) y ∷ at_number (suc d) (n - 1) z ∷ at d w ∷ []) (int (neg_ℤ (pos n)) x.start)
  of_true : {x : Lexeme} → IsMark mark.True x → Operand d E (at d x ∷ []) (truth true x.start)
  of_false : {x : Lexeme} → IsMark mark.False x → Operand d E (at d x ∷ []) (truth false x.start)
  of_unit : {x w : Lexeme} → IsMark mark.LParen x → IsMark mark.RParen w → Operand d E (at (suc d) x ∷ at d w ∷ []) (unit x.start)
  of_name : {x : Lexeme} → x.sym ≡ tok.Name → Operand d E (at d x ∷ []) (name (span_of x))
  of_bracketed : {x : Lexeme} (w : Lexeme) (us : List At) {e : RawTerm} → IsMark mark.LParen x → E us e → IsMark mark.RParen w → Operand d E (at (suc d) x ∷ (us ++ (at d w ∷ []))) e

-- after "(", which is x
abbrev pub Behind : ℕ → Language RawTerm → Lexeme → Language RawTerm
Behind d E x us t = Operand d E (at (suc d) x ∷ us) t

-- what is asked of a reader inside brackets
pub record Inner (d : ℕ) (E : Language RawTerm) (r : Reader RawTerm) : Type 0 where
  pub low : suc d ≤ deepest
  pub closes : (x : Lexeme) → IsMark mark.LParen x → (toks : List Lexeme) → Says (closed r) (Behind d E x) toks
  pub closed_reads : (w : Lexeme) (us : List At) (e : RawTerm) (rest : List Lexeme) → IsMark mark.RParen w → E us e → Reads (closed r) (us ++ (at d w ∷ [])) e rest
  pub no_close : (us : List At) (e : RawTerm) → E us e → (rest : List Lexeme) → accept mark.RParen (erase us ++ rest) ≡ None
  pub no_minus : (us : List At) (e : RawTerm) → E us e → (rest : List Lexeme) → accept mark.Minus (erase us ++ rest) ≡ None

abbrev pub InnerOf : ℕ → Language RawTerm → Option (Reader RawTerm) → Type 0
InnerOf d E None = d ≡ deepest
InnerOf d E (Some r) = Inner d E r

some_number : Lexeme
some_number = record { sym = tok.Number 0; start = 0; end = 0 }

module _ (d : ℕ) (E : Language RawTerm) where
  some_operand : Some_text (Operand d E)
  some_operand = (_, _, of_true {x = some_mark mark.True} refl)

  -- after "(" and a minus
  Literal : Lexeme → Lexeme → Language RawTerm
  Literal x y us t = Operand d E (at (suc d) x ∷ at (suc d) y ∷ us) t

  some_literal : (x y : Lexeme) → IsMark mark.LParen x → IsMark mark.Minus y → Some_text (Literal x y)
  unfolding Literal some_number
  some_literal x y o m = (_, _, of_negative {n = 0} {z = some_number} {w = some_mark mark.RParen} o m refl refl)

  says_literal : (x y : Lexeme) → IsMark mark.LParen x → IsMark mark.Minus y → suc d ≤ deepest → (toks : List Lexeme) → Says (literal x.start) (Literal x y) toks
  unfolding Literal
  says_literal x y o m low [] = says_end (literal x.start) (Literal x y) refl (some_literal x y o m)
  says_literal x y o m low (z ∷ s) = of z.sym refl
    where
      of : (q : TokenKind) → z.sym ≡ q → Says (literal x.start) (Literal x y) (z ∷ s)
      of (tok.Number n) e = by (in_reach (n - 1)) refl
        where
          more : (us : List At) (t : RawTerm) → Mapped (λ c. int (neg_ℤ (pos n)) x.start) (Token d (IsMark mark.RParen)) us t → Literal x y (at_number (suc d) (n - 1) z ∷ us) t
          more us t (mapped vs a (token w c)) = of_negative o m e c

          by : (b : Bool) → in_reach (n - 1) ≡ b → Says (literal x.start) (Literal x y) (z ∷ s)
          by true f =
              says_token (literal x.start) (close_literal n x.start) (Literal x y) (Mapped (λ c. int (neg_ℤ (pos n)) x.start) (Token d (IsMark mark.RParen))) (at_number (suc d) (n - 1) z) s (low, omega arith, within_reach (n - 1) f)
              (λ s'. ap (λ q. literal_of x.start q (z ∷ s') s') e ∙ ap (λ b. cond b (close_literal n x.start s') (Err (bad_number (z ∷ s')))) f)
              more
              (says_map (expect mark.RParen) (λ c. int (neg_ℤ (pos n)) x.start) (Token d (IsMark mark.RParen)) s ((good_expect d (omega arith) mark.RParen (length s)).says s (omega arith)))
          by false f =
              says_beyond (literal x.start) (Literal x y) cause.BadNumber (at_number (suc d) (n - 1) z) s (at d (some_mark mark.RParen) ∷ []) (int (neg_ℤ (pos n)) x.start) tt (out_of_reach (n - 1) f) (of_negative o m e refl)
              (λ s'. ap (λ q. literal_of x.start q (z ∷ s') s') e ∙ ap (λ b. cond b (close_literal n x.start s') (Err (bad_number (z ∷ s')))) f)
      of (tok.Mark k) e = says_refused (literal x.start) (Literal x y) z s (λ s'. ap (λ q. literal_of x.start q (z ∷ s') s') e) (some_literal x y o m)
      of tok.Name e = says_refused (literal x.start) (Literal x y) z s (λ s'. ap (λ q. literal_of x.start q (z ∷ s') s') e) (some_literal x y o m)
      of tok.Other e = says_refused (literal x.start) (Literal x y) z s (λ s'. ap (λ q. literal_of x.start q (z ∷ s') s') e) (some_literal x y o m)

  choice : (r : Reader RawTerm) (at : ℕ) (toks : List Lexeme) → Option (List Lexeme) → Option (List Lexeme) → Reading RawTerm
  choice r at toks c m = or_accepted c (λ rest. Ok (unit at, rest)) (or_accepted m (literal at) (closed r toks))

  -- the three things after "("
  at_unit : (r : Reader RawTerm) (at : ℕ) (y : Lexeme) (s : List Lexeme) → is_mark mark.RParen y.sym ≡ true → bracketed r at (y ∷ s) ≡ Ok (unit at, s)
  unfolding choice
  at_unit r at y s e = ap (λ b. choice r at (y ∷ s) (cond b (Some s) None) (accept mark.Minus (y ∷ s))) e

  at_literal : (r : Reader RawTerm) (at : ℕ) (y : Lexeme) (s : List Lexeme) → is_mark mark.RParen y.sym ≡ false → is_mark mark.Minus y.sym ≡ true → bracketed r at (y ∷ s) ≡ literal at s
  unfolding choice
  at_literal r at y s e f = ap (λ b. choice r at (y ∷ s) (cond b (Some s) None) (accept mark.Minus (y ∷ s))) e ∙ ap (λ b. choice r at (y ∷ s) None (cond b (Some s) None)) f

  at_closed : (r : Reader RawTerm) (at : ℕ) (toks : List Lexeme) → accept mark.RParen toks ≡ None → accept mark.Minus toks ≡ None → bracketed r at toks ≡ closed r toks
  unfolding choice
  at_closed r at toks e f = ap (λ c. choice r at toks c (accept mark.Minus toks)) e ∙ ap (λ m. choice r at toks None m) f

  says_bracketed : (r : Reader RawTerm) → Inner d E r → (x : Lexeme) → IsMark mark.LParen x → (toks : List Lexeme) → Says (bracketed r x.start) (Behind d E x) toks
  says_bracketed r i x o [] = says_same_end (bracketed r x.start) (closed r) (Behind d E x) refl (i.closes x o [])
  says_bracketed r i x o (y ∷ s) = by (is_mark mark.RParen y.sym) refl
    where
      others : (c : Bool) → is_mark mark.Minus y.sym ≡ c → is_mark mark.RParen y.sym ≡ false → Says (bracketed r x.start) (Behind d E x) (y ∷ s)
      others true f e =
          says_token (bracketed r x.start) (literal x.start) (Behind d E x) (Literal x y) (at (suc d) y) s (allowed (suc d) y i.low) (λ s'. at_literal r x.start y s' e f) (λ us t h. unfold Literal in h) (says_literal x y o (is_mark-true mark.Minus y.sym f) i.low s)
      others false f e =
          says_same_first (bracketed r x.start) (closed r) (Behind d E x) y s (λ s'. at_closed r x.start (y ∷ s') (ap (λ b. cond b (Some s') None) e) (ap (λ b. cond b (Some s') None) f)) (i.closes x o (y ∷ s))

      by : (b : Bool) → is_mark mark.RParen y.sym ≡ b → Says (bracketed r x.start) (Behind d E x) (y ∷ s)
      by true e = says_one (bracketed r x.start) (Behind d E x) (unit x.start) (at d y) s (allowed d y (let l = i.low in omega arith)) (λ s'. at_unit r x.start y s' e) (of_unit o (is_mark-true mark.RParen y.sym e))
      by false e = others (is_mark mark.Minus y.sym) refl e

  opens : (inner : Option (Reader RawTerm)) (x : Lexeme) (s : List Lexeme) → IsMark mark.LParen x → atom_with inner (x ∷ s) ≡ deeper inner (λ r. bracketed r x.start s) (x ∷ s)
  opens inner x s o = ap (λ b. cond b (deeper inner (λ r. bracketed r x.start s) (x ∷ s)) (short_of x.sym x s)) (is_mark-same mark.LParen x.sym o)

  is_short : (inner : Option (Reader RawTerm)) (x : Lexeme) (s : List Lexeme) (q : TokenKind) → x.sym ≡ q → is_mark mark.LParen q ≡ false → atom_with inner (x ∷ s) ≡ short_of q x s
  is_short inner x s q e f = ap (λ q. cond (is_mark mark.LParen q) (deeper inner (λ r. bracketed r x.start s) (x ∷ s)) (short_of q x s)) e ∙ ap (λ b. cond b (deeper inner (λ r. bracketed r x.start s) (x ∷ s)) (short_of q x s)) f

  says_open : (inner : Option (Reader RawTerm)) → InnerOf d E inner → (x : Lexeme) (s : List Lexeme) → IsMark mark.LParen x → Says (atom_with inner) (Operand d E) (x ∷ s)
  says_open None i x s o = says_beyond (atom_with None) (Operand d E) cause.TooDeep (at (suc d) x) s (at d (some_mark mark.RParen) ∷ []) (unit x.start) tt (inl (ap suc i)) (of_unit o refl) (λ s'. opens None x s' o)
  says_open (Some r) i x s o = says_token (atom_with (Some r)) (bracketed r x.start) (Operand d E) (Behind d E x) (at (suc d) x) s (allowed (suc d) x i.low) (λ s'. opens (Some r) x s' o) (λ us t h. h) (says_bracketed r i x o s)

  says_short : (inner : Option (Reader RawTerm)) → d ≤ deepest → (m : Mark) (x : Lexeme) (s : List Lexeme) → InnerOf d E inner → x.sym ≡ tok.Mark m → Says (atom_with inner) (Operand d E) (x ∷ s)
  says_short inner low mark.LParen x s i e = says_open inner i x s e
  says_short inner low mark.True x s i e = says_one (atom_with inner) (Operand d E) (truth true x.start) (at d x) s (allowed d x low) (λ s'. is_short inner x s' (tok.Mark mark.True) e refl) (of_true e)
  says_short inner low mark.False x s i e = says_one (atom_with inner) (Operand d E) (truth false x.start) (at d x) s (allowed d x low) (λ s'. is_short inner x s' (tok.Mark mark.False) e refl) (of_false e)
  says_short inner low m x s i e = says_refused (atom_with inner) (Operand d E) x s (λ s'. is_short inner x s' (tok.Mark m) e refl) some_operand

  pub says_operand : (inner : Option (Reader RawTerm)) → d ≤ deepest → InnerOf d E inner → (toks : List Lexeme) → Says (atom_with inner) (Operand d E) toks
  says_operand inner low i [] = says_end (atom_with inner) (Operand d E) refl some_operand
  says_operand inner low i (x ∷ s) = of x.sym refl
    where
      of : (q : TokenKind) → x.sym ≡ q → Says (atom_with inner) (Operand d E) (x ∷ s)
      of (tok.Mark m) e = says_short inner low m x s i e
      of tok.Name e = says_one (atom_with inner) (Operand d E) (name (span_of x)) (at d x) s (allowed d x low) (λ s'. is_short inner x s' tok.Name e refl) (of_name e)
      of tok.Other e = says_refused (atom_with inner) (Operand d E) x s (λ s'. is_short inner x s' tok.Other e refl) some_operand
      of (tok.Number n) e = by (in_reach n) refl
        where
          by : (b : Bool) → in_reach n ≡ b → Says (atom_with inner) (Operand d E) (x ∷ s)
          by true f = says_one (atom_with inner) (Operand d E) (int (pos n) x.start) (at_number d n x) s (low, omega arith, within_reach n f) (λ s'. is_short inner x s' (tok.Number n) e refl ∙ ap (λ b. cond b (Ok (int (pos n) x.start, s')) (Err (bad_number (x ∷ s')))) f) (of_number e)
          by false f = says_beyond (atom_with inner) (Operand d E) cause.BadNumber (at_number d n x) s [] (int (pos n) x.start) tt (out_of_reach n f) (of_number e) (λ s'. is_short inner x s' (tok.Number n) e refl ∙ ap (λ b. cond b (Ok (int (pos n) x.start, s')) (Err (bad_number (x ∷ s')))) f)

  reads_literal : (at_x n : ℕ) (z w : Lexeme) (rest : List Lexeme) → suc d ≤ deepest → z.sym ≡ tok.Number n → IsMark mark.RParen w → Reads (literal at_x) (at_number (suc d) (n - 1) z ∷ at d w ∷ []) (int (neg_ℤ (pos n)) at_x) rest
  reads_literal p n z w rest low e c = by (in_reach (n - 1)) refl
    where
      by : (b : Bool) → in_reach (n - 1) ≡ b → Reads (literal p) (at_number (suc d) (n - 1) z ∷ at d w ∷ []) (int (neg_ℤ (pos n)) p) rest
      by true f =
          reads_step (literal p) (close_literal n p) (at_number (suc d) (n - 1) z) (at d w ∷ []) (int (neg_ℤ (pos n)) p) rest (low, omega arith, within_reach (n - 1) f) (λ s. ap (λ q. literal_of p q (z ∷ s) s) e ∙ ap (λ b. cond b (close_literal n p s) (Err (bad_number (z ∷ s)))) f)
          (reads_map (expect mark.RParen) (λ c. int (neg_ℤ (pos n)) p) (at d w ∷ []) w rest ((good_expect d (omega arith) mark.RParen (1 + length rest)).reads (at d w ∷ []) w rest (omega arith) (token w c) tt))
      by false f =
          reads_beyond (literal p) cause.BadNumber (at_number (suc d) (n - 1) z) (at d w ∷ []) (int (neg_ℤ (pos n)) p) rest (out_of_reach (n - 1) f) (only_number (suc d) (n - 1) z low) (λ s. ap (λ q. literal_of p q (z ∷ s) s) e ∙ ap (λ b. cond b (close_literal n p s) (Err (bad_number (z ∷ s)))) f)

  -- an open bracket, and what comes after it
  reads_open : (inner : Option (Reader RawTerm)) → InnerOf d E inner → (x : Lexeme) (us : List At) (t : RawTerm) (rest : List Lexeme) → IsMark mark.LParen x → ((r : Reader RawTerm) → Inner d E r → Reads (bracketed r x.start) us t rest) → Reads (atom_with inner) (at (suc d) x ∷ us) t rest
  reads_open None i x us t rest o h = reads_beyond (atom_with None) cause.TooDeep (at (suc d) x) us t rest (inl (ap suc i)) (only_deep (suc d) 0 x) (λ s. opens None x s o)
  reads_open (Some r) i x us t rest o h = reads_step (atom_with (Some r)) (bracketed r x.start) (at (suc d) x) us t rest (allowed (suc d) x i.low) (λ s. opens (Some r) x s o) (h r i)

  no_mark : (m k : Mark) (s : TokenKind) → s ≡ tok.Mark k → is_mark m (tok.Mark k) ≡ false → is_mark m s ≡ false
  no_mark m k s e f = ap (is_mark m) e ∙ f

  reads_operand : (inner : Option (Reader RawTerm)) → d ≤ deepest → InnerOf d E inner → (us : List At) (t : RawTerm) → Operand d E us t → (rest : List Lexeme) → Reads (atom_with inner) us t rest
  reads_operand inner low i us t (of_number {n} {x} e) rest = by (in_reach n) refl
    where
      by : (b : Bool) → in_reach n ≡ b → Reads (atom_with inner) (at_number d n x ∷ []) (int (pos n) x.start) rest
      by true f = inl (is_short inner x rest (tok.Number n) e refl ∙ ap (λ b. cond b (Ok (int (pos n) x.start, rest)) (Err (bad_number (x ∷ rest)))) f, ((low, omega arith, within_reach n f), tt))
      by false f = reads_beyond (atom_with inner) cause.BadNumber (at_number d n x) [] (int (pos n) x.start) rest (out_of_reach n f) (only_number d n x low) (λ s. is_short inner x s (tok.Number n) e refl ∙ ap (λ b. cond b (Ok (int (pos n) x.start, s)) (Err (bad_number (x ∷ s)))) f)
  reads_operand inner low i us t (of_negative {n} {x} {y} {z} {w} o m e c) rest =
      reads_open inner i x (at (suc d) y ∷ at_number (suc d) (n - 1) z ∷ at d w ∷ []) (int (neg_ℤ (pos n)) x.start) rest o (λ r j.
      reads_step (bracketed r x.start) (literal x.start) (at (suc d) y) (at_number (suc d) (n - 1) z ∷ at d w ∷ []) (int (neg_ℤ (pos n)) x.start) rest (allowed (suc d) y j.low) (λ s. at_literal r x.start y s (no_mark mark.RParen mark.Minus y.sym m refl) (is_mark-same mark.Minus y.sym m)) (reads_literal x.start n z w rest j.low e c))
  reads_operand inner low i us t (of_true {x} e) rest = inl (is_short inner x rest (tok.Mark mark.True) e refl, (allowed d x low, tt))
  reads_operand inner low i us t (of_false {x} e) rest = inl (is_short inner x rest (tok.Mark mark.False) e refl, (allowed d x low, tt))
  reads_operand inner low i us t (of_unit {x} {w} o c) rest = reads_open inner i x (at d w ∷ []) (unit x.start) rest o (λ r j. inl (at_unit r x.start w rest (is_mark-same mark.RParen w.sym c), (allowed d w low, tt)))
  reads_operand inner low i us t (of_name {x} e) rest = inl (is_short inner x rest tok.Name e refl, (allowed d x low, tt))
  reads_operand inner low i us t (of_bracketed {x} w vs {e} o h c) rest =
      reads_open inner i x (vs ++ (at d w ∷ [])) e rest o (λ r j.
      reads_same (bracketed r x.start) (closed r) (vs ++ (at d w ∷ [])) e rest (bracket_same r j) (j.closed_reads w vs e rest c h))
    where
      split : erase (vs ++ (at d w ∷ [])) ++ rest ≡ erase vs ++ (w ∷ rest)
      split = plain-split vs (at d w ∷ []) rest

      bracket_same : (r : Reader RawTerm) → Inner d E r → bracketed r x.start (erase (vs ++ (at d w ∷ [])) ++ rest) ≡ closed r (erase (vs ++ (at d w ∷ [])) ++ rest)
      bracket_same r j = at_closed r x.start (erase (vs ++ (at d w ∷ [])) ++ rest) (ap (accept mark.RParen) split ∙ j.no_close vs e h (w ∷ rest)) (ap (accept mark.Minus) split ∙ j.no_minus vs e h (w ∷ rest))

  pub good_operand : (inner : Option (Reader RawTerm)) → d ≤ deepest → InnerOf d E inner → (n : ℕ) → Good n (atom_with inner) (Operand d E) Any
  good_operand inner low i n = record { says = λ toks l. says_operand inner low i toks; reads = λ us t rest l h f. reads_operand inner low i us t h rest; some = some_operand }
