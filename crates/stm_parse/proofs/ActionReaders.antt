-- The readers of actions are good at each level.
use Rattle.std.proofs.Common.{◌≡◌, ℕ, zero, suc, ◌+◌, ◌-◌, ◌≤◌, List, [], ◌∷◌, ◌++◌, refl, ap, arith, Option, Some, None, Ok, Err, Bool, true, false, cond, inl}
use Rattle.stm_terms.specs.ParsedAst.{RawTerm, truth, RawAct, return, read, write, make, retry, throw, if_else, or_else, catch}
use Rattle.stm_parse.specs.declared.token.Mark.{Mark}
use Rattle.stm_parse.specs.declared.token.Mark.TheVariants as mark
use Rattle.stm_parse.specs.declared.token.TokenKind.{TokenKind}
use Rattle.stm_parse.specs.declared.token.TokenKind.TheVariants as tok
use Rattle.stm_parse.specs.declared.token.Lexeme.{Lexeme}
use Rattle.stm_parse.specs.declared.token.ErrorKind.TheVariants as cause
use Rattle.stm_parse.specs.Terminals.{is_mark, IsMark}
use Rattle.stm_parse.specs.Grammar.{span_of, At, at, deepest, widest, Placed, IsAtom, is_true, IsExpression, is_atom, is_tier, no_more, IsAction, IsParen, IsBody, is_do, is_if, is_or_else, is_catch, is_return, is_read, is_write, is_make, is_throw, is_retry, is_brackets, is_paren, is_last}
use Rattle.stm_parse.specs.Faults.{Language}
use Rattle.stm_parse.specs.Descent.{Reader, ◌>>=◌, unexpected, expect, expect_name, closed, deeper, Level, paren_with, or_else_of, catch_of, if_of, block, one_operand, two_operands, action_of, action_with, tier_at, atom_at, inside_act, action_at, body_at, body_turn}
use Rattle.stm_parse.proofs.ReaderPromises.{Says, Some_text, Then, then_, Mapped, mapped, says_end, says_refused, says_beyond, says_token, says_one}
use Rattle.stm_parse.proofs.ReaderCorrect.{Reads, reads_step, reads_beyond, only_deep, Good, good_chain, good_map, good_expect, good_name, each_says, each_reads, is_mark-true, is_mark-same, IsName, Any, some_mark, some_name, Token, token, allowed}
use Rattle.stm_parse.proofs.PrecedenceTiers.{Follows}
use Rattle.stm_parse.proofs.ExpressionReaders.{Closing, good_closed, mark_follows, good_atom, good_tier}
use Rattle.stm_parse.proofs.BodyReaders.{then_token, map_token, NoSemicolon, behind_mark, good_body, body_more as body_more_over}

-- some texts
abbrev pub some_atom : (d : ℕ) → IsAtom d (at d (some_mark mark.True) ∷ []) (truth true 0)
some_atom d = is_true refl

pub some_expression : (k d : ℕ) → Some_text (IsExpression k d)
some_expression zero d = (_, _, is_atom (some_atom d))
some_expression (suc k) d = let e = some_expression k d in (_, _, is_tier e.2 no_more)

abbrev some_action : (d : ℕ) → IsAction d (at d (some_mark mark.Retry) ∷ []) (retry, 0)
some_action d = is_retry refl

-- a level d deep
pub record IsGood (d : ℕ) (l : Level) : Type 0 where
  pub low : d ≤ deepest
  pub expression : (n : ℕ) → Good n l.expression (IsExpression widest d) (Follows widest)
  pub action : (n : ℕ) → Good n l.action (IsAction d) Any
  pub paren : (e : ℕ) → e ≤ deepest → (n : ℕ) → Good n l.paren (IsParen (suc d) e) Any
  pub body : (n : ℕ) → Good n l.body (IsBody d) NoSemicolon

abbrev pub LevelOf : Option Level → ℕ → Type 0
LevelOf None d = d ≡ suc deepest
LevelOf (Some l) d = IsGood d l

some_paren : (d e : ℕ) (x : Lexeme) → IsMark mark.LParen x → IsParen d e (at d x ∷ (at d (some_mark mark.Retry) ∷ at e (some_mark mark.RParen) ∷ [])) (retry, 0)
some_paren d e x o = is_paren (some_mark mark.RParen) o (some_action d) refl

-- "(" action ")"
module _ (d e : ℕ) (low : e ≤ deepest) where
  opens : (one : Option Level) (x : Lexeme) (s : List Lexeme) (b : Bool) → is_mark mark.LParen x.sym ≡ b → paren_with one (x ∷ s) ≡ cond b (deeper one (λ l. closed l.action s) (x ∷ s)) (Err (unexpected (x ∷ s)))
  opens one x s b f = ap (λ b. cond b (deeper one (λ l. closed l.action s) (x ∷ s)) (Err (unexpected (x ∷ s)))) f

  closing_to : (x : Lexeme) → IsMark mark.LParen x → (us : List At) (a : Placed) → Closing e (IsAction d) us a → IsParen d e (at d x ∷ us) a
  closing_to x o us a (then_ _ _ _ h (mapped _ _ (token w c))) = is_paren w o h c

  good_action_closed : (l : Level) → IsGood d l → (n : ℕ) → Good n (closed l.action) (Closing e (IsAction d)) Any
  good_action_closed l g n = good_closed n e l.action (IsAction d) Any low (λ w rest c. tt) (g.action n)

  says_paren : (one : Option Level) → LevelOf one d → (toks : List Lexeme) → Says (paren_with one) (IsParen d e) toks
  says_paren one i [] = says_end (paren_with one) (IsParen d e) refl (_, _, some_paren d e (some_mark mark.LParen) refl)
  says_paren one i (x ∷ s) = by (is_mark mark.LParen x.sym) refl one i
    where
      by : (b : Bool) → is_mark mark.LParen x.sym ≡ b → (one : Option Level) → LevelOf one d → Says (paren_with one) (IsParen d e) (x ∷ s)
      by false f one i = says_refused (paren_with one) (IsParen d e) x s (λ s'. opens one x s' false f) (_, _, some_paren d e (some_mark mark.LParen) refl)
      by true f None i = says_beyond (paren_with None) (IsParen d e) cause.TooDeep (at d x) s (at d (some_mark mark.Retry) ∷ at e (some_mark mark.RParen) ∷ []) (retry, 0) tt (inl i) (some_paren d e x (is_mark-true mark.LParen x.sym f)) (λ s'. opens None x s' true f)
      by true f (Some l) i = says_token (paren_with (Some l)) (closed l.action) (IsParen d e) (Closing e (IsAction d)) (at d x) s (allowed d x i.low) (λ s'. opens (Some l) x s' true f) (closing_to x (is_mark-true mark.LParen x.sym f)) (each_says (closed l.action) (Closing e (IsAction d)) Any (good_action_closed l i) s)

  reads_paren : (one : Option Level) → LevelOf one d → (us : List At) (a : Placed) → IsParen d e us a → (rest : List Lexeme) → Reads (paren_with one) us a rest
  reads_paren None i us a (is_paren {x} w {us = vs} o h c) rest = reads_beyond (paren_with None) cause.TooDeep (at d x) (vs ++ (at e w ∷ [])) a rest (inl i) (only_deep d 0 x) (λ s. opens None x s true (is_mark-same mark.LParen x.sym o))
  reads_paren (Some l) i us a (is_paren {x} w {us = vs} o h c) rest =
      reads_step (paren_with (Some l)) (closed l.action) (at d x) (vs ++ (at e w ∷ [])) a rest (allowed d x i.low) (λ s. opens (Some l) x s true (is_mark-same mark.LParen x.sym o))
      (each_reads (closed l.action) (Closing e (IsAction d)) Any (good_action_closed l i) (vs ++ (at e w ∷ [])) a rest (then_ vs (at e w ∷ []) a h (mapped (at e w ∷ []) w (token w c))) tt)

  pub good_paren : (one : Option Level) → LevelOf one d → (n : ℕ) → Good n (paren_with one) (IsParen d e) Any
  good_paren one i n = record { says = λ toks l. says_paren one i toks; reads = λ us a rest l h f. reads_paren one i us a h rest; some = (_, _, some_paren d e (some_mark mark.LParen) refl) }

-- after the words that open a level, at depth d
module _ (d place : ℕ) where
  abbrev DoRest : Language Placed
  DoRest = Then (Token (suc d) (IsMark mark.LBrace)) (λ y. Then (IsBody (suc d)) (λ b. Mapped (λ w. (b, place)) (Token d (IsMark mark.RBrace))))

  no_semicolon : (w : Lexeme) (l : List Lexeme) → IsMark mark.RBrace w → NoSemicolon (w ∷ l)
  no_semicolon w l c = behind_mark mark.Semicolon w l false (ap (is_mark mark.Semicolon) c)

  good_block : (l : Level) → IsGood (suc d) l → (n : ℕ) → Good n (block l.body place) DoRest Any
  good_block l g n =
      let low = g.low in
      good_chain n (expect mark.LBrace) (λ y s. l.body s >>= λ b. expect mark.RBrace b.1 >>= λ w. Ok ((b.0, place), w.1)) (Token (suc d) (IsMark mark.LBrace)) (λ y. Then (IsBody (suc d)) (λ b. Mapped (λ w. (b, place)) (Token d (IsMark mark.RBrace)))) Any Any (good_expect (suc d) low mark.LBrace n)
      (λ y. good_chain n l.body (λ b s. expect mark.RBrace s >>= λ w. Ok ((b, place), w.1)) (IsBody (suc d)) (λ b. Mapped (λ w. (b, place)) (Token d (IsMark mark.RBrace))) NoSemicolon Any (g.body n)
      (λ b. good_map n (expect mark.RBrace) (λ w. (b, place)) (Token d (IsMark mark.RBrace)) Any (good_expect d (omega arith) mark.RBrace n))
      (λ b us t rest h f. map_token d (IsMark mark.RBrace) (λ w. (b, place)) us t h NoSemicolon no_semicolon rest))
      (λ y us t rest h f. tt)

  abbrev IfRest : Language Placed
  IfRest = Then (IsExpression widest (suc d)) (λ e. Then (Token (suc d) (IsMark mark.Then)) (λ y. Then (IsAction (suc d)) (λ a. Then (Token (suc d) (IsMark mark.Else)) (λ z. Mapped (λ b. (if_else e a.0 b.1 b.0, place)) (IsAction (suc d))))))

  good_if : (l : Level) → IsGood (suc d) l → (n : ℕ) → Good n (if_of l.expression l.action place) IfRest Any
  good_if l g n =
      good_chain n l.expression (λ e s. expect mark.Then s >>= λ y. l.action y.1 >>= λ a. expect mark.Else a.1 >>= λ z. l.action z.1 >>= λ b. Ok ((if_else e a.0.0 b.0.1 b.0.0, place), b.1)) (IsExpression widest (suc d)) (λ e. Then (Token (suc d) (IsMark mark.Then)) (λ y. Then (IsAction (suc d)) (λ a. Then (Token (suc d) (IsMark mark.Else)) (λ z. Mapped (λ b. (if_else e a.0 b.1 b.0, place)) (IsAction (suc d)))))) (Follows widest) Any (g.expression n)
      (λ e. good_chain n (expect mark.Then) (λ y s. l.action s >>= λ a. expect mark.Else a.1 >>= λ z. l.action z.1 >>= λ b. Ok ((if_else e a.0.0 b.0.1 b.0.0, place), b.1)) (Token (suc d) (IsMark mark.Then)) (λ y. Then (IsAction (suc d)) (λ a. Then (Token (suc d) (IsMark mark.Else)) (λ z. Mapped (λ b. (if_else e a.0 b.1 b.0, place)) (IsAction (suc d))))) Any Any (good_expect (suc d) g.low mark.Then n)
      (λ y. good_chain n l.action (λ a s. expect mark.Else s >>= λ z. l.action z.1 >>= λ b. Ok ((if_else e a.0 b.0.1 b.0.0, place), b.1)) (IsAction (suc d)) (λ a. Then (Token (suc d) (IsMark mark.Else)) (λ z. Mapped (λ b. (if_else e a.0 b.1 b.0, place)) (IsAction (suc d)))) Any Any (g.action n)
      (λ a. good_chain n (expect mark.Else) (λ z s. l.action s >>= λ b. Ok ((if_else e a.0 b.0.1 b.0.0, place), b.1)) (Token (suc d) (IsMark mark.Else)) (λ z. Mapped (λ b. (if_else e a.0 b.1 b.0, place)) (IsAction (suc d))) Any Any (good_expect (suc d) g.low mark.Else n)
      (λ z. good_map n l.action (λ b. (if_else e a.0 b.1 b.0, place)) (IsAction (suc d)) Any (g.action n))
      (λ z us t rest h f. tt))
      (λ a us t rest h f. tt))
      (λ y us t rest h f. tt))
      (λ e us t rest h f. then_token (suc d) (IsMark mark.Then) (λ y. Then (IsAction (suc d)) (λ a. Then (Token (suc d) (IsMark mark.Else)) (λ z. Mapped (λ b. (if_else e a.0 b.1 b.0, place)) (IsAction (suc d))))) us t h (Follows widest) (mark_follows mark.Then widest (omega arith) refl) rest)

  abbrev OrElseRest : Language Placed
  OrElseRest = Then (IsParen (suc (suc d)) (suc d)) (λ a. Mapped (λ b. (or_else a.0 b.1 b.0, place)) (IsParen (suc (suc d)) d))

  good_or_else : (l : Level) → IsGood (suc d) l → (n : ℕ) → Good n (or_else_of l.paren place) OrElseRest Any
  good_or_else l g n =
      let low = g.low in
      good_chain n l.paren (λ a s. l.paren s >>= λ b. Ok ((or_else a.0 b.0.1 b.0.0, place), b.1)) (IsParen (suc (suc d)) (suc d)) (λ a. Mapped (λ b. (or_else a.0 b.1 b.0, place)) (IsParen (suc (suc d)) d)) Any Any (g.paren (suc d) low n)
      (λ a. good_map n l.paren (λ b. (or_else a.0 b.1 b.0, place)) (IsParen (suc (suc d)) d) Any (g.paren d (omega arith) n))
      (λ a us t rest h f. tt)

  abbrev CatchRest : Language Placed
  CatchRest = Then (IsParen (suc (suc d)) (suc d)) (λ a. Then (Token (suc d) IsName) (λ y. Mapped (λ b. (catch a.0 (span_of y) b.1 b.0, place)) (IsParen (suc (suc d)) d)))

  good_catch : (l : Level) → IsGood (suc d) l → (n : ℕ) → Good n (catch_of l.paren place) CatchRest Any
  good_catch l g n =
      let low = g.low in
      good_chain n l.paren (λ a s. expect_name s >>= λ y. l.paren y.1 >>= λ b. Ok ((catch a.0 (span_of y.0) b.0.1 b.0.0, place), b.1)) (IsParen (suc (suc d)) (suc d)) (λ a. Then (Token (suc d) IsName) (λ y. Mapped (λ b. (catch a.0 (span_of y) b.1 b.0, place)) (IsParen (suc (suc d)) d))) Any Any (g.paren (suc d) low n)
      (λ a. good_chain n expect_name (λ y s. l.paren s >>= λ b. Ok ((catch a.0 (span_of y) b.0.1 b.0.0, place), b.1)) (Token (suc d) IsName) (λ y. Mapped (λ b. (catch a.0 (span_of y) b.1 b.0, place)) (IsParen (suc (suc d)) d)) Any Any (good_name (suc d) low n)
      (λ y. good_map n l.paren (λ b. (catch a.0 (span_of y) b.1 b.0, place)) (IsParen (suc (suc d)) d) Any (g.paren d (omega arith) n))
      (λ y us t rest h f. tt))
      (λ a us t rest h f. tt)

module _ (atom : Reader RawTerm) (one : Option Level) (d : ℕ) (low : d ≤ deepest) (good : (n : ℕ) → Good n atom (IsAtom d) Any) (i : LevelOf one (suc d)) where
  r : Reader Placed
  r = action_with atom one

  -- the words with one operand
  OneRest : (RawTerm → RawAct) → ℕ → Language Placed
  OneRest f place = Mapped (λ e. (f e, place)) (IsAtom d)

  good_one : (f : RawTerm → RawAct) (place n : ℕ) → Good n (one_operand atom f place) (OneRest f place) Any
  unfolding OneRest
  good_one f place n = good_map n atom (λ e. (f e, place)) (IsAtom d) Any (good n)

  TwoRest : ℕ → Language Placed
  TwoRest place = Then (IsAtom d) (λ v. Mapped (λ e. (write v e, place)) (IsAtom d))

  good_two : (place n : ℕ) → Good n (two_operands atom place) (TwoRest place) Any
  unfolding TwoRest
  good_two place n = good_chain n atom (λ v s. atom s >>= λ e. Ok ((write v e.0, place), e.1)) (IsAtom d) (λ v. Mapped (λ e. (write v e, place)) (IsAtom d)) Any Any (good n) (λ v. good_map n atom (λ e. (write v e, place)) (IsAtom d) Any (good n)) (λ v us t rest h f. tt)

  first : (q : TokenKind) (x : Lexeme) (s : List Lexeme) → x.sym ≡ q → r (x ∷ s) ≡ action_of atom one q x s
  unfolding r
  first q x s e = ap (λ q. action_of atom one q x s) e

  -- a word that opens a level
  module _ (x : Lexeme) (go : Level → Reader Placed) (L : Language Placed) (e : (s : List Lexeme) → r (x ∷ s) ≡ deeper one (λ l. go l s) (x ∷ s)) (g : (l : Level) → IsGood (suc d) l → (n : ℕ) → Good n (go l) L Any) where
    says_deeper : ((us : List At) (t : Placed) → L us t → IsAction d (at (suc d) x ∷ us) t) → (ws : List At) (t : Placed) → IsAction d (at (suc d) x ∷ ws) t → (s : List Lexeme) → Says r (IsAction d) (x ∷ s)
    says_deeper more ws t h s = by one i e
      where
        by : (o : Option Level) → LevelOf o (suc d) → ((s : List Lexeme) → r (x ∷ s) ≡ deeper o (λ l. go l s) (x ∷ s)) → Says r (IsAction d) (x ∷ s)
        by None j f = says_beyond r (IsAction d) cause.TooDeep (at (suc d) x) s ws t tt (inl j) h f
        by (Some l) j f = says_token r (go l) (IsAction d) L (at (suc d) x) s (allowed (suc d) x j.low) f more (each_says (go l) L Any (g l j) s)

    reads_deeper : (us : List At) (t : Placed) (rest : List Lexeme) → L us t → Reads r (at (suc d) x ∷ us) t rest
    reads_deeper us t rest h = by one i e
      where
        by : (o : Option Level) → LevelOf o (suc d) → ((s : List Lexeme) → r (x ∷ s) ≡ deeper o (λ l. go l s) (x ∷ s)) → Reads r (at (suc d) x ∷ us) t rest
        by None j f = reads_beyond r cause.TooDeep (at (suc d) x) us t rest (inl j) (only_deep (suc d) 0 x) f
        by (Some l) j f = reads_step r (go l) (at (suc d) x) us t rest (allowed (suc d) x j.low) f (each_reads (go l) L Any (g l j) us t rest h tt)

  do_to : (x : Lexeme) → IsMark mark.Do x → (us : List At) (t : Placed) → DoRest d x.start us t → IsAction d (at (suc d) x ∷ us) t
  do_to x p us t (then_ _ _ _ (token y q) (then_ _ _ b h (mapped _ _ (token w c)))) = is_do w p q h c

  if_to : (x : Lexeme) → IsMark mark.If x → (us : List At) (t : Placed) → IfRest d x.start us t → IsAction d (at (suc d) x ∷ us) t
  if_to x p us t (then_ _ _ e h (then_ _ _ _ (token y q) (then_ _ _ a j (then_ _ _ _ (token z c) (mapped _ b k))))) = is_if y z p h q j c k

  or_else_to : (x : Lexeme) → IsMark mark.OrElse x → (us : List At) (t : Placed) → OrElseRest d x.start us t → IsAction d (at (suc d) x ∷ us) t
  or_else_to x p us t (then_ _ _ a h (mapped _ b k)) = is_or_else p h k

  catch_to : (x : Lexeme) → IsMark mark.Catch x → (us : List At) (t : Placed) → CatchRest d x.start us t → IsAction d (at (suc d) x ∷ us) t
  catch_to x p us t (then_ _ _ a h (then_ _ _ _ (token y q) (mapped _ b k))) = is_catch y p h q k

  open_to : (x : Lexeme) → IsMark mark.LParen x → (us : List At) (t : Placed) → Closing d (IsAction (suc d)) us t → IsAction d (at (suc d) x ∷ us) t
  open_to x p us t (then_ _ _ a h (mapped _ _ (token w c))) = is_brackets (is_paren w p h c)

  good_open : (l : Level) → IsGood (suc d) l → (n : ℕ) → Good n (closed l.action) (Closing d (IsAction (suc d))) Any
  good_open l g n = good_closed n d l.action (IsAction (suc d)) Any low (λ w rest c. tt) (g.action n)

  two_to : (x : Lexeme) → IsMark mark.WriteTVar x → (us : List At) (t : Placed) → TwoRest x.start us t → IsAction d (at d x ∷ us) t
  unfolding TwoRest
  two_to x p us t (then_ _ _ v h (mapped _ e k)) = is_write p h k

  says_one_operand : (x : Lexeme) (f : RawTerm → RawAct) → ((s : List Lexeme) → r (x ∷ s) ≡ one_operand atom f x.start s) → ((us : List At) (e : RawTerm) → IsAtom d us e → IsAction d (at d x ∷ us) (f e, x.start)) → (s : List Lexeme) → Says r (IsAction d) (x ∷ s)
  unfolding OneRest
  says_one_operand x f e made s = says_token r (one_operand atom f x.start) (IsAction d) (OneRest f x.start) (at d x) s (allowed d x low) e more (each_says (one_operand atom f x.start) (OneRest f x.start) Any (good_one f x.start) s)
    where
      more : (us : List At) (t : Placed) → Mapped (λ e. (f e, x.start)) (IsAtom d) us t → IsAction d (at d x ∷ us) t
      more us t (mapped vs a h) = made vs a h

  says_marked : (m : Mark) (x : Lexeme) (s : List Lexeme) → x.sym ≡ tok.Mark m → Says r (IsAction d) (x ∷ s)
  says_marked mark.Do x s e =
      says_deeper x (λ l. block l.body x.start) (DoRest d x.start) (λ s. first (tok.Mark mark.Do) x s e) (good_block d x.start) (do_to x e)
      (at (suc d) (some_mark mark.LBrace) ∷ ((at (suc d) (some_mark mark.Retry) ∷ []) ++ (at d (some_mark mark.RBrace) ∷ []))) (retry, x.start) (is_do (some_mark mark.RBrace) e refl (is_last (some_action (suc d))) refl) s
  says_marked mark.If x s e =
      let c = some_expression widest (suc d) in
      says_deeper x (λ l. if_of l.expression l.action x.start) (IfRest d x.start) (λ s. first (tok.Mark mark.If) x s e) (good_if d x.start) (if_to x e)
      (c.0 ++ (at (suc d) (some_mark mark.Then) ∷ ((at (suc d) (some_mark mark.Retry) ∷ []) ++ (at (suc d) (some_mark mark.Else) ∷ at (suc d) (some_mark mark.Retry) ∷ [])))) (if_else c.1 retry 0 retry, x.start) (is_if (some_mark mark.Then) (some_mark mark.Else) e c.2 refl (some_action (suc d)) refl (some_action (suc d))) s
  says_marked mark.OrElse x s e =
      says_deeper x (λ l. or_else_of l.paren x.start) (OrElseRest d x.start) (λ s. first (tok.Mark mark.OrElse) x s e) (good_or_else d x.start) (or_else_to x e) _ _ (is_or_else e (some_paren (suc (suc d)) (suc d) (some_mark mark.LParen) refl) (some_paren (suc (suc d)) d (some_mark mark.LParen) refl)) s
  says_marked mark.Catch x s e =
      says_deeper x (λ l. catch_of l.paren x.start) (CatchRest d x.start) (λ s. first (tok.Mark mark.Catch) x s e) (good_catch d x.start) (catch_to x e) _ _ (is_catch some_name e (some_paren (suc (suc d)) (suc d) (some_mark mark.LParen) refl) refl (some_paren (suc (suc d)) d (some_mark mark.LParen) refl)) s
  says_marked mark.LParen x s e =
      says_deeper x (λ l. closed l.action) (Closing d (IsAction (suc d))) (λ s. first (tok.Mark mark.LParen) x s e) good_open (open_to x e) (at (suc d) (some_mark mark.Retry) ∷ at d (some_mark mark.RParen) ∷ []) (retry, 0) (is_brackets (some_paren (suc d) d x e)) s
  says_marked mark.Return x s e = says_one_operand x return (λ s. first (tok.Mark mark.Return) x s e) (λ us t h. is_return e h) s
  says_marked mark.ReadTVar x s e = says_one_operand x read (λ s. first (tok.Mark mark.ReadTVar) x s e) (λ us t h. is_read e h) s
  says_marked mark.NewTVar x s e = says_one_operand x make (λ s. first (tok.Mark mark.NewTVar) x s e) (λ us t h. is_make e h) s
  says_marked mark.Throw x s e = says_one_operand x throw (λ s. first (tok.Mark mark.Throw) x s e) (λ us t h. is_throw e h) s
  says_marked mark.WriteTVar x s e = says_token r (two_operands atom x.start) (IsAction d) (TwoRest x.start) (at d x) s (allowed d x low) (λ s. first (tok.Mark mark.WriteTVar) x s e) (two_to x e) (each_says (two_operands atom x.start) (TwoRest x.start) Any (good_two x.start) s)
  says_marked mark.Retry x s e = says_one r (IsAction d) (retry, x.start) (at d x) s (allowed d x low) (λ s. first (tok.Mark mark.Retry) x s e) (is_retry e)
  says_marked m x s e = says_refused r (IsAction d) x s (λ s. first (tok.Mark m) x s e) (_, _, some_action d)

  says_action : (toks : List Lexeme) → Says r (IsAction d) toks
  unfolding r
  says_action [] = says_end r (IsAction d) refl (_, _, some_action d)
  says_action (x ∷ s) = of x.sym refl
    where
      of : (q : TokenKind) → x.sym ≡ q → Says r (IsAction d) (x ∷ s)
      of (tok.Mark m) e = says_marked m x s e
      of (tok.Number n) e = says_refused r (IsAction d) x s (λ s. first (tok.Number n) x s e) (_, _, some_action d)
      of tok.Name e = says_refused r (IsAction d) x s (λ s. first tok.Name x s e) (_, _, some_action d)
      of tok.Other e = says_refused r (IsAction d) x s (λ s. first tok.Other x s e) (_, _, some_action d)

  reads_one : (x : Lexeme) (f : RawTerm → RawAct) → ((s : List Lexeme) → r (x ∷ s) ≡ one_operand atom f x.start s) → (us : List At) (e : RawTerm) → IsAtom d us e → (rest : List Lexeme) → Reads r (at d x ∷ us) (f e, x.start) rest
  unfolding OneRest
  reads_one x f q us e h rest = reads_step r (one_operand atom f x.start) (at d x) us (f e, x.start) rest (allowed d x low) q (each_reads (one_operand atom f x.start) (OneRest f x.start) Any (good_one f x.start) us (f e, x.start) rest (mapped us e h) tt)

  reads_action : (us : List At) (t : Placed) → IsAction d us t → (rest : List Lexeme) → Reads r us t rest
  unfolding TwoRest
  reads_action us t (is_do {x} {y} w {us = vs} {a} p q h c) rest =
      reads_deeper x (λ l. block l.body x.start) (DoRest d x.start) (λ s. first (tok.Mark mark.Do) x s p) (good_block d x.start) (at (suc d) y ∷ (vs ++ (at d w ∷ []))) t rest (then_ (at (suc d) y ∷ []) (vs ++ (at d w ∷ [])) y (token y q) (then_ vs (at d w ∷ []) a h (mapped (at d w ∷ []) w (token w c))))
  reads_action us t (is_if {x} y z {us = vs} {vs = ws} {ws = zs} {e} {a} {b} p h q j c k) rest =
      reads_deeper x (λ l. if_of l.expression l.action x.start) (IfRest d x.start) (λ s. first (tok.Mark mark.If) x s p) (good_if d x.start) (vs ++ (at (suc d) y ∷ (ws ++ (at (suc d) z ∷ zs)))) t rest
      (then_ vs (at (suc d) y ∷ (ws ++ (at (suc d) z ∷ zs))) e h (then_ (at (suc d) y ∷ []) (ws ++ (at (suc d) z ∷ zs)) y (token y q) (then_ ws (at (suc d) z ∷ zs) a j (then_ (at (suc d) z ∷ []) zs z (token z c) (mapped zs b k)))))
  reads_action us t (is_or_else {x} {us = vs} {vs = ws} {a} {b} p h k) rest =
      reads_deeper x (λ l. or_else_of l.paren x.start) (OrElseRest d x.start) (λ s. first (tok.Mark mark.OrElse) x s p) (good_or_else d x.start) (vs ++ ws) t rest (then_ vs ws a h (mapped ws b k))
  reads_action us t (is_catch {x} y {us = vs} {vs = ws} {a} {b} p h q k) rest =
      reads_deeper x (λ l. catch_of l.paren x.start) (CatchRest d x.start) (λ s. first (tok.Mark mark.Catch) x s p) (good_catch d x.start) (vs ++ (at (suc d) y ∷ ws)) t rest
      (then_ vs (at (suc d) y ∷ ws) a h (then_ (at (suc d) y ∷ []) ws y (token y q) (mapped ws b k)))
  reads_action us t (is_return {x} {us = vs} {e} p h) rest = reads_one x return (λ s. first (tok.Mark mark.Return) x s p) vs e h rest
  reads_action us t (is_read {x} {us = vs} {e} p h) rest = reads_one x read (λ s. first (tok.Mark mark.ReadTVar) x s p) vs e h rest
  reads_action us t (is_make {x} {us = vs} {e} p h) rest = reads_one x make (λ s. first (tok.Mark mark.NewTVar) x s p) vs e h rest
  reads_action us t (is_throw {x} {us = vs} {e} p h) rest = reads_one x throw (λ s. first (tok.Mark mark.Throw) x s p) vs e h rest
  reads_action us t (is_write {x} {us = vs} {vs = ws} {r = v} {e} p h k) rest =
      reads_step r (two_operands atom x.start) (at d x) (vs ++ ws) t rest (allowed d x low) (λ s. first (tok.Mark mark.WriteTVar) x s p) (each_reads (two_operands atom x.start) (TwoRest x.start) Any (good_two x.start) (vs ++ ws) t rest (then_ vs ws v h (mapped ws e k)) tt)
  reads_action us t (is_retry {x} p) rest = inl (first (tok.Mark mark.Retry) x rest p, (allowed d x low, tt))
  reads_action us t (is_brackets (is_paren {x} w {us = vs} {a} o h c)) rest =
      reads_deeper x (λ l. closed l.action) (Closing d (IsAction (suc d))) (λ s. first (tok.Mark mark.LParen) x s o) good_open (vs ++ (at d w ∷ [])) t rest (then_ vs (at d w ∷ []) a h (mapped (at d w ∷ []) w (token w c)))

  pub good_action_with : (n : ℕ) → Good n (action_with atom one) (IsAction d) Any
  unfolding r
  good_action_with n = record { says = λ toks l. says_action toks; reads = λ us t rest l h f. reads_action us t h rest; some = (_, _, some_action d) }

-- the level inside
level : (m d : ℕ) → d + m ≡ deepest → LevelOf (inside_act m) (suc d)
unfolding inside_act
level zero d e = omega arith
level (suc m) d e =
    let one = level m (suc d) (omega arith) in
    let action : (n : ℕ) → Good n (action_with (atom_at m) (inside_act m)) (IsAction (suc d)) Any = good_action_with (atom_at m) (inside_act m) (suc d) (omega arith) (good_atom m (suc d) (omega arith)) one in
    record {
      low = omega arith;
      expression = good_tier widest m (suc d) (omega arith);
      action = action;
      paren = λ e low. good_paren (suc (suc d)) e low (inside_act m) one;
      body = good_body (tier_at widest m) (action_with (atom_at m) (inside_act m)) (suc d) (omega arith) (good_tier widest m (suc d) (omega arith)) action;
    }

pub good_action : (m d : ℕ) → d + m ≡ deepest → (n : ℕ) → Good n (action_at m) (IsAction d) Any
unfolding action_at
good_action m d e n = good_action_with (atom_at m) (inside_act m) d (omega arith) (good_atom m d e) (level m d e) n

pub body_more : (m : ℕ) (toks : List Lexeme) → m ≤ deepest → body_at m toks ≡ body_turn (tier_at widest m) (action_at m) (body_at m) toks
unfolding body_at
body_more m toks h = body_more_over (tier_at widest m) (action_at m) (deepest - m) (omega arith) (good_tier widest m (deepest - m) (omega arith)) (good_action m (deepest - m) (omega arith)) toks
