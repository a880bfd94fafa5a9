-- The reader of the statements of a do is good, over good readers of actions and expressions.
use Rattle.std.proofs.Common.{◌≡◌, ℕ, zero, suc, ◌+◌, ◌<◌, ◌≤◌, List, [], ◌∷◌, ◌++◌, length, append-nil, refl, sym, ap, ◌∙◌, subst, arith, Option, Some, None, Ok, Bool, true, false, cond}
use Rattle.stm_terms.specs.declared.raw.Span.{Span}
use Rattle.stm_terms.specs.ParsedAst.{RawTerm, RawAct, bind, let_in, seq}
use Rattle.stm_parse.specs.declared.token.Mark.{Mark}
use Rattle.stm_parse.specs.declared.token.Mark.TheVariants as mark
use Rattle.stm_parse.specs.declared.token.Lexeme.{Lexeme}
use Rattle.stm_parse.specs.Terminals.{is_mark, IsMark}
use Rattle.stm_parse.specs.Grammar.{span_of, At, at, erase, deepest, widest, Placed, IsExpression, IsAction, IsBody, is_do, is_if, is_or_else, is_catch, is_return, is_read, is_write, is_make, is_throw, is_retry, is_brackets, is_paren, is_bind, is_let, is_seq, is_last}
use Rattle.stm_parse.specs.Faults.{Language}
use Rattle.stm_parse.specs.Descent.{Reader, ◌>>=◌, accept, expect, expect_name, is_name_kind, bound, let_bound, after_action, sequence, body_turn, bodies, body_from}
use Rattle.stm_parse.proofs.ReaderPromises.{Says, Some_text, Then, then_, Mapped, mapped, says_more, says_map, says_end, says_stop, says_token, says_same_first}
use Rattle.stm_parse.proofs.ReaderCorrect.{Reads, reads_same, reads_step, reads_map, reads_stop, Good, good_chain, good_map, good_expect, good_name, is_mark-true, is_name-true, is_mark-same, IsName, Any, Token, token, shorter, from_below, allowed}
use Rattle.stm_parse.proofs.PrecedenceTiers.{Follows, under}
use Rattle.stm_parse.proofs.ExpressionReaders.{mark_follows}

-- a token comes first
pub then_token : {B : Type 0} (d : ℕ) (P : Lexeme → Type 0) (M : Lexeme → Language B) (us : List At) (b : B) → Then (Token d P) M us b → (F : List Lexeme → Type 0) → ((w : Lexeme) (l : List Lexeme) → P w → F (w ∷ l)) → (rest : List Lexeme) → F (erase us ++ rest)
then_token d P M us b (then_ vs ws a (token w p) h) F f rest = f w _ p

pub map_token : {B : Type 0} (d : ℕ) (P : Lexeme → Type 0) (g : Lexeme → B) (us : List At) (b : B) → Mapped g (Token d P) us b → (F : List Lexeme → Type 0) → ((w : Lexeme) (l : List Lexeme) → P w → F (w ∷ l)) → (rest : List Lexeme) → F (erase us ++ rest)
map_token d P g us b (mapped vs a (token w p)) F f rest = f w _ p

-- no semicolon is next
abbrev pub NoSemicolon : List Lexeme → Type 0
NoSemicolon rest = accept mark.Semicolon rest ≡ None

pub behind_mark : (m : Mark) (x : Lexeme) (s : List Lexeme) (b : Bool) → is_mark m x.sym ≡ b → accept m (x ∷ s) ≡ cond b (Some s) None
behind_mark m x s b e = ap (λ b. cond b (Some s) None) e

pub behind_shorter : (m : Mark) (toks rest : List Lexeme) → accept m toks ≡ Some rest → length rest < length toks
behind_shorter m [] rest e = absurd cc
behind_shorter m (x ∷ s) rest e = of (is_mark m x.sym) e
  where
    of : (b : Bool) → cond b (Some s) None ≡ Some rest → length rest < suc (length s)
    of true e = let p : s ≡ rest = cc in omega (arith, ap length p)
    of false e = absurd cc

-- no action begins with a name or let
abbrev Starts : List At → Type 0
Starts us = (u : At) × (vs : List At) × (us ≡ u ∷ vs) × (is_name_kind u.lexeme.sym ≡ false) × (is_mark mark.Let u.lexeme.sym ≡ false)

starts : {d : ℕ} {us : List At} {a : Placed} → IsAction d us a → Starts us
starts (is_do w p q b c) = (_, _, refl, ap is_name_kind p, ap (is_mark mark.Let) p)
starts (is_if y z p e q a r b) = (_, _, refl, ap is_name_kind p, ap (is_mark mark.Let) p)
starts (is_or_else p a b) = (_, _, refl, ap is_name_kind p, ap (is_mark mark.Let) p)
starts (is_catch y p a q b) = (_, _, refl, ap is_name_kind p, ap (is_mark mark.Let) p)
starts (is_return p a) = (_, _, refl, ap is_name_kind p, ap (is_mark mark.Let) p)
starts (is_read p a) = (_, _, refl, ap is_name_kind p, ap (is_mark mark.Let) p)
starts (is_write p a b) = (_, _, refl, ap is_name_kind p, ap (is_mark mark.Let) p)
starts (is_make p a) = (_, _, refl, ap is_name_kind p, ap (is_mark mark.Let) p)
starts (is_throw p a) = (_, _, refl, ap is_name_kind p, ap (is_mark mark.Let) p)
starts (is_retry p) = (_, _, refl, ap is_name_kind p, ap (is_mark mark.Let) p)
starts (is_brackets (is_paren w p h c)) = (_, _, refl, ap is_name_kind p, ap (is_mark mark.Let) p)

-- after an action
data After (d : ℕ) (a : Placed) : List At → RawAct → Type 0 where
  after_none : After d a [] a.0
  after_some : {w : Lexeme} (vs : List At) {b : RawAct} → IsMark mark.Semicolon w → IsBody d vs b → After d a (at d w ∷ vs) (seq a.0 b)

module _ (expression : Reader RawTerm) (action : Reader Placed) (d : ℕ) (low : d ≤ deepest) (ge : (n : ℕ) → Good n expression (IsExpression widest d) (Follows widest)) (ga : (n : ℕ) → Good n action (IsAction d) Any) where
  Agree : ℕ → Reader RawAct → Reader RawAct → Type 0
  Agree n f g = (s : List Lexeme) → length s < n → f s ≡ g s

  action_shorter : (toks : List Lexeme) (x : Placed × List Lexeme) → action toks ≡ Ok x → length x.1 ≤ length toks
  action_shorter = shorter action (IsAction d) Any ga

  expression_shorter : (toks : List Lexeme) (x : RawTerm × List Lexeme) → expression toks ≡ Ok x → length x.1 ≤ length toks
  expression_shorter = shorter expression (IsExpression widest d) (Follows widest) ge

  expect_shorter : (m : Mark) (toks : List Lexeme) (x : Lexeme × List Lexeme) → expect m toks ≡ Ok x → length x.1 ≤ length toks
  expect_shorter m = shorter (expect m) (Token d (IsMark m)) Any (good_expect d low m)

  name_shorter : (toks : List Lexeme) (x : Lexeme × List Lexeme) → expect_name toks ≡ Ok x → length x.1 ≤ length toks
  name_shorter = shorter expect_name (Token d IsName) Any (good_name d low)

  bound_same : (f g : Reader RawAct) (span : Span) (toks : List Lexeme) → Agree (suc (length toks)) f g → bound action f span toks ≡ bound action g span toks
  unfolding Agree
  bound_same f g span toks e =
      under (λ x. action x.1 >>= λ a. expect mark.Semicolon a.1 >>= λ s. f s.1 >>= λ b. Ok (bind span a.0.1 a.0.0 b.0, b.1)) (λ x. action x.1 >>= λ a. expect mark.Semicolon a.1 >>= λ s. g s.1 >>= λ b. Ok (bind span a.0.1 a.0.0 b.0, b.1)) (expect mark.Arrow toks) (λ x p. let l1 = expect_shorter mark.Arrow toks x p in
      under (λ a. expect mark.Semicolon a.1 >>= λ s. f s.1 >>= λ b. Ok (bind span a.0.1 a.0.0 b.0, b.1)) (λ a. expect mark.Semicolon a.1 >>= λ s. g s.1 >>= λ b. Ok (bind span a.0.1 a.0.0 b.0, b.1)) (action x.1) (λ a q. let l2 = action_shorter x.1 a q in
      under (λ s. f s.1 >>= λ b. Ok (bind span a.0.1 a.0.0 b.0, b.1)) (λ s. g s.1 >>= λ b. Ok (bind span a.0.1 a.0.0 b.0, b.1)) (expect mark.Semicolon a.1) (λ s r. let l3 = expect_shorter mark.Semicolon a.1 s r in
      ap (λ y. y >>= λ b. Ok (bind span a.0.1 a.0.0 b.0, b.1)) (e s.1 (omega arith)))))

  let_same : (f g : Reader RawAct) (toks : List Lexeme) → Agree (suc (length toks)) f g → let_bound expression f toks ≡ let_bound expression g toks
  unfolding Agree
  let_same f g toks h =
      under (λ x. expect mark.Equals x.1 >>= λ z. expression z.1 >>= λ e. expect mark.Semicolon e.1 >>= λ s. f s.1 >>= λ b. Ok (let_in (span_of x.0) e.0 b.0, b.1)) (λ x. expect mark.Equals x.1 >>= λ z. expression z.1 >>= λ e. expect mark.Semicolon e.1 >>= λ s. g s.1 >>= λ b. Ok (let_in (span_of x.0) e.0 b.0, b.1)) (expect_name toks) (λ x p. let l0 = name_shorter toks x p in
      under (λ z. expression z.1 >>= λ e. expect mark.Semicolon e.1 >>= λ s. f s.1 >>= λ b. Ok (let_in (span_of x.0) e.0 b.0, b.1)) (λ z. expression z.1 >>= λ e. expect mark.Semicolon e.1 >>= λ s. g s.1 >>= λ b. Ok (let_in (span_of x.0) e.0 b.0, b.1)) (expect mark.Equals x.1) (λ z p. let l1 = expect_shorter mark.Equals x.1 z p in
      under (λ e. expect mark.Semicolon e.1 >>= λ s. f s.1 >>= λ b. Ok (let_in (span_of x.0) e.0 b.0, b.1)) (λ e. expect mark.Semicolon e.1 >>= λ s. g s.1 >>= λ b. Ok (let_in (span_of x.0) e.0 b.0, b.1)) (expression z.1) (λ e q. let l2 = expression_shorter z.1 e q in
      under (λ s. f s.1 >>= λ b. Ok (let_in (span_of x.0) e.0 b.0, b.1)) (λ s. g s.1 >>= λ b. Ok (let_in (span_of x.0) e.0 b.0, b.1)) (expect mark.Semicolon e.1) (λ s r. let l3 = expect_shorter mark.Semicolon e.1 s r in
      ap (λ y. y >>= λ b. Ok (let_in (span_of x.0) e.0 b.0, b.1)) (h s.1 (omega arith))))))

  after_same : (f g : Reader RawAct) (a : RawAct) (toks : List Lexeme) (n : ℕ) → length toks ≤ n → Agree n f g → (o : Option (List Lexeme)) → accept mark.Semicolon toks ≡ o → after_action f a toks o ≡ after_action g a toks o
  unfolding Agree
  after_same f g a toks n le e None q = refl
  after_same f g a toks n le e (Some rest) q = let lt = behind_shorter mark.Semicolon toks rest q in ap (λ y. y >>= λ b. Ok (seq a b.0, b.1)) (e rest (omega arith))

  sequence_same : (f g : Reader RawAct) (toks : List Lexeme) → Agree (length toks) f g → sequence action f toks ≡ sequence action g toks
  sequence_same f g toks e =
      under (λ a. after_action f a.0.0 a.1 (accept mark.Semicolon a.1)) (λ a. after_action g a.0.0 a.1 (accept mark.Semicolon a.1)) (action toks) (λ a q. after_same f g a.0.0 a.1 (length toks) (action_shorter toks a q) e (accept mark.Semicolon a.1) refl)

  turn_same : (f g : Reader RawAct) (toks : List Lexeme) → Agree (length toks) f g → body_turn expression action f toks ≡ body_turn expression action g toks
  turn_same f g [] e = refl
  turn_same f g (x ∷ s) e = of (is_name_kind x.sym) (is_mark mark.Let x.sym)
    where
      of : (b c : Bool) → cond b (bound action f (span_of x) s) (cond c (let_bound expression f s) (sequence action f (x ∷ s))) ≡ cond b (bound action g (span_of x) s) (cond c (let_bound expression g s) (sequence action g (x ∷ s)))
      of true c = bound_same f g (span_of x) s e
      of false true = let_same f g s e
      of false false = sequence_same f g (x ∷ s) e

  bodies_clock : (k n : ℕ) (toks : List Lexeme) → length toks ≤ k → length toks ≤ n → bodies k expression action toks ≡ bodies n expression action toks
  unfolding bodies Agree
  bodies_clock zero zero toks a b = refl
  bodies_clock zero (suc n) [] a b = refl
  bodies_clock zero (suc n) (x ∷ s) a b = absurd (omega arith)
  bodies_clock (suc k) zero [] a b = refl
  bodies_clock (suc k) zero (x ∷ s) a b = absurd (omega arith)
  bodies_clock (suc k) (suc n) toks a b = turn_same (bodies k expression action) (bodies n expression action) toks (λ s l. let m : length s < length toks = l in bodies_clock k n s (omega arith) (omega arith))

  pub body_more : (toks : List Lexeme) → body_from expression action toks ≡ body_turn expression action (body_from expression action) toks
  unfolding bodies body_from Agree
  body_more [] = refl
  body_more (x ∷ s) = turn_same (bodies (length s) expression action) (body_from expression action) (x ∷ s) (λ r l. let m : length r < suc (length s) = l in bodies_clock (length s) (length r) r (omega arith) (omega arith))

  next : Reader RawAct
  next = body_from expression action

  -- what follows a name that is bound
  abbrev BoundRest : Span → Language RawAct
  BoundRest span = Then (Token d (IsMark mark.Arrow)) (λ y. Then (IsAction d) (λ a. Then (Token d (IsMark mark.Semicolon)) (λ w. Mapped (bind span a.1 a.0) (IsBody d))))

  good_bound : (n : ℕ) (span : Span) → Good n next (IsBody d) NoSemicolon → Good n (bound action next span) (BoundRest span) NoSemicolon
  good_bound n span g =
      good_chain n (expect mark.Arrow) (λ y s. action s >>= λ a. expect mark.Semicolon a.1 >>= λ w. next w.1 >>= λ b. Ok (bind span a.0.1 a.0.0 b.0, b.1)) (Token d (IsMark mark.Arrow)) (λ y. Then (IsAction d) (λ a. Then (Token d (IsMark mark.Semicolon)) (λ w. Mapped (bind span a.1 a.0) (IsBody d)))) Any NoSemicolon (good_expect d low mark.Arrow n)
      (λ y. good_chain n action (λ a s. expect mark.Semicolon s >>= λ w. next w.1 >>= λ b. Ok (bind span a.1 a.0 b.0, b.1)) (IsAction d) (λ a. Then (Token d (IsMark mark.Semicolon)) (λ w. Mapped (bind span a.1 a.0) (IsBody d))) Any NoSemicolon (ga n)
      (λ a. good_chain n (expect mark.Semicolon) (λ w s. next s >>= λ b. Ok (bind span a.1 a.0 b.0, b.1)) (Token d (IsMark mark.Semicolon)) (λ w. Mapped (bind span a.1 a.0) (IsBody d)) Any NoSemicolon (good_expect d low mark.Semicolon n)
      (λ w. good_map n next (bind span a.1 a.0) (IsBody d) NoSemicolon g)
      (λ w us b rest h f. tt))
      (λ a us b rest h f. tt))
      (λ y us b rest h f. tt)

  -- what follows let
  abbrev LetRest : Language RawAct
  LetRest = Then (Token d IsName) (λ x. Then (Token d (IsMark mark.Equals)) (λ z. Then (IsExpression widest d) (λ e. Then (Token d (IsMark mark.Semicolon)) (λ w. Mapped (let_in (span_of x) e) (IsBody d)))))

  good_let : (n : ℕ) → Good n next (IsBody d) NoSemicolon → Good n (let_bound expression next) LetRest NoSemicolon
  good_let n g =
      good_chain n expect_name (λ x s. expect mark.Equals s >>= λ z. expression z.1 >>= λ e. expect mark.Semicolon e.1 >>= λ w. next w.1 >>= λ b. Ok (let_in (span_of x) e.0 b.0, b.1)) (Token d IsName) (λ x. Then (Token d (IsMark mark.Equals)) (λ z. Then (IsExpression widest d) (λ e. Then (Token d (IsMark mark.Semicolon)) (λ w. Mapped (let_in (span_of x) e) (IsBody d))))) Any NoSemicolon (good_name d low n)
      (λ x. good_chain n (expect mark.Equals) (λ z s. expression s >>= λ e. expect mark.Semicolon e.1 >>= λ w. next w.1 >>= λ b. Ok (let_in (span_of x) e.0 b.0, b.1)) (Token d (IsMark mark.Equals)) (λ z. Then (IsExpression widest d) (λ e. Then (Token d (IsMark mark.Semicolon)) (λ w. Mapped (let_in (span_of x) e) (IsBody d)))) Any NoSemicolon (good_expect d low mark.Equals n)
      (λ z. good_chain n expression (λ e s. expect mark.Semicolon s >>= λ w. next w.1 >>= λ b. Ok (let_in (span_of x) e b.0, b.1)) (IsExpression widest d) (λ e. Then (Token d (IsMark mark.Semicolon)) (λ w. Mapped (let_in (span_of x) e) (IsBody d))) (Follows widest) NoSemicolon (ge n)
      (λ e. good_chain n (expect mark.Semicolon) (λ w s. next s >>= λ b. Ok (let_in (span_of x) e b.0, b.1)) (Token d (IsMark mark.Semicolon)) (λ w. Mapped (let_in (span_of x) e) (IsBody d)) Any NoSemicolon (good_expect d low mark.Semicolon n)
      (λ w. good_map n next (let_in (span_of x) e) (IsBody d) NoSemicolon g)
      (λ w us b rest h f. tt))
      (λ e us b rest h f. then_token d (IsMark mark.Semicolon) (λ w. Mapped (let_in (span_of x) e) (IsBody d)) us b h (Follows widest) (mark_follows mark.Semicolon widest (omega arith) refl) rest))
      (λ z us b rest h f. tt))
      (λ x us b rest h f. tt)

  after_reader : Placed → Reader RawAct
  after_reader a s = after_action next a.0 s (accept mark.Semicolon s)

  says_after : (a : Placed) (toks : List Lexeme) → ((s : List Lexeme) → length s < length toks → Says next (IsBody d) s) → Says (after_reader a) (After d a) toks
  unfolding after_reader
  says_after a [] g = says_stop (after_reader a) (After d a) a.0 [] after_none refl (λ x s s' e. absurd cc)
  says_after a (x ∷ s) g = by (is_mark mark.Semicolon x.sym) refl
    where
      by : (b : Bool) → is_mark mark.Semicolon x.sym ≡ b → Says (after_reader a) (After d a) (x ∷ s)
      by true e =
          says_token (after_reader a) (λ s'. next s' >>= λ b. Ok (seq a.0 b.0, b.1)) (After d a) (Mapped (seq a.0) (IsBody d)) (at d x) s (allowed d x low) (λ s'. ap (after_action next a.0 (x ∷ s')) (behind_mark mark.Semicolon x s' true e)) more (says_map next (seq a.0) (IsBody d) s (g s (omega arith)))
        where
          more : (us : List At) (t : RawAct) → Mapped (seq a.0) (IsBody d) us t → After d a (at d x ∷ us) t
          more us t (mapped vs b h) = after_some us (is_mark-true mark.Semicolon x.sym e) h
      by false e =
          says_stop (after_reader a) (After d a) a.0 (x ∷ s) after_none (ap (after_action next a.0 (x ∷ s)) (behind_mark mark.Semicolon x s false e))
          (λ y s0 s' q. let p : x ≡ y = cc in ap (after_action next a.0 (y ∷ s')) (behind_mark mark.Semicolon y s' false (ap (λ z. is_mark mark.Semicolon z.sym) (sym p) ∙ e)))

  reads_after : (a : Placed) (us : List At) (t : RawAct) → After d a us t → (rest : List Lexeme) → NoSemicolon rest → ((vs : List At) (b : RawAct) → length vs < length us → IsBody d vs b → Reads next vs b rest) → Reads (after_reader a) us t rest
  unfolding after_reader
  reads_after a us t after_none rest f g = reads_stop (after_reader a) a.0 rest (ap (after_action next a.0 rest) f)
  reads_after a us t (after_some {w} vs {b} c h) rest f g =
      reads_step (after_reader a) (λ s. next s >>= λ b. Ok (seq a.0 b.0, b.1)) (at d w) vs (seq a.0 b) rest (allowed d w low) (λ s. ap (after_action next a.0 (w ∷ s)) (behind_mark mark.Semicolon w s true (is_mark-same mark.Semicolon w.sym c)))
      (reads_map next (seq a.0) vs b rest (g vs b (omega arith) h))

  Sequence : Language RawAct
  Sequence = Then (IsAction d) (After d)

  good_sequence : (n : ℕ) → ((m : ℕ) → m < n → Good m next (IsBody d) NoSemicolon) → Good n (sequence action next) Sequence NoSemicolon
  unfolding after_reader Sequence
  good_sequence n rec =
      good_chain n action after_reader (IsAction d) (After d) Any NoSemicolon (ga n)
      (λ a. record {
        says = λ toks l. says_after a toks (λ s lt. (rec (length s) (omega arith)).says s (omega arith));
        reads = λ us t rest l h f. reads_after a us t h rest f (λ vs b lt g. (rec (length vs + length rest) (omega arith)).reads vs b rest (omega arith) g f);
        some = ([], a.0, after_none);
      })
      (λ a us b rest h f. tt)

  sequence_to : (us : List At) (t : RawAct) → Sequence us t → IsBody d us t
  unfolding Sequence
  sequence_to us t (then_ vs ws a h after_none) = subst (λ l. IsBody d l a.0) (sym (append-nil vs)) (is_last h)
  sequence_to us t (then_ vs ws a h (after_some xs c b)) = is_seq _ h c b

  some_body : Some_text (IsBody d)
  some_body = let a = (ga 0).some in (a.0, a.1.0, is_last a.2)

  Body : ℕ → Type 0
  Body n = Good n next (IsBody d) NoSemicolon

  turns : (x : Lexeme) (s : List Lexeme) (b c : Bool) → is_name_kind x.sym ≡ b → is_mark mark.Let x.sym ≡ c → next (x ∷ s) ≡ cond b (bound action next (span_of x) s) (cond c (let_bound expression next s) (sequence action next (x ∷ s)))
  unfolding next
  turns x s b c e f =
      body_more (x ∷ s) ∙ ap (λ b. cond b (bound action next (span_of x) s) (cond (is_mark mark.Let x.sym) (let_bound expression next s) (sequence action next (x ∷ s)))) e ∙ ap (λ c. cond b (bound action next (span_of x) s) (cond c (let_bound expression next s) (sequence action next (x ∷ s)))) f

  module _ (n : ℕ) (rec : (m : ℕ) → m < n → Body m) where
    says_body : (toks : List Lexeme) → length toks ≤ n → Says next (IsBody d) toks
    unfolding Body next
    says_body [] l = says_end next (IsBody d) (body_more []) some_body
    says_body (x ∷ s) l = by (is_name_kind x.sym) (is_mark mark.Let x.sym) refl refl
      where
        bound_to : IsName x → (us : List At) (t : RawAct) → BoundRest (span_of x) us t → IsBody d (at d x ∷ us) t
        bound_to p us t (then_ _ _ _ (token y q) (then_ _ _ a h (then_ _ _ _ (token w c) (mapped _ b g)))) = is_bind w p q h c g

        let_to : IsMark mark.Let x → (us : List At) (t : RawAct) → LetRest us t → IsBody d (at d x ∷ us) t
        let_to p us t (then_ _ _ _ (token y q) (then_ _ _ _ (token z r) (then_ _ _ e h (then_ _ _ _ (token w c) (mapped _ b g))))) = is_let w p q r h c g

        by : (b c : Bool) → is_name_kind x.sym ≡ b → is_mark mark.Let x.sym ≡ c → Says next (IsBody d) (x ∷ s)
        by true c e f =
            says_token next (bound action next (span_of x)) (IsBody d) (BoundRest (span_of x)) (at d x) s (allowed d x low) (λ s'. turns x s' true c e f) (bound_to (is_name-true x.sym e)) ((good_bound (length s) (span_of x) (rec (length s) (omega arith))).says s (omega arith))
        by false true e f =
            says_token next (let_bound expression next) (IsBody d) LetRest (at d x) s (allowed d x low) (λ s'. turns x s' false true e f) (let_to (is_mark-true mark.Let x.sym f)) ((good_let (length s) (rec (length s) (omega arith))).says s (omega arith))
        by false false e f =
            says_same_first next (sequence action next) (IsBody d) x s (λ s'. turns x s' false false e f) (says_more (sequence action next) Sequence (IsBody d) (x ∷ s) sequence_to ((good_sequence n rec).says (x ∷ s) l))

    starts_same : (us : List At) (rest : List Lexeme) → Starts us → next (erase us ++ rest) ≡ sequence action next (erase us ++ rest)
    starts_same us rest f =
        ap (λ l. next (erase l ++ rest)) f.2 ∙ turns f.0.lexeme (erase f.1 ++ rest) false false f.3 f.4 ∙ sym (ap (λ l. sequence action next (erase l ++ rest)) f.2)

    reads_sequence : (us vs : List At) (a : Placed) (t : RawAct) (rest : List Lexeme) → length (us ++ vs) + length rest ≤ n → IsAction d us a → After d a vs t → NoSemicolon rest → Reads next (us ++ vs) t rest
    unfolding Sequence Body
    reads_sequence us vs a t rest l h g f =
        let s = starts h in
        reads_same next (sequence action next) (us ++ vs) t rest (starts_same (us ++ vs) rest (s.0, s.1 ++ vs, ap (λ l. l ++ vs) s.2, s.3, s.4)) ((good_sequence n rec).reads (us ++ vs) t rest l (then_ us vs a h g) f)

    reads_body : (us : List At) (t : RawAct) → IsBody d us t → (rest : List Lexeme) → length us + length rest ≤ n → NoSemicolon rest → Reads next us t rest
    unfolding Body
    reads_body us t (is_bind {x} {y} w {us = vs} {vs = ws} {a} {b} p q h c g) rest l f =
        let list = at d y ∷ (vs ++ (at d w ∷ ws)) in
        reads_step next (bound action next (span_of x)) (at d x) list t rest (allowed d x low) (λ s. turns x s true (is_mark mark.Let x.sym) (ap is_name_kind p) refl)
        ((good_bound (length list + length rest) (span_of x) (rec (length list + length rest) (omega arith))).reads list t rest (omega arith) (then_ (at d y ∷ []) (vs ++ (at d w ∷ ws)) y (token y q) (then_ vs (at d w ∷ ws) a h (then_ (at d w ∷ []) ws w (token w c) (mapped ws b g)))) f)
    reads_body us t (is_let {x} {y} {z} w {us = vs} {vs = ws} {e} {b} p q r h c g) rest l f =
        let list = at d y ∷ at d z ∷ (vs ++ (at d w ∷ ws)) in
        reads_step next (let_bound expression next) (at d x) list t rest (allowed d x low) (λ s. turns x s false true (ap is_name_kind p) (is_mark-same mark.Let x.sym p))
        ((good_let (length list + length rest) (rec (length list + length rest) (omega arith))).reads list t rest (omega arith) (then_ (at d y ∷ []) (at d z ∷ (vs ++ (at d w ∷ ws))) y (token y q) (then_ (at d z ∷ []) (vs ++ (at d w ∷ ws)) z (token z r) (then_ vs (at d w ∷ ws) e h (then_ (at d w ∷ []) ws w (token w c) (mapped ws b g))))) f)
    reads_body us t (is_seq {d} w {us = vs} {vs = ws} {a} {b} h c g) rest l f = reads_sequence vs (at d w ∷ ws) a t rest l h (after_some ws c g) f
    reads_body us t (is_last {d} {us = vs} {a} h) rest l f =
        let e = append-nil vs in
        subst (λ l. Reads next l a.0 rest) e (reads_sequence vs [] a a.0 rest (omega (arith, ap length e)) h after_none f)

  pub good_body : (n : ℕ) → Good n (body_from expression action) (IsBody d) NoSemicolon
  unfolding Body next
  good_body = from_below Body (λ n rec. record { says = says_body n rec; reads = λ us t rest l h f. reads_body n rec us t h rest l f; some = some_body })
