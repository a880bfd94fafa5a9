-- The readers of operands and expressions are good at each level.
use Rattle.std.proofs.Common.{◌≡◌, ℕ, zero, suc, ◌+◌, ◌-◌, ◌≤◌, List, [], ◌∷◌, ◌++◌, refl, ap, ◌∙◌, arith, Some, None, Ok, false, cond}
use Rattle.stm_terms.specs.ParsedAst.{RawTerm}
use Rattle.stm_parse.specs.declared.token.Mark.{Mark}
use Rattle.stm_parse.specs.declared.token.Mark.TheVariants as mark
use Rattle.stm_parse.specs.declared.token.Lexeme.{Lexeme}
use Rattle.stm_parse.specs.Terminals.{is_mark, IsMark}
use Rattle.stm_parse.specs.Grammar.{At, at, erase, deepest, widest, grouping_of, operator_mark, operator_of, IsAtom, is_number, is_negative, is_true, is_false, is_unit, is_name, is_bracketed, IsExpression, is_atom, is_tier}
use Rattle.stm_parse.specs.Faults.{Language}
use Rattle.stm_parse.specs.Descent.{Reader, ◌>>=◌, accept, expect, closed, atom_with, one_level_inside, atom_at, tier_with, tier_at, tail_at, tail_turn, op_next}
use Rattle.stm_parse.proofs.ReaderPromises.{Then, then_, Mapped, mapped, says_more}
use Rattle.stm_parse.proofs.ReaderCorrect.{Good, good_same, good_chain, good_map, good_expect, each_says, each_reads, Any, Token, token}
use Rattle.stm_parse.proofs.PrecedenceTiers.{Follows, tier_of, good_step, tail_more as tail_more_over}
use Rattle.stm_parse.proofs.OperandReaders.{Operand, of_number, of_negative, of_true, of_false, of_unit, of_name, of_bracketed, Behind, Inner, good_operand}

-- and then ")"
abbrev pub Closing : {A : Type 0} → ℕ → Language A → Language A
Closing d L = Then L (λ e. Mapped (λ c. e) (Token d (IsMark mark.RParen)))

closing_follows : {A : Type 0} (d : ℕ) (F : List Lexeme → Type 0) → ((w : Lexeme) (rest : List Lexeme) → IsMark mark.RParen w → F (w ∷ rest)) → (e : A) (us : List At) (b : A) → Mapped (λ c. e) (Token d (IsMark mark.RParen)) us b → (rest : List Lexeme) → F (erase us ++ rest)
closing_follows d F f e us b (mapped vs a (token w c)) rest = f w rest c

pub good_closed : {A : Type 0} (n d : ℕ) (r : Reader A) (L : Language A) (F : List Lexeme → Type 0) → d ≤ deepest → ((w : Lexeme) (rest : List Lexeme) → IsMark mark.RParen w → F (w ∷ rest)) → Good n r L F → Good n (closed r) (Closing d L) Any
good_closed n d r L F low f g =
    good_chain n r (λ e s. expect mark.RParen s >>= λ c. Ok (e, c.1)) L (λ e. Mapped (λ c. e) (Token d (IsMark mark.RParen))) F Any g (λ e. good_map n (expect mark.RParen) (λ c. e) (Token d (IsMark mark.RParen)) Any (good_expect d low mark.RParen n)) (λ e us b rest h k. closing_follows d F f e us b h rest)

-- a mark that is no operator may follow an expression
pub mark_follows : (m : Mark) (k : ℕ) → k ≤ widest → operator_mark m ≡ None → (w : Lexeme) (rest : List Lexeme) → IsMark m w → Follows k (w ∷ rest)
mark_follows m k l e w rest c = let f : operator_of w.sym ≡ None = ap operator_of c ∙ e in let g : tier_of (operator_of w.sym) ≡ 5 = ap tier_of f in omega arith

-- the first token of an expression closes nothing, and is no minus
abbrev Starts : List At → Type 0
Starts us = (u : At) × (vs : List At) × (us ≡ u ∷ vs) × (is_mark mark.RParen u.lexeme.sym ≡ false) × (is_mark mark.Minus u.lexeme.sym ≡ false)

atom_starts : {d : ℕ} {us : List At} {e : RawTerm} → IsAtom d us e → Starts us
atom_starts (is_number e) = (_, _, refl, ap (is_mark mark.RParen) e, ap (is_mark mark.Minus) e)
atom_starts (is_negative o m e c) = (_, _, refl, ap (is_mark mark.RParen) o, ap (is_mark mark.Minus) o)
atom_starts (is_true e) = (_, _, refl, ap (is_mark mark.RParen) e, ap (is_mark mark.Minus) e)
atom_starts (is_false e) = (_, _, refl, ap (is_mark mark.RParen) e, ap (is_mark mark.Minus) e)
atom_starts (is_unit o c) = (_, _, refl, ap (is_mark mark.RParen) o, ap (is_mark mark.Minus) o)
atom_starts (is_name e) = (_, _, refl, ap (is_mark mark.RParen) e, ap (is_mark mark.Minus) e)
atom_starts (is_bracketed w o h c) = (_, _, refl, ap (is_mark mark.RParen) o, ap (is_mark mark.Minus) o)

starts : {k d : ℕ} {us : List At} {e : RawTerm} → IsExpression k d us e → Starts us
starts (is_atom a) = atom_starts a
starts (is_tier {vs} h t) = let f = starts h in (f.0, f.1 ++ vs, ap (λ l. l ++ vs) f.2, f.3, f.4)

not_behind : (m : Mark) (us : List At) (u : At) (vs : List At) (rest : List Lexeme) → us ≡ u ∷ vs → is_mark m u.lexeme.sym ≡ false → accept m (erase us ++ rest) ≡ None
not_behind m us u vs rest e f = ap (λ l. accept m (erase l ++ rest)) e ∙ ap (λ b. cond b (Some (erase vs ++ rest)) None) f

-- operands with expressions in brackets
to_atom : (d : ℕ) (us : List At) (e : RawTerm) → Operand d (IsExpression widest (suc d)) us e → IsAtom d us e
to_atom d us e (of_number p) = is_number p
to_atom d us e (of_negative o m p c) = is_negative o m p c
to_atom d us e (of_true p) = is_true p
to_atom d us e (of_false p) = is_false p
to_atom d us e (of_unit o c) = is_unit o c
to_atom d us e (of_name p) = is_name p
to_atom d us e (of_bracketed w vs o h c) = is_bracketed w o h c

from_atom : (d : ℕ) (us : List At) (e : RawTerm) → IsAtom d us e → Operand d (IsExpression widest (suc d)) us e
from_atom d us e (is_number p) = of_number p
from_atom d us e (is_negative o m p c) = of_negative o m p c
from_atom d us e (is_true p) = of_true p
from_atom d us e (is_false p) = of_false p
from_atom d us e (is_unit o c) = of_unit o c
from_atom d us e (is_name p) = of_name p
from_atom d us e (is_bracketed w {us = vs} o h c) = of_bracketed w vs o h c

-- a good reader of expressions may stand inside brackets
module _ (d : ℕ) (low : suc d ≤ deepest) (r : Reader RawTerm) (good : (n : ℕ) → Good n r (IsExpression widest (suc d)) (Follows widest)) where
  closed_good : (n : ℕ) → Good n (closed r) (Closing d (IsExpression widest (suc d))) Any
  closed_good n = good_closed n d r (IsExpression widest (suc d)) (Follows widest) (omega arith) (mark_follows mark.RParen widest (omega arith) refl) (good n)

  behind_to : (x : Lexeme) → IsMark mark.LParen x → (us : List At) (e : RawTerm) → Closing d (IsExpression widest (suc d)) us e → Behind d (IsExpression widest (suc d)) x us e
  behind_to x o us e (then_ vs ws a h (mapped us2 b (token w c))) = of_bracketed w vs o h c

  pub inner : Inner d (IsExpression widest (suc d)) r
  inner = record {
    low = low;
    closes = λ x o toks. says_more (closed r) (Closing d (IsExpression widest (suc d))) (Behind d (IsExpression widest (suc d)) x) toks (behind_to x o) (each_says (closed r) (Closing d (IsExpression widest (suc d))) Any closed_good toks);
    closed_reads = λ w us e rest c h. each_reads (closed r) (Closing d (IsExpression widest (suc d))) Any closed_good (us ++ (at d w ∷ [])) e rest (then_ us (at d w ∷ []) e h (mapped (at d w ∷ []) w (token w c))) tt;
    no_close = λ us e h rest. let f = starts h in not_behind mark.RParen us f.0 f.1 rest f.2 f.3;
    no_minus = λ us e h rest. let f = starts h in not_behind mark.Minus us f.0 f.1 rest f.2 f.4;
  }

to_tier : (d : ℕ) (us : List At) (e : RawTerm) → IsAtom d us e → IsExpression zero d us e
to_tier d us e h = is_atom h

from_tier : (d : ℕ) (us : List At) (e : RawTerm) → IsExpression zero d us e → IsAtom d us e
from_tier d us e (is_atom h) = h

pub good_any : {A : Type 0} (n : ℕ) (r : Reader A) (L : Language A) (F : List Lexeme → Type 0) → Good n r L Any → Good n r L F
good_any n r L F g = record { says = g.says; reads = λ us a rest l h f. g.reads us a rest l h tt; some = g.some }

good_tier_with : (d : ℕ) → d ≤ deepest → (atom : Reader RawTerm) → ((n : ℕ) → Good n atom (IsAtom d) Any) → (k n : ℕ) → Good n (tier_with k atom) (IsExpression k d) (Follows k)
unfolding tier_with
good_tier_with d low atom g zero n = good_same n atom (IsAtom d) (IsExpression zero d) (Follows zero) (to_tier d) (from_tier d) (good_any n atom (IsAtom d) (Follows zero) (g n))
good_tier_with d low atom g (suc k) n = good_step k d low (tier_with k atom) (good_tier_with d low atom g k) n

pub good_atom : (m d : ℕ) → d + m ≡ deepest → (n : ℕ) → Good n (atom_at m) (IsAtom d) Any
unfolding atom_at one_level_inside
good_atom zero d e n = good_same n (atom_with None) (Operand d (IsExpression widest (suc d))) (IsAtom d) Any (to_atom d) (from_atom d) (good_operand d (IsExpression widest (suc d)) None (omega arith) (omega arith) n)
good_atom (suc m) d e n =
    let r : Reader RawTerm = tier_with widest (atom_with (one_level_inside m)) in
    good_same n (atom_with (Some r)) (Operand d (IsExpression widest (suc d))) (IsAtom d) Any (to_atom d) (from_atom d)
    (good_operand d (IsExpression widest (suc d)) (Some r) (omega arith) (inner d (omega arith) r (λ j. good_tier_with (suc d) (omega arith) (atom_at m) (good_atom m (suc d) (omega arith)) widest j)) n)

pub good_tier : (k m d : ℕ) → d + m ≡ deepest → (n : ℕ) → Good n (tier_at k m) (IsExpression k d) (Follows k)
unfolding tier_at
good_tier k m d e n = good_tier_with d (omega arith) (atom_at m) (good_atom m d e) k n

pub tail_more : (k m : ℕ) (left : RawTerm) (toks : List Lexeme) → m ≤ deepest → tail_at k m left toks ≡ tail_turn (grouping_of k) (tier_at k m) (tier_at (suc k) m) (tail_at k m) left toks (op_next k toks)
unfolding tail_at tier_at tier_with
tail_more k m left toks h = tail_more_over k (deepest - m) (omega arith) (tier_at k m) (good_tier k m (deepest - m) (omega arith)) left toks
