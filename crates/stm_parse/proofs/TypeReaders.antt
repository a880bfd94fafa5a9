-- The readers of types, of what a variable holds at first, and of declarations are good.
use Rattle.std.proofs.Common.{◌≡◌, ℕ, zero, suc, ◌+◌, ◌≤◌, List, [], ◌∷◌, ◌++◌, refl, ap, ◌∙◌, arith, Option, Some, None, Ok, Bool, true, false, nat_lt, inl, inr}
use Rattle.std.proofs.lemmas.Bool.Decides.{nat_tests}
use Rattle.stm_terms.specs.declared.kinds.Ty.{Ty}
use Rattle.stm_terms.specs.declared.kinds.Base.TheVariants as base
use Rattle.stm_terms.specs.ParsedAst.{RawTerm}
use Rattle.stm_parse.specs.declared.token.Mark.{Mark}
use Rattle.stm_parse.specs.declared.token.Mark.TheVariants as mark
use Rattle.stm_parse.specs.declared.token.TokenKind.{TokenKind}
use Rattle.stm_parse.specs.declared.token.TokenKind.TheVariants as tok
use Rattle.stm_parse.specs.declared.token.Lexeme.{Lexeme}
use Rattle.stm_parse.specs.declared.token.ErrorKind.TheVariants as cause
use Rattle.stm_parse.specs.Terminals.{is_mark, IsMark}
use Rattle.stm_terms.specs.Limits.{most_refs}
use Rattle.stm_parse.specs.Grammar.{At, at, at_ref, span_of, erase, deepest, IsType, is_var, is_bare, IsBareType, is_int, is_bool, is_unit_type, is_bracketed_type, IsInit, is_number_init, is_negative_init, is_true_init, is_false_init, is_unit_init, is_name_init, DeclarationTree, IsDeclaration, is_declaration}
use Rattle.stm_parse.specs.Faults.{Language}
use Rattle.stm_parse.specs.Descent.{Reading, Reader, ◌>>=◌, accept, or_accepted, expect, expect_name, closed, deeper, refuse, init, tvar_type, bracketed_type, bare_of, bare_with, var_of, type_with, inside_type, bare_at, type_at, declaration_reader}
use Rattle.stm_parse.proofs.ReaderPromises.{plain-split, Says, Then, then_, Mapped, mapped, says_more, says_map, says_end, says_refused, says_beyond, says_token, says_one, says_same_first, says_same_end}
use Rattle.stm_parse.proofs.ReaderCorrect.{Reads, reads_same, reads_step, reads_map, reads_beyond, only_deep, Good, good_same, good_chain, good_map, good_expect, good_name, each_says, each_reads, is_mark-true, is_mark-same, IsName, Any, some_mark, Token, token, allowed}
use Rattle.stm_parse.proofs.ExpressionReaders.{Closing, good_closed}
use Rattle.stm_parse.proofs.OperandReaders.{Operand, of_number, of_negative, of_true, of_false, of_unit, of_name, of_bracketed, Behind, Inner, good_operand}
use Rattle.stm_parse.proofs.BodyReaders.{behind_mark}

some_type : (k d : ℕ) → IsBareType k d (at d (some_mark mark.Int) ∷ []) (record { base = base.Int; refs = 0 })
some_type k d = is_int refl

-- the first token of a type closes nothing
abbrev Starts : List At → Type 0
Starts us = (u : At) × (vs : List At) × (us ≡ u ∷ vs) × (is_mark mark.RParen u.lexeme.sym ≡ false)

bare_starts : {k d : ℕ} {us : List At} {t : Ty} → IsBareType k d us t → Starts us
bare_starts (is_int p) = (_, _, refl, ap (is_mark mark.RParen) p)
bare_starts (is_bool p) = (_, _, refl, ap (is_mark mark.RParen) p)
bare_starts (is_unit_type p c) = (_, _, refl, ap (is_mark mark.RParen) p)
bare_starts (is_bracketed_type w p h c) = (_, _, refl, ap (is_mark mark.RParen) p)

starts : {k d : ℕ} {us : List At} {t : Ty} → IsType k d us t → Starts us
starts (is_var p h) = (_, _, refl, ap (is_mark mark.RParen) p)
starts (is_bare h) = bare_starts h

-- the first token of a bare type is no TVar
no_var : {k d : ℕ} {us : List At} {t : Ty} → IsBareType k d us t → (rest : List Lexeme) → accept mark.TVar (erase us ++ rest) ≡ None
no_var (is_int {x} p) rest = behind_mark mark.TVar x rest false (ap (is_mark mark.TVar) p)
no_var (is_bool {x} p) rest = behind_mark mark.TVar x rest false (ap (is_mark mark.TVar) p)
no_var (is_unit_type {x} {w} p c) rest = behind_mark mark.TVar x (w ∷ rest) false (ap (is_mark mark.TVar) p)
no_var (is_bracketed_type {d} {x} w {us} p h c) rest = behind_mark mark.TVar x (erase (us ++ (at d w ∷ [])) ++ rest) false (ap (is_mark mark.TVar) p)

-- what reads a type inside brackets at depth d
abbrev Inside : ℕ → ℕ → Option (Reader Ty) → Type 0
Inside k d None = d ≡ deepest
Inside k d (Some r) = (suc d ≤ deepest) × ((n : ℕ) → Good n r (IsType k (suc d)) Any)

module _ (k d : ℕ) where
  -- after "("
  BehindOpen : Lexeme → Language Ty
  BehindOpen x us t = IsBareType k d (at (suc d) x ∷ us) t

  choice : (r : Reader Ty) (toks : List Lexeme) → Option (List Lexeme) → Reading Ty
  choice r toks o = or_accepted o (λ rest. Ok (record { base = base.Unit; refs = 0 }, rest)) (closed r toks)

  closing_to : (x : Lexeme) → IsMark mark.LParen x → (us : List At) (t : Ty) → Closing d (IsType k (suc d)) us t → BehindOpen x us t
  unfolding BehindOpen
  closing_to x o us t (then_ _ _ _ h (mapped _ _ (token w c))) = is_bracketed_type w o h c

  module _ (r : Reader Ty) (i : Inside k d (Some r)) where
    low : d ≤ deepest
    low = let j = i.0 in omega arith

    good_inner : (n : ℕ) → Good n (closed r) (Closing d (IsType k (suc d))) Any
    good_inner n = good_closed n d r (IsType k (suc d)) Any low (λ w rest c. tt) (i.1 n)

    says_bracketed : (x : Lexeme) → IsMark mark.LParen x → (toks : List Lexeme) → Says (bracketed_type r) (BehindOpen x) toks
    unfolding BehindOpen choice
    says_bracketed x o [] = says_same_end (bracketed_type r) (closed r) (BehindOpen x) refl (says_more (closed r) (Closing d (IsType k (suc d))) (BehindOpen x) [] (closing_to x o) (each_says (closed r) (Closing d (IsType k (suc d))) Any good_inner []))
    says_bracketed x o (y ∷ s) = by (is_mark mark.RParen y.sym) refl
      where
        by : (b : Bool) → is_mark mark.RParen y.sym ≡ b → Says (bracketed_type r) (BehindOpen x) (y ∷ s)
        by true e = says_one (bracketed_type r) (BehindOpen x) (record { base = base.Unit; refs = 0 }) (at d y) s (allowed d y low) (λ s'. ap (choice r (y ∷ s')) (behind_mark mark.RParen y s' true e)) (is_unit_type o (is_mark-true mark.RParen y.sym e))
        by false e =
            says_same_first (bracketed_type r) (closed r) (BehindOpen x) y s (λ s'. ap (choice r (y ∷ s')) (behind_mark mark.RParen y s' false e)) (says_more (closed r) (Closing d (IsType k (suc d))) (BehindOpen x) (y ∷ s) (closing_to x o) (each_says (closed r) (Closing d (IsType k (suc d))) Any good_inner (y ∷ s)))

    reads_unit : (w : Lexeme) (rest : List Lexeme) → IsMark mark.RParen w → bracketed_type r (w ∷ rest) ≡ Ok (record { base = base.Unit; refs = 0 }, rest)
    unfolding choice
    reads_unit w rest c = ap (choice r (w ∷ rest)) (behind_mark mark.RParen w rest true (is_mark-same mark.RParen w.sym c))

    reads_bracketed : (w : Lexeme) (us : List At) (t : Ty) (rest : List Lexeme) → IsType k (suc d) us t → IsMark mark.RParen w → Reads (bracketed_type r) (us ++ (at d w ∷ [])) t rest
    unfolding choice
    reads_bracketed w us t rest h c =
        let f = starts h in
        let l = erase (us ++ (at d w ∷ [])) ++ rest in
        let e : accept mark.RParen l ≡ None = ap (accept mark.RParen) (plain-split us (at d w ∷ []) rest) ∙ ap (λ l. accept mark.RParen (erase l ++ (w ∷ rest))) f.2 ∙ behind_mark mark.RParen f.0.lexeme (erase f.1 ++ (w ∷ rest)) false f.3 in
        reads_same (bracketed_type r) (closed r) (us ++ (at d w ∷ [])) t rest (ap (choice r l) e)
        (each_reads (closed r) (Closing d (IsType k (suc d))) Any good_inner (us ++ (at d w ∷ [])) t rest (then_ us (at d w ∷ []) t h (mapped (at d w ∷ []) w (token w c))) tt)

  module _ (inner : Option (Reader Ty)) (low : d ≤ deepest) (i : Inside k d inner) where
    first : (q : TokenKind) (x : Lexeme) (s : List Lexeme) → x.sym ≡ q → bare_with inner (x ∷ s) ≡ bare_of inner q x s
    first q x s e = ap (λ q. bare_of inner q x s) e

    says_open : (x : Lexeme) (s : List Lexeme) → IsMark mark.LParen x → Says (bare_with inner) (IsBareType k d) (x ∷ s)
    unfolding BehindOpen
    says_open x s e = by inner i (λ s. first (tok.Mark mark.LParen) x s e)
      where
        by : (o : Option (Reader Ty)) → Inside k d o → ((s : List Lexeme) → bare_with inner (x ∷ s) ≡ deeper o (λ r. bracketed_type r s) (x ∷ s)) → Says (bare_with inner) (IsBareType k d) (x ∷ s)
        by None j f = says_beyond (bare_with inner) (IsBareType k d) cause.TooDeep (at (suc d) x) s (at d (some_mark mark.RParen) ∷ []) (record { base = base.Unit; refs = 0 }) tt (inl (ap suc j)) (is_unit_type e refl) f
        by (Some r) j f = says_token (bare_with inner) (bracketed_type r) (IsBareType k d) (BehindOpen x) (at (suc d) x) s (allowed (suc d) x j.0) f (λ us t h. h) (says_bracketed r j x e s)

    says_marked : (m : Mark) (x : Lexeme) (s : List Lexeme) → x.sym ≡ tok.Mark m → Says (bare_with inner) (IsBareType k d) (x ∷ s)
    says_marked mark.Int x s e = says_one (bare_with inner) (IsBareType k d) (record { base = base.Int; refs = 0 }) (at d x) s (allowed d x low) (λ s. first (tok.Mark mark.Int) x s e) (is_int e)
    says_marked mark.Bool x s e = says_one (bare_with inner) (IsBareType k d) (record { base = base.Bool; refs = 0 }) (at d x) s (allowed d x low) (λ s. first (tok.Mark mark.Bool) x s e) (is_bool e)
    says_marked mark.LParen x s e = says_open x s e
    says_marked m x s e = says_refused (bare_with inner) (IsBareType k d) x s (λ s. first (tok.Mark m) x s e) (_, _, some_type k d)

    says_bare : (toks : List Lexeme) → Says (bare_with inner) (IsBareType k d) toks
    says_bare [] = says_end (bare_with inner) (IsBareType k d) refl (_, _, some_type k d)
    says_bare (x ∷ s) = of x.sym refl
      where
        of : (q : TokenKind) → x.sym ≡ q → Says (bare_with inner) (IsBareType k d) (x ∷ s)
        of (tok.Mark m) e = says_marked m x s e
        of (tok.Number n) e = says_refused (bare_with inner) (IsBareType k d) x s (λ s. first (tok.Number n) x s e) (_, _, some_type k d)
        of tok.Name e = says_refused (bare_with inner) (IsBareType k d) x s (λ s. first tok.Name x s e) (_, _, some_type k d)
        of tok.Other e = says_refused (bare_with inner) (IsBareType k d) x s (λ s. first tok.Other x s e) (_, _, some_type k d)

    reads_open : (x : Lexeme) (us : List At) (t : Ty) (rest : List Lexeme) → IsMark mark.LParen x → ((r : Reader Ty) → Inside k d (Some r) → Reads (bracketed_type r) us t rest) → Reads (bare_with inner) (at (suc d) x ∷ us) t rest
    reads_open x us t rest e h = by inner i (λ s. first (tok.Mark mark.LParen) x s e)
      where
        by : (o : Option (Reader Ty)) → Inside k d o → ((s : List Lexeme) → bare_with inner (x ∷ s) ≡ deeper o (λ r. bracketed_type r s) (x ∷ s)) → Reads (bare_with inner) (at (suc d) x ∷ us) t rest
        by None j f = reads_beyond (bare_with inner) cause.TooDeep (at (suc d) x) us t rest (inl (ap suc j)) (only_deep (suc d) 0 x) f
        by (Some r) j f = reads_step (bare_with inner) (bracketed_type r) (at (suc d) x) us t rest (allowed (suc d) x j.0) f (h r j)

    reads_bare : (us : List At) (t : Ty) → IsBareType k d us t → (rest : List Lexeme) → Reads (bare_with inner) us t rest
    reads_bare us t (is_int {x} p) rest = inl (first (tok.Mark mark.Int) x rest p, (allowed d x low, tt))
    reads_bare us t (is_bool {x} p) rest = inl (first (tok.Mark mark.Bool) x rest p, (allowed d x low, tt))
    reads_bare us t (is_unit_type {x} {w} p c) rest = reads_open x (at d w ∷ []) t rest p (λ r j. inl (reads_unit r j w rest c, (allowed d w low, tt)))
    reads_bare us t (is_bracketed_type {x} w {us = vs} p h c) rest = reads_open x (vs ++ (at d w ∷ [])) t rest p (λ r j. reads_bracketed r j w vs t rest h c)

    pub good_bare_with : (n : ℕ) → Good n (bare_with inner) (IsBareType k d) Any
    good_bare_with n = record { says = λ toks l. says_bare toks; reads = λ us t rest l h f. reads_bare us t h rest; some = (_, _, some_type k d) }

-- a TVar and what follows it
module _ (k d : ℕ) (low : d ≤ deepest) (few : k ≤ most_refs) (bare : ℕ → Reader Ty) (good : (j : ℕ) → j ≤ most_refs → (n : ℕ) → Good n (bare j) (IsBareType j d) Any) where
  typed : List Lexeme → Option (List Lexeme) → Reading Ty
  typed toks o = or_accepted o (var_of (nat_lt k most_refs) (bare (suc k)) toks) (bare k toks)

  VarRest : Lexeme → Language Ty
  VarRest x us t = IsType k d (at_ref d (suc k) x ∷ us) t

  at_var : (x : Lexeme) (s : List Lexeme) (b : Bool) → IsMark mark.TVar x → nat_lt k most_refs ≡ b → type_with k bare (x ∷ s) ≡ var_of b (bare (suc k)) (x ∷ s) s
  unfolding typed
  at_var x s b e f = ap (typed (x ∷ s)) (behind_mark mark.TVar x s true (is_mark-same mark.TVar x.sym e)) ∙ ap (λ b. var_of b (bare (suc k)) (x ∷ s) s) f

  at_bare : (toks : List Lexeme) → accept mark.TVar toks ≡ None → type_with k bare toks ≡ bare k toks
  unfolding typed
  at_bare toks e = ap (typed toks) e

  fewer : nat_lt k most_refs ≡ true → suc k ≤ most_refs
  fewer e = grind (arith, nat_tests)

  full : nat_lt k most_refs ≡ false → k ≡ most_refs
  full e = let f : most_refs ≤ k = grind (arith, nat_tests) in omega arith

  says_var : (x : Lexeme) (s : List Lexeme) → IsMark mark.TVar x → (b : Bool) → nat_lt k most_refs ≡ b → Says (type_with k bare) (IsType k d) (x ∷ s)
  unfolding VarRest
  says_var x s e false f =
      says_beyond (type_with k bare) (IsType k d) cause.TooDeep (at_ref d (suc k) x) s _ _ tt (inr (ap suc (full f))) (is_var e (some_type (suc k) d)) (λ s'. at_var x s' false e f)
  says_var x s e true f =
      says_token (type_with k bare) (λ s'. bare (suc k) s' >>= λ t. Ok (tvar_type t.0, t.1)) (IsType k d) (Mapped tvar_type (IsBareType (suc k) d)) (at_ref d (suc k) x) s (low, fewer f, omega arith) (λ s'. at_var x s' true e f) more
      (says_map (bare (suc k)) tvar_type (IsBareType (suc k) d) s (each_says (bare (suc k)) (IsBareType (suc k) d) Any (good (suc k) (fewer f)) s))
    where
      more : (us : List At) (t : Ty) → Mapped tvar_type (IsBareType (suc k) d) us t → IsType k d (at_ref d (suc k) x ∷ us) t
      more us t (mapped vs a h) = is_var e h

  to_type : (us : List At) (t : Ty) → IsBareType k d us t → IsType k d us t
  to_type us t h = is_bare h

  says_type : (toks : List Lexeme) → Says (type_with k bare) (IsType k d) toks
  says_type [] = says_same_end (type_with k bare) (bare k) (IsType k d) refl (says_more (bare k) (IsBareType k d) (IsType k d) [] to_type (each_says (bare k) (IsBareType k d) Any (good k few) []))
  says_type (x ∷ s) = by (is_mark mark.TVar x.sym) refl
    where
      by : (b : Bool) → is_mark mark.TVar x.sym ≡ b → Says (type_with k bare) (IsType k d) (x ∷ s)
      by true e = says_var x s (is_mark-true mark.TVar x.sym e) (nat_lt k most_refs) refl
      by false e = says_same_first (type_with k bare) (bare k) (IsType k d) x s (λ s'. at_bare (x ∷ s') (behind_mark mark.TVar x s' false e)) (says_more (bare k) (IsBareType k d) (IsType k d) (x ∷ s) to_type (each_says (bare k) (IsBareType k d) Any (good k few) (x ∷ s)))

  reads_type : (us : List At) (t : Ty) → IsType k d us t → (rest : List Lexeme) → Reads (type_with k bare) us t rest
  reads_type us t (is_var {x} {us = vs} {t = v} e h) rest = by (nat_lt k most_refs) refl
    where
      by : (b : Bool) → nat_lt k most_refs ≡ b → Reads (type_with k bare) (at_ref d (suc k) x ∷ vs) (tvar_type v) rest
      by false f = reads_beyond (type_with k bare) cause.TooDeep (at_ref d (suc k) x) vs (tvar_type v) rest (inr (ap suc (full f))) (only_deep d (suc k) x) (λ s'. at_var x s' false e f)
      by true f = reads_step (type_with k bare) (λ s'. bare (suc k) s' >>= λ t. Ok (tvar_type t.0, t.1)) (at_ref d (suc k) x) vs (tvar_type v) rest (low, fewer f, omega arith) (λ s'. at_var x s' true e f) (reads_map (bare (suc k)) tvar_type vs v rest (each_reads (bare (suc k)) (IsBareType (suc k) d) Any (good (suc k) (fewer f)) vs v rest h tt))
  reads_type us t (is_bare h) rest = reads_same (type_with k bare) (bare k) us t rest (at_bare (erase us ++ rest) (no_var h rest)) (each_reads (bare k) (IsBareType k d) Any (good k few) us t rest h tt)

  pub good_type_with : (n : ℕ) → Good n (type_with k bare) (IsType k d) Any
  good_type_with n = record { says = λ toks l. says_type toks; reads = λ us t rest l h f. reads_type us t h rest; some = (_, _, is_bare (some_type k d)) }

good_bare : (m d : ℕ) → d + m ≡ deepest → (k : ℕ) → k ≤ most_refs → (n : ℕ) → Good n (bare_at m k) (IsBareType k d) Any
unfolding bare_at inside_type
good_bare zero d e k few n = good_bare_with k d None (omega arith) (omega arith) n
good_bare (suc m) d e k few n =
    good_bare_with k d (Some (type_with k (λ j. bare_with (inside_type m j)))) (omega arith) (omega arith, good_type_with k (suc d) (omega arith) few (λ j. bare_with (inside_type m j)) (good_bare m (suc d) (omega arith))) n

pub good_type : (m d : ℕ) → d + m ≡ deepest → (k : ℕ) → k ≤ most_refs → (n : ℕ) → Good n (type_at m k) (IsType k d) Any
unfolding type_at
good_type m d e k few n = good_type_with k d (omega arith) few (bare_at m) (good_bare m d e) n

-- what a variable holds at first

-- no expression
abbrev Nothing : Language RawTerm
Nothing us t = ⊥

to_init : (us : List At) (e : RawTerm) → Operand 0 Nothing us e → IsInit us e
to_init us e (of_number p) = is_number_init p
to_init us e (of_negative o m p c) = is_negative_init o m p c
to_init us e (of_true p) = is_true_init p
to_init us e (of_false p) = is_false_init p
to_init us e (of_unit o c) = is_unit_init o c
to_init us e (of_name p) = is_name_init p
to_init us e (of_bracketed w vs o h c) = absurd h

from_init : (us : List At) (e : RawTerm) → IsInit us e → Operand 0 Nothing us e
from_init us e (is_number_init p) = of_number p
from_init us e (is_negative_init o m p c) = of_negative o m p c
from_init us e (is_true_init p) = of_true p
from_init us e (is_false_init p) = of_false p
from_init us e (is_unit_init o c) = of_unit o c
from_init us e (is_name_init p) = of_name p

refuses : (x : Lexeme) → IsMark mark.LParen x → (toks : List Lexeme) → Says (closed refuse) (Behind 0 Nothing x) toks
refuses x o [] = says_end (closed refuse) (Behind 0 Nothing x) refl (_, _, of_unit {w = some_mark mark.RParen} o refl)
refuses x o (y ∷ s) = says_refused (closed refuse) (Behind 0 Nothing x) y s (λ s'. refl) (_, _, of_unit {w = some_mark mark.RParen} o refl)

inner : Inner 0 Nothing refuse
inner = record {
  low = omega arith;
  closes = refuses;
  closed_reads = λ w us e rest c h. absurd h;
  no_close = λ us e h rest. absurd h;
  no_minus = λ us e h rest. absurd h;
}

pub good_init : (n : ℕ) → Good n init IsInit Any
good_init n = good_same n init (Operand 0 Nothing) IsInit Any to_init from_init (good_operand 0 Nothing (Some refuse) (omega arith) inner n)

-- declarations
abbrev Declaring : Language DeclarationTree
Declaring = Then (Token 0 IsName) (λ x. Then (Token 0 (IsMark mark.Colon)) (λ y. Then (IsType 0 0) (λ t. Then (Token 0 (IsMark mark.Equals)) (λ z. Mapped (λ e. record { name = span_of x; ty = t; init = e }) IsInit))))

to_declaration : (us : List At) (e : DeclarationTree) → Declaring us e → IsDeclaration us e
to_declaration us e (then_ _ _ _ (token x p) (then_ _ _ _ (token y q) (then_ _ _ t h (then_ _ _ _ (token z c) (mapped _ i g))))) = is_declaration z p q h c g

from_declaration : (us : List At) (e : DeclarationTree) → IsDeclaration us e → Declaring us e
from_declaration us e (is_declaration {x} {y} z {us = vs} {vs = ws} {t} {e = i} p q h c g) = then_ (at 0 x ∷ []) (at 0 y ∷ (vs ++ (at 0 z ∷ ws))) x (token x p) (then_ (at 0 y ∷ []) (vs ++ (at 0 z ∷ ws)) y (token y q) (then_ vs (at 0 z ∷ ws) t h (then_ (at 0 z ∷ []) ws z (token z c) (mapped ws i g))))

pub good_declaration : (n : ℕ) → Good n declaration_reader IsDeclaration Any
good_declaration n =
    good_same n declaration_reader Declaring IsDeclaration Any to_declaration from_declaration
    (good_chain n expect_name (λ x s. expect mark.Colon s >>= λ y. type_at deepest 0 y.1 >>= λ t. expect mark.Equals t.1 >>= λ z. init z.1 >>= λ e. Ok (record { name = span_of x; ty = t.0; init = e.0 }, e.1)) (Token 0 IsName) (λ x. Then (Token 0 (IsMark mark.Colon)) (λ y. Then (IsType 0 0) (λ t. Then (Token 0 (IsMark mark.Equals)) (λ z. Mapped (λ e. record { name = span_of x; ty = t; init = e }) IsInit)))) Any Any (good_name 0 (omega arith) n)
    (λ x. good_chain n (expect mark.Colon) (λ y s. type_at deepest 0 s >>= λ t. expect mark.Equals t.1 >>= λ z. init z.1 >>= λ e. Ok (record { name = span_of x; ty = t.0; init = e.0 }, e.1)) (Token 0 (IsMark mark.Colon)) (λ y. Then (IsType 0 0) (λ t. Then (Token 0 (IsMark mark.Equals)) (λ z. Mapped (λ e. record { name = span_of x; ty = t; init = e }) IsInit))) Any Any (good_expect 0 (omega arith) mark.Colon n)
    (λ y. good_chain n (type_at deepest 0) (λ t s. expect mark.Equals s >>= λ z. init z.1 >>= λ e. Ok (record { name = span_of x; ty = t; init = e.0 }, e.1)) (IsType 0 0) (λ t. Then (Token 0 (IsMark mark.Equals)) (λ z. Mapped (λ e. record { name = span_of x; ty = t; init = e }) IsInit)) Any Any (good_type 64 0 (omega arith) 0 (omega arith) n)
    (λ t. good_chain n (expect mark.Equals) (λ z s. init s >>= λ e. Ok (record { name = span_of x; ty = t; init = e.0 }, e.1)) (Token 0 (IsMark mark.Equals)) (λ z. Mapped (λ e. record { name = span_of x; ty = t; init = e }) IsInit) Any Any (good_expect 0 (omega arith) mark.Equals n)
    (λ z. good_map n init (λ e. record { name = span_of x; ty = t; init = e }) IsInit Any (good_init n))
    (λ z us t rest h f. tt))
    (λ t us v rest h f. tt))
    (λ y us v rest h f. tt))
    (λ x us v rest h f. tt))
