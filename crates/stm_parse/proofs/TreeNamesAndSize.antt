-- In the tree of a text each name is a name of the text, and there are no more actions than tokens.
use Rattle.std.proofs.Common.{◌≡◌, ℕ, suc, ◌≤◌, ◌^◌, List, [], ◌∷◌, ◌++◌, length, length-append, refl, ap, subst, arith, slice_range, Option, Some, None, Bool, true, false, cond}
use Rattle.std.specs.Prelude.{⊤}
use Rattle.stm_terms.specs.Names.{is_name_text}
use Rattle.stm_terms.specs.ParsedAst.{RawTerm, RawAct, IsSpan, NamesWithin, SpansWithin, actions}
use Rattle.stm_terms.specs.ParsedBlock.{IsNameOf, TermNamesAre, NamesAreOfText}
use Rattle.stm_parse.specs.declared.token.Mark.{Mark}
use Rattle.stm_parse.specs.declared.token.TokenKind.TheVariants as tok
use Rattle.stm_parse.specs.declared.token.Lexeme.{Lexeme}
use Rattle.stm_parse.specs.declared.tokenizer.TokenClass.{TokenClass}
use Rattle.stm_parse.specs.declared.tokenizer.TokenClass.TheVariants as kind
use Rattle.stm_parse.specs.declared.tokenizer.Token.{Token}
use Rattle.stm_parse.specs.Bytes.{symbol_mark, number_of_digits}
use Rattle.stm_parse.specs.Tokenizer.{SpansRise}
use Rattle.stm_parse.specs.Lexing.{word_mark, mark_or, number_or, token_kind_of, lexemes_of}
use Rattle.stm_parse.specs.Faults.{IsText}
use Rattle.stm_parse.specs.ParseResult.{most_tokens}
use Rattle.stm_parse.proofs.ReaderPromises.{plain-length}
use Rattle.stm_parse.specs.NameTokens.{NameSpanIsName, NamesOf}
use Rattle.stm_parse.specs.Grammar.{At, at, erase, Placed, IsAtom, is_number, is_negative, is_true, is_false, is_unit, is_name, is_bracketed, IsExpression, is_atom, is_tier, IsTail, no_more, to_left, not_chained, to_right, IsAction, is_do, is_if, is_or_else, is_catch, is_return, is_read, is_write, is_make, is_throw, is_retry, is_brackets, IsParen, is_paren, IsBody, is_bind, is_let, is_seq, is_last, IsBlock, IsInit, is_number_init, is_negative_init, is_true_init, is_false_init, is_unit_init, is_name_init, DeclarationTree, IsDeclaration, is_declaration}

-- each name is one of the text
abbrev pub Named : List ℕ → List At → Type 0
Named text [] = ⊤
Named text (u ∷ us) = NameSpanIsName text u.lexeme × Named text us

named_front : (text : List ℕ) (us vs : List At) → Named text (us ++ vs) → Named text us
named_front text [] vs h = tt
named_front text (u ∷ us) vs h = (h.0, named_front text us vs h.1)

named_back : (text : List ℕ) (us vs : List At) → Named text (us ++ vs) → Named text vs
named_back text [] vs h = h
named_back text (u ∷ us) vs h = named_back text us vs h.1

sym_named : (k : TokenClass) (w : List ℕ) → token_kind_of k w ≡ tok.Name → is_name_text w ≡ true
sym_named kind.Word w e = by (word_mark w) e
  where
    test : (b : Bool) → is_name_text w ≡ b → cond b tok.Name tok.Other ≡ tok.Name → is_name_text w ≡ true
    test true p e = p
    test false p e = absurd cc

    by : (o : Option Mark) → mark_or o (cond (is_name_text w) tok.Name tok.Other) ≡ tok.Name → is_name_text w ≡ true
    by None e = test (is_name_text w) refl e
    by (Some m) e = absurd cc
sym_named kind.Number w e = by (number_of_digits w) e
  where
    by : (o : Option ℕ) → number_or o ≡ tok.Name → is_name_text w ≡ true
    by None e = absurd cc
    by (Some n) e = absurd cc
sym_named kind.Symbol w e = by (symbol_mark w) e
  where
    by : (o : Option Mark) → mark_or o tok.Other ≡ tok.Name → is_name_text w ≡ true
    by None e = absurd cc
    by (Some m) e = absurd cc

pub names_of : (text : List ℕ) (p : ℕ) (ts : List Token) → SpansRise p (length text) ts → NamesOf text (lexemes_of text ts)
names_of text p [] h = tt
names_of text p (t ∷ ts) h = let l = h.1 in (λ s. ((omega arith, h.2), sym_named t.kind (slice_range text t.start t.end) s), names_of text t.end ts h.3)

pub named : (text : List ℕ) (us : List At) → NamesOf text (erase us) → Named text us
named text [] h = tt
named text (u ∷ us) h = (h.0, named text us h.1)

abbrev KeptTerm : List ℕ → RawTerm → Type 0
KeptTerm text e = NamesWithin (length text) e × TermNamesAre text e

abbrev pub Kept : List ℕ → ℕ → RawAct → Type 0
Kept text n a = SpansWithin (length text) a × NamesAreOfText text a × (actions a ≤ n)

mutual
  kept_atom : (text : List ℕ) {d : ℕ} {us : List At} {e : RawTerm} → IsAtom d us e → Named text us → KeptTerm text e
  kept_atom text (is_number p) h = (tt, tt)
  kept_atom text (is_negative o m p c) h = (tt, tt)
  kept_atom text (is_true p) h = (tt, tt)
  kept_atom text (is_false p) h = (tt, tt)
  kept_atom text (is_unit o c) h = (tt, tt)
  kept_atom text (is_name p) h = let k = h.0 p in (k.0, k.1)
  kept_atom text (is_bracketed w {us} o g c) h = kept_expression text g (named_front text us _ h.1)

  kept_expression : (text : List ℕ) {k d : ℕ} {us : List At} {e : RawTerm} → IsExpression k d us e → Named text us → KeptTerm text e
  kept_expression text (is_atom a) h = kept_atom text a h
  kept_expression text (is_tier {us} {vs} a t) h = kept_tail text t (kept_expression text a (named_front text us vs h)) (named_back text us vs h)

  kept_tail : (text : List ℕ) {k d : ℕ} {a : RawTerm} {us : List At} {e : RawTerm} → IsTail k d a us e → KeptTerm text a → Named text us → KeptTerm text e
  kept_tail text no_more p h = p
  kept_tail text (to_left {us} {vs} g q b t) p h = let r = kept_expression text b (named_front text us vs h.1) in kept_tail text t ((p.0, r.0), (p.1, r.1)) (named_back text us vs h.1)
  kept_tail text (not_chained g q b) p h = let r = kept_expression text b h.1 in ((p.0, r.0), (p.1, r.1))
  kept_tail text (to_right g q b) p h = let r = kept_expression text b h.1 in ((p.0, r.0), (p.1, r.1))

mutual
  kept_action : (text : List ℕ) {d : ℕ} {us : List At} {a : Placed} → IsAction d us a → Named text us → Kept text (length us) a.0
  kept_action text (is_do {d} w {us} p q b c) h =
      let r = kept_body text b (named_front text us (at d w ∷ []) h.1.1) in
      let s = length-append us (at d w ∷ []) in
      let m = r.2 in
      (r.0, r.1, omega arith)
  kept_action text (is_if {d} y z {us} {vs} {ws} p e q a s b) h =
      let h1 = named_back text us (at (suc d) y ∷ (vs ++ (at (suc d) z ∷ ws))) h.1 in
      let h2 = named_back text vs (at (suc d) z ∷ ws) h1.1 in
      let r = kept_expression text e (named_front text us (at (suc d) y ∷ (vs ++ (at (suc d) z ∷ ws))) h.1) in
      let k = kept_action text a (named_front text vs (at (suc d) z ∷ ws) h1.1) in
      let l = kept_action text b h2.1 in
      let m1 = k.2 in
      let m2 = l.2 in
      let s1 = length-append us (at (suc d) y ∷ (vs ++ (at (suc d) z ∷ ws))) in
      let s2 = length-append vs (at (suc d) z ∷ ws) in
      ((r.0, k.0, l.0), (r.1, k.1, l.1), omega arith)
  kept_action text (is_or_else {us} {vs} p a b) h =
      let k = kept_paren text a (named_front text us vs h.1) in
      let l = kept_paren text b (named_back text us vs h.1) in
      let m1 = k.2 in
      let m2 = l.2 in
      let s = length-append us vs in
      ((k.0, l.0), (k.1, l.1), omega arith)
  kept_action text (is_catch {d} y {us} {vs} p a q b) h =
      let h1 = named_back text us (at (suc d) y ∷ vs) h.1 in
      let k = kept_paren text a (named_front text us (at (suc d) y ∷ vs) h.1) in
      let n = h1.0 q in
      let l = kept_paren text b h1.1 in
      let m1 = k.2 in
      let m2 = l.2 in
      let s = length-append us (at (suc d) y ∷ vs) in
      ((k.0, n.0, l.0), (k.1, n.1, l.1), omega arith)
  kept_action text (is_return p a) h = let r = kept_atom text a h.1 in (r.0, r.1, omega arith)
  kept_action text (is_read p a) h = let r = kept_atom text a h.1 in (r.0, r.1, omega arith)
  kept_action text (is_write {us} {vs} p a b) h =
      let r = kept_atom text a (named_front text us vs h.1) in
      let s = kept_atom text b (named_back text us vs h.1) in
      ((r.0, s.0), (r.1, s.1), omega arith)
  kept_action text (is_make p a) h = let r = kept_atom text a h.1 in (r.0, r.1, omega arith)
  kept_action text (is_throw p a) h = let r = kept_atom text a h.1 in (r.0, r.1, omega arith)
  kept_action text (is_retry p) h = (tt, tt, omega arith)
  kept_action text (is_brackets b) h = kept_paren text b h

  kept_paren : (text : List ℕ) {d e : ℕ} {us : List At} {a : Placed} → IsParen d e us a → Named text us → Kept text (length us) a.0
  kept_paren text (is_paren {e} w {us} o a c) h =
      let r = kept_action text a (named_front text us (at e w ∷ []) h.1) in
      let m = r.2 in
      let s = length-append us (at e w ∷ []) in
      (r.0, r.1, omega arith)

  kept_body : (text : List ℕ) {d : ℕ} {us : List At} {a : RawAct} → IsBody d us a → Named text us → Kept text (length us) a
  kept_body text (is_bind {d} w {us} {vs} p q a c b) h =
      let n = h.0 p in
      let h1 = named_back text us (at d w ∷ vs) h.1.1 in
      let k = kept_action text a (named_front text us (at d w ∷ vs) h.1.1) in
      let l = kept_body text b h1.1 in
      let m1 = k.2 in
      let m2 = l.2 in
      let s = length-append us (at d w ∷ vs) in
      ((n.0, k.0, l.0), (n.1, k.1, l.1), omega arith)
  kept_body text (is_let {d} w {us} {vs} p q r e c b) h =
      let n = h.1.0 q in
      let h1 = named_back text us (at d w ∷ vs) h.1.1.1 in
      let k = kept_expression text e (named_front text us (at d w ∷ vs) h.1.1.1) in
      let l = kept_body text b h1.1 in
      let m = l.2 in
      let s = length-append us (at d w ∷ vs) in
      ((n.0, k.0, l.0), (n.1, k.1, l.1), omega arith)
  kept_body text (is_seq {d} w {us} {vs} a c b) h =
      let h1 = named_back text us (at d w ∷ vs) h in
      let k = kept_action text a (named_front text us (at d w ∷ vs) h) in
      let l = kept_body text b h1.1 in
      let m1 = k.2 in
      let m2 = l.2 in
      let s = length-append us (at d w ∷ vs) in
      ((k.0, l.0), (k.1, l.1), omega arith)
  kept_body text (is_last a) h = kept_action text a h

pub kept_block : (text : List ℕ) (ls : List Lexeme) (t : RawAct) → IsText IsBlock ls t → NamesOf text ls → length ls ≤ most_tokens → SpansWithin (length text) t × NamesAreOfText text t × (actions t ≤ 2 ^ 32)
unfolding most_tokens
kept_block text ls t h n l =
    let k = kept_action text h.1.1 (named text h.0 (subst (NamesOf text) h.3 n)) in
    let e = ap length h.3 in
    let f = plain-length h.0 in
    let m = k.2 in
    (k.0, k.1, omega arith)

pub kept_init : (text : List ℕ) (us : List At) (e : RawTerm) → IsInit us e → Named text us → NamesWithin (length text) e
kept_init text us e (is_number_init p) k = tt
kept_init text us e (is_negative_init o m p c) k = tt
kept_init text us e (is_true_init p) k = tt
kept_init text us e (is_false_init p) k = tt
kept_init text us e (is_unit_init o c) k = tt
kept_init text us e (is_name_init p) k = (k.0 p).0

pub kept_declaration : (text : List ℕ) (ls : List Lexeme) (t : DeclarationTree) → IsText IsDeclaration ls t → NamesOf text ls → IsSpan (length text) t.name.start t.name.end × IsNameOf text t.name.start t.name.end × NamesWithin (length text) t.init
kept_declaration text ls t h n = of h.0 t h.1 (named text h.0 (subst (NamesOf text) h.3 n))
  where
    of : (us : List At) (t : DeclarationTree) → IsDeclaration us t → Named text us → IsSpan (length text) t.name.start t.name.end × IsNameOf text t.name.start t.name.end × NamesWithin (length text) t.init
    of us t (is_declaration z {us = vs} {vs = ws} p q g c i) k =
        let m = k.0 p in
        (m.0, m.1, kept_init text ws _ i (named_back text vs (at 0 z ∷ ws) k.1.1).1)
