-- The literals of a block that a text checks to are in the range of the language, and `newTVar` stands in it at most once a token.
use Rattle.std.proofs.Common.{◌≡◌, ℕ, suc, ◌≤◌, ◌^◌, true, List, [], ◌∷◌, ◌++◌, Result, Ok, Err, IfOk, sym, subst, arith}
use Rattle.std.specs.Prelude.{⊤, ℤ, pos, negsuc, neg_ℤ}
use Rattle.std.proofs.lemmas.Bool.{lt-ltb, ltb-true}
use Rattle.stm_terms.specs.Ast.{Term, local, global, bin, Act, return, read, write, make, retry, throw, if_else, or_else, bind, let_in, seq, catch}
use Rattle.stm_terms.specs.ParsedAst as raw
use Rattle.stm_terms.specs.Typing.{ActionType, makes}
use Rattle.stm_terms.specs.Value.{fits_i64}
use Rattle.stm_parse.specs.declared.fault.ParseFault.{ParseFault}
use Rattle.stm_parse.specs.Grammar.{At, at, WithinLimits, Placed, IsAtom, is_number, is_negative, is_true, is_false, is_unit, is_name, is_bracketed, IsExpression, is_atom, is_tier, IsTail, no_more, to_left, not_chained, to_right, IsAction, is_do, is_if, is_or_else, is_catch, is_return, is_read, is_write, is_make, is_throw, is_retry, is_brackets, IsParen, is_paren, IsBody, is_bind, is_let, is_seq, is_last, IsBlock}
use Rattle.stm_parse.specs.ParseFunction.{IsAnswer, parsed_block, BlockAnswersAreRight}
use Rattle.stm_parse.proofs.TreeNamesAndSize.{kept_block}
use Rattle.stm_store.specs.Naming.{Named}
use Rattle.stm_check.specs.CheckFunction.{checked}
use Rattle.stm_check.specs.Resolving.{IsTerm, IsAct}
use Rattle.stm_check.specs.TypedBlock.{Block}
use Rattle.stm_check.specs.declared.fault.TypeFault.{TypeFault}
use Rattle.stm_check.proofs.CheckedResolved.{act_named}
use Rattle.stm_event_lines.specs.Fits.{FitsInt}
use Rattle.stm_source.specs.CompiledBlock.{block_if_typed, block_if_parsed, compiled_block}
use Rattle.stm_source.specs.declared.refusal.Refusal.{Refusal}
use Rattle.stm_desk_laws.specs.IntegerRange.{IsTerm64Bit, IsAct64Bit}
use Rattle.stm_run_laws.specs.ReadBack.{LiteralsAreInRange}
use Rattle.stm_run.proofs.DeclaredVariables.{within_back, number_fits, negative_fits, text_names}

-- ---- integers
pub int_in_64_bits : (z : ℤ) → FitsInt z → fits_i64 z ≡ true
int_in_64_bits (pos n) f = lt-ltb n (2 ^ 63) f
int_in_64_bits (negsuc n) f = lt-ltb n (2 ^ 63) f

pub int_fits : (z : ℤ) → fits_i64 z ≡ true → FitsInt z
int_fits (pos n) e = ltb-true n (2 ^ 63) e
int_fits (negsuc n) e = ltb-true n (2 ^ 63) e

-- ---- the tree that a text writes
-- each number is in range
abbrev IsParsedTerm64Bit : raw.RawTerm → Type 0
IsParsedTerm64Bit (raw.int n place) = fits_i64 n ≡ true
IsParsedTerm64Bit (raw.truth b place) = ⊤
IsParsedTerm64Bit (raw.unit place) = ⊤
IsParsedTerm64Bit (raw.name span) = ⊤
IsParsedTerm64Bit (raw.bin op a b) = IsParsedTerm64Bit a × IsParsedTerm64Bit b

abbrev IsParsedAct64Bit : raw.RawAct → Type 0
IsParsedAct64Bit (raw.return e) = IsParsedTerm64Bit e
IsParsedAct64Bit (raw.read e) = IsParsedTerm64Bit e
IsParsedAct64Bit (raw.write r e) = IsParsedTerm64Bit r × IsParsedTerm64Bit e
IsParsedAct64Bit (raw.make e) = IsParsedTerm64Bit e
IsParsedAct64Bit raw.retry = ⊤
IsParsedAct64Bit (raw.throw e) = IsParsedTerm64Bit e
IsParsedAct64Bit (raw.if_else e a place b) = IsParsedTerm64Bit e × IsParsedAct64Bit a × IsParsedAct64Bit b
IsParsedAct64Bit (raw.or_else a place b) = IsParsedAct64Bit a × IsParsedAct64Bit b
IsParsedAct64Bit (raw.bind span place a b) = IsParsedAct64Bit a × IsParsedAct64Bit b
IsParsedAct64Bit (raw.let_in span e b) = IsParsedTerm64Bit e × IsParsedAct64Bit b
IsParsedAct64Bit (raw.seq a b) = IsParsedAct64Bit a × IsParsedAct64Bit b
IsParsedAct64Bit (raw.catch a span place b) = IsParsedAct64Bit a × IsParsedAct64Bit b

within_front : (us vs : List At) → WithinLimits (us ++ vs) → WithinLimits us
within_front [] vs w = tt
within_front (u ∷ us) vs w = (w.0, within_front us vs w.1)

mutual
  atom_in_range : {d : ℕ} {us : List At} {e : raw.RawTerm} → IsAtom d us e → WithinLimits us → IsParsedTerm64Bit e
  atom_in_range (is_number {n} p) w = int_in_64_bits (pos n) (number_fits n (w.0).2)
  atom_in_range (is_negative {n} o m p c) w = int_in_64_bits (neg_ℤ (pos n)) (negative_fits n (w.1.1.0).2)
  atom_in_range (is_true p) w = tt
  atom_in_range (is_false p) w = tt
  atom_in_range (is_unit o c) w = tt
  atom_in_range (is_name p) w = tt
  atom_in_range (is_bracketed {d} z {us} o g c) w = expression_in_range g (within_front us (at d z ∷ []) w.1)

  expression_in_range : {k d : ℕ} {us : List At} {e : raw.RawTerm} → IsExpression k d us e → WithinLimits us → IsParsedTerm64Bit e
  expression_in_range (is_atom a) w = atom_in_range a w
  expression_in_range (is_tier {us} {vs} a t) w = tail_in_range t (expression_in_range a (within_front us vs w)) (within_back us vs w)

  tail_in_range : {k d : ℕ} {a : raw.RawTerm} {us : List At} {e : raw.RawTerm} → IsTail k d a us e → IsParsedTerm64Bit a → WithinLimits us → IsParsedTerm64Bit e
  tail_in_range no_more p w = p
  tail_in_range (to_left {us} {vs} g q b t) p w = tail_in_range t (p, expression_in_range b (within_front us vs w.1)) (within_back us vs w.1)
  tail_in_range (not_chained g q b) p w = (p, expression_in_range b w.1)
  tail_in_range (to_right g q b) p w = (p, expression_in_range b w.1)

mutual
  action_in_range : {d : ℕ} {us : List At} {a : Placed} → IsAction d us a → WithinLimits us → IsParsedAct64Bit a.0
  action_in_range (is_do {d} z {us} p q b c) w = body_in_range b (within_front us (at d z ∷ []) w.1.1)
  action_in_range (is_if {d} y z {us} {vs} {ws} p e q a s b) w =
      let w1 = within_back us (at (suc d) y ∷ (vs ++ (at (suc d) z ∷ ws))) w.1 in
      let w2 = within_back vs (at (suc d) z ∷ ws) w1.1 in (
        expression_in_range e (within_front us (at (suc d) y ∷ (vs ++ (at (suc d) z ∷ ws))) w.1),
        action_in_range a (within_front vs (at (suc d) z ∷ ws) w1.1),
        action_in_range b w2.1,
      )
  action_in_range (is_or_else {us} {vs} p a b) w = (paren_in_range a (within_front us vs w.1), paren_in_range b (within_back us vs w.1))
  action_in_range (is_catch {d} y {us} {vs} p a q b) w =
      let w1 = within_back us (at (suc d) y ∷ vs) w.1 in (paren_in_range a (within_front us (at (suc d) y ∷ vs) w.1), paren_in_range b w1.1)
  action_in_range (is_return p a) w = atom_in_range a w.1
  action_in_range (is_read p a) w = atom_in_range a w.1
  action_in_range (is_write {us} {vs} p a b) w = (atom_in_range a (within_front us vs w.1), atom_in_range b (within_back us vs w.1))
  action_in_range (is_make p a) w = atom_in_range a w.1
  action_in_range (is_throw p a) w = atom_in_range a w.1
  action_in_range (is_retry p) w = tt
  action_in_range (is_brackets b) w = paren_in_range b w

  paren_in_range : {d e : ℕ} {us : List At} {a : Placed} → IsParen d e us a → WithinLimits us → IsParsedAct64Bit a.0
  paren_in_range (is_paren {e} z {us} o a c) w = action_in_range a (within_front us (at e z ∷ []) w.1)

  body_in_range : {d : ℕ} {us : List At} {a : raw.RawAct} → IsBody d us a → WithinLimits us → IsParsedAct64Bit a
  body_in_range (is_bind {d} z {us} {vs} p q a c b) w =
      let w1 = within_back us (at d z ∷ vs) w.1.1 in (action_in_range a (within_front us (at d z ∷ vs) w.1.1), body_in_range b w1.1)
  body_in_range (is_let {d} z {us} {vs} p q r e c b) w =
      let w1 = within_back us (at d z ∷ vs) w.1.1.1 in (expression_in_range e (within_front us (at d z ∷ vs) w.1.1.1), body_in_range b w1.1)
  body_in_range (is_seq {d} z {us} {vs} a c b) w =
      let w1 = within_back us (at d z ∷ vs) w in (action_in_range a (within_front us (at d z ∷ vs) w), body_in_range b w1.1)
  body_in_range (is_last a) w = action_in_range a w

-- ---- the tree that it checks to
-- its literals are in range, and `newTVar` stands in it at most as often as there are actions
abbrev IsSmallAct : raw.RawAct → Act → Type 0
IsSmallAct w a = IsAct64Bit a × (makes a ≤ raw.actions w)

module _ (known : List Named) (text : List ℕ) where
  term_range : (ns : List (List ℕ)) (e : raw.RawTerm) (x : Term) → IsTerm known text ns e x → IsParsedTerm64Bit e → IsTerm64Bit x
  term_range ns (raw.int n place) x h f = subst IsTerm64Bit (sym h) f
  term_range ns (raw.truth b place) x h f = subst IsTerm64Bit (sym h) tt
  term_range ns (raw.unit place) x h f = subst IsTerm64Bit (sym h) tt
  term_range ns (raw.name span) (local i) h f = tt
  term_range ns (raw.name span) (global i) h f = tt
  term_range ns (raw.name span) x h f = absurd h
  term_range ns (raw.bin op a b) (bin or x y) h f = (term_range ns a x h.1 f.0, term_range ns b y h.2 f.1)
  term_range ns (raw.bin op a b) x h f = absurd h

  act_range : (ns : List (List ℕ)) (w : raw.RawAct) (a : Act) → IsAct known text ns w a → IsParsedAct64Bit w → IsSmallAct w a
  act_range ns (raw.return e) (return x) h f = (term_range ns e x h f, omega arith)
  act_range ns (raw.read e) (read x) h f = (term_range ns e x h f, omega arith)
  act_range ns (raw.write r e) (write x y) h f = ((term_range ns r x h.0 f.0, term_range ns e y h.1 f.1), omega arith)
  act_range ns (raw.make e) (make t x) h f = (term_range ns e x h f, omega arith)
  act_range ns raw.retry retry h f = (tt, omega arith)
  act_range ns (raw.throw e) (throw x) h f = (term_range ns e x h f, omega arith)
  act_range ns (raw.if_else e a place b) (if_else x y z) h f =
      let k = act_range ns a y h.1 f.1 in
      let l = act_range ns b z h.2 f.2 in
      ((term_range ns e x h.0 f.0, k.0, l.0), omega (arith, k.1, l.1))
  act_range ns (raw.or_else a place b) (or_else y z) h f =
      let k = act_range ns a y h.0 f.0 in let l = act_range ns b z h.1 f.1 in ((k.0, l.0), omega (arith, k.1, l.1))
  act_range ns (raw.bind span place a b) (bind y z) h f =
      let k = act_range ns a y h.0 f.0 in
      let l = act_range (raw.text_at text span ∷ ns) b z h.1 f.1 in
      ((k.0, l.0), omega (arith, k.1, l.1))
  act_range ns (raw.let_in span e b) (let_in x z) h f =
      let l = act_range (raw.text_at text span ∷ ns) b z h.1 f.1 in ((term_range ns e x h.0 f.0, l.0), omega (arith, l.1))
  act_range ns (raw.seq a b) (seq y z) h f =
      let k = act_range ns a y h.0 f.0 in let l = act_range ns b z h.1 f.1 in ((k.0, l.0), omega (arith, k.1, l.1))
  act_range ns (raw.catch a span place b) (catch y z) h f =
      let k = act_range ns a y h.0 f.0 in
      let l = act_range (raw.text_at text span ∷ ns) b z h.1 f.1 in
      ((k.0, l.0), omega (arith, k.1, l.1))
  act_range ns w a h f = absurd h

-- ---- the block of a text
abbrev pub IsSmallBlock : Block → Type 0
IsSmallBlock b = IsAct64Bit b.tree × (makes b.tree ≤ 2 ^ 32)

typed_range : (known : List Named) (text : List ℕ) (w : raw.RawAct) → IsParsedAct64Bit w → raw.actions w ≤ 2 ^ 32
    → (r : Result (Act × ActionType) TypeFault) → IfOk r (λ x. IsAct known text [] w x.0) → IfOk (block_if_typed known text r) IsSmallBlock
typed_range known text w f few (Ok x) h = let k = act_range known text [] w x.0 h f in (k.0, omega (arith, k.1, few))
typed_range known text w f few (Err e) h = tt

parsed_range : (known : List Named) (text : List ℕ) (r : Result raw.RawAct ParseFault) → IsAnswer IsBlock text r → IfOk (block_if_parsed known text r) IsSmallBlock
parsed_range known text (Ok w) h =
    let tree = h.2 in
    let kept = kept_block text h.0 w tree (text_names text h.0 (h.1).1) (h.1).2 in
    typed_range known text w (action_in_range (tree.1).1 tree.2) kept.2 (checked known text [] w) (act_named known text w [])
parsed_range known text (Err e) h = tt

text_range : BlockAnswersAreRight → (known : List Named) (text : List ℕ) → IfOk (compiled_block known text) IsSmallBlock
unfolding compiled_block
text_range blocks known text = parsed_range known text (parsed_block text) (blocks text)

pub block_range : BlockAnswersAreRight → (known : List Named) (text : List ℕ) (b : Block) → compiled_block known text ≡ Ok b → IsSmallBlock b
block_range blocks known text b e = subst (λ (r : Result Block Refusal). IfOk r IsSmallBlock) e (text_range blocks known text)

pub literals_are_in_range : BlockAnswersAreRight → LiteralsAreInRange
literals_are_in_range blocks known text b e = let small = block_range blocks known text b e in small.0
