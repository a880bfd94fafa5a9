-- What was read of a part gives what was read of the whole, for actions.
use Rattle.std.proofs.Common.{◌≡◌, ℕ, ◌-◌, ◌<◌, ◌≤◌, List, ◌∷◌, ◌++◌, true, false, Option, Some, None, Ok, refl, sym, ap, ◌∙◌}
use Rattle.std.specs.Prelude.{IfSome}
use Rattle.std.proofs.Common.{Bor, Box, Global}
use Rattle.stm_terms.specs.declared.action.Action.{Action}
use Rattle.stm_terms.specs.declared.kinds.Ty.{Ty}
use Rattle.stm_terms.specs.declared.raw.Span.{Span}
use Rattle.stm_terms.specs.Ast as typed
use Rattle.stm_terms.specs.Ast.{Term, Act, act_of}
use Rattle.stm_terms.specs.ParsedAst as raw
use Rattle.stm_terms.specs.ParsedAst.{RawTerm, RawAct}
use Rattle.stm_terms.specs.Typing.{ActionType, Gives, result_type, int_ty, bool_ty, unit_ty, deref_ty, same_ty, join_types, named, named_in}
use Rattle.stm_parse.specs.declared.token.Lexeme.{Lexeme}
use Rattle.stm_parse.specs.declared.token.Mark.TheVariants as mark
use Rattle.stm_parse.specs.declared.token.Mark.{Mark}
use Rattle.stm_parse.specs.declared.token.TokenKind.TheVariants as tok
use Rattle.stm_parse.specs.Terminals.{is_mark}
use Rattle.stm_parse.specs.Grammar.{Placed, span_of, deepest, widest}
use Rattle.stm_parse.proofs.ActLevels.{inside_act_some, body_more}
use Rattle.stm_parse.specs.Descent.{Reading, Reader, Leaves, expect, expect_name, accept, is_name_kind, atom_at, tier_at, action_at, paren_at, body_at, level_at, action_marked, closed, block, if_of, or_else_of, catch_of, bound, let_bound, sequence, two_operands}
use Rattle.stm_check.specs.declared.checker.Checker.{Checker}
use Rattle.stm_check.specs.Scopes.{scope}
use Rattle.stm_check.specs.CheckContext.{recorded_expr, recorded_act}
use Rattle.stm_store.specs.Naming.{known_kinds}
use Rattle.stm_check.proofs.RecordedUses.{record_uses_append}
use Rattle.stm_one_pass.specs.OnePass.{ReadsExpr, ReadsAction, ReadsBody, ReadsInner}

module _ (checker : Checker) where
  abbrev Uses : Type 0
  Uses = List (ℕ × Ty)

  pub write_read : (atom : Reader RawTerm) (place : ℕ) (toks mid rest : List Lexeme) (x y : Term) (t u c : Ty) (before between after : Uses) → deref_ty t ≡ Some c → same_ty u c ≡ true → ReadsExpr checker (atom toks) x t mid before between → ReadsExpr checker (atom mid) y u rest between after → ReadsAction checker (two_operands atom place toks) (typed.write x y) (Gives unit_ty) rest before after
  write_read atom place toks mid rest x y t u c before between after d s h k = record { tree = (raw.write h.tree k.tree, place); read = rw (h.read, k.read) refl; found = rw (h.found, d, k.found, s) refl; uses = k.uses ∙ ap (recorded_expr checker y) h.uses ∙ sym (record_uses_append (known_kinds checker.known.now) (named_in x) (named_in y) before) }

  pub closed_read : (inner : Reader Placed) (toks mid rest : List Lexeme) (x : Act) (r : ActionType) (before after : Uses) → ReadsAction checker (inner toks) x r mid before after → Leaves rest (expect mark.RParen mid) → ReadsAction checker (closed inner toks) x r rest before after
  closed_read inner toks mid rest x r before after h e = record { tree = h.tree; read = rw (h.read, e.1) refl; found = h.found; uses = h.uses }

  pub block_read : (body : Reader RawAct) (place : ℕ) (toks inside mid rest : List Lexeme) (x : Act) (r : ActionType) (before after : Uses) → Leaves inside (expect mark.LBrace toks) → ReadsBody checker (body inside) x r mid before after → Leaves rest (expect mark.RBrace mid) → ReadsAction checker (block body place toks) x r rest before after
  block_read body place toks inside mid rest x r before after d h e = record { tree = (h.tree, place); read = rw (d.1, h.read, e.1) refl; found = h.found; uses = h.uses }

  pub or_else_read : (paren : Reader Placed) (place : ℕ) (toks mid rest : List Lexeme) (x y : Act) (r s j : ActionType) (before between after : Uses) → ReadsAction checker (paren toks) x r mid before between → ReadsAction checker (paren mid) y s rest between after → join_types r s ≡ Some j → ReadsAction checker (or_else_of paren place toks) (typed.or_else x y) j rest before after
  or_else_read paren place toks mid rest x y r s j before between after h k e = record { tree = (raw.or_else h.tree.0 k.tree.1 k.tree.0, place); read = rw (h.read, k.read) refl; found = rw (h.found, k.found, e) refl; uses = k.uses ∙ ap (recorded_act checker y) h.uses ∙ sym (record_uses_append (known_kinds checker.known.now) (named x) (named y) before) }

  pub if_read : (expression : Reader RawTerm) (action : Reader Placed) (place : ℕ) (toks t0 t1 t2 t3 rest : List Lexeme) (c : Term) (x y : Act) (t : Ty) (r s j : ActionType) (u0 u1 u2 u3 : Uses) → ReadsExpr checker (expression toks) c t t0 u0 u1 → same_ty t bool_ty ≡ true → Leaves t1 (expect mark.Then t0) → ReadsAction checker (action t1) x r t2 u1 u2 → Leaves t3 (expect mark.Else t2) → ReadsAction checker (action t3) y s rest u2 u3 → join_types r s ≡ Some j → ReadsAction checker (if_of expression action place toks) (typed.if_else c x y) j rest u0 u3
  if_read expression action place toks t0 t1 t2 t3 rest c x y t r s j u0 u1 u2 u3 g b d h e k f = record {
    tree = (raw.if_else g.tree h.tree.0 k.tree.1 k.tree.0, place);
    read = rw (g.read, d.1, h.read, e.1, k.read) refl;
    found = rw (g.found, b, h.found, k.found, f) refl;
    uses = k.uses ∙ ap (recorded_act checker y) (h.uses ∙ ap (recorded_act checker x) g.uses ∙ sym (record_uses_append (known_kinds checker.known.now) (named_in c) (named x) u0)) ∙ sym (record_uses_append (known_kinds checker.known.now) (named_in c ++ named x) (named y) u0);
  }

  pub sequence_read : (action : Reader Placed) (next : Reader RawAct) (toks mid inside rest : List Lexeme) (x y : Act) (r s : ActionType) (before between after : Uses) → ReadsAction checker (action toks) x r mid before between → accept mark.Semicolon mid ≡ Some inside → ReadsBody checker (next inside) y s rest between after → ReadsBody checker (sequence action next toks) (typed.seq x y) s rest before after
  sequence_read action next toks mid inside rest x y r s before between after h e k = record { tree = raw.seq h.tree.0 k.tree; read = rw (h.read, e, k.read) refl; found = rw (h.found, k.found) refl; uses = k.uses ∙ ap (recorded_act checker y) h.uses ∙ sym (record_uses_append (known_kinds checker.known.now) (named x) (named y) before) }

  pub bind_read : (action : Reader Placed) (next : Reader RawAct) (name : Span) (toks t0 t1 t2 rest : List Lexeme) (x y : Act) (t : Ty) (s : ActionType) (before between after : Uses) → Leaves t0 (expect mark.Arrow toks) → ReadsAction checker (action t0) x (Gives t) t1 before between → Leaves t2 (expect mark.Semicolon t1) → ReadsInner checker name t (λ a. a) (next t2) y s rest between after → ReadsBody checker (bound action next name toks) (typed.bind x y) s rest before after
  bind_read action next name toks t0 t1 t2 rest x y t s before between after d h e k = record { tree = raw.bind name h.tree.1 h.tree.0 k.tree; read = rw (d.1, h.read, e.1, k.read) refl; found = rw (h.found, k.found) refl; uses = k.uses ∙ ap (recorded_act checker y) h.uses ∙ sym (record_uses_append (known_kinds checker.known.now) (named x) (named y) before) }

  pub let_read : (expression : Reader RawTerm) (next : Reader RawAct) (name : Lexeme) (toks t0 t1 t2 t3 rest : List Lexeme) (x : Term) (y : Act) (t : Ty) (s : ActionType) (before between after : Uses) → expect_name toks ≡ Ok (name, t0) → Leaves t1 (expect mark.Equals t0) → ReadsExpr checker (expression t1) x t t2 before between → Leaves t3 (expect mark.Semicolon t2) → ReadsInner checker (span_of name) t (λ a. a) (next t3) y s rest between after → ReadsBody checker (let_bound expression next toks) (typed.let_in x y) s rest before after
  let_read expression next name toks t0 t1 t2 t3 rest x y t s before between after n d h e k = record { tree = raw.let_in (span_of name) h.tree k.tree; read = rw (n, d.1, h.read, e.1, k.read) refl; found = rw (h.found, k.found) refl; uses = k.uses ∙ ap (recorded_act checker y) h.uses ∙ sym (record_uses_append (known_kinds checker.known.now) (named_in x) (named y) before) }

  pub catch_read : (paren : Reader Placed) (name : Lexeme) (place : ℕ) (toks t0 t1 rest : List Lexeme) (x y : Act) (r s j : ActionType) (before between after : Uses) → ReadsAction checker (paren toks) x r t0 before between → expect_name t0 ≡ Ok (name, t1) → ReadsInner checker (span_of name) int_ty (λ p. p.0) (paren t1) y s rest between after → join_types r s ≡ Some j → ReadsAction checker (catch_of paren place toks) (typed.catch x y) j rest before after
  catch_read paren name place toks t0 t1 rest x y r s j before between after h n k e = record { tree = (raw.catch h.tree.0 (span_of name) k.tree.1 k.tree.0, place); read = rw (h.read, n, k.read) refl; found = rw (h.found, k.found, e) refl; uses = k.uses ∙ ap (recorded_act checker y) h.uses ∙ sym (record_uses_append (known_kinds checker.known.now) (named x) (named y) before) }

-- an action by its first word, one level deeper than it
pub action_at_word : (n m : ℕ) (toks rest : List Lexeme) (x : Lexeme) (w : Mark) → toks ≡ x ∷ rest → x.sym ≡ tok.Mark w → 0 < n → m ≡ n - 1 → action_at n toks ≡ action_marked (atom_at n) (Some (level_at m)) w x rest
unfolding action_at
action_at_word n m toks rest x w e s h l = rw (e, s, inside_act_some n h, l) refl

-- an action in brackets
pub paren_closed : (n m : ℕ) (toks rest : List Lexeme) (x : Lexeme) → toks ≡ x ∷ rest → is_mark mark.LParen x.sym ≡ true → 0 < n → m ≡ n - 1 → paren_at n toks ≡ closed (action_at m) rest
unfolding paren_at
paren_closed n m toks rest x e s h l = rw (e, s, inside_act_some n h, l) refl

-- a body, by its first token
pub body_bound : (n : ℕ) (toks rest : List Lexeme) (x : Lexeme) → n ≤ deepest → toks ≡ x ∷ rest → is_name_kind x.sym ≡ true → body_at n toks ≡ bound (action_at n) (body_at n) (span_of x) rest
body_bound n toks rest x h e s = rw (body_more n toks h, e, s) refl

pub body_let : (n : ℕ) (toks rest : List Lexeme) (x : Lexeme) → n ≤ deepest → toks ≡ x ∷ rest → is_name_kind x.sym ≡ false → is_mark mark.Let x.sym ≡ true → body_at n toks ≡ let_bound (tier_at widest n) (body_at n) rest
body_let n toks rest x h e s l = rw (body_more n toks h, e, s, l) refl

pub body_sequence : (n : ℕ) (toks rest : List Lexeme) (x : Lexeme) → n ≤ deepest → toks ≡ x ∷ rest → is_name_kind x.sym ≡ false → is_mark mark.Let x.sym ≡ false → body_at n toks ≡ sequence (action_at n) (body_at n) toks
body_sequence n toks rest x h e s l = rw (body_more n toks h, e, s, l) refl

-- what was read of an action was read of it in its box
pub as_action : (checker : Checker) (reading : Reading Placed) (x : Act) (k : Option Ty) (rest : List Lexeme) (before after : List (ℕ × Ty)) (o : Option (Box Action Global × Option Ty × Bor (List Lexeme))) → IfSome o (λ r. act_of r.0.value ≡ x) → IfSome o (λ r. r.1 ≡ k) → IfSome o (λ r. r.2.now ≡ rest) → ReadsAction checker reading x (result_type k) rest before after → IfSome o (λ r. ReadsAction checker reading (act_of r.0.value) (result_type r.1) r.2.now before after)
as_action checker reading x k rest before after (Some r) p q s h = rw (p, q, s) h
as_action checker reading x k rest before after None p q s h = tt

pub as_body : (checker : Checker) (reading : Reading RawAct) (x : Act) (k : Option Ty) (rest : List Lexeme) (before after : List (ℕ × Ty)) (o : Option (Box Action Global × Option Ty × Bor (List Lexeme))) → IfSome o (λ r. act_of r.0.value ≡ x) → IfSome o (λ r. r.1 ≡ k) → IfSome o (λ r. r.2.now ≡ rest) → ReadsBody checker reading x (result_type k) rest before after → IfSome o (λ r. ReadsBody checker reading (act_of r.0.value) (result_type r.1) r.2.now before after)
as_body checker reading x k rest before after (Some r) p q s h = rw (p, q, s) h
as_body checker reading x k rest before after None p q s h = tt

-- so too what was read with one more local
pub as_inner_body : (checker within : Checker) (name : Span) (t : Ty) (reading : Reading RawAct) (before after : List (ℕ × Ty)) (o : Option (Box Action Global × Option Ty × Bor (List Lexeme))) → IfSome o (λ r. ReadsBody within reading (act_of r.0.value) (result_type r.1) r.2.now before after) → within.known.now ≡ checker.known.now → within.text.now ≡ checker.text.now → scope within.locals.now ≡ (raw.text_at checker.text.now name, t) ∷ scope checker.locals.now → IfSome o (λ r. ReadsInner checker name t (λ a. a) reading (act_of r.0.value) (result_type r.1) r.2.now before after)
as_inner_body checker within name t reading before after (Some r) h k e s = record { tree = h.tree; read = h.read; found = rw (k, e, s) at h.found; uses = rw k at h.uses }
as_inner_body checker within name t reading before after None h k e s = tt

pub as_inner_paren : (checker within : Checker) (name : Span) (t : Ty) (reading : Reading Placed) (before after : List (ℕ × Ty)) (o : Option (Box Action Global × Option Ty × Bor (List Lexeme))) → IfSome o (λ r. ReadsAction within reading (act_of r.0.value) (result_type r.1) r.2.now before after) → within.known.now ≡ checker.known.now → within.text.now ≡ checker.text.now → scope within.locals.now ≡ (raw.text_at checker.text.now name, t) ∷ scope checker.locals.now → IfSome o (λ r. ReadsInner checker name t (λ p. p.0) reading (act_of r.0.value) (result_type r.1) r.2.now before after)
as_inner_paren checker within name t reading before after (Some r) h k e s = record { tree = h.tree; read = h.read; found = rw (k, e, s) at h.found; uses = rw k at h.uses }
as_inner_paren checker within name t reading before after None h k e s = tt
