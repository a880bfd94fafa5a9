-- What was read of a part gives what was read of the whole, for expressions.
use Rattle.std.proofs.Common.{◌≡◌, ℕ, ◌-◌, ◌<◌, List, ◌∷◌, true, false, Ok, refl, sym, ap, ◌∙◌}
use Rattle.stm_terms.specs.declared.kinds.Ty.{Ty}
use Rattle.stm_terms.specs.declared.expr.Op.{Op}
use Rattle.stm_terms.specs.Ast.{Term, bin}
use Rattle.stm_terms.specs.ParsedAst as raw
use Rattle.stm_terms.specs.ParsedAst.{RawTerm}
use Rattle.stm_terms.specs.Typing.{same_ty, named_in}
use Rattle.stm_parse.specs.declared.token.Lexeme.{Lexeme}
use Rattle.stm_parse.specs.declared.token.Mark.TheVariants as mark
use Rattle.stm_parse.specs.Terminals.{is_mark}
use Rattle.stm_parse.specs.Grammar.{widest}
use Rattle.stm_parse.specs.Descent.{short_of, bracketed, atom_at, tier_at}
use Rattle.stm_parse.proofs.DepthLevels.{inside_some}
use Rattle.stm_check.specs.declared.checker.Checker.{Checker}
use Rattle.stm_check.specs.CheckFunction.{wanted, given, as_wanted, wanted_right}
use Rattle.stm_check.specs.CheckContext.{expr_found, recorded_expr}
use Rattle.stm_store.specs.Naming.{known_kinds}
use Rattle.stm_check.proofs.RecordedUses.{record_uses_append}

module _ (checker : Checker) where
  -- an operator with operands that were found is found, if their types are those that it wants
  pub both_found : (op : Op) (a b : RawTerm) (x y : Term) (t u : Ty) → expr_found checker a ≡ Ok (x, t) → expr_found checker b ≡ Ok (y, u) → as_wanted (wanted op) t ≡ true → same_ty u (wanted_right (wanted op) t) ≡ true → expr_found checker (raw.bin op a b) ≡ Ok (bin op x y, given op)
  both_found op a b x y t u ea eb w s = rw (ea, w, eb, s) refl

  -- its variables are noted operand by operand
  pub both_uses : (op : Op) (x y : Term) (before mid after : List (ℕ × Ty)) → mid ≡ recorded_expr checker x before → after ≡ recorded_expr checker y mid → after ≡ recorded_expr checker (bin op x y) before
  both_uses op x y before mid after e f = f ∙ ap (recorded_expr checker y) e ∙ sym (record_uses_append (known_kinds checker.known.now) (named_in x) (named_in y) before)

-- an operand of one token
pub atom_short : (n : ℕ) (toks rest : List Lexeme) (x : Lexeme) → toks ≡ x ∷ rest → is_mark mark.LParen x.sym ≡ false → atom_at n toks ≡ short_of x.sym x rest
unfolding atom_at
atom_short n toks rest x e s = rw (e, s) refl

-- an operand in brackets
pub atom_bracketed : (n m : ℕ) (toks rest : List Lexeme) (x : Lexeme) → toks ≡ x ∷ rest → is_mark mark.LParen x.sym ≡ true → 0 < n → m ≡ n - 1 → atom_at n toks ≡ bracketed (tier_at widest m) x.start rest
unfolding atom_at
atom_bracketed n m toks rest x e s h l = rw (e, s, inside_some n h, l) refl
