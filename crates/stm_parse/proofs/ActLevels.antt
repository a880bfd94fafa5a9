-- The levels of actions that are left.
use Rattle.std.proofs.Common.{◌≡◌, ℕ, zero, suc, ◌-◌, ◌<◌, ◌≤◌, List, ◌∷◌, ◌∙◌, refl, sym, ap, arith, Some, None}
use Rattle.stm_parse.specs.declared.token.Lexeme.{Lexeme}
use Rattle.stm_parse.specs.declared.token.Mark.TheVariants as mark
use Rattle.stm_parse.specs.declared.token.TokenKind.TheVariants as tok
use Rattle.stm_parse.specs.Grammar.{deepest, widest}
use Rattle.stm_parse.proofs.ActionReaders as actions
use Rattle.stm_parse.specs.Descent.{atom_at, tier_at, deeper, if_of, action_of, action_with, inside_act, action_at, paren_at, body_at, level_at, body_turn}

pub inside_act_none : (n : ℕ) → n ≡ 0 → inside_act n ≡ None
unfolding inside_act
inside_act_none zero e = refl
inside_act_none (suc n) e = absurd (omega arith)

pub inside_act_some : (n : ℕ) → 0 < n → inside_act n ≡ Some (level_at (n - 1))
unfolding inside_act action_at paren_at body_at
inside_act_some zero h = absurd (omega arith)
inside_act_some (suc n) h = let e : n ≡ suc n - 1 = omega arith in ap (λ m. Some (level_at m)) e

pub body_more : (n : ℕ) (toks : List Lexeme) → n ≤ deepest → body_at n toks ≡ body_turn (tier_at widest n) (action_at n) (body_at n) toks
body_more n toks h = actions.body_more n toks h

-- an action that begins with if
pub action_at_if : (n m : ℕ) (toks rest : List Lexeme) (x : Lexeme) → toks ≡ x ∷ rest → x.sym ≡ tok.Mark mark.If → 0 < n → m ≡ n - 1 → action_at n toks ≡ if_of (tier_at widest m) (action_at m) x.start rest
unfolding action_at
action_at_if n m toks rest x e s h l =
    ap (action_with (atom_at n) (inside_act n)) e
    ∙ ap (λ k. action_of (atom_at n) (inside_act n) k x rest) s
    ∙ ap (λ o. deeper o (λ l. if_of l.expression l.action x.start rest) (x ∷ rest)) (inside_act_some n h)
    ∙ ap (λ m. if_of (tier_at widest m) (action_at m) x.start rest) (sym l)
