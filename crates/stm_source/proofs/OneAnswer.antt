-- At most one answer for a text is right by the grammar.
use Rattle.std.proofs.Common.{◌≡◌, ℕ, List, Ok, Err, ap, sym, subst, ◌∙◌}
use Rattle.stm_parse.specs.declared.token.Lexeme.{Lexeme}
use Rattle.stm_parse.specs.Faults.{Language, IsText}
use Rattle.stm_parse.specs.Laws.{AtMostOneFault, HasNoFault}
use Rattle.stm_parse.specs.Lexing.{lexemes_of}
use Rattle.stm_parse.specs.MaximalMunch.{TokenizationIsUnique}
use Rattle.stm_parse.specs.ParseResult.{Lexes, IsTextOf}
use Rattle.stm_source.specs.Readings.{HasOneAnswer}

module _ {A : Type 0} (L : Language A) (trees : (ls : List Lexeme) (t u : A) → IsText L ls t → IsText L ls u → t ≡ u) (faults : AtMostOneFault L) (either : HasNoFault L) (cuts : TokenizationIsUnique) where
  same_tokens : (text : List ℕ) (ls ms : List Lexeme) → Lexes text ls → Lexes text ms → ls ≡ ms
  same_tokens text ls ms (ts, p, e) (us, q, f) =
      let w : Ok ts ≡ Ok us = cuts text (Ok ts) (Ok us) p q in
      let s : ts ≡ us = cc in
      e ∙ ap (lexemes_of text) s ∙ sym f

  same_trees : (text : List ℕ) (t u : A) → IsTextOf L text t → IsTextOf L text u → t ≡ u
  same_trees text t u (ls, (m, x, n), h) (ms, (o, y, p), k) =
      trees ms t u (subst (λ (qs : List Lexeme). IsText L qs t) (same_tokens text ls ms x y) h) k

  pub one_answer : HasOneAnswer L
  one_answer text (Ok t) (Ok u) h k = ap Ok (same_trees text t u h k)
  one_answer text (Ok t) (Err e) h k = absurd (k.0 (either text t e h k.1))
  one_answer text (Err e) (Ok t) h k = absurd (h.0 (either text t e k h.1))
  one_answer text (Err e) (Err f) h k = ap Err (faults text e f h.0 k.0 h.1 k.1)
