-- An input is taken line by line, and the text is that of the whole.
use Rattle.std.proofs.Common.{◌≡◌, ℕ, ◌<◌, List, [], ◌∷◌, ◌++◌, length, refl, sym, ap, ◌∙◌, append_assoc, append-nil}
use Rattle.stm_lines.proofs.ReadLines.{lines_from-whole, lines_from-last, whole_lines_from-whole, whole_lines_from-last}
use Rattle.stm_lines.specs.LineClass.{line_class}
use Rattle.stm_lines.specs.Lines.{drop_return, lines_of, whole_lines_of, NoLineFeed}
use Rattle.stm_terms.specs.Texts.{IsPrefixOf}
use Rattle.stm_run.specs.Streaming.{Continues, rest_text, whole_rest_text}
use Rattle.stm_run.specs.declared.console.Console.{Console}
use Rattle.stm_run.specs.Console.{answer_to, state_after, answers_to, class_step, step}

-- of a line no more counts than how it is judged
answers_to-judged : (s t : Console) (line other : List ℕ) (more : List (List ℕ)) → line_class line ≡ line_class other → t ≡ state_after s line
    → answers_to s (other ∷ more) ≡ answer_to s line ++ answers_to t more
unfolding step
answers_to-judged s t line other more e n = ap (λ j. (class_step s j).1 ++ answers_to (class_step s j).0 more) (sym e) ∙ ap (λ u. answer_to s line ++ answers_to u more) (sym n)

-- a line that a line feed ends
pub Continues-line : (s t : Console) (line bytes : List ℕ) → NoLineFeed bytes → line_class line ≡ line_class (drop_return bytes) → t ≡ state_after s line
    → Continues s t (bytes ++ 10 ∷ []) (answer_to s line)
unfolding rest_text whole_rest_text
Continues-line s t line bytes h e n = record {
  all = λ more. ap (answers_to s) (lines_from-whole bytes more h) ∙ answers_to-judged s t line (drop_return bytes) (lines_of more) e n;
  whole = λ more. ap (answers_to s) (whole_lines_from-whole bytes more h) ∙ answers_to-judged s t line (drop_return bytes) (whole_lines_of more) e n;
}

pub Continues-trans : (s t u : Console) (x y p q : List ℕ) → Continues s t x p → Continues t u y q → Continues s u (x ++ y) (p ++ q)
Continues-trans s t u x y p q f g = record {
  all = λ more. ap (rest_text s) (append_assoc x y more) ∙ f.all (y ++ more) ∙ ap (λ r. p ++ r) (g.all more) ∙ sym (append_assoc p q (rest_text u more));
  whole = λ more. ap (whole_rest_text s) (append_assoc x y more) ∙ f.whole (y ++ more) ∙ ap (λ r. p ++ r) (g.whole more) ∙ sym (append_assoc p q (whole_rest_text u more));
}

-- the last line, which the end of the input ends
pub rest_text-last : (s : Console) (line bytes : List ℕ) → NoLineFeed bytes → 0 < length bytes → line_class line ≡ line_class bytes → rest_text s bytes ≡ answer_to s line
unfolding rest_text
rest_text-last s line bytes h k e = ap (answers_to s) (lines_from-last bytes h k) ∙ answers_to-judged s (state_after s line) line bytes [] e refl ∙ append-nil (answer_to s line)

pub rest_text-nil : (s : Console) → rest_text s [] ≡ []
unfolding rest_text
rest_text-nil s = refl

-- no line is whole
pub whole_rest_text-begun : (s : Console) (bytes : List ℕ) → NoLineFeed bytes → whole_rest_text s bytes ≡ []
unfolding whole_rest_text
whole_rest_text-begun s bytes h = ap (answers_to s) (whole_lines_from-last bytes h)

-- the front of an answer is a prefix of all that follows
pub IsPrefixOf-line : (s : Console) (line bytes front more : List ℕ) → NoLineFeed bytes → line_class line ≡ line_class (drop_return bytes) → IsPrefixOf front (answer_to s line)
    → IsPrefixOf front (rest_text s ((bytes ++ 10 ∷ []) ++ more))
IsPrefixOf-line s line bytes front more h e p =
    let next = rest_text (state_after s line) more in
    (p.0 ++ next, (Continues-line s (state_after s line) line bytes h e refl).all more ∙ ap (λ t. t ++ next) p.1 ∙ append_assoc front p.0 next)
