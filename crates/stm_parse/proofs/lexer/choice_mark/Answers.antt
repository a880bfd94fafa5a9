use Rattle.std.proofs.Common.{◌≡◌, ℕ, List, length, codes, rules, arith, sym, ap, ◌∙◌, refl, Some}
use Rattle.std.proofs.lemmas.Slice.Eq.{HasBytesAt, text_from_reads}
use Rattle.stm_parse.specs.declared.token.Mark.{Mark}
use Rattle.stm_parse.specs.declared.token.Mark.TheVariants as mark
use Rattle.stm_parse.specs.Lexing.{choice_mark}
use Rattle.stm_parse.proofs.lexer.choice_mark.Goals as goal

-- the mark of a word that was read byte by byte
read : (word text : List ℕ) (m : Mark) → choice_mark text ≡ Some m → length word ≡ length text → HasBytesAt word 0 text → Some m ≡ choice_mark word
read word text m e l h = sym (ap choice_mark (text_from_reads word text l h) ∙ e)

pub returns-in-retry-clause-mark : goal.returns-in-retry-clause-mark
unfolding choice_mark
returns-in-retry-clause-mark c = read c.args.word.now (codes "retry") mark.Retry refl (omega arith) (search rules)

pub returns-in-orElse-clause-mark : goal.returns-in-orElse-clause-mark
unfolding choice_mark
returns-in-orElse-clause-mark c = read c.args.word.now (codes "orElse") mark.OrElse refl (omega arith) (search rules)

pub returns-in-throw-clause-mark : goal.returns-in-throw-clause-mark
unfolding choice_mark
returns-in-throw-clause-mark c = read c.args.word.now (codes "throw") mark.Throw refl (omega arith) (search rules)

pub returns-in-catch-clause-mark : goal.returns-in-catch-clause-mark
unfolding choice_mark
returns-in-catch-clause-mark c = read c.args.word.now (codes "catch") mark.Catch refl (omega arith) (search rules)
