use Rattle.std.proofs.Common.{◌≡◌, ℕ, List, length, codes, rules, arith, sym, ap, ◌∙◌, refl, Some}
use Rattle.std.proofs.lemmas.Slice.Eq.{HasBytesAt, text_from_reads}
use Rattle.stm_parse.specs.declared.token.Mark.{Mark}
use Rattle.stm_parse.specs.declared.token.Mark.TheVariants as mark
use Rattle.stm_parse.specs.Lexing.{action_mark}
use Rattle.stm_parse.proofs.lexer.action_mark.Goals as goal

-- the mark of a word that was read byte by byte
read : (word text : List ℕ) (m : Mark) → action_mark text ≡ Some m → length word ≡ length text → HasBytesAt word 0 text → Some m ≡ action_mark word
read word text m e l h = sym (ap action_mark (text_from_reads word text l h) ∙ e)

pub returns-in-return-clause-mark : goal.returns-in-return-clause-mark
unfolding action_mark
returns-in-return-clause-mark c = read c.args.word.now (codes "return") mark.Return refl (omega arith) (search rules)

pub returns-in-readTVar-clause-mark : goal.returns-in-readTVar-clause-mark
unfolding action_mark
returns-in-readTVar-clause-mark c = read c.args.word.now (codes "readTVar") mark.ReadTVar refl (omega arith) (search rules)

pub returns-in-writeTVar-clause-mark : goal.returns-in-writeTVar-clause-mark
unfolding action_mark
returns-in-writeTVar-clause-mark c = read c.args.word.now (codes "writeTVar") mark.WriteTVar refl (omega arith) (search rules)

pub returns-in-newTVar-clause-mark : goal.returns-in-newTVar-clause-mark
unfolding action_mark
returns-in-newTVar-clause-mark c = read c.args.word.now (codes "newTVar") mark.NewTVar refl (omega arith) (search rules)
