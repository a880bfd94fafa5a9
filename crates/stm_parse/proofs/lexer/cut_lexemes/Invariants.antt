use Rattle.std.proofs.Common.{◌-◌, ◌≤◌, length}
use Rattle.stm_parse.proofs.LexerTurn.{AreSeen}
use Rattle.stm_parse.proofs.lexer.cut_lexemes.Given as goal

abbrev pub invariant-loop-place : goal.invariant-loop-place
invariant-loop-place l = (l.place ≤ length l.bytes) × AreSeen l.bytes l.place l.out.items

abbrev pub decreases-loop-place : goal.decreases-loop-place
decreases-loop-place l = length l.bytes - l.place
