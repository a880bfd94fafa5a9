use Rattle.std.proofs.Common.{◌≡◌, map, take}
use Rattle.stm_parse.specs.Lexing.{token_of}
use Rattle.stm_parse.proofs.tokenizer.with_classes.Given as goal

abbrev pub invariant-loop-tok : goal.invariant-loop-tok
invariant-loop-tok l = l.out.items ≡ map token_of (take l.tok-index l.toks)
