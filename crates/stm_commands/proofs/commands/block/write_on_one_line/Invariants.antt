use Rattle.std.proofs.Common.{◌≡◌, ◌++◌, string_bytes}
use Rattle.std.specs.Str.{IsUtf8}
use Rattle.stm_commands.specs.Labelling.{on_one_line}
use Rattle.stm_commands.proofs.commands.block.write_on_one_line.Given as goal

abbrev pub invariant-loop-c : goal.invariant-loop-c
invariant-loop-c l =
    IsUtf8 l.c-iterator.rest.now × (string_bytes l.out ++ on_one_line l.c-iterator.rest.now ≡ string_bytes l.fn.out ++ on_one_line l.fn.text)
