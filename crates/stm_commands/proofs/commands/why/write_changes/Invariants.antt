use Rattle.std.proofs.Common.{◌≡◌, ◌++◌, drop, string_bytes}
use Rattle.stm_terms.specs.Texts.{spaced}
use Rattle.stm_commands.specs.Questions.{change_text}
use Rattle.stm_commands.proofs.commands.why.write_changes.Given as goal

abbrev pub invariant-loop-change : goal.invariant-loop-change
invariant-loop-change l = string_bytes l.out ++ spaced change_text (drop l.change-index l.changes) ≡ string_bytes l.fn.out ++ spaced change_text l.changes
