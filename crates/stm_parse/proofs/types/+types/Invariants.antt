-- Each call takes a token, or is of a lower rank.
use Rattle.std.proofs.Common.{◌+◌, ◌*◌, length}
use Rattle.stm_parse.proofs.types.+types.Given as goal

abbrev pub decreases-type_within : goal.decreases-type_within
decreases-type_within l = 4 * length l.toks.now + 1

abbrev pub decreases-bare_type : goal.decreases-bare_type
decreases-bare_type l = 4 * length l.toks.now + 0

abbrev pub decreases-bracketed_type : goal.decreases-bracketed_type
decreases-bracketed_type l = 4 * length l.toks.now + 2
