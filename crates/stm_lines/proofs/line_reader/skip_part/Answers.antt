use Rattle.std.proofs.Common.{refl}
use Rattle.stm_lines.proofs.TakenParts.{IsSkippedPart-feed, IsSkippedPart-all}
use Rattle.stm_lines.proofs.line_reader.skip_part.Goals as goal

pub returns-in-Some : goal.returns-in-Some
returns-in-Some c = IsSkippedPart-feed c.in-Some.at _ _ c.in-Some.ensures.place c.advance.ensures

pub returns-in-None : goal.returns-in-None
returns-in-None c = IsSkippedPart-all _ _ _ c.in-None.ensures.place refl (rw c.bytes-all.ensures at c.advance-in-None.ensures)
