use Rattle.std.proofs.Common.{refl}
use Rattle.stm_eval.proofs.interpreter.after_left.Goals as goal

-- a throw is the end, and the frame is gone
pub returns-in-Threw-clause-goes_on : goal.returns-in-Threw-clause-goes_on
returns-in-Threw-clause-goes_on c = rw c.in-Threw.is (refl, (c.discard.ensures.frames, c.discard.ensures.reads))
