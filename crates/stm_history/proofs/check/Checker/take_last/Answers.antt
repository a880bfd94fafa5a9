use Rattle.stm_history.proofs.LineByLine.{last_taken}
use Rattle.stm_history.proofs.RefusedLines.{memory_stops}
use Rattle.stm_history.proofs.check.Checker.take_last.Goals as goal

pub returns-in-Ok-clause-done : goal.returns-in-Ok-clause-done
returns-in-Ok-clause-done c = last_taken _ _ _ _ c.requires.plain c.requires.short (rw c.requires.none at c.in-Ok.ensures.items)

pub returns-in-Err-clause-stops : goal.returns-in-Err-clause-stops
returns-in-Err-clause-stops c = λ taken more h. memory_stops _ _ _ taken _ h
