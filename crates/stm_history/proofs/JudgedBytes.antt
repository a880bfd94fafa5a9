-- What is judged of bytes, from what holds of numbers and what of a fault.
use Rattle.std.proofs.Common.{ℕ, List, Option, Some, None}
use Rattle.std.specs.Prelude.{IfErr, IfOk, IfSome, Result, Ok, Err}
use Rattle.stm_history.specs.declared.fault.HistoryFault.{HistoryFault}
use Rattle.stm_history.specs.declared.fault.Legal.{Legal}
use Rattle.stm_history.specs.Judgement.{IsHistory, JudgesHistory, ReportsFault}

pub judged : (input : Option (List ℕ)) (r : Result Legal HistoryFault) → IfOk r (λ n. IfSome input (λ bytes. IsHistory bytes n)) → IfErr r (λ e. IfSome input (λ bytes. ReportsFault e bytes))
    → IfSome input (λ bytes. JudgesHistory bytes r)
judged None r done fault = tt
judged (Some bytes) (Ok n) done fault = done
judged (Some bytes) (Err f) done fault = fault
