use Rattle.std.specs.Prelude.{string_bytes}
use Rattle.stm_console.proofs.WhyWritten.{answer_begun}
use Rattle.stm_console.proofs.why.answer_bytes.Goals as goal

pub returns-clause-part : goal.returns-clause-part
returns-clause-part g c =
    answer_begun _ _ _ (string_bytes c.in_ok-finding.text) c.as_bytes.result.now c.in_ok-finding.finding c.as_bytes.ensures.value c.in_ok-finding.ensures.answer c.in-Err.ensures.written
