use Rattle.stm_history.proofs.ExpectedLines.{expected_leads_on}
use Rattle.stm_history.proofs.laws.expected_lines_lead_on.Goals as goal

pub returns : goal.returns
returns c = expected_leads_on
