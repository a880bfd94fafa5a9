use Rattle.stm_check.proofs.Strengthening.{typed_by_uses}
use Rattle.stm_check.proofs.laws.strengthening.Goals as goal

pub returns : goal.returns
returns c = typed_by_uses
