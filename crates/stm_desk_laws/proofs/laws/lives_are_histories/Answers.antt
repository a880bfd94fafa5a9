use Rattle.stm_desk_laws.proofs.WholeLives.{lives}
use Rattle.stm_desk_laws.proofs.laws.lives_are_histories.Goals as goal

pub returns : goal.returns
returns c = lives
