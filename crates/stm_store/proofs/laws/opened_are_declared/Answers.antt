use Rattle.stm_store.proofs.Opening.{plains-opened}
use Rattle.stm_store.proofs.laws.opened_are_declared.Goals as goal

pub returns : goal.returns
returns c = plains-opened
