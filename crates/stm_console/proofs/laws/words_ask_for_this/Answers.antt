use Rattle.stm_console.proofs.StatusProofs.{words_ask}
use Rattle.stm_console.proofs.laws.words_ask_for_this.Goals as goal

pub returns : goal.returns
returns c = words_ask
