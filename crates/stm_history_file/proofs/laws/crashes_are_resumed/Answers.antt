use Rattle.stm_history_file.proofs.LeftIsLoaded.{all_or_none_is_resumed, first_are_resumed, start_is_resumed}
use Rattle.stm_history_file.proofs.OwnFiles.{own_stays_own}
use Rattle.stm_history_file.proofs.laws.crashes_are_resumed.Goals as goal

pub returns : goal.returns
returns c = record { full = all_or_none_is_resumed; append = first_are_resumed; start = start_is_resumed; own = own_stays_own }
