use Rattle.stm_store.proofs.ApplyPreservesTyping.{applied_typed, kept_store}
use Rattle.stm_store.proofs.laws.fitting_keep_stores.Goals as goal

pub returns : goal.returns
returns c = record { types = applied_typed; stores = kept_store }
