use Rattle.stm_events.proofs.Serial.{store_is_serial}
use Rattle.stm_events.proofs.laws.store_is_serial.Goals as goal

pub returns : goal.returns
returns c = store_is_serial
