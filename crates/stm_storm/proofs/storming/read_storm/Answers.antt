use Rattle.stm_storm.proofs.storming.read_storm.Goals as goal

pub returns-in-Err-Script : goal.returns-in-Err-Script
returns-in-Err-Script g c = rw c.in-Err-Script.field-0-is at c.in-Err-Script.ensures
