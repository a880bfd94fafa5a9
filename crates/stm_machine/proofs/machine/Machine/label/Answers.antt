use Rattle.stm_machine.proofs.Calls.{moves_label}
use Rattle.stm_machine.proofs.machine.Machine.label.Goals as goal

pub returns : goal.returns
returns c = λ z h. moves_label _ c.requires.may.0 z c.args.ticket c.args.label.now c.requires.may.1 c.requires.label c.requires.may.2 h
