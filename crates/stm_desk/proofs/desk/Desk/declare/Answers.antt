use Rattle.std.proofs.Common.{ℕ}
use Rattle.stm_events.specs.declared.errors.LateDeclareError.TheVariants.{NoMemory}
use Rattle.stm_desk.specs.Refusals.{late_declare_refusal}
use Rattle.stm_terms.proofs.Refused.{accepted}
use Rattle.stm_desk.proofs.Calls.{refused_alike}
use Rattle.stm_desk.proofs.desk.Desk.declare.Goals as goal

pub declare_allowed-requires-clause-allowed : goal.declare_allowed-requires-clause-allowed
declare_allowed-requires-clause-allowed c = accepted NoMemory (late_declare_refusal c.args.self.now c.args.name.now c.args.kind c.args.value) _ c.in-Ok.ensures.refused

pub returns-in-Err-clause-refused : goal.returns-in-Err-clause-refused
returns-in-Err-clause-refused c =
    refused_alike (Unit {0}) ℕ NoMemory (late_declare_refusal c.args.self.now c.args.name.now c.args.kind c.args.value) c.in-Err.refusal c.in-Err.ensures.refused
