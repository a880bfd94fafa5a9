use Rattle.std.proofs.Common.{◌≡◌, Err, rules}
use Rattle.stm_desk.specs.declared.errors.AtomicError.TheVariants.{NoMemory}
use Rattle.stm_desk.proofs.Atomically.{is_reason, are_due, none_before}
use Rattle.stm_desk.proofs.desk.Desk.atomically.Goals as goal

pub returns-in-Err-clause-refused : goal.returns-in-Err-clause-refused
returns-in-Err-clause-refused c = is_reason c.args.self.now c.args.block c.in-Err.refusal c.in-Err.ensures.told c.in-Err.ensures.memory

pub returns-in_err-verdict-clause-refused : goal.returns-in_err-verdict-clause-refused
returns-in_err-verdict-clause-refused c =
    let is : c.from_residual.result ≡ Err NoMemory = search rules in
    rw is (none_before c.args.self.now c.args.block c.in-Ok.ensures.allowed c.in-Ok.ensures.room)

pub returns-clause-refused : goal.returns-clause-refused
returns-clause-refused c = are_due c.args.self.now c.args.block c.run_by.result (none_before c.args.self.now c.args.block c.in-Ok.ensures.allowed c.in-Ok.ensures.room) c.run_by.ensures.refused
