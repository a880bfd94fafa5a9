use Rattle.std.specs.Prelude.{string_bytes}
use Rattle.stm_journaled_run.proofs.SessionEnded.{run_cause}
use Rattle.stm_journaled_run.proofs.Taking.{asked_begun, asked_held, asked_unmade, kept_untaken, made_untaken}
use Rattle.stm_journaled_run.proofs.session.DurableSession.checkpoint_asked.Goals as goal

pub returns-in-Ok-refuse-2-clause-taken : goal.returns-in-Ok-refuse-2-clause-taken
returns-in-Ok-refuse-2-clause-taken g c =
    let tried = rw c.in-Ok-RefusedByFile.field-0-is at c.in-Ok-RefusedByFile.ensures.tried in
    let text = rw c.try_checkpoint.ensures.held at c.in-Ok-refuse-2.ensures in
    asked_unmade g.D.Device.disk c.args.file.now c.try_checkpoint.new.file c.args.self.now.console c.try_checkpoint.new.self.console c.args.self.now.recorded c.try_checkpoint.new.self.recorded
    (string_bytes c.args.self.now.held) (string_bytes c.refuse-in-Ok-RefusedByFile.new.out) tried text

pub returns-in-Ok-refuse-clause-taken : goal.returns-in-Ok-refuse-clause-taken
returns-in-Ok-refuse-clause-taken g c =
    let tried = rw c.in-Ok-TicketsFull.field-0-is at c.in-Ok-TicketsFull.ensures.tried in
    let text = rw c.try_checkpoint.ensures.held at c.in-Ok-refuse.ensures in
    asked_held g.D.Device.disk c.args.file.now c.try_checkpoint.new.file c.args.self.now.console c.try_checkpoint.new.self.console c.args.self.now.recorded c.try_checkpoint.new.self.recorded
    (string_bytes c.args.self.now.held) (string_bytes c.refuse.new.out) tried text

pub returns-in-Ok-clause-taken : goal.returns-in-Ok-clause-taken
returns-in-Ok-clause-taken g c =
    let tried = rw c.in-Ok-Made.field-0-is at c.in-Ok-Made.ensures.tried in
    let text = rw c.try_checkpoint.ensures.held at c.in-Ok.ensures in
    asked_begun g.D.Device.disk c.args.file.now c.try_checkpoint.new.file c.args.self.now.console c.try_checkpoint.new.self.console c.args.self.now.recorded c.try_checkpoint.new.self.recorded
    (string_bytes c.args.self.now.held) (string_bytes c.write_checkpoint_line.new.out) c.in-Ok-Made.count tried text

-- ---- memory ran out for the answer
pub returns-in-Err-write_checkpoint_line-clause-fault : goal.returns-in-Err-write_checkpoint_line-clause-fault
returns-in-Err-write_checkpoint_line-clause-fault g c =
    let tried = rw c.in-Ok-Made.field-0-is at c.in-Ok-Made.ensures.tried in
    made_untaken g.D.Device.disk c.args.file.now c.try_checkpoint.new.file c.args.self.now.console c.try_checkpoint.new.self.console c.args.self.now.recorded c.try_checkpoint.new.self.recorded c.in-Ok-Made.count tried

pub returns-in-Err-write_checkpoint_line-clause-cause : goal.returns-in-Err-write_checkpoint_line-clause-cause
returns-in-Err-write_checkpoint_line-clause-cause g c = run_cause g.D.Device.disk _

pub returns-in-Err-refuse-clause-fault : goal.returns-in-Err-refuse-clause-fault
returns-in-Err-refuse-clause-fault g c =
    let tried = rw c.in-Ok-TicketsFull.field-0-is at c.in-Ok-TicketsFull.ensures.tried in
    kept_untaken g.D.Device.disk c.args.file.now c.try_checkpoint.new.file c.args.self.now.console c.try_checkpoint.new.self.console c.args.self.now.recorded c.try_checkpoint.new.self.recorded tried.3

pub returns-in-Err-refuse-clause-cause : goal.returns-in-Err-refuse-clause-cause
returns-in-Err-refuse-clause-cause g c = run_cause g.D.Device.disk _

pub returns-in-Err-refuse-2-clause-fault : goal.returns-in-Err-refuse-2-clause-fault
returns-in-Err-refuse-2-clause-fault g c =
    let tried = rw c.in-Ok-RefusedByFile.field-0-is at c.in-Ok-RefusedByFile.ensures.tried in
    kept_untaken g.D.Device.disk c.args.file.now c.try_checkpoint.new.file c.args.self.now.console c.try_checkpoint.new.self.console c.args.self.now.recorded c.try_checkpoint.new.self.recorded tried.3

pub returns-in-Err-refuse-2-clause-cause : goal.returns-in-Err-refuse-2-clause-cause
returns-in-Err-refuse-2-clause-cause g c = run_cause g.D.Device.disk _
