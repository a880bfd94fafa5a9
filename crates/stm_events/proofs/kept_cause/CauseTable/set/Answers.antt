use Rattle.std.proofs.Common.{subst}
use Rattle.stm_events.specs.KeptCauses.{KeptCauses, with_cause, AreSameCauses}
use Rattle.stm_events.proofs.LabelTables.{cause_put}
use Rattle.stm_events.proofs.kept_cause.CauseTable.set.Goals as goal

pub returns-clause-done : goal.returns-clause-done
returns-clause-done c =
    subst (λ (old : KeptCauses). AreSameCauses c.insert.new.self.entries (with_cause c.args.ticket c.args.cause old)) c.self.view_is
    (cause_put c.args.ticket c.args.cause c.self.inside.causes.entries c.insert.new.self.entries c.in-Ok.ensures.updates.0)
