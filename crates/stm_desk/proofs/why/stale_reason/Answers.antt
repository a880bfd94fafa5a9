use Rattle.std.proofs.Common.{◌≡◌, Some, rules}
use Rattle.stm_desk.specs.Causes.{last_with}
use Rattle.stm_desk.proofs.ListedReasons.{with_writable}
use Rattle.stm_desk.proofs.why.stale_reason.Goals as goal

pub stale_by-requires : goal.stale_by-requires
stale_by-requires c =
    let is : last_with c.args.ticket c.args.history.now ≡ Some c.in-Some.what.now = search rules in
    with_writable c.args.ticket c.args.history.now c.in-Some.what.now c.requires is
