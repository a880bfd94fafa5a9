use Rattle.stm_journal.proofs.KeptContents.{elapses_to}
use Rattle.stm_journal.proofs.cached.CachedDevice.settle.Goals as goal

pub returns-clause-time : goal.returns-clause-time
returns-clause-time c honest =
    let past = c.in_ok-replace.ensures.past in
    elapses_to past.0 c.args.self.now.content past.1 past.2 c.args.self.now.past.items c.replace.new.past.items c.replace.new.content past.3
