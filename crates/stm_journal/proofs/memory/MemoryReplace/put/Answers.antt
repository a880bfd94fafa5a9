use Rattle.std.proofs.Common.{rules}
use Rattle.stm_journal.proofs.Kept.{elapses_put}
use Rattle.stm_journal.proofs.memory.MemoryReplace.put.Goals as goal

pub returns-in-Ok-clause-puts : goal.returns-in-Ok-clause-puts
returns-in-Ok-clause-puts c honest =
    let past = c.in-Ok.ensures.past in
    record {
      seen = c.in-Ok.ensures.ok;
      on_disk = record { settled = search rules; only = λ file left. left };
      time =
          elapses_put c.args.self.now.past.items c.replace.new.past.items past.0 c.args.self.now.bytes.items c.replace.new.bytes.items c.args.other.bytes.items past.1 past.2
          c.in-Ok.ensures.ok;
    }
