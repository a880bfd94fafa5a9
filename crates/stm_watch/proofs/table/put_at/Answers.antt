use Rattle.stm_watch.proofs.TableLemmas.{put_others}
use Rattle.stm_watch.proofs.table.put_at.Goals as goal

pub returns-clause-others : goal.returns-clause-others
returns-clause-others c = put_others c.args.variable c.args.place c.one.result c.args.slots.now.items c.requires.within.0 c.requires.unused
