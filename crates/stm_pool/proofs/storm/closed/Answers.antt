use Rattle.stm_pool.proofs.Counted.{all_counted}
use Rattle.stm_pool.proofs.storm.closed.Goals as goal

pub returns-in-Ok : goal.returns-in-Ok
returns-in-Ok g c = record {
  many = c.in-Ok.ensures.closed.events;
  counted = all_counted c.in-Ok.report.desk.history c.args.passes.items c.args.counts.now c.args.shared c.requires.few c.in-Ok.ensures.closed.all.agree c.requires.each;
}
