use Rattle.std.proofs.Common.{◌∙◌, ap}
use Rattle.stm_waiting.specs.Entries.{lose}
use Rattle.stm_machine.proofs.RunAtOnce.{last_lost}
use Rattle.stm_machine.proofs.atomic.insert_watched.Goals as goal

pub returns-in-Err : goal.returns-in-Err
returns-in-Err c = record {
  inserted = tt;
  watched = tt;
  err = (c.remove.ensures.gone ∙ ap (lose c.args.ticket) c.in_ok-insert.ensures.done ∙ last_lost c.args.ticket _ c.args.waiting.now c.requires, c.in-Err.ensures.unchanged);
}
