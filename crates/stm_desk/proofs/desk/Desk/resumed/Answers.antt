use Rattle.std.proofs.Common.{◌∙◌, [], refl, ap}
use Rattle.stm_events.specs.SlowDesk.{state_from}
use Rattle.stm_machine.specs.Checkpoints.{start_of}
use Rattle.stm_machine.specs.Machine.{Parts}
use Rattle.stm_machine.specs.SettleChoices.{some_out}
use Rattle.stm_desk.specs.DeskView.{DeskView}
use Rattle.stm_desk.proofs.CheckpointLabels.{labels_begin}
use Rattle.stm_desk.proofs.Runs.{out_back}
use Rattle.stm_desk.proofs.desk.Desk.resumed.Goals as goal

pub invariant_of-desk : goal.invariant_of-desk
invariant_of-desk c = (
  record {
    start = c.requires.history.start;
    legal = c.requires.history.legal;
    at = c.recall.ensures.kept (state_from (start_of c.args.table c.args.checkpoint) c.args.events.items) c.requires.history.at;
    few = c.requires.few;
    small = c.requires.small;
    typed = c.requires.history.typed;
  },
  labels_begin c.args.table c.args.checkpoint c.args.events.items c.args.labels c.requires.history.start c.requires.history.legal.each c.requires.labels,
)

pub returns : goal.returns
returns c =
    let before : DeskView = record { table = c.args.table; checkpoint = c.args.checkpoint; limit = 0; history = []; pending = c.args.machine.pending } in
    record {
      table = refl;
      checkpoint = refl;
      limit = refl;
      history = refl;
      queue = (c.recall.ensures.kept (state_from (start_of c.args.table c.args.checkpoint) c.args.events.items) c.requires.history.at).stands.queue;
      none_out = ap (λ (m : Parts). some_out m.pending) c.recall.ensures.recalled ∙ out_back before;
    }
