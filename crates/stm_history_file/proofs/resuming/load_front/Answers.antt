use Rattle.stm_history_file.proofs.RepairedFiles.{loaded_format_is}
use Rattle.stm_history_file.proofs.resuming.load_front.Goals as goal

pub returns-in-Ok-clause-resumable : goal.returns-in-Ok-clause-resumable
returns-in-Ok-clause-resumable g c = c.in-Ok.ensures.0.resumable

pub returns-in-Ok-clause-blocks : goal.returns-in-Ok-clause-blocks
returns-in-Ok-clause-blocks g c = c.in-Ok.ensures.0.blocks

pub returns-in-Ok-clause-format : goal.returns-in-Ok-clause-format
returns-in-Ok-clause-format g c =
    let h = c.in-Ok.loaded in
    let is = c.in-Ok.ensures.0 in
    loaded_format_is h.format h.table h.checkpoint h.events.items is.latest is.resumable.text
