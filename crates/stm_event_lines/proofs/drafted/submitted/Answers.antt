use Rattle.std.proofs.Common.{sym, ◌∙◌}
use Rattle.stm_events.specs.declared.event.What.TheVariants.{Submitted}
use Rattle.stm_source.proofs.LaterNames.{equal_names}
use Rattle.stm_event_lines.proofs.FitsPushed.{fits_by}
use Rattle.stm_event_lines.proofs.Ranges.{own_text}
use Rattle.stm_event_lines.proofs.drafted.submitted.Goals as goal

pub returns-in-Some-clause-fits : goal.returns-in-Some-clause-fits
returns-in-Some-clause-fits c =
    fits_by c.event_by.result c.args.known.now (Submitted c.args.ticket c.in-Some.block) c.event_by.ensures
    (c.ranges.ticket.fits, own_text c.args.known.now c.args.text.now c.in-Some.block (sym c.in_ok-block.ensures.block ∙ c.in-Some.is))

pub block_of-requires : goal.block_of-requires
block_of-requires c = equal_names _ _ c.requires
