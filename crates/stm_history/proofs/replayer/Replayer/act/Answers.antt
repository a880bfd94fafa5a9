use Rattle.stm_events.specs.declared.event.What.TheVariants.{Submitted, Installed, Cancelled, Labelled}
use Rattle.stm_history.proofs.AllowedEvents.{copy_kept, copy_made}
use Rattle.stm_history.proofs.replayer.Replayer.act.Goals as goal

pub returns-in-Submitted-clause-copied : goal.returns-in-Submitted-clause-copied
returns-in-Submitted-clause-copied c =
    let here = c.requires.at in
    copy_kept c.submitted.result here.0 (Submitted c.in-Submitted.ticket c.in-Submitted.block) _ _ _ tt here.1 c.submitted.ensures.done c.requires.copied

pub returns-in-Installed-clause-copied : goal.returns-in-Installed-clause-copied
returns-in-Installed-clause-copied c =
    let here = c.requires.at in
    copy_made c.install.result here.0 (Installed c.in-Installed.ticket c.in-Installed.verdict) _ _ _ tt here.1 c.install.ensures.done c.install.ensures.copied

pub returns-in-Cancelled-clause-copied : goal.returns-in-Cancelled-clause-copied
returns-in-Cancelled-clause-copied c =
    let here = c.requires.at in
    copy_kept c.cancelled.result here.0 (Cancelled c.in-Cancelled.ticket) _ _ _ tt here.1 c.cancelled.ensures.done c.requires.copied

pub returns-in-Labelled-clause-copied : goal.returns-in-Labelled-clause-copied
returns-in-Labelled-clause-copied c =
    let here = c.requires.at in
    copy_kept c.labelled.result here.0 (Labelled c.in-Labelled.ticket c.as_str-in-Labelled.result.now) _ _ _ tt here.1 c.labelled.ensures.done c.requires.copied
