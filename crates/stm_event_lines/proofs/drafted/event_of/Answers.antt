use Rattle.stm_event_lines.proofs.FitsPushed.{fits_at}
use Rattle.stm_event_lines.proofs.drafted.event_of.Goals as goal

pub returns-in-Installed-clause-fits : goal.returns-in-Installed-clause-fits
returns-in-Installed-clause-fits c = fits_at c.installed.result c.args.known.now c.installed.ensures

pub returns-in_ok-stale-in-Finished-clause-fits : goal.returns-in_ok-stale-in-Finished-clause-fits
returns-in_ok-stale-in-Finished-clause-fits c = fits_at c.finished.result c.args.known.now c.finished.ensures
