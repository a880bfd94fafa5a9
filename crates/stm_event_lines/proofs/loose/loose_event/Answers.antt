use Rattle.std.proofs.Common.{None, Err, ap}
use Rattle.serde_json.specs.View.{view}
use Rattle.stm_event_lines.proofs.ReadLoosely.{loose_same, loose_none, loose_meant, none_meant}
use Rattle.stm_event_lines.proofs.loose.loose_event.Goals as goal

pub returns-in-Ok-clause-read : goal.returns-in-Ok-clause-read
returns-in-Ok-clause-read c = loose_same c.only_event_of.result c.args.known.now c.args.line.now (view c.in-Ok.json) c.in-Ok.ensures.ok c.only_event_of.ensures.fits c.only_event_of.ensures.value

pub returns-in-Ok-clause-meant : goal.returns-in-Ok-clause-meant
returns-in-Ok-clause-meant c = loose_meant c.only_event_of.result c.args.known.now c.args.line.now (view c.in-Ok.json) c.in-Ok.ensures.ok c.only_event_of.ensures.value

pub returns-in-Err-Bad-clause-read : goal.returns-in-Err-Bad-clause-read
returns-in-Err-Bad-clause-read c = (tt, λ d f l. loose_none c.args.known.now c.args.line.now d None (c.in-Err-Bad.ensures.bad (ap (λ x. Err x) c.in-Err-Bad.field-0-is)) f l)

pub returns-in-Err-Bad-clause-meant : goal.returns-in-Err-Bad-clause-meant
returns-in-Err-Bad-clause-meant c = none_meant c.args.known.now c.args.line.now (c.in-Err-Bad.ensures.bad (ap (λ x. Err x) c.in-Err-Bad.field-0-is))
