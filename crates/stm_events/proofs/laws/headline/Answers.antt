use Rattle.stm_events.specs.declared.staleness.StalenessRule.TheVariants.{Changed}
use Rattle.stm_events.proofs.Headline.{headline}
use Rattle.stm_events.proofs.laws.headline.Goals as goal

pub returns : goal.returns
returns c = record { present = headline Changed; by_rule = headline }
