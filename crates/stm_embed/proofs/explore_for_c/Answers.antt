use Rattle.stm_embed.specs.Exploring.{explore_options}
use Rattle.stm_embed.proofs.GivenToC.{gives_exploration}
use Rattle.stm_embed.proofs.explore_for_c.Goals as goal

pub returns-in-Ok-clause-found : goal.returns-in-Ok-clause-found
returns-in-Ok-clause-found c = λ some.
    let e = c.in-Ok.ensures.done in
    gives_exploration c.args.script.now c.options.result (explore_options c.args.options.now) c.args.diagnosed c.in-Ok.ended _ _ e.0 e.1 _ c.options.ensures e.2 e.3 e.4 e.5 c.status.ensures.status c.line-explored.ensures
