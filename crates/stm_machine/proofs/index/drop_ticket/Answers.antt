use Rattle.std.proofs.Common.{rules, not, nat_eq}
use Rattle.std.proofs.lemmas.Fn.{filter_same}
use Rattle.stm_machine.proofs.index.drop_ticket.Goals as goal

pub returns : goal.returns
returns c = filter_same _ (λ x. not (nat_eq c.args.ticket x)) _ (λ x b f k. search rules) _ _ c.retain.ensures.filtered
