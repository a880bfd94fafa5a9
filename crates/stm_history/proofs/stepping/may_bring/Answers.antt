use Rattle.std.proofs.Common.{arith}
use Rattle.std.proofs.lemmas.Grind.{common_steps}
use Rattle.stm_history.proofs.AllowedEvents.{install_only_memory, install_same}
use Rattle.stm_history.proofs.stepping.may_bring.Goals as goal

pub returns-then-not-brings-clause-not_allowed : goal.returns-then-not-brings-clause-not_allowed
returns-then-not-brings-clause-not_allowed c = λ n s k a.
    let same = install_same s c.args.verdict.now c.args.message.now a (c.requires s k) in
    let yes = c.brings.ensures.1 same in
    let no_ = c.if-not-brings.true in
    grind (arith, common_steps)

pub returns-in-Err-clause-not_allowed : goal.returns-in-Err-clause-not_allowed
returns-in-Err-clause-not_allowed c = λ n s k a.
    let memory = c.deliver_refused.ensures (install_only_memory _ s c.args.verdict.now _ c.args.message.now a (c.requires s k) (c.in-Err.ensures.refused s k)) in
    cc
