use Rattle.std.proofs.Common.{inl, inr, refl}
use Rattle.stm_history.proofs.ReachedStages.{add_refused, format_refused}
use Rattle.stm_history.proofs.beginning.take_added.Goals as goal

pub returns-in-Err-clause-refused : goal.returns-in-Err-clause-refused
returns-in-Err-clause-refused c =
    let b = c.args.block in
    add_refused c.args.format c.args.waiting c.args.checkpoint b.ticket b.block b.cause b.label b.delivery c.in-Err.fault c.requires c.in-Err.ensures.refused

pub returns-then-not-may_have_format-clause-refused : goal.returns-then-not-may_have_format-clause-refused
returns-then-not-may_have_format-clause-refused c =
    let b = c.args.block in
    inr (inl (refl, format_refused c.args.format c.args.waiting c.args.checkpoint b.ticket b.block b.cause b.label b.delivery c.requires (λ free. let yes = c.may_have_format.ensures.1 free in cc (yes, c.if-not-may_have_format.true))))
