use Rattle.std.proofs.Common.{◌∙◌, sym}
use Rattle.stm_desk.proofs.Turns.{next_install, full_at, store_install}
use Rattle.stm_desk.proofs.desk.Desk.deliver_next.Goals as goal

pub returns-then-is_full-clause-why : goal.returns-then-is_full-clause-why
returns-then-is_full-clause-why c =
    full_at c.args.self.now c.args.ticket c.in-Ok.verdict c.verdict_due.new.scratch c.in-Ok.ensures.few c.in-Ok.ensures.verdict (sym c.is_full.ensures ∙ c.if-is_full.true)

pub returns-in-Ok-keep_verdict-clause-done : goal.returns-in-Ok-keep_verdict-clause-done
returns-in-Ok-keep_verdict-clause-done c =
    next_install c.args.self.now c.keep_verdict.new.self c.args.client c.args.ticket c.in-Ok.verdict c.verdict_due.new.scratch c.in-Ok.ensures.verdict (sym c.is_full.ensures ∙ c.if-is_full.false)
    c.in-Ok-keep_verdict.ensures.accepted

pub returns-in-Ok-keep_verdict-clause-store : goal.returns-in-Ok-keep_verdict-clause-store
returns-in-Ok-keep_verdict-clause-store c = store_install c.args.self.now c.keep_verdict.new.self c.args.client _ _ c.in-Ok-keep_verdict.ensures.accepted
