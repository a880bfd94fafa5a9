use Rattle.std.proofs.Common.{refl, inr}
use Rattle.stm_history.proofs.ReachedStages.{head_refused, head_unread, header_leads}
use Rattle.stm_history.proofs.beginning.take_checkpoint_header.Goals as goal

pub returns-then-is_head-clause-leads : goal.returns-then-is_head-clause-leads
returns-then-is_head-clause-leads c =
    let h = c.in-Ok.header in
    header_leads c.with_cells.result h.format h.next h.vars h.waiting _ _ c.args.line.now (c.in-Ok.ensures.0).0 (c.is_head.ensures.0 c.if-is_head.true) c.in-Ok.ensures.1 c.with_seed-names.ensures c.new.ensures.items c.with_cells.ensures.stage

pub returns-else-is_head-clause-refused : goal.returns-else-is_head-clause-refused
returns-else-is_head-clause-refused c =
    let h = c.in-Ok.header in
    let fits = c.in-Ok.ensures.0 in
    inr (refl, head_refused c.args.line.now h.format h.next h.vars h.waiting fits.0 c.in-Ok.ensures.1 fits.1 fits.2 fits.3 (λ head. let yes = c.is_head.ensures.1 head in cc (yes, c.if-is_head.false)))

pub returns-in-Err-clause-refused : goal.returns-in-Err-clause-refused
returns-in-Err-clause-refused c = head_unread c.args.line.now c.in-Err.error c.head_refused.result c.head_refused.ensures c.in-Err.ensures
