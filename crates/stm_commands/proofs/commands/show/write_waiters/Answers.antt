use Rattle.std.proofs.Common.{◌++◌, List, refl, ap, string_bytes}
use Rattle.stm_events.specs.SlowDesk.{Waiter}
use Rattle.stm_desk.specs.DeskView.{state_of}
use Rattle.stm_commands.specs.Contents.{waiter_line, waiter_lines}
use Rattle.stm_commands.proofs.WaiterLines.{all_waiters, fewer, one_more, no_more}
use Rattle.stm_commands.proofs.LegalDesks.{desk_possible}
use Rattle.stm_commands.proofs.commands.show.write_waiters.Goals as goal

pub loop-ticket-init : goal.loop-ticket-init
loop-ticket-init c =
    let d = c.args.desk.now in
    ap (λ (ws : List Waiter). string_bytes c.args.out.now ++ waiter_lines (state_of d).store ws) (all_waiters _ (state_of d).waiters (desk_possible d c.history-events.ensures.start c.history-events.ensures.legal).rising)

pub loop-ticket-smaller : goal.loop-ticket-smaller
loop-ticket-smaller c =
    let d = c.args.desk.now in
    fewer _ c.loop-ticket.last c.in-Some.ticket (state_of d).waiters (desk_possible d c.history-events.ensures.start c.history-events.ensures.legal).rising c.in-Some.ensures

pub loop-ticket-preserved : goal.loop-ticket-preserved
loop-ticket-preserved c =
    let d = c.args.desk.now in
    one_more (waiter_lines (state_of d).store) (waiter_line (state_of d).store) _ c.loop-ticket.last c.in-Some.ticket (state_of d).waiters _ _ _ (λ w rest. refl) (desk_possible d c.history-events.ensures.start c.history-events.ensures.legal).rising c.in-Some.ensures c.in_ok-write_waiter.ensures c.loop-ticket.invariant

pub returns : goal.returns
returns c =
    let d = c.args.desk.now in
    no_more (waiter_lines (state_of d).store) c.loop-ticket.last (state_of d).waiters _ _ refl c.in_default.ensures c.loop-ticket.invariant
