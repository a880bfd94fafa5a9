use Rattle.std.proofs.Common.{refl}
use Rattle.stm_desk.specs.DeskView.{state_of}
use Rattle.stm_commands.proofs.ReadyTickets.{one_more, fewer, no_more}
use Rattle.stm_commands.proofs.LegalDesks.{desk_possible}
use Rattle.stm_commands.proofs.commands.ready.write_ready_above.Goals as goal

pub loop-next-init : goal.loop-next-init
loop-next-init c = refl

pub loop-next-smaller : goal.loop-next-smaller
loop-next-smaller c =
    let d = c.args.desk.now in
    fewer (state_of d) c.loop-next.last c.in-Some.next (desk_possible d c.history-events.ensures.start c.history-events.ensures.legal).rising c.in-Some.ensures

pub loop-next-preserved : goal.loop-next-preserved
loop-next-preserved c =
    let d = c.args.desk.now in
    one_more (state_of d) c.loop-next.last c.in-Some.next _ _ _ _ (desk_possible d c.history-events.ensures.start c.history-events.ensures.legal).rising c.in-Some.ensures
    c.in_ok-push_str.ensures.bytes c.in_ok-write_number.ensures c.loop-next.invariant

pub returns : goal.returns
returns c =
    let d = c.args.desk.now in
    no_more (state_of d) c.loop-next.last _ _ c.in_default.ensures c.loop-next.invariant
