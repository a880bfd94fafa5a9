use Rattle.std.proofs.Common.{◌≡◌, IfOk, ap, ◌∙◌, subst}
use Rattle.std.specs.Prelude.{Vec}
use Rattle.std.specs.declared.alloc.Global.{Global}
use Rattle.stm_events.specs.declared.event.Event.{Event}
use Rattle.stm_desk.specs.DeskView.{DeskView}
use Rattle.stm_commands.specs.OpenDesk.{without_jobs}
use Rattle.stm_run.specs.declared.console.Console.TheVariants.{Open}
use Rattle.stm_journaled_run.proofs.ResumedQueue.{resumed_is}
use Rattle.stm_journaled_run.proofs.resuming.resumed.Goals as goal

pub returns : goal.returns
returns c =
    let parts = c.into_parts-table.ensures in
    let h = c.history-history.ensures in
    subst (λ (d : DeskView). IfOk c.resume-in-Ok.result (λ x. x ≡ Open (without_jobs d)))
    (resumed_is c.in-Ok.desk c.args.loaded.table c.args.loaded.checkpoint c.args.limit c.args.loaded.events.items (c.in-Ok.ensures.resumed.table ∙ parts.table) (c.in-Ok.ensures.resumed.checkpoint ∙ parts.checkpoint) c.in-Ok.ensures.resumed.limit
    (c.in-Ok.ensures.resumed.history ∙ ap (λ (v : Vec Event Global). v.items) parts.events) h.start h.legal h.rising h.queue c.in-Ok.ensures.resumed.none_out) c.resume-in-Ok.ensures
