-- The queue of a desk that has taken some lines is that of the new and stale blocks.
use Rattle.std.proofs.Common.{ap, ◌∙◌}
use Rattle.stm_check.specs.Laws.{CheckNeverSaysNoMemory}
use Rattle.stm_eval.specs.Laws.{VerdictIsStable}
use Rattle.stm_parse.specs.ParseFunction.{BlockAnswersAreRight, DeclarationAnswersAreRight}
use Rattle.stm_event_lines.specs.CheckedBlocks.{CheckedAreWellTyped}
use Rattle.stm_commands.specs.DueTickets.{tickets_out}
use Rattle.stm_desk.specs.DeskView.{state_of}
use Rattle.stm_run.specs.AfterLines.{state_after_lines}
use Rattle.stm_run.specs.Console.{initial_console}
use Rattle.stm_run.specs.ConsoleState.{present_desk}
use Rattle.stm_run.proofs.DueQueue.{entries, entries_are, due_rising, tickets_are_due}
use Rattle.stm_run.proofs.ReachedConsole.{present_stands, reached}
use Rattle.stm_run.proofs.StandingDesk.{stands_sound}
use Rattle.stm_run_laws.specs.Laws.{QueueIsOfDueTickets}

pub queue_is_of_due : BlockAnswersAreRight → DeclarationAnswersAreRight → CheckNeverSaysNoMemory → VerdictIsStable → CheckedAreWellTyped → QueueIsOfDueTickets
queue_is_of_due blocks declarations faults stable checked max_events low before =
    let s = state_after_lines (initial_console max_events) before in
    let k = present_stands s (reached blocks declarations faults stable checked max_events low before) in
    let d = (present_desk s).desk in
    let r = (stands_sound d (present_desk s).jobs k).possible.rising in (
      entries_are d.pending k.queue.rising ∙ ap (entries (tickets_out d.pending)) (tickets_are_due (state_of d).next (state_of d).waiters d.pending r k.queue),
      due_rising (state_of d).next (state_of d).waiters r,
    )
