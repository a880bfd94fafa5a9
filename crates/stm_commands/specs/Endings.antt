-- `finish`, `cancel`, `settle` and `drain`: blocks take effect, or wait no more.
use Rattle.std.specs.Prelude.{ℕ, List, [], ◌∷◌, ◌++◌, Option, Some, None, codes, decimal, length}
use Rattle.stm_terms.specs.declared.values.Value.{Value}
use Rattle.stm_terms.specs.declared.verdicts.Verdict.{Verdict}
use Rattle.stm_terms.specs.declared.verdicts.Verdict.TheVariants.{Commits, Throws, Blocks}
use Rattle.stm_terms.specs.Texts.{list_text, value_text, verdict_text}
use Rattle.stm_store.specs.Cells.{changed_by, renumbered}
use Rattle.stm_events.specs.declared.errors.CancelError.{CancelError}
use Rattle.stm_events.specs.declared.errors.FinishError.{FinishError}
use Rattle.stm_events.specs.declared.event.What.{What}
use Rattle.stm_events.specs.declared.event.What.TheVariants.{Finished, Cancelled}
use Rattle.stm_events.specs.SlowDesk.{Waiter, verdict_on, find_waiter, without_waiter, stale_after}
use Rattle.stm_events.specs.SlowDrain.{next_drain}
use Rattle.stm_events.specs.SlowSettle.{Order, next_what, finishes, installs, Stop, NoRoom, NoCells}
use Rattle.stm_desk.specs.declared.errors.SettleWhy.{SettleWhy}
use Rattle.stm_desk.specs.declared.errors.SettleWhy.TheVariants.{HistoryFull, CellsFull, NoMemory}
use Rattle.stm_desk.specs.Refusals.{finish_refusal, cancel_refusal}
use Rattle.stm_desk.specs.DeskView.{DeskView, state_of, with_event}
use Rattle.stm_desk.specs.Settling.{slow_run, slow_run_stop, requeued_all, with_whats}
use Rattle.stm_lines.specs.NumberArgument.{number_argument}
use Rattle.stm_commands.specs.Arguments.{with_number, with_nothing, argument_refused}
use Rattle.stm_commands.specs.OpenDesk.{OpenDesk, on_desk}
use Rattle.stm_commands.specs.Refusals.{finish_error_text, cancel_error_text}

-- ---- finish
-- tickets, as a text
abbrev pub tickets_text : List ℕ → List ℕ
tickets_text tickets = list_text decimal tickets

-- the line with the result of a finish, and the tickets that it made stale
unfoldable pub result_line : ℕ → Value → List ℕ → List ℕ
result_line t result stale =
    codes "finished " ++ decimal t
    ++ codes " result " ++ value_text result
    ++ codes " stale " ++ tickets_text stale ++ 10 ∷ []

-- the line of a verdict that took effect when the store had this many variables, and of the tickets that it made stale
abbrev pub finished_line : ℕ → ℕ → Verdict → List ℕ → List ℕ
finished_line t first_new (Commits writes news result) stale = result_line t (renumbered first_new result) stale
finished_line t first_new (Throws fault) stale = codes "finished " ++ decimal t ++ 32 ∷ verdict_text (Throws fault) ++ 10 ∷ []
finished_line t first_new Blocks stale = []

-- `finish` of a block with this verdict
abbrev pub finish_verdict_step : DeskView → ℕ → Option Verdict → DeskView × List ℕ
finish_verdict_step d t (Some v) =
    let first_new = length (state_of d).store in
    let stale = stale_after (changed_by (state_of d).store v) (without_waiter t (state_of d).waiters) in
    (with_event d 0 (Finished t v first_new stale), finished_line t first_new v stale)
finish_verdict_step d t None = (d, [])

-- `finish` of a waiting block
abbrev pub finish_waiter_step : DeskView → ℕ → Option Waiter → DeskView × List ℕ
finish_waiter_step d t (Some w) = finish_verdict_step d t (verdict_on (state_of d).store w.block)
finish_waiter_step d t None = (d, [])

-- `finish` of a ticket, which is done or refused for this reason
abbrev pub finish_ticket_step : DeskView → ℕ → Option FinishError → DeskView × List ℕ
finish_ticket_step d t None = finish_waiter_step d t (find_waiter t (state_of d).waiters)
finish_ticket_step d t (Some e) = (d, finish_error_text e)

-- `finish`: a block takes effect and waits no more
unfoldable pub finish_step : OpenDesk → List ℕ → OpenDesk × List ℕ
finish_step d argument =
    with_number (λ t. on_desk d (finish_ticket_step d.desk t (finish_refusal d.desk t))) (d, argument_refused)
    (number_argument argument)

-- ---- cancel
-- the line which says that a block waits no more
unfoldable pub cancelled_line : ℕ → List ℕ
cancelled_line t = codes "cancelled " ++ decimal t ++ 10 ∷ []

-- `cancel` of a ticket, which is done or refused for this reason
abbrev pub cancel_ticket_step : DeskView → ℕ → Option CancelError → DeskView × List ℕ
cancel_ticket_step d t None = (with_event d 0 (Cancelled t), cancelled_line t)
cancel_ticket_step d t (Some e) = (d, cancel_error_text e)

-- `cancel`: a block waits no more
unfoldable pub cancel_step : OpenDesk → List ℕ → OpenDesk × List ℕ
cancel_step d argument =
    with_number (λ t. on_desk d (cancel_ticket_step d.desk t (cancel_refusal d.desk t))) (d, argument_refused)
    (number_argument argument)

-- ---- settle and drain
-- how many blocks finished by settling, and how many were run
unfoldable pub settled_line : ℕ → ℕ → List ℕ
settled_line finished evaluations =
    codes "settled " ++ decimal finished ++ codes " evaluations " ++ decimal evaluations ++ 10 ∷ []

-- how many blocks finished by draining, and how many were run
unfoldable pub drained_line : ℕ → ℕ → List ℕ
drained_line finished evaluations =
    codes "drained " ++ decimal finished ++ codes " evaluations " ++ decimal evaluations ++ 10 ∷ []

-- why settling stopped, before the counts; no line is printed for an out-of-memory error
abbrev pub why_text : SettleWhy → List ℕ
why_text HistoryFull = codes "stopped HistoryFull "
why_text CellsFull = codes "stopped CellsFull "
why_text NoMemory = []

-- why settling stopped, in the machine's words
abbrev pub stop_why : Stop → SettleWhy
stop_why NoRoom = HistoryFull
stop_why NoCells = CellsFull

-- what is printed of a run: the counts, in a line of this kind, and why it stopped, if it did
abbrev pub run_text : (ℕ → ℕ → List ℕ) → List What → Option Stop → List ℕ
run_text line whats None = line (finishes whats) (installs whats)
run_text line whats (Some stop) = why_text (stop_why stop) ++ line (finishes whats) (installs whats)

-- a run of a desk with no ticket out, in an order of work
abbrev pub run_desk_step : Order → (ℕ → ℕ → List ℕ) → DeskView → DeskView × List ℕ
run_desk_step next line d = (with_whats d 0 (slow_run next d), run_text line (slow_run next d) (slow_run_stop next d))

-- `settle` of a desk with no ticket out
abbrev pub settle_desk_step : DeskView → DeskView × List ℕ
settle_desk_step d = run_desk_step next_what settled_line d

-- `settle`: all that can run does, in a fixed order; first each ticket that is out is queued
unfoldable pub settle_step : OpenDesk → List ℕ → OpenDesk × List ℕ
settle_step d argument = with_nothing (on_desk d (settle_desk_step (requeued_all d.desk))) (d, argument_refused) argument

-- `drain` of a desk with no ticket out
abbrev pub drain_desk_step : DeskView → DeskView × List ℕ
drain_desk_step d = run_desk_step next_drain drained_line d

-- `drain`: all that can run does, the lowest block first; first each ticket that is out is queued
unfoldable pub drain_step : OpenDesk → List ℕ → OpenDesk × List ℕ
drain_step d argument = with_nothing (on_desk d (drain_desk_step (requeued_all d.desk))) (d, argument_refused) argument
