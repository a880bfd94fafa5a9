-- What evaluating queued blocks does to a desk: one after another, each on the present store, until the history is full.
use Rattle.std.specs.Prelude.{◌≡◌, ℕ, ◌+◌, ◌≤◌, List, [], ◌∷◌, take, if◌then◌else◌, Option, Some, None}
use Rattle.stm_terms.specs.declared.verdicts.Verdict.{Verdict}
use Rattle.stm_store.specs.declared.cell.Cell.{Cell}
use Rattle.stm_queue.specs.Queue.{queued}
use Rattle.stm_events.specs.declared.errors.DeliverError.{DeliverError}
use Rattle.stm_events.specs.declared.errors.DeliverError.TheVariants.{HistoryFull}
use Rattle.stm_events.specs.declared.event.What.TheVariants.{Installed}
use Rattle.stm_events.specs.SlowDesk.{Waiter, Slow, verdict_on, find_waiter}
use Rattle.stm_desk.specs.declared.evaluate.Evaluation.{Evaluation}
use Rattle.stm_desk.specs.DeskView.{DeskView, state_of, is_full, with_event}

-- how far an evaluation came: the desk, how many verdicts were installed, and the refusal that stopped it
pub record EvaluatedSoFar : Type 0 where
  pub desk : DeskView
  pub count : ℕ
  pub stop : Option DeliverError

-- the verdict of a waiting block on a store
abbrev pub verdict_of_waiter : List Cell → Option Waiter → Option Verdict
verdict_of_waiter store None = None
verdict_of_waiter store (Some w) = verdict_on store w.block

-- the verdict on the present store of the block that waits under a ticket
abbrev pub verdict_under : Slow → ℕ → Option Verdict
verdict_under s t = verdict_of_waiter s.store (find_waiter t s.waiters)

-- a verdict is installed, in an event of the client
abbrev pub with_installed : DeskView → ℕ → ℕ → Option Verdict → DeskView
with_installed d client t (Some v) = with_event d client (Installed t v)
with_installed d client t None = d

-- the block under a ticket is evaluated on the present store, and its verdict installed
abbrev pub with_evaluated : DeskView → ℕ → ℕ → DeskView
with_evaluated d client t = with_installed d client t (verdict_under (state_of d) t)

-- the next ticket: its block is evaluated, unless the history is full or was before
abbrev pub evaluate_unless : ℕ → EvaluatedSoFar → ℕ → Option DeliverError → EvaluatedSoFar
evaluate_unless client p t (Some e) = p
evaluate_unless client p t None =
    if is_full p.desk then record p { stop = Some HistoryFull }
    else record { desk = with_evaluated p.desk client t; count = p.count + 1; stop = None }

-- these tickets, one after another
abbrev pub evaluate_each : ℕ → EvaluatedSoFar → List ℕ → EvaluatedSoFar
evaluate_each client p [] = p
evaluate_each client p (t ∷ ts) = evaluate_each client (evaluate_unless client p t p.stop) ts

-- no ticket yet
abbrev pub none_evaluated : DeskView → EvaluatedSoFar
none_evaluated d = record { desk = d; count = 0; stop = None }

-- the n lowest queued tickets, or all of them, in ascending order
abbrev pub evaluate_lowest : DeskView → ℕ → ℕ → EvaluatedSoFar
evaluate_lowest d client n = evaluate_each client (none_evaluated d) (take n (queued d.pending))

-- what a call returned, with the desk that it left
abbrev pub evaluated_by_call : DeskView → Evaluation → EvaluatedSoFar
evaluated_by_call d e = record { desk = d; count = e.count; stop = e.stop }

-- the first of the n lowest queued tickets were evaluated, and the others are as they were
pub record HasEvaluatedSome (client n : ℕ) (old new : DeskView) : Type 0 where
  pub count : ℕ
  pub few : count ≤ n
  pub done : evaluate_lowest old client count ≡ record { desk = new; count = count; stop = None }
