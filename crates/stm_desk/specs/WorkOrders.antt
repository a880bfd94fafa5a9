-- The two orders of work, and what each does next, ticket by ticket.
use Rattle.std.specs.Prelude.{ℕ, nat_lt, Option, Some, None, if◌then◌else◌, option_map}
use Rattle.stm_events.specs.SlowDesk.{Waiter, Slow}
use Rattle.stm_events.specs.SlowSettle.{lowest, is_due, Order, next_what}
use Rattle.stm_events.specs.SlowDrain.{is_next, next_drain}
use Rattle.stm_machine.specs.SettleChoices.{next_due, next_end}
use Rattle.stm_desk.specs.declared.settle.WorkOrder.{WorkOrder}
use Rattle.stm_desk.specs.declared.settle.WorkOrder.TheVariants.{Rounds, Lowest}

-- settling works in rounds, draining at the lowest block
abbrev pub order_of : WorkOrder → Order
order_of Rounds = next_what
order_of Lowest = next_drain

-- the ticket of this block, if it is new or stale
abbrev pub ticket_if_due : Option Waiter → Option ℕ
ticket_if_due None = None
ticket_if_due (Some w) = if is_due w then Some w.ticket else None

-- the ticket that is evaluated next, if the next thing is an evaluation
abbrev pub due_in : WorkOrder → Slow → Option ℕ
due_in Rounds s = next_due s
due_in Lowest s = ticket_if_due (lowest (is_next s.store) s.waiters)

-- the ticket that is finished next, if the next thing isn't an evaluation
abbrev pub end_in : WorkOrder → Slow → Option ℕ
end_in Rounds s = next_end s
end_in Lowest s = option_map (λ w. w.ticket) (lowest (is_next s.store) s.waiters)

-- a ticket, unless another one is below it
abbrev pub unless_below : ℕ → Option ℕ → Option ℕ
unless_below t None = Some t
unless_below t (Some u) = if nat_lt u t then None else Some t
