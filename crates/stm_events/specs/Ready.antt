-- Which waiting blocks could finish now: each is current, and doesn't block on the present store. While no block is new or
-- stale, the lowest of them is the lowest that doesn't block: by `SlowSettle.next_what`, the one that settling finishes next.
use Rattle.std.specs.Prelude.{◌≡◌, ℕ, Bool, ◌&&◌, nat_lt, List, Option, None, option_map}
use Rattle.stm_store.specs.declared.cell.Cell.{Cell}
use Rattle.stm_events.specs.SlowDesk.{Waiter, Slow, is_current}
use Rattle.stm_events.specs.SlowSettle.{lowest, is_due, can_end}
use Rattle.stm_events.specs.Laws.{AreRising}

-- the block is current, and doesn't block on the store
abbrev pub is_ready : List Cell → Waiter → Bool
is_ready store w = is_current w && can_end store w

-- the lowest ticket above this one of a block that could finish now
abbrev pub next_ready : ℕ → Slow → Option ℕ
next_ready t s = option_map (λ w. w.ticket) (lowest (λ w. nat_lt t w.ticket && is_ready s.store w) s.waiters)

-- the lowest ticket above this one under which a block waits
abbrev pub next_waiting : ℕ → Slow → Option ℕ
next_waiting t s = option_map (λ w. w.ticket) (lowest (λ w. nat_lt t w.ticket) s.waiters)

-- while no block is new or stale, the lowest block that could finish now is the lowest that doesn't block on the present store
abbrev pub ReadyFinishesNext : Type 0
ReadyFinishesNext =
    (s : Slow) → AreRising s.next 0 s.waiters → lowest is_due s.waiters ≡ None
    → next_ready 0 s ≡ option_map (λ w. w.ticket) (lowest (can_end s.store) s.waiters)
