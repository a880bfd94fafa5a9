-- What settling chooses next, by the queue and by what is kept of the deliveries.
use Rattle.std.specs.Prelude.{ℕ, Bool, List, Option, option_map}
use Rattle.std.specs.List.{list_any}
use Rattle.stm_queue.specs.Queue.{Entry}
use Rattle.stm_events.specs.SlowDesk.{Slow}
use Rattle.stm_events.specs.SlowSettle.{lowest, is_due, can_end}

-- some ticket is out
abbrev pub some_out : List Entry → Bool
some_out es = list_any (λ e. e.1) es

-- the lowest ticket that is new or stale
abbrev pub next_due : Slow → Option ℕ
next_due s = option_map (λ w. w.ticket) (lowest is_due s.waiters)

-- the lowest ticket whose block doesn't block on the present store
abbrev pub next_end : Slow → Option ℕ
next_end s = option_map (λ w. w.ticket) (lowest (can_end s.store) s.waiters)
