use Rattle.std.proofs.Common.{◌≡◌, ℕ, drop, ◌&&◌, not}
use Rattle.std.specs.Prelude.{nat_eq}
use Rattle.std.specs.List.{list_any}
use Rattle.stm_watch.specs.Pairs.{has_pair, is_read}
use Rattle.stm_waiting.specs.Entries.{kept_at}
use Rattle.stm_machine.specs.Entries.{kept_reads}
use Rattle.stm_machine.proofs.index.unwatch_all.Given as goal

abbrev pub invariant-loop-ticket : goal.invariant-loop-ticket
invariant-loop-ticket l =
    (v u : ℕ) → (has_pair l.watch v u && not (list_any (nat_eq u) (drop l.ticket-index l.tickets) && is_read (kept_reads (kept_at u l.waiting)) v))
    ≡ (has_pair l.fn.watch v u && not (list_any (nat_eq u) l.tickets && is_read (kept_reads (kept_at u l.waiting)) v))
