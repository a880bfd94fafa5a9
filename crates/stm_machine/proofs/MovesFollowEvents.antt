-- Each move leaves what the slow desk has after its event.
use Rattle.std.proofs.Common.{◌≡◌, ℕ, ◌+◌, Bool, true, false, not, ◌&&◌, ◌||◌, cond, List, [], ◌∷◌, ◌++◌, Option, Some, None, refl, sym, ap, subst, ◌∙◌, arith, eqb-true}
use Rattle.std.specs.Prelude.{nat_eq, option_map}
use Rattle.std.specs.List.{list_any}
use Rattle.stm_terms.specs.declared.values.Value.{Value}
use Rattle.stm_terms.specs.declared.verdicts.Verdict.{Verdict}
use Rattle.stm_store.specs.declared.cell.Cell.{Cell}
use Rattle.stm_store.specs.Cells.{applied}
use Rattle.stm_check.specs.TypedBlock.{Block}
use Rattle.stm_eval.specs.Messages.{Holds}
use Rattle.stm_watch.specs.Pairs.{Pairs, has_pair, is_read, WithReads, WithoutReads}
use Rattle.stm_queue.specs.Queue.{has_ticket, with_ticket, without_ticket}
use Rattle.stm_queue.proofs.Membership.{has_without}
use Rattle.stm_queue.proofs.Merging.{has_with}
use Rattle.stm_events.specs.declared.event.What.TheVariants.{Submitted, Installed, Finished, Cancelled}
use Rattle.stm_events.specs.SlowDesk.{Waiter, Slow, under, is_current, waking, stale_after, after_writes, find_waiter, without_waiter, after}
use Rattle.stm_events.specs.Laws.{AreRising}
use Rattle.stm_events.proofs.Rising.{rising_without, waiter_without, waiter_delivered, waiter_marks, waiter_push}
use Rattle.stm_waiting.specs.declared.waiting.Held.{Held}
use Rattle.stm_waiting.specs.declared.waiting.Waiting.{Waiting}
use Rattle.stm_waiting.specs.Entries.{kept_at, lose, with_held, held_reads}
use Rattle.stm_machine.specs.Entries.{AreKeptOf, kept_reads}
use Rattle.stm_machine.specs.Machine.{Parts, Stands}
use Rattle.stm_machine.specs.QueueAndIndex.{with_tickets, due_of, watches_of, read_since}
use Rattle.stm_machine.proofs.KeptBlocksWait.{IsFound, found, due_push, due_lose, due_marks, due_held, held_are}
use Rattle.stm_machine.proofs.QueueAndIndexByTicket.{not_yet, has_with_tickets, queue_push, index_push, queue_delivered, index_delivered, queue_gone, index_gone, stale_of, queue_finished, index_finished, has_stale}

pub stands_submit : (s : Slow) (m : Parts) (b : Block) → AreRising s.next 0 s.waiters → Stands s m
    → Stands (after s (Submitted m.next b)) (record m { next = m.next + 1; entries = m.entries ++ (m.next, record { block = b; held = None }) ∷ []; pending = with_ticket m.next m.pending })
stands_submit s m b r k =
    let next = m.next in
    let one : Waiter = record { ticket = next; block = b; since = None } in
    let low : AreRising next 0 s.waiters = subst (λ (n : ℕ). AreRising n 0 s.waiters) (sym k.next_is) r in
    let there = λ (u : ℕ). waiter_push u next 0 one s.waiters refl low in
    record {
      rule_is = k.rule_is;
      store_is = k.store_is;
      names_are = k.names_are;
      next_is = ap (λ n. n + 1) k.next_is;
      entries_are = due_push m.entries s.waiters next b k.entries_are;
      queue = λ u. has_with u (next, false) m.pending ∙ queue_push (nat_eq u next) (has_ticket u m.pending) next b (find_waiter u s.waiters) (k.queue u) ∙ sym (ap due_of (there u));
      index = λ v u.
          index_push (nat_eq u next) (has_pair m.watch v u) v next b (find_waiter u s.waiters) (k.index v u)
          (λ h. let l : u ≡ next = eqb-true u next h in not_yet u next 0 s.waiters (omega arith) low)
          ∙ sym (ap (λ (o : Option Waiter). watches_of o v) (there u));
    }

pub stands_install : (s : Slow) (m : Parts) (watch' : Pairs) (t : ℕ) (w : Waiter) (h : Held) → Stands s m → find_waiter t s.waiters ≡ Some w → is_current w ≡ false → Holds w.block.tree (under s.store) h.reads h.verdict
    → WithReads m.watch t h.reads watch'
    → Stands (after s (Installed t h.verdict)) (record m { entries = with_held t h m.entries; pending = without_ticket t m.pending; watch = watch' })
stands_install s m watch' t w h k f n holds q =
    let there = λ (u : ℕ). waiter_delivered t u s.store s.waiters in
    record {
      rule_is = k.rule_is;
      store_is = k.store_is;
      names_are = k.names_are;
      next_is = k.next_is;
      entries_are = due_held t h s.store m.entries s.waiters w k.entries_are f holds;
      queue = λ u. has_without u t m.pending ∙ queue_delivered (nat_eq u t) (has_ticket u m.pending) s.store (find_waiter u s.waiters) (k.queue u) ∙ sym (ap due_of (there u));
      index = λ v u.
          q v u
          ∙ index_delivered (nat_eq u t) (has_pair m.watch v u) (is_read h.reads v) v s.store (find_waiter u s.waiters) w (k.index v u)
          (λ e. subst (λ (x : ℕ). find_waiter x s.waiters ≡ Some w) (sym (eqb-true u t e)) f) n (ap (λ (rs : List (ℕ × Value)). is_read rs v) (sym holds.reads_are))
          ∙ sym (ap (λ (o : Option Waiter). watches_of o v) (there u));
    }

-- what is kept of a ticket is what its block read
pub reads_there : (u : ℕ) (es : List (ℕ × Waiting)) (ws : List Waiter) (w : Waiter) → AreKeptOf es ws → find_waiter u ws ≡ Some w → kept_reads (kept_at u es) ≡ read_since w.block w.since
reads_there u es ws w d e = same (kept_at u es) (find_waiter u ws) (found u es ws d) e where
  same : (o : Option Waiting) (p : Option Waiter) → IsFound o p → p ≡ Some w → kept_reads o ≡ read_since w.block w.since
  same None p f h = absurd (none p f h) where
    none : (q : Option Waiter) → IsFound None q → q ≡ Some w → ⊥
    none None f h = cc
    none (Some x) f h = f
  same (Some x) None f h = absurd f
  same (Some x) (Some y) f h =
      let e : y ≡ w = cc in
      subst (λ (z : Waiter). held_reads x.held ≡ read_since z.block z.since) e (held_are y.block x.held y.since f.held)

pub stands_cancel : (s : Slow) (m : Parts) (watch' : Pairs) (t : ℕ) → AreRising s.next 0 s.waiters → Stands s m → WithoutReads m.watch t (kept_reads (kept_at t m.entries)) watch'
    → Stands (after s (Cancelled t)) (record m { entries = lose t m.entries; pending = without_ticket t m.pending; watch = watch' })
stands_cancel s m watch' t r k q =
    let there = λ (u : ℕ). waiter_without t u s.next 0 s.waiters r in
    record {
      rule_is = k.rule_is;
      store_is = k.store_is;
      names_are = k.names_are;
      next_is = k.next_is;
      entries_are = due_lose t m.entries s.waiters k.entries_are;
      queue = λ u. has_without u t m.pending ∙ queue_gone (nat_eq u t) (has_ticket u m.pending) (find_waiter u s.waiters) (k.queue u) ∙ sym (ap due_of (there u));
      index = λ v u.
          q v u
          ∙ index_gone (nat_eq u t) (has_pair m.watch v u) (is_read (kept_reads (kept_at t m.entries)) v) v (find_waiter u s.waiters) (kept_reads (kept_at t m.entries)) (k.index v u)
          (λ e w f. reads_there t m.entries s.waiters w k.entries_are (subst (λ (x : ℕ). find_waiter x s.waiters ≡ Some w) (eqb-true u t e) f)) refl
          ∙ sym (ap (λ (o : Option Waiter). watches_of o v) (there u));
    }

-- the pairs of the tickets that become stale were taken away, then those of the one that finished
pub record IsUnwatched (t : ℕ) (stale : List ℕ) (es : List (ℕ × Waiting)) (watch watch' : Pairs) : Type 0 where
  pub between : Pairs
  pub others : (v u : ℕ) → has_pair between v u ≡ (has_pair watch v u && not (list_any (nat_eq u) stale && is_read (kept_reads (kept_at u es)) v))
  pub itself : WithoutReads between t (kept_reads (kept_at t es)) watch'

current_not_due : (o : Option Waiter) (w : Waiter) → o ≡ Some w → is_current w ≡ true → due_of o ≡ false
current_not_due o w e c = ap due_of e ∙ ap not c

pub stands_finish : (s : Slow) (m : Parts) (store' : List Cell) (watch' : Pairs) (t : ℕ) (w : Waiter) (v : Verdict) (n : ℕ) (stale : List ℕ) → AreRising s.next 0 s.waiters → Stands s m → find_waiter t s.waiters ≡ Some w → is_current w ≡ true
    → stale ≡ stale_after (waking s.rule s.store v) (without_waiter t s.waiters) → store' ≡ applied m.store v → IsUnwatched t stale m.entries m.watch watch'
    → Stands (after s (Finished t v n stale)) (record m { store = store'; entries = lose t m.entries; pending = with_tickets stale m.pending; watch = watch' })
stands_finish s m store' watch' t w v n stale r k f c listed store_is q =
    let W = waking s.rule s.store v in
    let ws = without_waiter t s.waiters in
    let there = λ (u : ℕ). waiter_marks u W ws ∙ ap (option_map (after_writes W)) (waiter_without t u s.next 0 s.waiters r) in
    let has_listed : (u : ℕ) → list_any (nat_eq u) stale ≡ stale_of W (cond (nat_eq u t) None (find_waiter u s.waiters)) = λ u.
    ap (list_any (nat_eq u)) listed ∙ has_stale u s.next 0 W ws (rising_without t s.next 0 s.waiters r) ∙ ap (stale_of W) (waiter_without t u s.next 0 s.waiters r) in
    record {
      rule_is = k.rule_is;
      store_is = store_is ∙ ap (λ (x : List Cell). applied x v) k.store_is;
      names_are = k.names_are;
      next_is = k.next_is;
      entries_are = due_marks W (lose t m.entries) ws (due_lose t m.entries s.waiters k.entries_are);
      queue = λ u.
          has_with_tickets u stale m.pending ∙ ap (λ (b : Bool). b || has_ticket u m.pending) (has_listed u)
          ∙ queue_finished (nat_eq u t) (has_ticket u m.pending) W (find_waiter u s.waiters) (k.queue u)
          (λ e. k.queue u ∙ current_not_due (find_waiter u s.waiters) w (subst (λ (x : ℕ). find_waiter x s.waiters ≡ Some w) (sym (eqb-true u t e)) f) c)
          ∙ sym (ap due_of (there u));
      index = λ x u.
          q.itself x u
          ∙ ap (λ (b : Bool). b && not (nat_eq u t && is_read (kept_reads (kept_at t m.entries)) x))
          (q.others x u ∙ ap (λ (b : Bool). has_pair m.watch x u && not (b && is_read (kept_reads (kept_at u m.entries)) x)) (has_listed u))
          ∙ index_finished (nat_eq u t) (has_pair m.watch x u) (is_read (kept_reads (kept_at t m.entries)) x) (is_read (kept_reads (kept_at u m.entries)) x) x W (find_waiter u s.waiters) (k.index x u)
          (λ e y g. ap (λ (rs : List (ℕ × Value)). is_read rs x) (reads_there t m.entries s.waiters y k.entries_are (subst (λ (z : ℕ). find_waiter z s.waiters ≡ Some y) (eqb-true u t e) g)))
          (λ e y g. ap (λ (rs : List (ℕ × Value)). is_read rs x) (reads_there u m.entries s.waiters y k.entries_are g))
          ∙ sym (ap (λ (o : Option Waiter). watches_of o x) (there u));
    }
