-- Over a legal history each verdict and each state stays in range.
use Rattle.std.proofs.Common.{◌≡◌, ℕ, zero, suc, Bool, true, false, cond, List, [], ◌∷◌, ◌++◌, map, length, Option, Some, None}
use Rattle.std.specs.Prelude.{IfSome, IsSomeAnd, slice_get, slice_set, nat_eq}
use Rattle.stm_terms.specs.declared.kinds.Ty.{Ty}
use Rattle.stm_terms.specs.declared.values.Value.{Value}
use Rattle.stm_terms.specs.declared.values.Value.TheVariants.{Int, Bool as Truth, Unit as Nil, Var}
use Rattle.stm_terms.specs.declared.verdicts.Verdict.{Verdict}
use Rattle.stm_terms.specs.declared.verdicts.Verdict.TheVariants.{Commits, Throws, Blocks}
use Rattle.stm_store.specs.declared.cell.Cell.{Cell}
use Rattle.stm_store.specs.Cells.{renumbered, with_write, with_writes, new_cell, rewritten, applied}
use Rattle.stm_store.specs.Tables.{Declared, opened}
use Rattle.stm_events.specs.declared.event.Event.{Event}
use Rattle.stm_events.specs.declared.event.What.{What}
use Rattle.stm_events.specs.declared.event.What.TheVariants.{Submitted, Installed, Finished, Cancelled, Declared as DeclaredLate, Labelled}
use Rattle.stm_events.specs.SlowDesk.{Waiter, Slow, under, verdict_on, declaration, waking, MayInstall, MayFinish, find_waiter, without_waiter, with_delivery, delivered, after_writes, after, Allows, state_from, LegalFrom}
use Rattle.stm_desk_laws.specs.IntegerRange.{Is64Bit, IsAct64Bit, AreVariables64Bit, AreWrites64Bit, AreNews64Bit, IsVerdict64Bit, AreCells64Bit, AreWaiters64Bit, IsState64Bit, AreDeclared64Bit, IsGiven64Bit, HasVerdict64Bit, AreGiven64Bit, HaveVerdicts64Bit, HistoriesStay64Bit}
use Rattle.stm_desk_laws.proofs.VerdictRange.{verdicts_are_64_bit}

-- ---- stores
renumbered_fits : (n : ℕ) (v : Value) → Is64Bit v → Is64Bit (renumbered n v)
renumbered_fits n (Int z) p = p
renumbered_fits n (Truth b) p = tt
renumbered_fits n Nil p = tt
renumbered_fits n (Var r) p = tt

pub under_fits : (store : List Cell) → AreCells64Bit store → AreVariables64Bit (under store)
under_fits [] c i = tt
under_fits (d ∷ ds) c zero = c.0
under_fits (d ∷ ds) c (suc i) = under_fits ds c.1 i

set_fits : (cells : List Cell) (i : ℕ) (d : Cell) → Is64Bit d.value → AreCells64Bit cells → AreCells64Bit (slice_set cells i d)
set_fits [] i d p c = c
set_fits (e ∷ es) zero d p c = (p, c.1)
set_fits (e ∷ es) (suc i) d p c = (c.0, set_fits es i d p c.1)

write_fits : (n : ℕ) (cells : List Cell) (i : ℕ) (v : Value) (o : Option Cell) → Is64Bit v → AreCells64Bit cells → AreCells64Bit (with_write n cells i v o)
write_fits n cells i v (Some d) p c = set_fits cells i (rewritten n v d) (renumbered_fits n v p) c
write_fits n cells i v None p c = c

writes_fit : (n : ℕ) (ws : List (ℕ × Value)) (cells : List Cell) → AreWrites64Bit ws → AreCells64Bit cells → AreCells64Bit (with_writes n ws cells)
writes_fit n [] cells p c = c
writes_fit n (w ∷ ws) cells p c = writes_fit n ws _ p.1 (write_fits n cells w.0 w.1 (slice_get cells w.0) p.0 c)

news_fit : (n : ℕ) (cells : List Cell) (news : List (Ty × Value)) → AreCells64Bit cells → AreNews64Bit news → AreCells64Bit (cells ++ map (new_cell n) news)
news_fit n [] [] c p = tt
news_fit n [] (d ∷ ds) c p = (renumbered_fits n d.1 p.0, news_fit n [] ds tt p.1)
news_fit n (e ∷ es) news c p = (c.0, news_fit n es news c.1 p)

pub applied_fits : (cells : List Cell) (v : Verdict) → AreCells64Bit cells → IsVerdict64Bit v → AreCells64Bit (applied cells v)
applied_fits cells (Commits writes news result) c p = news_fit (length cells) _ news (writes_fit (length cells) writes cells p.0 c) p.1
applied_fits cells (Throws f) c p = c
applied_fits cells Blocks c p = c

opened_fits : (table : List Declared) → AreDeclared64Bit table → AreCells64Bit (opened table)
opened_fits [] p = tt
opened_fits (d ∷ ds) p = (p.0, opened_fits ds p.1)

-- ---- waiting blocks
without_fits : (t : ℕ) (ws : List Waiter) → AreWaiters64Bit ws → AreWaiters64Bit (without_waiter t ws)
without_fits t [] p = tt
without_fits t (w ∷ ws) p = by (nat_eq t w.ticket) (without_fits t ws p.1)
  where
    by : (b : Bool) → AreWaiters64Bit (without_waiter t ws) → AreWaiters64Bit (cond b ws (w ∷ without_waiter t ws))
    by true more = p.1
    by false more = (p.0, more)

delivered_fits : (t : ℕ) (store : List Cell) (ws : List Waiter) → AreWaiters64Bit ws → AreWaiters64Bit (delivered t store ws)
delivered_fits t store [] p = tt
delivered_fits t store (w ∷ ws) p = by (nat_eq t w.ticket) (delivered_fits t store ws p.1)
  where
    by : (b : Bool) → AreWaiters64Bit (delivered t store ws) → AreWaiters64Bit (cond b (with_delivery store w ∷ ws) (w ∷ delivered t store ws))
    by true more = p
    by false more = (p.0, more)

marks_fit : (woken : List ℕ) (ws : List Waiter) → AreWaiters64Bit ws → AreWaiters64Bit (map (after_writes woken) ws)
marks_fit woken [] p = tt
marks_fit woken (w ∷ ws) p = (p.0, marks_fit woken ws p.1)

push_fits : (ws : List Waiter) (w : Waiter) → AreWaiters64Bit ws → IsAct64Bit w.block.tree → AreWaiters64Bit (ws ++ w ∷ [])
push_fits [] w p q = (q, tt)
push_fits (x ∷ xs) w p q = (p.0, push_fits xs w p.1 q)

found_fits : (t : ℕ) (ws : List Waiter) → AreWaiters64Bit ws → IfSome (find_waiter t ws) (λ w. IsAct64Bit w.block.tree)
found_fits t [] p = tt
found_fits t (w ∷ ws) p = by (nat_eq t w.ticket) (found_fits t ws p.1)
  where
    by : (b : Bool) → IfSome (find_waiter t ws) (λ x. IsAct64Bit x.block.tree) → IfSome (cond b (Some w) (find_waiter t ws)) (λ x. IsAct64Bit x.block.tree)
    by true more = p.0
    by false more = more

-- ---- events
verdict_fits : (s : Slow) (w : Waiter) (v : Verdict) → AreCells64Bit s.store → IsAct64Bit w.block.tree → verdict_on s.store w.block ≡ Some v → IsVerdict64Bit v
verdict_fits s w v c p e = verdicts_are_64_bit (under s.store) w.block.tree v (under_fits s.store c) p e

installed_fits : (s : Slow) (v : Verdict) (o : Option Waiter) → AreCells64Bit s.store → IfSome o (λ w. IsAct64Bit w.block.tree) → IsSomeAnd o (λ w. MayInstall s w v) → IsVerdict64Bit v
installed_fits s v (Some w) c p m = verdict_fits s w v c p m.verdict_is
installed_fits s v None c p m = absurd m

finished_fits : (s : Slow) (t : ℕ) (v : Verdict) (n : ℕ) (stale : List ℕ) (o : Option Waiter) → AreCells64Bit s.store → IfSome o (λ w. IsAct64Bit w.block.tree) → IsSomeAnd o (λ w. MayFinish s t w v n stale) → IsVerdict64Bit v
finished_fits s t v n stale (Some w) c p m = verdict_fits s w v c p m.verdict_is
finished_fits s t v n stale None c p m = absurd m

event_fits : (s : Slow) (what : What) → IsState64Bit s → Allows s what → HasVerdict64Bit what
event_fits s (Submitted t block) p a = tt
event_fits s (Installed t v) p a = installed_fits s v (find_waiter t s.waiters) p.store (found_fits t s.waiters p.blocks) a
event_fits s (Finished t v n stale) p a = finished_fits s t v n stale (find_waiter t s.waiters) p.store (found_fits t s.waiters p.blocks) a
event_fits s (Cancelled t) p a = tt
event_fits s (DeclaredLate name kind value) p a = tt
event_fits s (Labelled t label) p a = tt

after_fits : (s : Slow) (what : What) → IsState64Bit s → IsGiven64Bit what → HasVerdict64Bit what → IsState64Bit (after s what)
after_fits s (Submitted t block) p g v = record { store = p.store; blocks = push_fits s.waiters _ p.blocks g }
after_fits s (Installed t v) p g h = record { store = p.store; blocks = delivered_fits t s.store s.waiters p.blocks }
after_fits s (Finished t v n stale) p g h = record {
  store = applied_fits s.store v p.store h;
  blocks = marks_fit (waking s.rule s.store v) (without_waiter t s.waiters) (without_fits t s.waiters p.blocks);
}
after_fits s (Cancelled t) p g h = record { store = p.store; blocks = without_fits t s.waiters p.blocks }
after_fits s (DeclaredLate name kind value) p g h =
    record { store = applied_fits s.store (declaration kind value) p.store (tt, (g, tt), tt); blocks = p.blocks }
after_fits s (Labelled t label) p g h = p

verdicts_fit : (s : Slow) (events : List Event) → IsState64Bit s → LegalFrom s events → AreGiven64Bit events → HaveVerdicts64Bit events
verdicts_fit s [] p l g = tt
verdicts_fit s (e ∷ es) p l g =
    let v = event_fits s e.what p l.0.what in (v, verdicts_fit (after s e.what) es (after_fits s e.what p g.0 v) l.1 g.1)

states_fit : (s : Slow) (events : List Event) → IsState64Bit s → LegalFrom s events → AreGiven64Bit events → IsState64Bit (state_from s events)
states_fit s [] p l g = p
states_fit s (e ∷ es) p l g = states_fit (after s e.what) es (after_fits s e.what p g.0 (event_fits s e.what p l.0.what)) l.1 g.1

pub histories_stay_64_bit : HistoriesStay64Bit
histories_stay_64_bit = record {
  initial = λ rule table p. record { store = opened_fits table p; blocks = tt };
  verdicts = verdicts_fit;
  later = states_fit;
}
