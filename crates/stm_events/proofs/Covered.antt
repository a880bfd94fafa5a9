-- The variables that a waiting block names are there.
use Rattle.std.proofs.Common.{◌≡◌, ℕ, Bool, true, false, cond, List, [], ◌∷◌, ◌++◌, map, Option, Some, subst}
use Rattle.std.specs.Prelude.{nat_eq}
use Rattle.stm_store.specs.declared.cell.Cell.{Cell}
use Rattle.stm_store.specs.Cells.{plains, Covers, applied}
use Rattle.stm_store.specs.Tables.{Declared}
use Rattle.stm_store.proofs.ApplyPreservesTyping.{covered_stay}
use Rattle.stm_terms.specs.declared.verdicts.Verdict.{Verdict}
use Rattle.stm_events.specs.declared.event.Event.{Event}
use Rattle.stm_events.specs.declared.event.What.{What}
use Rattle.stm_events.specs.declared.event.What.TheVariants.{Submitted, Installed, Finished, Cancelled, Declared as DeclaredLate, Labelled}
use Rattle.stm_events.specs.declared.staleness.StalenessRule.{StalenessRule}
use Rattle.stm_events.specs.SlowDesk.{Waiter, Slow, declaration, waking, find_waiter, without_waiter, with_delivery, delivered, after_writes, after, Allows, initial_state, state_from, state_by, LegalFrom, IsLegalBy}
use Rattle.stm_events.specs.Laws.{BlocksAreCovered}
use Rattle.stm_events.specs.States.{AreCovered}

covered_more : (store : List Cell) (v : Verdict) (ws : List Waiter) → AreCovered store ws → AreCovered (applied store v) ws
covered_more store v [] c = tt
covered_more store v (w ∷ ws) c = (covered_stay store v w.block.uses c.0, covered_more store v ws c.1)

without_cons : (b : Bool) (s : List Cell) (w : Waiter) (ws vs : List Waiter) → Covers (plains s) w.block.uses → AreCovered s ws → AreCovered s vs → AreCovered s (cond b ws (w ∷ vs))
without_cons true s w ws vs c cs ds = cs
without_cons false s w ws vs c cs ds = (c, ds)

covered_without : (t : ℕ) (s : List Cell) (ws : List Waiter) → AreCovered s ws → AreCovered s (without_waiter t ws)
covered_without t s [] c = tt
covered_without t s (w ∷ ws) c = without_cons (nat_eq t w.ticket) s w ws (without_waiter t ws) c.0 c.1 (covered_without t s ws c.1)

delivered_cons : (b : Bool) (s : List Cell) (v w : Waiter) (ws vs : List Waiter) → Covers (plains s) v.block.uses → Covers (plains s) w.block.uses → AreCovered s ws → AreCovered s vs → AreCovered s (cond b (v ∷ ws) (w ∷ vs))
delivered_cons true s v w ws vs c d cs ds = (c, cs)
delivered_cons false s v w ws vs c d cs ds = (d, ds)

covered_delivered : (t : ℕ) (s : List Cell) (ws : List Waiter) → AreCovered s ws → AreCovered s (delivered t s ws)
covered_delivered t s [] c = tt
covered_delivered t s (w ∷ ws) c = delivered_cons (nat_eq t w.ticket) s (with_delivery s w) w ws (delivered t s ws) c.0 c.0 c.1 (covered_delivered t s ws c.1)

covered_marks : (woken : List ℕ) (s : List Cell) (ws : List Waiter) → AreCovered s ws → AreCovered s (map (after_writes woken) ws)
covered_marks woken s [] c = tt
covered_marks woken s (w ∷ ws) c = (c.0, covered_marks woken s ws c.1)

covered_push : (s : List Cell) (w : Waiter) (ws : List Waiter) → AreCovered s ws → Covers (plains s) w.block.uses → AreCovered s (ws ++ w ∷ [])
covered_push s w [] c d = (d, tt)
covered_push s w (v ∷ ws) c d = (c.0, covered_push s w ws c.1 d)

pub covered_after : (s : Slow) (d : What) → AreCovered s.store s.waiters → Allows s d → AreCovered (after s d).store (after s d).waiters
covered_after s (Submitted t b) c a = covered_push s.store _ s.waiters c a.1
covered_after s (Installed t v) c a = covered_delivered t s.store s.waiters c
covered_after s (Finished t v n l) c a =
    covered_marks (waking s.rule s.store v) (applied s.store v) (without_waiter t s.waiters) (covered_more s.store v (without_waiter t s.waiters) (covered_without t s.store s.waiters c))
covered_after s (Cancelled t) c a = covered_without t s.store s.waiters c
covered_after s (DeclaredLate name kind value) c a = covered_more s.store (declaration kind value) s.waiters c
covered_after s (Labelled t label) c a = c

pub covered_from : (s : Slow) (es : List Event) → LegalFrom s es → AreCovered s.store s.waiters → AreCovered (state_from s es).store (state_from s es).waiters
covered_from s [] l c = c
covered_from s (e ∷ es) l c = covered_from (after s e.what) es l.1 (covered_after s e.what c l.0.what)

pub covered_state : (rule : StalenessRule) (table : List Declared) (es : List Event) → IsLegalBy rule table es → AreCovered (state_by rule table es).store (state_by rule table es).waiters
covered_state rule table es l = covered_from (initial_state rule table) es l.each tt

found_cons : (b : Bool) (s : List Cell) (w one : Waiter) (o : Option Waiter) → Covers (plains s) w.block.uses → (o ≡ Some one → Covers (plains s) one.block.uses) → cond b (Some w) o ≡ Some one → Covers (plains s) one.block.uses
found_cons true s w one o c more e = let h : w ≡ one = cc in subst (λ (x : Waiter). Covers (plains s) x.block.uses) h c
found_cons false s w one o c more e = more e

pub covered_waiter : (t : ℕ) (s : List Cell) (ws : List Waiter) (one : Waiter) → AreCovered s ws → find_waiter t ws ≡ Some one → Covers (plains s) one.block.uses
covered_waiter t s [] one c e = cc
covered_waiter t s (w ∷ ws) one c e = found_cons (nat_eq t w.ticket) s w one (find_waiter t ws) c.0 (covered_waiter t s ws one c.1) e

pub blocks_are_covered : BlocksAreCovered
blocks_are_covered rule table history t w l e = covered_waiter t (state_by rule table history).store (state_by rule table history).waiters w (covered_state rule table history l) e
