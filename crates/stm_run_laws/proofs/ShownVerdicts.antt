-- Each waiting block that isn't new stands with a verdict: it had one on the store of its delivery, and how it stands is
-- said by that one.
use Rattle.std.proofs.Common.{◌≡◌, ℕ, zero, suc, ◌<◌, Bool, true, false, cond, List, [], ◌∷◌, Option, Some, None, refl, sym, subst, arith}
use Rattle.std.specs.Prelude.{slice_get, is_some, IsSome}
use Rattle.stm_check.specs.Laws.{CheckNeverSaysNoMemory}
use Rattle.stm_check.specs.TypedBlock.{Block}
use Rattle.stm_eval.specs.Laws.{VerdictIsStable}
use Rattle.stm_parse.specs.ParseFunction.{BlockAnswersAreRight, DeclarationAnswersAreRight}
use Rattle.stm_store.specs.declared.cell.Cell.{Cell}
use Rattle.stm_events.specs.Laws.{AreRising}
use Rattle.stm_event_lines.specs.CheckedBlocks.{CheckedAreWellTyped}
use Rattle.stm_events.specs.SlowDesk as slow
use Rattle.stm_events.specs.SlowDesk.{Since, Waiter, Slow, verdict_on, is_stale_since, find_waiter, standing, standing_since}
use Rattle.stm_events.specs.States.{HadVerdict, HadVerdicts, IsPossible}
use Rattle.stm_events.proofs.Possible.{current_verdict}
use Rattle.stm_desk.specs.DeskView.{state_of}
use Rattle.stm_run.specs.Console.{initial_console}
use Rattle.stm_run.specs.ConsoleState.{present_desk}
use Rattle.stm_run.specs.AfterLines.{state_after_lines}
use Rattle.stm_run_laws.specs.Laws.{HasVerdict, VerdictsAreShown}
use Rattle.stm_run.proofs.LegalSettling.{itself, apart}
use Rattle.stm_run.proofs.ReachedConsole.{present_stands, reached}
use Rattle.stm_run.proofs.StandingDesk.{stands_sound}

-- ---- a block in the list
evaluated_at : (ws : List Waiter) (i : ℕ) (w : Waiter) → HadVerdicts ws → slice_get ws i ≡ Some w → HadVerdict w.block w.since
evaluated_at [] i w h e = absurd cc
evaluated_at (x ∷ xs) zero w h e = let q : x ≡ w = cc in subst (λ (y : Waiter). HadVerdict y.block y.since) q h.0
evaluated_at (x ∷ xs) (suc i) w h e = evaluated_at xs i w h.1 e

-- it waits under its ticket, since tickets rise
record IsThere (k : ℕ) (ws : List Waiter) (w : Waiter) : Type 0 where
  pub above : k < w.ticket
  pub found : find_waiter w.ticket ws ≡ Some w

there : (n k : ℕ) (ws : List Waiter) (i : ℕ) (w : Waiter) → AreRising n k ws → slice_get ws i ≡ Some w → IsThere k ws w
there n k [] i w r e = absurd cc
there n k (x ∷ xs) zero w r e = let q : x ≡ w = cc in subst (IsThere k (x ∷ xs)) q (record { above = r.0; found = rw (itself x.ticket) refl })
there n k (x ∷ xs) (suc i) w r e =
    let l = there n x.ticket xs i w r.2 e in
    let far : x.ticket < w.ticket = l.above in
    let low : k < x.ticket = r.0 in
    record { above = omega arith; found = rw (apart w.ticket x.ticket far) l.found }

-- ---- how it stands
stands_has : (store : List Cell) (block : Block) (d : Since) (b : Bool) → is_stale_since block d ≡ b → is_some (verdict_on d.store_then block) ≡ true
    → (is_stale_since block d ≡ false → verdict_on store block ≡ verdict_on d.store_then block) → HasVerdict (cond b (slow.Stale (verdict_on d.store_then block)) (slow.Current (verdict_on store block)))
stands_has store block d true e h same = h
stands_has store block d false e h same = subst IsSome (sym (same e)) h

has_verdict : (s : Slow) (w : Waiter) (o : Option Since) → w.since ≡ o → HadVerdict w.block o → ((d : Since) → w.since ≡ Some d → is_stale_since w.block d ≡ false → verdict_on s.store w.block ≡ verdict_on d.store_then w.block)
    → HasVerdict (standing_since s.store w.block o)
has_verdict s w None e h same = tt
has_verdict s w (Some d) e h same = stands_has s.store w.block d (is_stale_since w.block d) refl h (same d e)

stands_with_verdict : (s : Slow) → IsPossible s → (i : ℕ) (w : Waiter) → slice_get s.waiters i ≡ Some w → HasVerdict (standing s.store w)
stands_with_verdict s p i w e =
    let found : find_waiter w.ticket s.waiters ≡ Some w = (there s.next 0 s.waiters i w p.rising e).found in
    has_verdict s w w.since refl (evaluated_at s.waiters i w p.evaluated e) (λ d q c. current_verdict s w.ticket w d p found q c)

pub shown : BlockAnswersAreRight → DeclarationAnswersAreRight → CheckNeverSaysNoMemory → VerdictIsStable → CheckedAreWellTyped → VerdictsAreShown
shown blocks declarations faults stable checked max_events low before i w e =
    let s = state_after_lines (initial_console max_events) before in
    let k = present_stands s (reached blocks declarations faults stable checked max_events low before) in
    stands_with_verdict (state_of (present_desk s).desk) (stands_sound (present_desk s).desk (present_desk s).jobs k).possible i w e
