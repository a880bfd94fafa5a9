-- Each waiting block has a verdict on the present store, so settling is rounds.
use Rattle.std.proofs.Common.{◌≡◌, ℕ, ◌<◌, true, false, List, [], ◌∷◌, Some, refl, ap, arith}
use Rattle.std.specs.Prelude.{nat_eq, is_some}
use Rattle.std.proofs.lemmas.Bool.Decides.{nat_tests}
use Rattle.stm_store.specs.declared.cell.Cell.{Cell}
use Rattle.stm_events.specs.SlowDesk.{Waiter, Slow, verdict_on, find_waiter}
use Rattle.stm_events.specs.Laws.{AreRising}
use Rattle.stm_events.specs.States.{IsPossible, IsTypedState}
use Rattle.stm_events.specs.Rounds as rounds
use Rattle.stm_events.proofs.Rounds.{settling_is_rounds}
use Rattle.stm_events.proofs.TypedStores.{typed_verdict}
use Rattle.stm_desk.specs.DeskView.{AllHaveVerdicts, SettlesInRounds}
use Rattle.stm_machine.proofs.Ready.{waits_above}

pub have_verdicts : (s : Slow) → IsPossible s → IsTypedState s → AllHaveVerdicts s
have_verdicts s possible typed = λ t w f. ap is_some (typed_verdict s t w possible typed f).1

itself : (t : ℕ) → nat_eq t t ≡ true
itself t = grind (arith, nat_tests)

unlike : (t u : ℕ) → u < t → nat_eq t u ≡ false
unlike t u l = grind (arith, nat_tests)

-- each of the list has a verdict
listed : (n k : ℕ) (store : List Cell) (ws : List Waiter) → AreRising n k ws
    → ((t : ℕ) (w : Waiter) → find_waiter t ws ≡ Some w → is_some (verdict_on store w.block) ≡ true) → rounds.HaveVerdicts store ws
listed n k store [] r each = tt
listed n k store (w ∷ ws) r each = (
  λ d. each w.ticket w (rw (itself w.ticket) refl),
  listed n w.ticket store ws r.2 (λ t x f. each t x (rw (unlike t w.ticket (waits_above n w.ticket t ws x r.2 f)) f)),
)

pub settles_in_rounds : (s : Slow) → IsPossible s → AllHaveVerdicts s → SettlesInRounds s
settles_in_rounds s possible have = λ room. settling_is_rounds room s possible.rising (listed s.next 0 s.store s.waiters possible.rising have)
