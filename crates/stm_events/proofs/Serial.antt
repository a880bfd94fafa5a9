-- The store is that of running the finished blocks alone and of making the declared variables, one after another.
use Rattle.std.proofs.Common.{◌≡◌, ℕ, List, [], ◌∷◌, ◌++◌, Option, Some, None, refl, sym, ap, ◌∙◌}
use Rattle.std.specs.Prelude.{IsSomeAnd}
use Rattle.stm_terms.specs.declared.verdicts.Verdict.{Verdict}
use Rattle.stm_store.specs.Cells.{applied}
use Rattle.stm_events.specs.declared.event.Event.{Event}
use Rattle.stm_events.specs.declared.event.What.{What}
use Rattle.stm_events.specs.declared.event.What.TheVariants.{Submitted, Installed, Finished, Cancelled, Declared as DeclaredLate, Labelled}
use Rattle.stm_events.specs.SlowDesk.{Waiter, Slow, SerialStep, MayFinish, find_waiter, after, Allows, initial_state, state_from, LegalFrom, applied_or, serial, turns_of_waiter, turns_by, serial_steps_from}
use Rattle.stm_events.specs.Laws.{StoreIsSerial}

serial_finish : (s : Slow) (t : ℕ) (v : Verdict) (n : ℕ) (l : List ℕ) (o : Option Waiter) (bs : List SerialStep) → IsSomeAnd o (λ w. MayFinish s t w v n l)
    → serial (applied s.store v) bs ≡ serial s.store (turns_of_waiter o ++ bs)
serial_finish s t v n l (Some w) bs m = sym (ap (λ (x : Option Verdict). serial (applied_or s.store x) bs) m.verdict_is)
serial_finish s t v n l None bs m = absurd m

serial_step : (s : Slow) (d : What) (bs : List SerialStep) → Allows s d → serial (after s d).store bs ≡ serial s.store (turns_by s d ++ bs)
serial_step s (Submitted t b) bs a = refl
serial_step s (Installed t v) bs a = refl
serial_step s (Finished t v n l) bs a = serial_finish s t v n l (find_waiter t s.waiters) bs a
serial_step s (Cancelled t) bs a = refl
serial_step s (DeclaredLate name kind value) bs a = refl
serial_step s (Labelled t label) bs a = refl

pub serial_from : (s : Slow) (es : List Event) → LegalFrom s es → (state_from s es).store ≡ serial s.store (serial_steps_from s es)
serial_from s [] l = refl
serial_from s (e ∷ es) l = serial_from (after s e.what) es l.1 ∙ serial_step s e.what (serial_steps_from (after s e.what) es) l.0.what

pub store_is_serial : StoreIsSerial
store_is_serial rule table history l = serial_from (initial_state rule table) history l.each
