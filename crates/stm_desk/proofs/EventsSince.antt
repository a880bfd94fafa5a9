-- The events after the last delivery to a ticket, what they write, and where the cause is looked for.
use Rattle.std.proofs.Common.{◌≡◌, ℕ, Bool, true, false, cond, List, [], ◌∷◌, ◌++◌, Option, Some, None, refl, subst}
use Rattle.std.specs.Prelude.{nat_eq}
use Rattle.std.proofs.lemmas.Bool.{or_left, or_parts, or_right}
use Rattle.stm_terms.specs.declared.values.Value.{Value}
use Rattle.stm_terms.specs.Changes.{find}
use Rattle.stm_store.specs.FreshReferences.{HasNumber, AreWritable}
use Rattle.stm_events.specs.declared.event.Event.{Event}
use Rattle.stm_events.specs.Headline.{installs_to, is_installed}
use Rattle.stm_events.specs.SlowDesk.{Slow, after, state_from}
use Rattle.stm_desk.specs.Reasons.{first_cause, cause_since_delivery}
use Rattle.stm_desk.specs.ReasonsByEvents.{events_since}

-- ---- no delivery
pub none_since : (t : ℕ) (h : List Event) → is_installed t h ≡ false → events_since t h ≡ None
none_since t [] n = refl
none_since t (x ∷ h) n = let p = or_parts (installs_to t x.what) (is_installed t h) n in rw (p.1, p.0) refl

-- ---- a delivery in the middle
pub installed_mid : (t : ℕ) (before : List Event) (e : Event) (later : List Event) → installs_to t e.what ≡ true → is_installed t (before ++ e ∷ later) ≡ true
installed_mid t [] e later d = or_left (installs_to t e.what) (is_installed t later) d
installed_mid t (x ∷ before) e later d = or_right (installs_to t x.what) (is_installed t (before ++ e ∷ later)) (installed_mid t before e later d)

pub since_delivery : (t : ℕ) (before : List Event) (e : Event) (later : List Event) → installs_to t e.what ≡ true → is_installed t later ≡ false → events_since t (before ++ e ∷ later) ≡ Some later
since_delivery t [] e later d n = rw (n, d) refl
since_delivery t (x ∷ before) e later d n = rw (installed_mid t before e later d) (since_delivery t before e later d n)

pub cause_after : (t : ℕ) (reads : List (ℕ × Value)) (s : Slow) (before : List Event) (e : Event) (later : List Event) → installs_to t e.what ≡ true → is_installed t later ≡ false
    → cause_since_delivery t reads s (before ++ e ∷ later) ≡ first_cause reads (after (state_from s before) e.what) later
cause_after t reads s [] e later d n = rw (n, d) refl
cause_after t reads s (x ∷ before) e later d n = rw (installed_mid t before e later d) (cause_after t reads (after s x.what) before e later d n)

-- ---- a value that is written has a number
number_step : (b : Bool) (n : ℕ) (w : ℕ × Value) (o : Option Value) (v : Value) → HasNumber n w.1 → (Some v ≡ o → HasNumber n v) → Some v ≡ cond b (Some w.1) o → HasNumber n v
number_step true n w o v h more e = let q : w.1 ≡ v = cc in subst (HasNumber n) q h
number_step false n w o v h more e = more e

pub written_number : (n i : ℕ) (ws : List (ℕ × Value)) (v : Value) → AreWritable n ws → Some v ≡ find i ws → HasNumber n v
written_number n i [] v a e = absurd (cc)
written_number n i (w ∷ ws) v a e = number_step (nat_eq w.0 i) n w (find i ws) v a.1 (written_number n i ws v a.2) e
