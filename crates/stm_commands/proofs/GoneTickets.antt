-- A ticket that was given and waits no more never waits again.
use Rattle.std.proofs.Common.{◌≡◌, ℕ, ◌<◌, Bool, true, false, cond, List, [], ◌∷◌, Option, Some, None, refl, ◌∙◌, arith}
use Rattle.std.specs.Prelude.{nat_eq, option_map}
use Rattle.std.proofs.lemmas.Bool.Decides.{nat_tests}
use Rattle.stm_events.specs.declared.event.Event.{Event}
use Rattle.stm_events.specs.declared.event.What.{What}
use Rattle.stm_events.specs.declared.event.What.TheVariants.{Submitted, Installed, Finished, Cancelled, Declared as DeclaredLate, Labelled}
use Rattle.stm_events.specs.Laws.{AreRising}
use Rattle.stm_events.specs.SlowDesk.{Waiter, Slow, waking, find_waiter, without_waiter, with_delivery, after_writes, after, Allows, state_from, LegalFrom}
use Rattle.stm_events.proofs.Rising.{rising_after, waiter_without, waiter_delivered, waiter_marks, waiter_push}

-- the ticket was given
pub record IsGiven (t : ℕ) (s : Slow) : Type 0 where
  pub rising : AreRising s.next 0 s.waiters
  pub given : t < s.next

given_after : (t : ℕ) (s : Slow) (d : What) → Allows s d → IsGiven t s → IsGiven t (after s d)
given_after t s (Submitted u block) a k =
    record { rising = rising_after s (Submitted u block) (let g = k.given in omega arith) k.rising a; given = let g = k.given in omega arith }
given_after t s (Installed u v) a k = record { rising = rising_after s (Installed u v) (let g = k.given in omega arith) k.rising a; given = k.given }
given_after t s (Finished u v n l) a k = record { rising = rising_after s (Finished u v n l) (let g = k.given in omega arith) k.rising a; given = k.given }
given_after t s (Cancelled u) a k = record { rising = rising_after s (Cancelled u) (let g = k.given in omega arith) k.rising a; given = k.given }
given_after t s (DeclaredLate name kind value) a k = record { rising = k.rising; given = k.given }
given_after t s (Labelled u label) a k = k

-- ---- it waits no more
unlike : (t u n : ℕ) → t < n → u ≡ n → nat_eq t u ≡ false
unlike t u n l e = grind (arith, nat_tests)

none_pushed : (b : Bool) (v : Waiter) (o : Option Waiter) → b ≡ false → o ≡ None → cond b (Some v) o ≡ None
none_pushed true v o e g = absurd cc
none_pushed false v o e g = g

none_mapped : (f : Waiter → Waiter) (o : Option Waiter) → o ≡ None → option_map f o ≡ None
none_mapped f None g = refl
none_mapped f (Some w) g = absurd cc

none_delivered : (b : Bool) (f : Waiter → Waiter) (o : Option Waiter) → o ≡ None → cond b (option_map f o) o ≡ None
none_delivered true f o g = none_mapped f o g
none_delivered false f o g = g

none_without : (b : Bool) (o : Option Waiter) → o ≡ None → cond b None o ≡ None
none_without true o g = refl
none_without false o g = g

gone_after : (t : ℕ) (s : Slow) (d : What) → Allows s d → IsGiven t s → find_waiter t s.waiters ≡ None → find_waiter t (after s d).waiters ≡ None
gone_after t s (Submitted u block) a k g =
    let v : Waiter = record { ticket = u; block = block; since = None } in
    waiter_push t s.next 0 v s.waiters a.0 k.rising ∙ none_pushed (nat_eq t u) v (find_waiter t s.waiters) (unlike t u s.next k.given a.0) g
gone_after t s (Installed u v) a k g = waiter_delivered u t s.store s.waiters ∙ none_delivered (nat_eq t u) (with_delivery s.store) (find_waiter t s.waiters) g
gone_after t s (Finished u v n l) a k g =
    waiter_marks t (waking s.rule s.store v) (without_waiter u s.waiters)
    ∙ none_mapped (after_writes (waking s.rule s.store v)) (find_waiter t (without_waiter u s.waiters))
    (waiter_without u t s.next 0 s.waiters k.rising ∙ none_without (nat_eq t u) (find_waiter t s.waiters) g)
gone_after t s (Cancelled u) a k g = waiter_without u t s.next 0 s.waiters k.rising ∙ none_without (nat_eq t u) (find_waiter t s.waiters) g
gone_after t s (DeclaredLate name kind value) a k g = g
gone_after t s (Labelled u label) a k g = g

-- once a ticket was given and waits no more, it doesn't wait after any more events
pub gone_from : (t : ℕ) (s : Slow) (es : List Event) → LegalFrom s es → IsGiven t s → find_waiter t s.waiters ≡ None → find_waiter t (state_from s es).waiters ≡ None
gone_from t s [] l k g = g
gone_from t s (e ∷ es) l k g = gone_from t (after s e.what) es l.1 (given_after t s e.what l.0.what k) (gone_after t s e.what l.0.what k g)
