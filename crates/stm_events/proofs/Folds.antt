-- A history with one event more, and one after another.
use Rattle.std.proofs.Common.{◌≡◌, ◌+◌, List, [], ◌∷◌, ◌++◌, refl, ◌∙◌}
use Rattle.stm_events.specs.declared.event.Event.{Event}
use Rattle.stm_events.specs.declared.event.What.{What}
use Rattle.stm_events.specs.declared.event.What.TheVariants.{Submitted, Installed, Finished, Cancelled, Declared as DeclaredLate, Labelled}
use Rattle.stm_events.specs.SlowDesk.{Slow, after, AllowsEvent, state_from, LegalFrom}

pub state-push : (s : Slow) (es : List Event) (e : Event) → state_from s (es ++ e ∷ []) ≡ after (state_from s es) e.what
state-push s [] e = refl
state-push s (d ∷ es) e = state-push (after s d.what) es e

pub legal-push : (s : Slow) (es : List Event) (e : Event) → LegalFrom s es → AllowsEvent (state_from s es) e → LegalFrom s (es ++ e ∷ [])
legal-push s [] e l a = (a, tt)
legal-push s (d ∷ es) e l a = (l.0, legal-push (after s d.what) es e l.1 a)

-- a legal history with one event more
pub record IsLegalPush (s : Slow) (es : List Event) (e : Event) : Type 0 where
  pub before : LegalFrom s es
  pub allowed : AllowsEvent (state_from s es) e

pub legal_split : (s : Slow) (es : List Event) (e : Event) → LegalFrom s (es ++ e ∷ []) → IsLegalPush s es e
legal_split s [] e l = record { before = tt; allowed = l.0 }
legal_split s (d ∷ es) e l = let r = legal_split (after s d.what) es e l.1 in record { before = (l.0, r.before); allowed = r.allowed }

-- ---- the rule, which no event changes
pub after-rule : (s : Slow) (d : What) → (after s d).rule ≡ s.rule
after-rule s (Submitted t b) = refl
after-rule s (Installed t v) = refl
after-rule s (Finished t v n l) = refl
after-rule s (Cancelled t) = refl
after-rule s (DeclaredLate name kind value) = refl
after-rule s (Labelled t label) = refl

pub state-rule : (s : Slow) (es : List Event) → (state_from s es).rule ≡ s.rule
state-rule s [] = refl
state-rule s (e ∷ es) = state-rule (after s e.what) es ∙ after-rule s e.what

-- ---- a history after another
pub state-append : (s : Slow) (before more : List Event) → state_from s (before ++ more) ≡ state_from (state_from s before) more
state-append s [] more = refl
state-append s (e ∷ before) more = state-append (after s e.what) before more
