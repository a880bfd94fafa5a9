-- A client's list one event longer.
use Rattle.std.proofs.Common.{◌≡◌, ℕ, ◌+◌, List, [], ◌∷◌, ◌++◌, length, true, refl, ap, ◌∙◌, eq-eqb, length-append}
use Rattle.std.proofs.lemmas.Bool.{and_from, and_parts}
use Rattle.stm_events.specs.declared.event.Event.{Event}
use Rattle.stm_pool.specs.Own.{are_of}

pub are_of-push : (client : ℕ) (es : List Event) (e : Event) → are_of client es ≡ true → e.client ≡ client → are_of client (es ++ e ∷ []) ≡ true
are_of-push client [] e h is = and_from _ _ (eq-eqb _ _ is) refl
are_of-push client (x ∷ es) e h is =
    let p = and_parts _ _ h in
    and_from _ _ p.0 (are_of-push client es e p.1 is)

pub more_of : (client : ℕ) (own now : List Event) (e : Event) → now ≡ own ++ e ∷ [] → are_of client own ≡ true → e.client ≡ client → (length now ≡ length own + 1) × (are_of client now ≡ true)
more_of client own now e is all by = (
  ap length is ∙ length-append own (e ∷ []),
  ap (are_of client) is ∙ are_of-push client own e all by,
)
