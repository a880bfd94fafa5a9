-- The stretches of a desk's life, put together.
use Rattle.std.proofs.Common.{◌≡◌, List, [], ◌∷◌, ◌++◌, refl, sym, ap, ◌∙◌}
use Rattle.stm_events.specs.declared.event.Event.{Event}
use Rattle.stm_events.specs.SlowDesk.{Slow, LegalFrom, after, state_from}
use Rattle.stm_events.specs.States.{Observed, IsPossible, observed}
use Rattle.stm_events.proofs.HeadlineFrom.{headline_from}
use Rattle.stm_events.proofs.Observed.{observed_from}
use Rattle.stm_events.proofs.Possible.{possible_from}
use Rattle.stm_machine.specs.Checkpoints.{checkpoint_state}
use Rattle.stm_machine.proofs.CheckpointStates.{is_possible}
use Rattle.stm_desk_laws.specs.Lives.{Stretch, IsLife, events_of_life, state_of_life, LivesAreHistories}

legal_both : (s : Slow) (first rest : List Event) → LegalFrom s first → LegalFrom (state_from s first) rest → LegalFrom s (first ++ rest)
legal_both s [] rest l m = m
legal_both s (e ∷ first) rest l m = (l.0, legal_both (after s e.what) first rest l.1 m)

state_both : (s : Slow) (first rest : List Event) → state_from s (first ++ rest) ≡ state_from (state_from s first) rest
state_both s [] rest = refl
state_both s (e ∷ first) rest = state_both (after s e.what) first rest

-- the events are legal, and the same is observed at the end
abbrev IsWhole : Slow → List Stretch → List Event → Type 0
IsWhole s gs last =
    LegalFrom s (events_of_life gs last) × (observed (state_of_life s gs last) ≡ observed (state_from s (events_of_life gs last)))

whole : (s : Slow) (gs : List Stretch) (last : List Event) → IsPossible s → IsLife s gs last → IsWhole s gs last
whole s [] last p h = (h, refl)
whole s (g ∷ gs) last p h =
    let c = checkpoint_state g.checkpoint in
    let q : IsPossible c = is_possible g.checkpoint h.1.0 in
    let more = events_of_life gs last in
    let rest : IsWhole c gs last = whole c gs last q h.2 in
    let moved = observed_from c (state_from s g.events) more q (possible_from s g.events p h.0) h.1.1 rest.0 in (
      legal_both s g.events more h.0 moved.0,
      rest.1 ∙ moved.1 ∙ ap observed (sym (state_both s g.events more)),
    )

pub lives : LivesAreHistories
lives s gs last p h =
    let w = whole s gs last p h in
    let l = headline_from s (events_of_life gs last) p w.0 in
    record { legal = w.0; same = w.1; store = ap (λ (o : Observed). o.store) w.1 ∙ l.store; headline = l }
