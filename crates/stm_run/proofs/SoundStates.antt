-- The states that a console's desk may be in: events may go on from each, and all in it is well typed. Allowed events and checkpoints
-- lead from one to another.
use Rattle.std.proofs.Common.{◌≡◌, ℕ, ◌≤◌, List, [], ◌∷◌, Option, Some, None, refl, sym, ap, subst, ◌∙◌, arith}
use Rattle.std.specs.Prelude.{IsSomeAnd}
use Rattle.stm_terms.specs.declared.verdicts.Verdict.{Verdict}
use Rattle.stm_store.specs.Cells.{plains, Fits, IsStore}
use Rattle.stm_store.proofs.ApplyPreservesTyping.{kept_store}
use Rattle.stm_events.specs.declared.event.Event.{Event}
use Rattle.stm_events.specs.declared.event.What.{What}
use Rattle.stm_events.specs.declared.event.What.TheVariants.{Submitted, Installed, Finished, Cancelled, Declared as DeclaredLate, Labelled}
use Rattle.stm_events.specs.declared.kept_cause.KeptCause.{KeptCause}
use Rattle.stm_events.specs.declared.staleness.StalenessRule.TheVariants.{Changed}
use Rattle.stm_events.specs.Labels.{Labels}
use Rattle.stm_events.specs.Laws.{SubmitsWellTyped, SubmittedAreWellTyped}
use Rattle.stm_events.specs.SlowDesk.{Waiter, Slow, find_waiter, after, declaration, MayFinish, Allows, state_from, LegalFrom}
use Rattle.stm_events.specs.States.{IsPossible, IsTypedState, observed}
use Rattle.stm_events.proofs.Folds.{after-rule}
use Rattle.stm_events.proofs.NamedVariables.{declaration_fits}
use Rattle.stm_events.proofs.Possible.{possible_after}
use Rattle.stm_events.proofs.TypedStores.{typed_after, typed_verdict}
use Rattle.stm_machine.specs.Checkpoints.{IsCheckpoint, checkpoint_state, checkpoint_of, with_labels, with_causes, max_next}
use Rattle.stm_machine.proofs.CheckpointLabels.{same_state, caused_state}
use Rattle.stm_machine.proofs.CheckpointStates.{checkpoints_are_possible, checkpoints_are_unseen}

pub record IsSound (s : Slow) : Type 0 where
  pub possible : IsPossible s
  pub typed : IsTypedState s
  pub store : IsStore (plains s.store)
  pub rule : s.rule ≡ Changed

-- ---- one event more
store_finished : (s : Slow) (t : ℕ) (v : Verdict) (n : ℕ) (stale : List ℕ) → IsPossible s → IsTypedState s → IsStore (plains s.store) → (o : Option Waiter) → find_waiter t s.waiters ≡ o
    → IsSomeAnd o (λ w. MayFinish s t w v n stale) → IsStore (plains (after s (Finished t v n stale)).store)
store_finished s t v n stale p k i None f m = absurd m
store_finished s t v n stale p k i (Some w) f m =
    let found = typed_verdict s t w p k f in
    let one : Some found.0 ≡ Some v = sym found.1 ∙ m.verdict_is in
    let same : found.0 ≡ v = cc in
    kept_store s.store v (subst (Fits (plains s.store)) same found.2) i m.room

store_after : (s : Slow) (what : What) → IsPossible s → IsTypedState s → IsStore (plains s.store) → Allows s what → IsStore (plains (after s what).store)
store_after s (Submitted t b) p k i a = i
store_after s (Installed t v) p k i a = i
store_after s (Finished t v n stale) p k i a = store_finished s t v n stale p k i (find_waiter t s.waiters) refl a
store_after s (Cancelled t) p k i a = i
store_after s (DeclaredLate name kind value) p k i a =
    let room = a.room in kept_store s.store (declaration kind value) (declaration_fits s name kind value p.named a) i (omega (arith, room))
store_after s (Labelled t label) p k i a = i

pub sound_after : (s : Slow) (what : What) → IsSound s → Allows s what → SubmitsWellTyped what → IsSound (after s what)
sound_after s what k a w = record {
  possible = possible_after s what k.possible a;
  typed = typed_after s what k.possible a w k.typed;
  store = store_after s what k.possible k.typed k.store a;
  rule = after-rule s what ∙ k.rule;
}

-- ---- one after another
pub sound_from : (s : Slow) (events : List Event) → IsSound s → LegalFrom s events → SubmittedAreWellTyped events → IsSound (state_from s events)
sound_from s [] k l w = k
sound_from s (e ∷ es) k l w = sound_from (after s e.what) es (sound_after s e.what k l.0.what w.0) l.1 w.1

-- ---- checkpoints
pub is_checkpoint : (s : Slow) → IsSound s → s.next ≤ max_next → IsCheckpoint (checkpoint_of s)
is_checkpoint s k low = (checkpoints_are_unseen s k.possible k.typed k.rule low k.store).0

-- labels and causes are no part of its state
marked_state : (labels : Labels) (causes : ℕ → Option KeptCause) (s : Slow) → checkpoint_state (with_causes causes (with_labels labels (checkpoint_of s))) ≡ checkpoint_state (checkpoint_of s)
marked_state labels causes s = caused_state causes (with_labels labels (checkpoint_of s)) ∙ same_state labels (checkpoint_of s)

pub unseen : (labels : Labels) (causes : ℕ → Option KeptCause) (s : Slow) → IsSound s → s.next ≤ max_next → observed (checkpoint_state (with_causes causes (with_labels labels (checkpoint_of s)))) ≡ observed s
unseen labels causes s k low = ap observed (marked_state labels causes s) ∙ (checkpoints_are_unseen s k.possible k.typed k.rule low k.store).1

sound_unmarked : (s : Slow) → IsSound s → s.next ≤ max_next → IsSound (checkpoint_state (checkpoint_of s))
unfolding checkpoint_of
sound_unmarked s k low =
    let both = checkpoints_are_possible (checkpoint_of s) (is_checkpoint s k low) in
    record { possible = both.0; typed = both.1; store = k.store; rule = refl }

pub sound_checkpoint : (labels : Labels) (causes : ℕ → Option KeptCause) (s : Slow) → IsSound s → s.next ≤ max_next → IsSound (checkpoint_state (with_causes causes (with_labels labels (checkpoint_of s))))
sound_checkpoint labels causes s k low = subst IsSound (sym (marked_state labels causes s)) (sound_unmarked s k low)
