-- A desk after a checkpoint is what its history makes, and its state can't be told from the one before.
use Rattle.std.proofs.Common.{◌≡◌, ℕ, ◌≤◌, List, [], Option, Some, None, refl, sym, ap, subst, ◌∙◌, arith}
use Rattle.stm_terms.specs.declared.kinds.Ty.{Ty}
use Rattle.stm_store.specs.declared.cell.Cell.{Cell}
use Rattle.stm_store.specs.Cells.{plains, Covers, IsStore, StoreIsTyped}
use Rattle.stm_store.specs.Tables.{Declared, declared_cells, opened}
use Rattle.stm_events.specs.declared.event.Event.{Event}
use Rattle.stm_events.specs.declared.staleness.StalenessRule.TheVariants.{Changed}
use Rattle.stm_events.specs.declared.kept_cause.KeptCause.{KeptCause}
use Rattle.stm_events.specs.Labels.{Labels}
use Rattle.stm_events.specs.SlowDesk.{Slow, state_from}
use Rattle.stm_events.specs.States.{IsTypedState, observed}
use Rattle.stm_events.proofs.Folds.{state-rule}
use Rattle.stm_events.proofs.KeptByLegalHistories.{variables_stay_covered}
use Rattle.stm_machine.specs.Checkpoints.{CheckpointView, IsCheckpoint, checkpoint_of, checkpoint_state, with_labels, with_causes, start_of, MayStart, max_next}
use Rattle.stm_machine.specs.Machine.{Parts}
use Rattle.stm_machine.proofs.CheckpointLabels.{same_state, caused_state}
use Rattle.stm_machine.proofs.CheckpointStates.{is_possible, checkpoints_are_unseen}
use Rattle.stm_machine.proofs.SameObserved.{same_observed_at}
use Rattle.stm_desk.specs.Kept.{DeskInvariant}
use Rattle.stm_desk.proofs.Starts.{start_rule, typed_history, typed_now}

start_covers : (table : List Declared) (o : Option CheckpointView) → MayStart table o → (uses : List (ℕ × Ty)) → Covers (plains (opened table)) uses → Covers (plains (start_of table o).store) uses
start_covers table None m uses h = h
start_covers table (Some c) m uses h = m.1 uses h

store_of : (s : Slow) → (checkpoint_of s).store ≡ s.store
unfolding checkpoint_of
store_of s = refl

next_of : (s : Slow) → (checkpoint_of s).next ≡ s.next
unfolding checkpoint_of
next_of s = refl

module _ (table : List Declared) (o : Option CheckpointView) (limit : ℕ) (history : List Event) (m : Parts) (k : DeskInvariant table o limit history m) (cells : StoreIsTyped (declared_cells table)) where
  abbrev now : Slow
  now = state_from (start_of table o) history

  pub now_typed : IsTypedState now
  now_typed = typed_now (start_of table o) history (typed_history table o limit history m k cells)

  pub now_rule : now.rule ≡ Changed
  now_rule = state-rule (start_of table o) history ∙ start_rule table o

  pub unseen : (labels : Labels) (causes : ℕ → Option KeptCause) (c : CheckpointView) → c ≡ with_causes causes (with_labels labels (checkpoint_of now)) → IsCheckpoint c → observed (checkpoint_state c) ≡ observed now
  unseen labels causes c e q =
      let is : IsCheckpoint (with_causes causes (with_labels labels (checkpoint_of now))) = subst IsCheckpoint e q in
      let low : now.next ≤ max_next = subst (λ (n : ℕ). n ≤ max_next) (next_of now) is.tickets in
      let store : IsStore (plains now.store) = subst (λ (z : List Cell). IsStore (plains z)) (store_of now) is.store in
      ap (λ (x : CheckpointView). observed (checkpoint_state x)) e ∙ ap observed (caused_state causes (with_labels labels (checkpoint_of now)) ∙ same_state labels (checkpoint_of now))
      ∙ (checkpoints_are_unseen now k.at.possible now_typed now_rule low store).1

  pub checkpoint_kept : (labels : Labels) (causes : ℕ → Option KeptCause) (c : CheckpointView) → c ≡ with_causes causes (with_labels labels (checkpoint_of now)) → IsCheckpoint c → DeskInvariant table (Some c) limit [] m
  checkpoint_kept labels causes c e q =
      let same : now.store ≡ c.store = sym (ap (λ (x : CheckpointView). x.store) e ∙ store_of now) in
      let small = k.small in
      record {
        start = (q, λ uses h. subst (λ (z : List Cell). Covers (plains z) uses) same (variables_stay_covered (start_of table o) history uses (start_covers table o k.start uses h)));
        legal = record { each = tt; few = omega arith };
        at = same_observed_at m now (checkpoint_state c) k.at (is_possible c q) (sym (unseen labels causes c e q));
        few = omega arith;
        small = small;
        typed = tt;
      }
