-- What an open desk keeps over a checkpoint: the store, the next ticket, and which blocks wait under which tickets stay.
use Rattle.std.proofs.Common.{◌≡◌, ℕ, Bool, true, false, cond, List, [], ◌∷◌, map, Option, Some, None, refl, sym, ap, ◌∙◌, subst}
use Rattle.std.specs.Prelude.{nat_eq, option_map}
use Rattle.stm_terms.specs.declared.kinds.Ty.{Ty}
use Rattle.stm_terms.specs.declared.values.Value.{Value}
use Rattle.stm_store.specs.declared.cell.Cell.{Cell}
use Rattle.stm_store.specs.Naming.{Named}
use Rattle.stm_check.specs.TypedBlock.{Block}
use Rattle.stm_events.specs.SlowDesk.{Slow, Waiter, find_waiter}
use Rattle.stm_events.specs.States.{IsTicketOf, IsLegalFrom}
use Rattle.stm_machine.specs.Checkpoints.{waiter_of, checkpoint_state, checkpoint_of, with_labels, block_of_waiter, MayStart}
use Rattle.stm_machine.proofs.CheckpointLabels.{same_state, caused_state}
use Rattle.stm_desk.specs.DeskView.{DeskView, start_state, state_of, labels_of}
use Rattle.stm_desk.specs.Checkpointed.{causes_of, checkpointed}
use Rattle.stm_commands.specs.declared.jobs.KeptJob.{KeptJob}
use Rattle.stm_commands.specs.OpenDesk.{HandedOut}
use Rattle.stm_source.specs.LaterNames.{NamesFollow}
use Rattle.stm_commands.specs.OpenInvariant.{job_kept, HaveStores, JobsStand, IsPresentCopy, OpenInvariant}

-- a waiting block as the state of a checkpoint has it
abbrev seen_again : List Cell → Waiter → Waiter
seen_again store w = waiter_of store (block_of_waiter w)

-- the waiting blocks as it has them
abbrev seen_all : List Cell → List Waiter → List Waiter
seen_all store ws = map (waiter_of store) (map block_of_waiter ws)

found_again_by : (b : Bool) (t : ℕ) (store : List Cell) (w : Waiter) (ws : List Waiter) → find_waiter t (seen_all store ws) ≡ option_map (seen_again store) (find_waiter t ws)
    → cond b (Some (seen_again store w)) (find_waiter t (seen_all store ws)) ≡ option_map (seen_again store) (cond b (Some w) (find_waiter t ws))
found_again_by true t store w ws h = refl
found_again_by false t store w ws h = h

found_again : (t : ℕ) (store : List Cell) (ws : List Waiter) → find_waiter t (seen_all store ws) ≡ option_map (seen_again store) (find_waiter t ws)
found_again t store [] = refl
found_again t store (w ∷ ws) = found_again_by (nat_eq t w.ticket) t store w ws (found_again t store ws)

-- the one that was there before
record WasThere (t : ℕ) (ws : List Waiter) (w : Waiter) : Type 0 where
  pub before : Waiter
  pub found : find_waiter t ws ≡ Some before
  pub block : w.block ≡ before.block

was_there_by : (t : ℕ) (store : List Cell) (ws : List Waiter) (w : Waiter) (o : Option Waiter) → find_waiter t ws ≡ o → option_map (seen_again store) o ≡ Some w → WasThere t ws w
was_there_by t store ws w None f e = absurd cc
was_there_by t store ws w (Some x) f e = let q : seen_again store x ≡ w = cc in record { before = x; found = f; block = sym (ap (λ (y : Waiter). y.block) q) }

was_there : (t : ℕ) (store : List Cell) (ws : List Waiter) (w : Waiter) → find_waiter t (seen_all store ws) ≡ Some w → WasThere t ws w
was_there t store ws w e = was_there_by t store ws w (find_waiter t ws) refl (sym (found_again t store ws) ∙ e)

waits_again : (s : Slow) (t : ℕ) (w : Waiter) → find_waiter t (checkpoint_state (checkpoint_of s)).waiters ≡ Some w → WasThere t s.waiters w
unfolding checkpoint_of
waits_again s t w e = was_there t s.store s.waiters w e

same_next : (s : Slow) → (checkpoint_state (checkpoint_of s)).next ≡ s.next
unfolding checkpoint_of
same_next s = refl

ticket_again : (s : Slow) (b : Block) (t : ℕ) → IsTicketOf b s t → IsTicketOf b (checkpoint_state (checkpoint_of s)) t
ticket_again s b t k = record {
  given = rw (same_next s) k.given;
  waits = λ w e. let x = waits_again s t w e in x.block ∙ k.waits x.before x.found;
}

-- the labels and causes of its blocks are no part of the state
now_again : (d : DeskView) → checkpoint_state (checkpoint_of (state_of d)) ≡ state_of (checkpointed d)
now_again d = sym (caused_state (causes_of d) (with_labels (labels_of d) (checkpoint_of (state_of d))) ∙ same_state (labels_of d) (checkpoint_of (state_of d)))

stand_again : (d : DeskView) (js : List HandedOut) → JobsStand d js → JobsStand (checkpointed d) js
stand_again d [] s = tt
stand_again d (j ∷ js) s = (
  record {
    covered = s.0.covered;
    ticket = subst (λ (s : Slow). IsTicketOf j.block s j.ticket) (now_again d) (ticket_again (state_of d) j.block j.ticket s.0.ticket);
  },
  stand_again d js s.1,
)

stored_again : (d : DeskView) (ks : List KeptJob) → HaveStores (state_of d).waiters ks → HaveStores (state_of (checkpointed d)).waiters ks
stored_again d [] h = tt
stored_again d (k ∷ ks) h = (
  λ w e. let x = waits_again (state_of d) k.ticket w (ap (λ (s : Slow). find_waiter k.ticket s.waiters) (now_again d) ∙ e) in h.0 x.before x.found,
  stored_again d ks h.1,
)

copied_again : (d : DeskView) (copy : Option (List (Ty × Value))) → IsPresentCopy d copy → IsPresentCopy (checkpointed d) copy
unfolding checkpoint_of
copied_again d None c = tt
copied_again d (Some cells) c = c

named_again : (d : DeskView) (known : List Named) → NamesFollow known (state_of d).names → NamesFollow known (state_of (checkpointed d)).names
unfolding checkpoint_of
named_again d known k = k

pub kept_again : {known : List Named} → (d e : DeskView) (copy : Option (List (Ty × Value))) (ks : List KeptJob) → e ≡ checkpointed d → MayStart e.table e.checkpoint → IsLegalFrom (start_state e) e.history → OpenInvariant d copy ks known
    → OpenInvariant e copy ks known
kept_again {known = known} d e copy ks q start legal k = record {
  start = start;
  legal = legal;
  copied = subst (λ (f : DeskView). IsPresentCopy f copy) (sym q) (copied_again d copy k.copied);
  jobs_stand = subst (λ (f : DeskView). JobsStand f (map job_kept ks)) (sym q) (stand_again d (map job_kept ks) k.jobs_stand);
  have_stores = subst (λ (f : DeskView). HaveStores (state_of f).waiters ks) (sym q) (stored_again d ks k.have_stores);
  kept_names = subst (λ (f : DeskView). NamesFollow known (state_of f).names) (sym q) (named_again d known k.kept_names);
}
