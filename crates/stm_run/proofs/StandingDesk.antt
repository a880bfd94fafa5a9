-- What an open desk of the console stands on: its history is legal from where it begins, which is a sound state, each block that
-- was submitted is well typed, each job has its ticket still, and the queue has the tickets of the new and stale blocks. Each event
-- that the desk allows keeps it, and so does a checkpoint.
use Rattle.std.proofs.Common.{◌≡◌, ℕ, zero, suc, ◌<◌, ◌≤◌, false, List, [], ◌∷◌, ◌++◌, length, Option, Some, None, refl, sym, ap, ◌∙◌, subst, arith, length-append}
use Rattle.std.specs.Prelude.{slice_get}
use Rattle.std.proofs.lemmas.Bool.{leb-false}
use Rattle.stm_queue.specs.Queue.{Entry, tickets}
use Rattle.stm_terms.specs.declared.kinds.Ty.{Ty}
use Rattle.stm_check.specs.TypedBlock.{Block}
use Rattle.stm_store.specs.Cells.{plains, Covers}
use Rattle.stm_store.specs.Tables.{Declared, opened}
use Rattle.stm_events.specs.declared.event.Event.{Event}
use Rattle.stm_events.specs.declared.event.What.{What}
use Rattle.stm_events.specs.Laws.{SubmitsWellTyped, SubmittedAreWellTyped}
use Rattle.stm_events.specs.SlowDesk.{Waiter, Slow, find_waiter, after, Allows, AllowsEvent, state_from, LegalFrom}
use Rattle.stm_terms.specs.Limits.{max_events}
use Rattle.stm_events.specs.States.{IsPossible, IsTicketOf, observed, IsLegalFrom}
use Rattle.stm_events.proofs.AlikeWaitersStay.{MayBeAlike, alike_from, alike_found, same_current}
use Rattle.stm_events.proofs.KeptByLegalHistories.{ticket_after, variables_stay_covered}
use Rattle.stm_machine.specs.Checkpoints.{CheckpointView, IsCheckpoint, checkpoint_state, checkpoint_of, with_labels, start_of, MayStart, max_next}
use Rattle.stm_machine.specs.Machine.{event}
use Rattle.stm_machine.specs.QueueAndIndex.{due_of}
use Rattle.stm_machine.proofs.CheckpointLabels.{labels_leave_checkpoints, causes_leave_checkpoints}
use Rattle.stm_desk.specs.DeskView.{DeskView, start_state, state_of, labels_of, is_full, pending_after, with_event}
use Rattle.stm_desk.specs.Checkpointed.{causes_of, checkpoint_now, checkpointed}
use Rattle.stm_desk.proofs.CheckpointLabels.{labels_begin}
use Rattle.stm_desk.proofs.FoundCauses.{may_have_causes}
use Rattle.stm_desk.proofs.Starts.{IsTypedHistory}
use Rattle.stm_commands.specs.OpenDesk.{HandedOut}
use Rattle.stm_commands.proofs.KeptQueue.{QueueKept, kept_event, kept_marks}
use Rattle.stm_run.proofs.SoundStates.{IsSound, sound_from, is_checkpoint, sound_checkpoint, unseen}

-- each job's ticket was given to its block
abbrev pub AllTaken : Slow → List HandedOut → Type 0
AllTaken s [] = Unit {0}
AllTaken s (j ∷ js) = IsTicketOf j.block s j.ticket × AllTaken s js

pub record StandsOn
    (table : List Declared) (checkpoint : Option CheckpointView) (limit : ℕ) (history : List Event) (pending : List Entry) (jobs : List HandedOut)
    : Type 0 where
  pub start : IsSound (start_of table checkpoint)
  pub begins : MayStart table checkpoint
  pub legal : IsLegalFrom (start_of table checkpoint) history
  pub typed : SubmittedAreWellTyped history
  pub limit_low : limit ≤ max_events
  pub taken : AllTaken (state_from (start_of table checkpoint) history) jobs
  pub queue : QueueKept (state_from (start_of table checkpoint) history).waiters pending

abbrev pub Stands : DeskView → List HandedOut → Type 0
Stands d jobs = StandsOn d.table d.checkpoint d.limit d.history d.pending jobs

-- its present state is sound, too
pub stands_sound : (d : DeskView) (jobs : List HandedOut) → Stands d jobs → IsSound (state_of d)
stands_sound d jobs k = sound_from (start_of d.table d.checkpoint) d.history k.start k.legal.each k.typed

-- its history is one of well typed states
pub stands_typed : (d : DeskView) (jobs : List HandedOut) → Stands d jobs → IsTypedHistory (start_state d) d.history
stands_typed d jobs k = record { possible = k.start.possible; state = k.start.typed; rule = k.start.rule; legal = k.legal.each; typed = k.typed }

-- ---- one event more
taken_later : (s : Slow) (what : What) (jobs : List HandedOut) → IsPossible s → Allows s what → AllTaken s jobs → AllTaken (after s what) jobs
taken_later s what [] p a k = tt
taken_later s what (j ∷ js) p a k = (ticket_after s what j.block j.ticket p a k.0, taken_later s what js p a k.1)

pub legal_later : (s : Slow) (es : List Event) (e : Event) → LegalFrom s es → AllowsEvent (state_from s es) e → LegalFrom s (es ++ e ∷ [])
legal_later s [] e l a = (a, tt)
legal_later s (x ∷ es) e l a = (l.0, legal_later (after s x.what) es e l.1 a)

pub state_later : (s : Slow) (es : List Event) (e : Event) → state_from s (es ++ e ∷ []) ≡ after (state_from s es) e.what
state_later s [] e = refl
state_later s (x ∷ es) e = state_later (after s x.what) es e

pub typed_later : (es : List Event) (e : Event) → SubmittedAreWellTyped es → SubmitsWellTyped e.what → SubmittedAreWellTyped (es ++ e ∷ [])
typed_later [] e h w = (w, tt)
typed_later (x ∷ es) e h w = (h.0, typed_later es e h.1 w)

-- an event that is allowed keeps it, if there is room for it
pub stands_event : (d : DeskView) (jobs : List HandedOut) (what : What) → is_full d ≡ false → Allows (state_of d) what → SubmitsWellTyped what → Stands d jobs → Stands (with_event d 0 what) jobs
stands_event d jobs what room a w k =
    let first = start_of d.table d.checkpoint in
    let possible = (stands_sound d jobs k).possible in
    let later : after (state_of d) what ≡ state_from first (d.history ++ event 0 what ∷ []) = sym (state_later first d.history (event 0 what)) in
    record {
      start = k.start;
      begins = k.begins;
      legal = record {
        each = legal_later first d.history (event 0 what) k.legal.each (record { client = omega arith; what = a });
        few = let low = k.limit_low in let r : length d.history < d.limit = leb-false d.limit (length d.history) room in omega (arith, length-append d.history (event 0 what ∷ []), low, r);
      };
      typed = typed_later d.history (event 0 what) k.typed w;
      limit_low = k.limit_low;
      taken = subst (λ (s : Slow). AllTaken s jobs) later (taken_later (state_of d) what jobs possible a k.taken);
      queue = subst (λ (s : Slow). QueueKept s.waiters (pending_after what d.pending)) later (kept_event (state_of d) what d.pending possible.rising a k.queue);
    }

-- which of the tickets are queued and which are out doesn't matter
pub stands_marked : (d : DeskView) (pending : List Entry) (jobs : List HandedOut) → tickets pending ≡ tickets d.pending → Stands d jobs → Stands (record d { pending = pending }) jobs
stands_marked d pending jobs e k = record {
  start = k.start;
  begins = k.begins;
  legal = k.legal;
  typed = k.typed;
  limit_low = k.limit_low;
  taken = k.taken;
  queue = kept_marks (state_of d).waiters d.pending pending e k.queue;
}

-- ---- jobs
pub taken_append : (s : Slow) (xs ys : List HandedOut) → AllTaken s xs → AllTaken s ys → AllTaken s (xs ++ ys)
taken_append s [] ys h k = k
taken_append s (x ∷ xs) ys h k = (h.0, taken_append s xs ys h.1 k)

pub taken_at : (s : Slow) (jobs : List HandedOut) (n : ℕ) (j : HandedOut) → AllTaken s jobs → slice_get jobs n ≡ Some j → IsTicketOf j.block s j.ticket
taken_at s [] n j k e = absurd cc
taken_at s (x ∷ xs) zero j k e = let q : x ≡ j = cc in subst (λ (y : HandedOut). IsTicketOf y.block s y.ticket) q k.0
taken_at s (x ∷ xs) (suc n) j k e = taken_at s xs n j k.1 e

-- a desk that stands does so with other jobs
pub stands_with : (d : DeskView) (old new : List HandedOut) → AllTaken (state_of d) new → Stands d old → Stands d new
stands_with d old new t k =
    record { start = k.start; begins = k.begins; legal = k.legal; typed = k.typed; limit_low = k.limit_low; taken = t; queue = k.queue }

-- ---- a checkpoint
same_due : (o p : Option Waiter) → MayBeAlike o p → due_of o ≡ due_of p
same_due None None k = refl
same_due None (Some w) k = absurd k
same_due (Some v) None k = absurd k
same_due (Some v) (Some w) k = rw (same_current v w k) refl

same_queue : (ws vs : List Waiter) (es : List Entry) → ((t : ℕ) → MayBeAlike (find_waiter t ws) (find_waiter t vs)) → QueueKept ws es → QueueKept vs es
same_queue ws vs es same k = record { rising = k.rising; right = λ t. k.right t ∙ same_due (find_waiter t ws) (find_waiter t vs) (same t) }

same_block : (block : Block) (o p : Option Waiter) → MayBeAlike o p → ((w : Waiter) → o ≡ Some w → w.block ≡ block) → (v : Waiter) → p ≡ Some v → v.block ≡ block
same_block block o None k f v e = absurd (cc e)
same_block block None (Some x) k f v e = absurd k
same_block block (Some w) (Some x) k f v e = let q : x ≡ v = cc e in subst (λ (y : Waiter). y.block ≡ block) q (sym k.block ∙ f w refl)

same_taken : (s s' : Slow) (jobs : List HandedOut) → s.next ≡ s'.next → ((t : ℕ) → MayBeAlike (find_waiter t s.waiters) (find_waiter t s'.waiters)) → AllTaken s jobs → AllTaken s' jobs
same_taken s s' [] n same k = tt
same_taken s s' (j ∷ js) n same k = (
  record {
    given = subst (λ (m : ℕ). j.ticket < m) n k.0.given;
    waits = same_block j.block (find_waiter j.ticket s.waiters) (find_waiter j.ticket s'.waiters) (same j.ticket) k.0.waits;
  },
  same_taken s s' js n same k.1,
)

-- what the desk is at may be kept, with its labels and causes
pub checkpoint_is : (d : DeskView) (jobs : List HandedOut) → (state_of d).next ≤ max_next → Stands d jobs → IsCheckpoint (checkpoint_now d)
checkpoint_is d jobs low k =
    let s = state_of d in
    let labels = (labels_begin d.table d.checkpoint d.history (labels_of d) k.begins k.legal.each (λ t. refl)).each in
    let labelled = (labels_leave_checkpoints (labels_of d) (checkpoint_of s) labels (is_checkpoint s (stands_sound d jobs k) low)).0 in
    let causes = may_have_causes d k.begins (stands_typed d jobs k) (labels_of d) (causes_of d) (λ t. refl) in
    (causes_leave_checkpoints (causes_of d) (with_labels (labels_of d) (checkpoint_of s)) causes labelled).0

start_covers : (table : List Declared) (o : Option CheckpointView) → MayStart table o → (uses : List (ℕ × Ty)) → Covers (plains (opened table)) uses → Covers (plains (start_of table o).store) uses
start_covers table None m uses h = h
start_covers table (Some c) m uses h = m.1 uses h

pub stands_checkpointed : (d : DeskView) (jobs : List HandedOut) → (state_of d).next ≤ max_next → Stands d jobs → Stands (checkpointed d) jobs
unfolding checkpoint_of
stands_checkpointed d jobs low k =
    let s = state_of d in
    let s' = checkpoint_state (checkpoint_now d) in
    let sound = stands_sound d jobs k in
    let e : observed s ≡ observed s' = sym (unseen (labels_of d) (causes_of d) s sound low) in
    let same : (t : ℕ) → MayBeAlike (find_waiter t s.waiters) (find_waiter t s'.waiters) = λ t. alike_found t s.waiters s'.waiters (alike_from s.waiters s'.waiters (ap (λ o. o.waiters) e)) in
    record {
      start = sound_checkpoint (labels_of d) (causes_of d) s sound low;
      begins = (checkpoint_is d jobs low k, λ uses h. variables_stay_covered (start_state d) d.history uses (start_covers d.table d.checkpoint k.begins uses h));
      legal = record { each = tt; few = omega arith };
      typed = tt;
      limit_low = k.limit_low;
      taken = same_taken s s' jobs (ap (λ o. o.next) e) same k.taken;
      queue = same_queue s.waiters s'.waiters d.pending same k.queue;
    }
