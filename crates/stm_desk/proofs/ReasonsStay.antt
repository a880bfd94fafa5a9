-- A checkpoint leaves each block what it waits for, and why.
use Rattle.std.proofs.Common.{◌≡◌, ℕ, Bool, true, false, not, ◌&&◌, cond, List, [], ◌∷◌, map, Option, Some, None, refl, sym, ap, subst, ◌∙◌, eqb-true}
use Rattle.std.specs.Prelude.{nat_eq, is_some, option_map, if◌then◌else◌}
use Rattle.stm_terms.specs.declared.values.Value.{Value}
use Rattle.stm_terms.specs.declared.verdicts.Verdict.{Verdict}
use Rattle.stm_terms.specs.Changes.{Variables, find}
use Rattle.stm_terms.specs.ReadSet.{reads_of}
use Rattle.stm_terms.specs.Typing.{Rising}
use Rattle.stm_store.specs.declared.cell.Cell.{Cell}
use Rattle.stm_check.specs.TypedBlock.{Block}
use Rattle.stm_eval.proofs.FragmentsAndStores.{of_the_store}
use Rattle.stm_events.specs.declared.event.Event.{Event}
use Rattle.stm_events.specs.declared.event.What.{What}
use Rattle.stm_events.specs.declared.event.What.TheVariants.{Submitted, Installed, Finished, Cancelled, Declared as DeclaredLate, Labelled}
use Rattle.stm_events.specs.declared.kept_cause.KeptCause.{KeptCause}
use Rattle.stm_events.specs.Labels.{Labels}
use Rattle.stm_events.specs.SlowDesk.{Since, Waiter, Slow, under, verdict_on, is_stale_since, is_new_since, current_since, find_waiter}
use Rattle.stm_events.proofs.Possible.{possible_from, had_waiter, some_verdict}
use Rattle.stm_events.proofs.SinceFrom.{tracked_from}
use Rattle.stm_machine.specs.Checkpoints.{store_with, since_held, waiter_of, checkpoint_state, IsRightDelivery, AreCheckpointBlocks, IsCheckpoint, MayStart, held_since, block_of_waiter, checkpoint_of, labelled_block, with_labels, caused_block}
use Rattle.stm_machine.proofs.CheckpointLabels.{same_state, caused_state}
use Rattle.stm_machine.proofs.CheckpointStates.{is_stale_held}
use Rattle.stm_waiting.specs.declared.waiting.Held.{Held}
use Rattle.stm_desk.specs.declared.reason.Change.{Change}
use Rattle.stm_desk.specs.DeskView.{DeskView, start_state, state_of, labels_of}
use Rattle.stm_desk.specs.Reasons.{changes_from, ticket_of, Cause, cause_or, cause_again, kept_cause_in, kept_cause_at, WaitReason, IsStale, current_reason, was_stale, reason_kept, stale_reason, reason_since, reason_of_waiter, reason_of}
use Rattle.stm_desk.specs.ReasonsByEvents.{left_by_verdict, changes_told, cause_told, events_since, stale_at, stale_told}
use Rattle.stm_desk.specs.Checkpointed.{kept_cause, cause_kept, causes_of, checkpoint_now, checkpointed, ReasonsStay}
use Rattle.stm_desk.proofs.KeptAgain.{lefts, changes_again}
use Rattle.stm_desk.proofs.ReasonsByEvents.{found_ticket, stale_whole, has_reason}
use Rattle.stm_desk.proofs.ReadValues.{none_left}
use Rattle.stm_desk.proofs.Starts.{IsTypedHistory}

-- ---- a cause is made of changes of the reads, so it is found again
pub record AreChanges (reads : List (ℕ × Value)) (cs : List Change) : Type 0 where
  pub variables : Variables
  pub are : cs ≡ changes_from reads variables

pub what_changes : (reads : List (ℕ × Value)) (what : What) → AreChanges reads (changes_told reads what)
what_changes reads (Submitted t block) = record { variables = λ i. None; are = none_left reads (λ i. None) (λ i. refl) }
what_changes reads (Installed t v) = record { variables = λ i. None; are = none_left reads (λ i. None) (λ i. refl) }
what_changes reads (Finished t v n stale) = record { variables = left_by_verdict n v; are = refl }
what_changes reads (Cancelled t) = record { variables = λ i. None; are = none_left reads (λ i. None) (λ i. refl) }
what_changes reads (DeclaredLate name kind value) = record { variables = λ i. None; are = none_left reads (λ i. None) (λ i. refl) }
what_changes reads (Labelled t label) = record { variables = λ i. None; are = none_left reads (λ i. None) (λ i. refl) }

cause_changes : (reads : List (ℕ × Value)) (t : ℕ) (cs : List Change) (later : Option Cause) (c : Cause) → AreChanges reads cs → (later ≡ Some c → AreChanges reads c.changes) → cause_or t cs later ≡ Some c → AreChanges reads c.changes
cause_changes reads t [] later c a more e = more e
cause_changes reads t (x ∷ cs) later c a more e = let q : record { finish = t; changes = x ∷ cs } ≡ c = cc in subst (λ (d : Cause). AreChanges reads d.changes) q a

told_changes : (reads : List (ℕ × Value)) (es : List Event) (c : Cause) → cause_told reads es ≡ Some c → AreChanges reads c.changes
told_changes reads [] c e = cc
told_changes reads (e ∷ es) c is = cause_changes reads (ticket_of e.what) (changes_told reads e.what) (cause_told reads es) c (what_changes reads e.what) (told_changes reads es c) is

pub cause_is : (reads : List (ℕ × Value)) (c : Cause) → Rising reads → AreChanges reads c.changes → cause_again reads (kept_cause c) ≡ c
cause_is reads c ascend a =
    ap (λ (cs : List Change). record { finish = c.finish; changes = changes_from reads (λ i. find i (lefts cs)) }) a.are
    ∙ ap (λ (cs : List Change). record { finish = c.finish; changes = cs }) (changes_again reads a.variables ascend ∙ sym a.are)

told_again : (reads : List (ℕ × Value)) (o : Option Cause) → Rising reads → ((c : Cause) → o ≡ Some c → AreChanges reads c.changes) → is_some (option_map IsStale o) ≡ true
    → Some (reason_kept reads (cause_kept (option_map IsStale o))) ≡ option_map IsStale o
told_again reads None ascend h e = cc
told_again reads (Some c) ascend h e = ap (λ (x : Cause). Some (IsStale x)) (cause_is reads c ascend (h c refl))

kept_again : (reads : List (ℕ × Value)) (o : Option KeptCause) → Rising reads → Some (reason_kept reads (cause_kept (Some (reason_kept reads o)))) ≡ Some (reason_kept reads o)
kept_again reads None ascend = refl
kept_again reads (Some k) ascend = ap (λ (x : Cause). Some (IsStale x)) (cause_is reads (cause_again reads k) ascend (record { variables = λ i. find i k.left; are = refl }))

before_again : (b : Bool) (reads : List (ℕ × Value)) (kept : Option KeptCause) (o : Option Cause) → Rising reads → ((c : Cause) → o ≡ Some c → AreChanges reads c.changes)
    → is_some (if b then Some (reason_kept reads kept) else option_map IsStale o) ≡ true
    → Some (reason_kept reads (cause_kept (if b then Some (reason_kept reads kept) else option_map IsStale o))) ≡ (if b then Some (reason_kept reads kept) else option_map IsStale o)
before_again true reads kept o ascend h e = kept_again reads kept ascend
before_again false reads kept o ascend h e = told_again reads o ascend h e

pub stale_again : (before : Bool) (kept : Option KeptCause) (reads : List (ℕ × Value)) (history : List Event) (later : Option (List Event)) → Rising reads → is_some (stale_told before kept reads history later) ≡ true
    → Some (reason_kept reads (cause_kept (stale_told before kept reads history later))) ≡ stale_told before kept reads history later
stale_again before kept reads history (Some later) ascend e = told_again reads (cause_told reads later) ascend (told_changes reads later) e
stale_again before kept reads history None ascend e = before_again before reads kept (cause_told reads history) ascend (told_changes reads history) e

-- ---- the blocks of the checkpoint
abbrev again : List Cell → Waiter → Waiter
again store w = waiter_of store (block_of_waiter w)

found_step : (b : Bool) (store : List Cell) (w : Waiter) (o p : Option Waiter) → p ≡ option_map (again store) o → cond b (Some (again store w)) p ≡ option_map (again store) (cond b (Some w) o)
found_step true store w o p e = refl
found_step false store w o p e = e

found_again : (t : ℕ) (store : List Cell) (ws : List Waiter) → find_waiter t (map (waiter_of store) (map block_of_waiter ws)) ≡ option_map (again store) (find_waiter t ws)
found_again t store [] = refl
found_again t store (w ∷ ws) = found_step (nat_eq t w.ticket) store w (find_waiter t ws) (find_waiter t (map (waiter_of store) (map block_of_waiter ws))) (found_again t store ws)

plain_waiter : (t : ℕ) (s : Slow) → find_waiter t (checkpoint_state (checkpoint_of s)).waiters ≡ option_map (again s.store) (find_waiter t s.waiters)
unfolding checkpoint_of
plain_waiter t s = found_again t s.store s.waiters

plain_store : (s : Slow) → (checkpoint_state (checkpoint_of s)).store ≡ s.store
unfolding checkpoint_of
plain_store s = refl

kept_step : (b : Bool) (t : ℕ) (causes : ℕ → Option KeptCause) (w one : Waiter) (o : Option Waiter) (more : Option KeptCause) → nat_eq t w.ticket ≡ b → (o ≡ Some one → more ≡ causes t) → cond b (Some w) o ≡ Some one → cond b (causes w.ticket) more ≡ causes t
kept_step true t causes w one o more e h f = ap causes (sym (eqb-true t w.ticket e))
kept_step false t causes w one o more e h f = h f

kept_there : (t : ℕ) (labels : Labels) (causes : ℕ → Option KeptCause) (ws : List Waiter) (one : Waiter) → find_waiter t ws ≡ Some one → kept_cause_in t (map (caused_block causes) (map (labelled_block labels) (map block_of_waiter ws))) ≡ causes t
kept_there t labels causes [] one f = cc
kept_there t labels causes (w ∷ ws) one f =
    kept_step (nat_eq t w.ticket) t causes w one (find_waiter t ws) (kept_cause_in t (map (caused_block causes) (map (labelled_block labels) (map block_of_waiter ws)))) refl (kept_there t labels causes ws one) f

-- its last delivery is right
abbrev IsRight : List Cell → Waiter → Type 0
IsRight store w = IsRightDelivery store w.block (not (is_new_since w.since) && not (current_since w.block w.since)) (held_since w.block w.since)

right_step : (b : Bool) (store : List Cell) (w one : Waiter) (o : Option Waiter) → IsRight store w → (o ≡ Some one → IsRight store one) → cond b (Some w) o ≡ Some one → IsRight store one
right_step true store w one o r h f = let q : w ≡ one = cc in subst (IsRight store) q r
right_step false store w one o r h f = h f

right_there : (t : ℕ) (store : List Cell) (n low : ℕ) (labels : Labels) (causes : ℕ → Option KeptCause) (ws : List Waiter) (one : Waiter)
    → AreCheckpointBlocks store n low (map (caused_block causes) (map (labelled_block labels) (map block_of_waiter ws))) → find_waiter t ws ≡ Some one → IsRight store one
right_there t store n low labels causes [] one a f = cc
right_there t store n low labels causes (w ∷ ws) one a f =
    right_step (nat_eq t w.ticket) store w one (find_waiter t ws) a.2.delivery (right_there t store n w.ticket labels causes ws one a.3) f

module _ (d : DeskView) (start : MayStart d.table d.checkpoint) (k : IsTypedHistory (start_state d) d.history) (is : IsCheckpoint (checkpoint_now d)) where
  abbrev old : Slow
  old = state_of d

  abbrev new : DeskView
  new = checkpointed d

  same_now : state_of new ≡ checkpoint_state (checkpoint_of old)
  same_now = caused_state (causes_of d) (with_labels (labels_of d) (checkpoint_of old)) ∙ same_state (labels_of d) (checkpoint_of old)

  found_new : (t : ℕ) → find_waiter t (state_of new).waiters ≡ option_map (again old.store) (find_waiter t old.waiters)
  found_new t = ap (λ (x : Slow). find_waiter t x.waiters) same_now ∙ plain_waiter t old

  store_new : (state_of new).store ≡ old.store
  store_new = ap (λ (x : Slow). x.store) same_now ∙ plain_store old

  right : (t : ℕ) (w : Waiter) → find_waiter t old.waiters ≡ Some w → IsRight old.store w
  unfolding checkpoint_of
  right t w f = right_there t old.store old.next 0 (labels_of d) (causes_of d) old.waiters w is.blocks f

  kept_new : (t : ℕ) (w : Waiter) → find_waiter t old.waiters ≡ Some w → kept_cause_at t new.checkpoint ≡ cause_kept (reason_of d t)
  unfolding checkpoint_of causes_of
  kept_new t w f = kept_there t (labels_of d) (λ u. cause_kept (reason_of d u)) old.waiters w f

  twice : (b : Bool) → not (not b) ≡ b
  twice true = refl
  twice false = refl

  -- what the block read is what it reads on the store of its delivery
  module _ (n : ℕ) (block : Block) (s : Since) (f : find_waiter n old.waiters ≡ Some (record { ticket = n; block = block; since = Some s })) where
    abbrev w : Waiter
    w = record { ticket = n; block = block; since = Some s }

    abbrev reads : List (ℕ × Value)
    reads = reads_of (under s.store_then) block.tree

    had : (v : Verdict) × (verdict_on s.store_then block ≡ Some v)
    had = some_verdict (verdict_on s.store_then block) (had_waiter n old.waiters w (possible_from (start_state d) d.history k.possible k.legal).evaluated f)

    abbrev held : Held
    held = record { reads = reads; verdict = had.0 }

    abbrev stale : Bool
    stale = not (not (is_stale_since block s))

    abbrev since : Since
    since = record { store_then = store_with reads old.store; woken = if stale then map (λ r. r.0) reads else [] }

    held_is : held_since block (Some s) ≡ Some held
    held_is = ap (option_map (λ v. record { reads = reads; verdict = v })) had.1

    right_held : IsRightDelivery old.store block stale (Some held)
    right_held = subst (IsRightDelivery old.store block stale) held_is (right n w f)

    since_is : (again old.store w).since ≡ Some since
    since_is = ap (since_held old.store stale) held_is

    reads_again : reads_of (under since.store_then) block.tree ≡ reads
    reads_again = right_held.1.reads_are

    stale_is : is_stale_since block since ≡ is_stale_since block s
    stale_is = is_stale_held old.store block stale held right_held ∙ twice (is_stale_since block s)

    stale_new : is_stale_since block s ≡ true → was_stale (find_waiter n (start_state new).waiters) ≡ true
    stale_new e =
        ap was_stale (found_new n ∙ ap (option_map (again old.store)) f)
        ∙ ap (λ (o : Option Since). not (is_new_since o) && not (current_since block o)) since_is ∙ twice (is_stale_since block since) ∙ stale_is ∙ e

    ascend : Rising reads
    ascend = (of_the_store block.tree (under s.store_then)).0

    reason_stale : is_stale_since block s ≡ true → Some (reason_kept reads (cause_kept (reason_of d n))) ≡ reason_of d n
    reason_stale e =
        let whole = stale_whole d n w s start k f refl e (tracked_from (start_state d) d.history n w s k.possible k.legal f refl) in
        let some : is_some (reason_of d n) ≡ true = has_reason d n start k ∙ ap is_some f in
        subst (λ (r : Option WaitReason). Some (reason_kept reads (cause_kept r)) ≡ r) (sym whole)
        (stale_again (stale_at n d.checkpoint) (kept_cause_at n d.checkpoint) reads d.history (events_since n d.history) ascend (ap is_some (sym whole) ∙ some))

    before_kept : (b : Bool) (o : Option KeptCause) (r : Option WaitReason) (rs : List (ℕ × Value)) → b ≡ true → (if b then Some (reason_kept rs o) else r) ≡ Some (reason_kept rs o)
    before_kept true o r rs e = refl
    before_kept false o r rs e = cc

    reason_by : (b : Bool) → is_stale_since block s ≡ b
        → (if b then stale_reason (kept_cause_at n new.checkpoint) n reads (start_state new) [] else Some (current_reason (state_of new).store (again old.store w))) ≡ reason_of d n
    unfolding reason_of
    reason_by true e =
        before_kept (was_stale (find_waiter n (start_state new).waiters)) (kept_cause_at n new.checkpoint) None reads (stale_new e)
        ∙ ap (λ (o : Option KeptCause). Some (reason_kept reads o)) (kept_new n w f) ∙ reason_stale e
    reason_by false e =
        ap (λ (cells : List Cell). Some (current_reason cells w)) store_new
        ∙ sym (ap (reason_of_waiter d) f ∙ ap (λ (b : Bool). if b then stale_reason (kept_cause_at n d.checkpoint) n reads (start_state d) d.history else Some (current_reason old.store w)) e)

    reason_again : reason_since new (again old.store w) (again old.store w).since ≡ reason_of d n
    reason_again =
        ap (reason_since new (again old.store w)) since_is
        ∙ ap (λ (rs : List (ℕ × Value)). if is_stale_since block since then stale_reason (kept_cause_at n new.checkpoint) n rs (start_state new) [] else Some (current_reason (state_of new).store (again old.store w))) reads_again
        ∙ ap (λ (b : Bool). if b then stale_reason (kept_cause_at n new.checkpoint) n reads (start_state new) [] else Some (current_reason (state_of new).store (again old.store w))) stale_is
        ∙ reason_by (is_stale_since block s) refl

  by_since : (n : ℕ) (block : Block) (o : Option Since) → find_waiter n old.waiters ≡ Some (record { ticket = n; block = block; since = o })
      → (let v : Waiter = again old.store (record { ticket = n; block = block; since = o }) in reason_since new v v.since) ≡ reason_of d n
  unfolding reason_of
  by_since n block None f = sym (ap (reason_of_waiter d) f)
  by_since n block (Some s) f = reason_again n block s f

  by_waiter : (t : ℕ) (o : Option Waiter) → find_waiter t old.waiters ≡ o → reason_of_waiter new (option_map (again old.store) o) ≡ reason_of d t
  unfolding reason_of
  by_waiter t None f = sym (ap (reason_of_waiter d) f)
  by_waiter t (Some w) f =
      let same : w.ticket ≡ t = found_ticket t old.waiters w f in
      let there : find_waiter w.ticket old.waiters ≡ Some w = ap (λ (u : ℕ). find_waiter u old.waiters) same ∙ f in
      by_since w.ticket w.block w.since there ∙ ap (λ (u : ℕ). reason_of_waiter d (find_waiter u old.waiters)) same

  pub reasons_stay : ReasonsStay d
  unfolding reason_of
  reasons_stay t = ap (reason_of_waiter new) (found_new t) ∙ by_waiter t (find_waiter t old.waiters) refl
