-- What the search finds is the cause of each stale block, and may be kept.
use Rattle.std.proofs.Common.{◌≡◌, ℕ, ◌<◌, ◌≤◌, Bool, true, false, not, ◌&&◌, cond, List, [], ◌∷◌, map, Option, Some, None, refl, sym, ap, subst, ◌∙◌, arith}
use Rattle.std.specs.Prelude.{nat_eq, is_some, option_map, unwrap_or, if◌then◌else◌}
use Rattle.std.specs.Option.{option_or}
use Rattle.std.proofs.lemmas.Bool.Decides.{nat_tests}
use Rattle.stm_terms.specs.declared.values.Value.{Value}
use Rattle.stm_terms.specs.declared.values.Value.TheVariants as value
use Rattle.stm_terms.specs.declared.verdicts.Verdict.{Verdict}
use Rattle.stm_terms.specs.ReadSet.{reads_of}
use Rattle.stm_terms.specs.Typing.{Rising}
use Rattle.stm_store.specs.declared.cell.Cell.{Cell}
use Rattle.stm_store.proofs.FreshNumbersInRange.{rising}
use Rattle.stm_eval.proofs.FragmentsAndStores.{of_the_store}
use Rattle.stm_events.specs.declared.kept_cause.KeptCause.{KeptCause}
use Rattle.stm_events.specs.BlockStatus.{read_since_then, read_then, read_now}
use Rattle.stm_events.specs.Labels.{Labels}
use Rattle.stm_events.specs.Laws.{AreRising}
use Rattle.stm_events.specs.SlowDesk.{Since, Waiter, Slow, under, verdict_on, is_stale_since, is_new_since, current_since, find_waiter}
use Rattle.stm_events.specs.SlowSettle.{can_end}
use Rattle.stm_events.specs.States.{HadVerdict}
use Rattle.stm_events.proofs.Possible.{possible_from, had_waiter}
use Rattle.stm_events.proofs.SinceFrom.{IsSinceFrom, IsSinceBefore, TracksFrom, Here, Before, tracked_from}
use Rattle.stm_machine.specs.declared.checkpoint.CheckpointBlock.{CheckpointBlock}
use Rattle.stm_machine.specs.Checkpoints.{IsKeptCause, MayHaveCause, MayHaveCauses, MayStart, held_since, block_of_waiter, checkpoint_of, labelled_block, with_labels}
use Rattle.stm_desk.specs.DeskView.{DeskView, start_state, state_of}
use Rattle.stm_desk.specs.Reasons.{Cause, cause_again, kept_cause_at, WaitReason, IsStale, Waits, CanFinish, current_reason, was_stale, reason_kept, stale_reason, reason_since, reason_of_waiter, reason_of}
use Rattle.stm_desk.specs.ReasonsByEvents.{cause_told, stale_at, stale_told}
use Rattle.stm_desk.specs.Checkpointed.{kept_cause, cause_kept, causes_of}
use Rattle.stm_desk.specs.Causes.{last_listed, reads_under, cause_sought}
use Rattle.stm_desk.proofs.CausesTold.{fit_all, is_caused, is_caused_before}
use Rattle.stm_desk.proofs.KeptAgain.{left_again}
use Rattle.stm_desk.proofs.KeptAt.{kept_of_start}
use Rattle.stm_desk.proofs.LastLists.{delivered_state, delivered_possible, delivered_legal, delivered_fit, delivered_submits, delivered_typed, delivered_now, delivered_waiting, listed_here, verdict_before, waiting_before, listed_later, listed_never}
use Rattle.stm_desk.proofs.Listed.{has_reads, or_none}
use Rattle.stm_desk.proofs.MayKeep.{kept_later, told_may_be_kept}
use Rattle.stm_desk.proofs.ReasonsByEvents.{stale_whole}
use Rattle.stm_desk.proofs.StaleBefore.{was_stale_at}
use Rattle.stm_desk.proofs.Starts.{IsTypedHistory}

-- ---- a cause as it is kept
kept_of_told : (o : Option Cause) → cause_kept (option_map IsStale o) ≡ option_map kept_cause o
kept_of_told None = refl
kept_of_told (Some c) = refl

-- a cause of these reads that is kept is kept as it was
kept_twice : (s : Slow) (reads : List (ℕ × Value)) (k : KeptCause) → Rising reads → IsKeptCause s.store s.next reads k → kept_cause (cause_again reads k) ≡ k
kept_twice s reads k ascend c = ap (λ (ls : List (ℕ × Value)). record { finish = k.finish; left = ls }) (left_again reads k.left ascend (rising s.store k.left [] value.Unit c.fits) c.changed)

kept_of_kept : (s : Slow) (reads : List (ℕ × Value)) (o : Option KeptCause) → Rising reads → ((k : KeptCause) → o ≡ Some k → IsKeptCause s.store s.next reads k) → cause_kept (Some (reason_kept reads o)) ≡ o
kept_of_kept s reads None ascend h = refl
kept_of_kept s reads (Some k) ascend h = ap Some (kept_twice s reads k ascend (h k refl))

mapped : (o : Option Cause) (k : KeptCause) → option_map kept_cause o ≡ Some k → (c : Cause) × (o ≡ Some c) × (kept_cause c ≡ k)
mapped None k e = absurd (cc)
mapped (Some c) k e = (c, refl, cc)

-- ---- a stale block
-- what is found of it is its cause, and may be kept
pub record IsFound (d : DeskView) (t : ℕ) (reads : List (ℕ × Value)) : Type 0 where
  pub is : option_or (last_listed t reads d.history) (kept_cause_at t d.checkpoint) ≡ cause_kept (reason_of d t)
  pub may : (k : KeptCause) → cause_kept (reason_of d t) ≡ Some k → IsKeptCause (state_of d).store (state_of d).next reads k

or_told : (o : Option Cause) (r : Option KeptCause) → is_some o ≡ true → option_or (option_map kept_cause o) r ≡ option_map kept_cause o
or_told None r e = cc
or_told (Some c) r e = refl

module _ (d : DeskView) (t : ℕ) (w : Waiter) (s : Since) (start : MayStart d.table d.checkpoint) (k : IsTypedHistory (start_state d) d.history) (there : find_waiter t (state_of d).waiters ≡ Some w) (has : w.since ≡ Some s) (stale : is_stale_since w.block s ≡ true) where
  abbrev reads : List (ℕ × Value)
  reads = reads_of (under s.store_then) w.block.tree

  ascend : Rising reads
  ascend = (of_the_store w.block.tree (under s.store_then)).0

  here_reason : (since : IsSinceFrom (start_state d) d.history t w.block s) → cause_kept (reason_of d t) ≡ option_map kept_cause (cause_told reads since.delivery.later)
  here_reason since =
      let p = is_caused (start_state d) d.history t w s k since in
      ap cause_kept (stale_whole d t w s start k there has stale (Here since) ∙ ap (stale_told (stale_at t d.checkpoint) (kept_cause_at t d.checkpoint) reads d.history) p.since)
      ∙ kept_of_told (cause_told reads since.delivery.later)

  found_here : IsSinceFrom (start_state d) d.history t w.block s → IsFound d t reads
  found_here since =
      let from = start_state d in
      let p = is_caused from d.history t w s k since in
      let middle = delivered_state from d.history t w s k there since in
      let possible = delivered_possible from d.history t w s k there since in
      let later = since.delivery.later in
      record {
        is =
            ap (λ (o : Option KeptCause). option_or o (kept_cause_at t d.checkpoint)) (listed_here from d.history t w s k there since stale)
            ∙ or_told (cause_told reads later) (kept_cause_at t d.checkpoint) (p.caused stale) ∙ sym (here_reason since);
        may = λ one e.
            let c = mapped (cause_told reads later) one (sym (here_reason since) ∙ e) in
            subst (λ (x : KeptCause). IsKeptCause (state_of d).store (state_of d).next reads x) c.2
            (subst (λ (x : Slow). IsKeptCause x.store x.next reads (kept_cause c.0)) (sym (delivered_now from d.history t w s k there since))
            (told_may_be_kept reads ascend middle later c.0 possible (delivered_typed from d.history t w s k there since) (delivered_legal from d.history t w s k there since)
            (delivered_fit from d.history t w s k there since) (delivered_submits from d.history t w s k there since)
            (has_reads t w.block s.store_then since.delivery.verdict since.verdict middle possible (delivered_waiting from d.history t w s k there since)) c.1));
      }

  before_reason : (since : IsSinceBefore (start_state d) d.history t w.block s)
      → cause_kept (reason_of d t) ≡ cause_kept (if was_stale (find_waiter t (start_state d).waiters) then Some (reason_kept reads (kept_cause_at t d.checkpoint)) else option_map IsStale (cause_told reads d.history))
  before_reason since =
      let p = is_caused_before (start_state d) d.history t w s k since in
      let kept = kept_cause_at t d.checkpoint in
      ap cause_kept (
      stale_whole d t w s start k there has stale (Before since)
      ∙ ap (stale_told (stale_at t d.checkpoint) kept reads d.history) p.since
      ∙ ap (λ (b : Bool). if b then Some (reason_kept reads kept) else option_map IsStale (cause_told reads d.history)) (sym (was_stale_at t d.table d.checkpoint start)))

  -- the cause that the checkpoint keeps is one of these reads
  kept_reads : (since : IsSinceBefore (start_state d) d.history t w.block s) (one : KeptCause) → kept_cause_at t d.checkpoint ≡ Some one → IsKeptCause (start_state d).store (start_state d).next reads one
  kept_reads since one e =
      let same : reads_of (under since.since.store_then) since.first.block.tree ≡ reads = (let a = since.store in let b = since.block in rw (a, b) refl) in
      subst (λ (rs : List (ℕ × Value)). IsKeptCause (start_state d).store (start_state d).next rs one) same (kept_of_start t d.table d.checkpoint since.first since.since one start since.found since.delivered e)

  found_before : (b : Bool) → was_stale (find_waiter t (start_state d).waiters) ≡ b → IsSinceBefore (start_state d) d.history t w.block s → IsFound d t reads
  found_before true before since =
      let kept = kept_cause_at t d.checkpoint in
      let again : cause_kept (reason_of d t) ≡ kept =
      before_reason since ∙ ap (λ (b : Bool). cause_kept (if b then Some (reason_kept reads kept) else option_map IsStale (cause_told reads d.history))) before
      ∙ kept_of_kept (start_state d) reads kept ascend (kept_reads since)
      in
      record {
        is = ap (λ (o : Option KeptCause). option_or o kept) (listed_never (start_state d) d.history t w s k since before) ∙ sym again;
        may = λ one e. kept_later (start_state d) d.history reads one k.state.store (kept_reads since one (sym again ∙ e));
      }
  found_before false before since =
      let kept = kept_cause_at t d.checkpoint in
      let p = is_caused_before (start_state d) d.history t w s k since in
      let v = verdict_before (start_state d) d.history t w s k since in
      let again : cause_kept (reason_of d t) ≡ option_map kept_cause (cause_told reads d.history) =
      before_reason since ∙ ap (λ (b : Bool). cause_kept (if b then Some (reason_kept reads kept) else option_map IsStale (cause_told reads d.history))) before ∙ kept_of_told (cause_told reads d.history)
      in
      record {
        is =
            ap (λ (o : Option KeptCause). option_or o kept) (listed_later (start_state d) d.history t w s k since there before)
            ∙ or_told (cause_told reads d.history) kept (p.caused before stale) ∙ sym again;
        may = λ one e.
            let c = mapped (cause_told reads d.history) one (sym again ∙ e) in
            subst (λ (x : KeptCause). IsKeptCause (state_of d).store (state_of d).next reads x) c.2
            (told_may_be_kept reads ascend (start_state d) d.history c.0 k.possible k.state k.legal (fit_all (start_state d) d.history k) k.typed
            (has_reads t w.block s.store_then v.0 v.1 (start_state d) k.possible (waiting_before (start_state d) d.history t w s k since before)) c.1);
      }

  found_by : TracksFrom (start_state d) d.history t w.block s → IsFound d t reads
  found_by (Here since) = found_here since
  found_by (Before since) = found_before (was_stale (find_waiter t (start_state d).waiters)) refl since

  pub found : IsFound d t reads
  found = found_by (tracked_from (start_state d) d.history t w s k.possible k.legal there has)

-- ---- each block
no_cause : (b : Bool) (o : Option WaitReason) (d : DeskView) (w : Waiter) → b ≡ false → cause_kept (cond b o (Some (current_reason (state_of d).store w))) ≡ None
no_cause true o d w e = cc
no_cause false o d w e = by (can_end (state_of d).store w) where
  by : (x : Bool) → cause_kept (Some (if x then CanFinish else Waits (read_now (state_of d).store w))) ≡ None
  by true = refl
  by false = refl

-- a block that is not stale has no cause
fresh_cause : (d : DeskView) (t : ℕ) (w : Waiter) (s : Since) → find_waiter t (state_of d).waiters ≡ Some w → w.since ≡ Some s → is_stale_since w.block s ≡ false → cause_kept (reason_of d t) ≡ None
unfolding reason_of
fresh_cause d t w s f e n =
    ap (λ (o : Option Waiter). cause_kept (reason_of_waiter d o)) f ∙ ap (λ (o : Option Since). cause_kept (reason_since d w o)) e
    ∙ no_cause (is_stale_since w.block s) (stale_reason (kept_cause_at w.ticket d.checkpoint) w.ticket (reads_of (under s.store_then) w.block.tree) (start_state d) d.history) d w n

new_cause : (d : DeskView) (t : ℕ) (w : Waiter) → find_waiter t (state_of d).waiters ≡ Some w → w.since ≡ None → cause_kept (reason_of d t) ≡ None
unfolding reason_of
new_cause d t w f e = ap (λ (o : Option Waiter). cause_kept (reason_of_waiter d o)) f ∙ ap (λ (o : Option Since). cause_kept (reason_since d w o)) e

gone_cause : (d : DeskView) (t : ℕ) → find_waiter t (state_of d).waiters ≡ None → cause_kept (reason_of d t) ≡ None
unfolding reason_of
gone_cause d t f = ap (λ (o : Option Waiter). cause_kept (reason_of_waiter d o)) f

-- a waiting block is stale if it was delivered to and something that it read has changed
stale_is : (w : Waiter) (s : Since) → w.since ≡ Some s → was_stale (Some w) ≡ is_stale_since w.block s
stale_is w s e = ap (λ (o : Option Since). not (is_new_since o) && not (current_since w.block o)) e ∙ twice (is_stale_since w.block s) where
  twice : (b : Bool) → not (not b) ≡ b
  twice true = refl
  twice false = refl

new_is : (w : Waiter) → w.since ≡ None → was_stale (Some w) ≡ false
new_is w e = ap (λ (o : Option Since). not (is_new_since o) && not (current_since w.block o)) e

unlike : (v w : ℕ) → v < w → nat_eq w v ≡ false
unlike v w l = grind (arith, nat_tests)

itself : (t : ℕ) → nat_eq t t ≡ true
itself t = grind (arith, nat_tests)

may_alike : (store : List Cell) (n : ℕ) (causes others : ℕ → Option KeptCause) (bs : List CheckpointBlock) → ((t : ℕ) → causes t ≡ others t) → MayHaveCauses store n others bs → MayHaveCauses store n causes bs
may_alike store n causes others [] same m = tt
may_alike store n causes others (b ∷ bs) same m =
    (subst (λ (o : Option KeptCause). MayHaveCause store n b.stale b.waiting.held o) (sym (same b.ticket)) m.0, may_alike store n causes others bs same m.1)

module _ (d : DeskView) (start : MayStart d.table d.checkpoint) (k : IsTypedHistory (start_state d) d.history) where
  -- what the search finds for a ticket
  abbrev sought : ℕ → Option Waiter → Option KeptCause
  sought t o = cause_sought (was_stale o) (option_or (last_listed t (unwrap_or (read_then o) []) d.history) (kept_cause_at t d.checkpoint)) None

  by_stale : (b : Bool) (t : ℕ) (w : Waiter) (s : Since) → is_stale_since w.block s ≡ b → find_waiter t (state_of d).waiters ≡ Some w → w.since ≡ Some s
      → cause_sought b (option_or (last_listed t (reads_of (under s.store_then) w.block.tree) d.history) (kept_cause_at t d.checkpoint)) None ≡ cause_kept (reason_of d t)
  by_stale true t w s stale f e = or_none (option_or (last_listed t (reads_of (under s.store_then) w.block.tree) d.history) (kept_cause_at t d.checkpoint)) ∙ (found d t w s start k f e stale).is
  by_stale false t w s stale f e = sym (fresh_cause d t w s f e stale)

  by_since : (t : ℕ) (w : Waiter) (o : Option Since) → find_waiter t (state_of d).waiters ≡ Some w → w.since ≡ o → sought t (Some w) ≡ cause_kept (reason_of d t)
  by_since t w None f e = ap (λ (b : Bool). cause_sought b (option_or (last_listed t (unwrap_or (read_then (Some w)) []) d.history) (kept_cause_at t d.checkpoint)) None) (new_is w e) ∙ sym (new_cause d t w f e)
  by_since t w (Some s) f e =
      ap (λ (b : Bool). cause_sought b (option_or (last_listed t (unwrap_or (read_then (Some w)) []) d.history) (kept_cause_at t d.checkpoint)) None) (stale_is w s e)
      ∙ ap (λ (o : Option Since). cause_sought (is_stale_since w.block s) (option_or (last_listed t (unwrap_or (read_since_then w.block o) []) d.history) (kept_cause_at t d.checkpoint)) None) e
      ∙ by_stale (is_stale_since w.block s) t w s refl f e

  by_waiter : (t : ℕ) (o : Option Waiter) → find_waiter t (state_of d).waiters ≡ o → sought t o ≡ cause_kept (reason_of d t)
  by_waiter t None f = sym (gone_cause d t f)
  by_waiter t (Some w) f = by_since t w w.since f refl

  -- it is the ticket's cause
  pub causes_found : (t : ℕ) → cause_sought (was_stale (find_waiter t (state_of d).waiters)) (option_or (last_listed t (reads_under d t) d.history) (kept_cause_at t d.checkpoint)) None ≡ causes_of d t
  unfolding causes_of
  causes_found t = by_waiter t (find_waiter t (state_of d).waiters) refl

  -- ---- and it may be kept
  may_by : (b : Bool) (t : ℕ) (w : Waiter) (s : Since) (v : Verdict) (o : Option KeptCause) → is_stale_since w.block s ≡ b → find_waiter t (state_of d).waiters ≡ Some w → w.since ≡ Some s → cause_kept (reason_of d t) ≡ o
      → MayHaveCause (state_of d).store (state_of d).next b (Some (record { reads = reads_of (under s.store_then) w.block.tree; verdict = v })) o
  may_by b t w s v None stale f e is = tt
  may_by true t w s v (Some c) stale f e is = (refl, (found d t w s start k f e stale).may c is)
  may_by false t w s v (Some c) stale f e is = let none = fresh_cause d t w s f e stale in absurd (cc)

  may_verdict : (t : ℕ) (w : Waiter) (s : Since) (x : Option Verdict) → find_waiter t (state_of d).waiters ≡ Some w → w.since ≡ Some s → is_some x ≡ true
      → MayHaveCause (state_of d).store (state_of d).next (is_stale_since w.block s) (option_map (λ v. record { reads = reads_of (under s.store_then) w.block.tree; verdict = v }) x) (cause_kept (reason_of d t))
  may_verdict t w s None f e some = cc
  may_verdict t w s (Some v) f e some = may_by (is_stale_since w.block s) t w s v (cause_kept (reason_of d t)) refl f e refl

  may_since : (t : ℕ) (w : Waiter) (o : Option Since) → find_waiter t (state_of d).waiters ≡ Some w → w.since ≡ o
      → MayHaveCause (state_of d).store (state_of d).next (was_stale (Some w)) (held_since w.block o) (causes_of d t)
  unfolding causes_of
  may_since t w None f e = subst (λ (x : Option KeptCause). MayHaveCause (state_of d).store (state_of d).next (was_stale (Some w)) None x) (sym (new_cause d t w f e)) tt
  may_since t w (Some s) f e =
      let possible = possible_from (start_state d) d.history k.possible k.legal in
      subst (λ (b : Bool). MayHaveCause (state_of d).store (state_of d).next b (held_since w.block (Some s)) (cause_kept (reason_of d t))) (sym (stale_is w s e))
      (may_verdict t w s (verdict_on s.store_then w.block) f e (subst (HadVerdict w.block) e (had_waiter t (state_of d).waiters w possible.evaluated f)))

  -- each of these blocks is found under its ticket
  abbrev AreFound : List Waiter → List Waiter → Type 0
  AreFound all [] = Unit {0}
  AreFound all (w ∷ ws) = (find_waiter w.ticket all ≡ Some w) × AreFound all ws

  found_past : (v : Waiter) (n low : ℕ) (all ws : List Waiter) → v.ticket ≤ low → AreRising n low ws → AreFound all ws → AreFound (v ∷ all) ws
  found_past v n low all [] l r h = tt
  found_past v n low all (w ∷ ws) l r h =
      let above : low < w.ticket = r.0 in
      (ap (λ (b : Bool). cond b (Some v) (find_waiter w.ticket all)) (unlike v.ticket w.ticket (omega arith)) ∙ h.0, found_past v n w.ticket all ws (omega arith) r.2 h.1)

  are_found : (n low : ℕ) (ws : List Waiter) → AreRising n low ws → AreFound ws ws
  are_found n low [] r = tt
  are_found n low (w ∷ ws) r = (ap (λ (b : Bool). cond b (Some w) (find_waiter w.ticket ws)) (itself w.ticket), found_past w n w.ticket ws ws (omega arith) r.2 (are_found n w.ticket ws r.2))

  may_each : (labels : Labels) (ws : List Waiter) → AreFound (state_of d).waiters ws → MayHaveCauses (state_of d).store (state_of d).next (causes_of d) (map (labelled_block labels) (map block_of_waiter ws))
  may_each labels [] h = tt
  may_each labels (w ∷ ws) h = (may_since w.ticket w w.since h.0 refl, may_each labels ws h.1)

  pub may_have_causes : (labels : Labels) (causes : ℕ → Option KeptCause) → ((t : ℕ) → causes t ≡ causes_of d t)
      → (let c = with_labels labels (checkpoint_of (state_of d)) in MayHaveCauses c.store c.next causes c.blocks)
  unfolding checkpoint_of
  may_have_causes labels causes same =
      let possible = possible_from (start_state d) d.history k.possible k.legal in
      may_alike (state_of d).store (state_of d).next causes (causes_of d) (map (labelled_block labels) (map block_of_waiter (state_of d).waiters)) same
      (may_each labels (state_of d).waiters (are_found (state_of d).next 0 (state_of d).waiters possible.rising))
