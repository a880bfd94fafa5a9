-- A stale block waits for another evaluation because of the last event whose list has its ticket; if no list has it, because of the cause
-- that the checkpoint keeps.
use Rattle.std.proofs.Common.{◌≡◌, ℕ, zero, suc, ◌+◌, ◌<◌, Bool, true, false, cond, List, [], ◌∷◌, Option, Some, None, length, get_or, drop, refl, sym, ap, subst, ◌∙◌, arith}
use Rattle.std.specs.Prelude.{is_some, option_map}
use Rattle.std.specs.Option.{option_or}
use Rattle.std.proofs.lemmas.List.{drop_more}
use Rattle.stm_terms.specs.declared.values.Value.{Value}
use Rattle.stm_terms.specs.declared.verdicts.Verdict.{Verdict}
use Rattle.stm_terms.specs.ReadSet.{reads_of}
use Rattle.stm_terms.specs.Typing.{Rising}
use Rattle.stm_eval.proofs.FragmentsAndStores.{of_the_store}
use Rattle.stm_events.specs.declared.event.Event.{Event}
use Rattle.stm_events.specs.declared.event.What.{What}
use Rattle.stm_events.specs.declared.kept_cause.KeptCause.{KeptCause}
use Rattle.stm_events.specs.BlockStatus.{read_since_then, read_then}
use Rattle.stm_events.specs.SlowDesk.{Since, Waiter, Stale, Current, under, verdict_on, is_stale_since, find_waiter, standing_since, standing}
use Rattle.stm_events.proofs.SinceFrom.{tracked_from}
use Rattle.stm_machine.specs.Checkpoints.{MayStart}
use Rattle.stm_desk.specs.DeskView.{DeskView, start_state, state_of}
use Rattle.stm_desk.specs.Reasons.{ticket_of, Cause, kept_cause_at, WaitReason, IsStale, reason_kept, reason_of}
use Rattle.stm_desk.specs.ReasonsByEvents.{IsWritable, EachIsWritable, changes_told, events_since, stale_at, reason_listed}
use Rattle.stm_desk.specs.Checkpointed.{kept_cause, cause_kept}
use Rattle.stm_desk.specs.Causes.{cause_listed, has_in_list, last_with, last_listed}
use Rattle.stm_desk.proofs.FoundCauses.{found}
use Rattle.stm_desk.proofs.Listed.{listed_is}
use Rattle.stm_desk.proofs.ReasonsStay.{what_changes, cause_is, stale_again}
use Rattle.stm_desk.proofs.ReasonsByEvents.{stale_whole, has_reason}
use Rattle.stm_desk.proofs.Starts.{IsTypedHistory}

-- ---- a scan from the end
with_suc : (t : ℕ) (h : List Event) (k : ℕ) (e : Event) → k < length h → e ≡ get_or h k e → has_in_list t e.what ≡ true → last_with t (drop (suc k) h) ≡ None → Some e.what ≡ last_with t h
with_suc t [] k e l at d n = absurd (omega arith)
with_suc t (x ∷ h) zero e l at d n =
    let g : has_in_list t x.what ≡ true = subst (λ (y : Event). has_in_list t y.what ≡ true) at d in
    rw (n, g) (ap (λ (y : Event). Some y.what) at)
with_suc t (x ∷ h) (suc k) e l at d n = ap (λ (o : Option What). option_or o (cond (has_in_list t x.what) (Some x.what) None)) (with_suc t h k e (omega arith) at d n)

pub with_at : (t : ℕ) (h : List Event) (i k : ℕ) (e : Event) → k + 1 ≡ i → k < length h → e ≡ get_or h k e → has_in_list t e.what ≡ true → last_with t (drop i h) ≡ None → Some e.what ≡ last_with t h
with_at t h i k e same l at d n =
    let q : i ≡ suc k = omega arith in
    with_suc t h k e l at d (subst (λ (j : ℕ). last_with t (drop j h) ≡ None) q n)

pub none_before : (t : ℕ) (h : List Event) (i k : ℕ) (e : Event) → k + 1 ≡ i → k < length h → e ≡ get_or h k e → has_in_list t e.what ≡ false → last_with t (drop i h) ≡ None → last_with t (drop k h) ≡ None
none_before t h i k e same l at d n =
    let split : drop k h ≡ e ∷ drop i h = drop_more h k e l ∙ ap (λ (y : Event). y ∷ drop (k + 1) h) (sym at) ∙ ap (λ (j : ℕ). e ∷ drop j h) same in
    let here : last_with t (e ∷ drop i h) ≡ None = rw (n, d) refl in
    ap (last_with t) split ∙ here

-- ---- an event that can be read
writable_by : (o : Option What) (b : Bool) (x what : What) → IsWritable x → (o ≡ Some what → IsWritable what) → option_or o (cond b (Some x) None) ≡ Some what → IsWritable what
writable_by None true x what h more e = let q : x ≡ what = cc in subst IsWritable q h
writable_by None false x what h more e = cc
writable_by (Some y) b x what h more e = more e

pub with_writable : (t : ℕ) (h : List Event) (what : What) → EachIsWritable h → last_with t h ≡ Some what → IsWritable what
with_writable t [] what w e = cc
with_writable t (x ∷ h) what w e = writable_by (last_with t h) (has_in_list t x.what) x.what what w.0 (with_writable t h what w.1) e

-- ---- the cause by that event
abbrev cause_at : List (ℕ × Value) → What → Cause
cause_at reads what = record { finish = ticket_of what; changes = changes_told reads what }

mapped_or : (f : What → KeptCause) (o : Option What) (b : Bool) (x : What) → option_or (option_map f o) (cond b (Some (f x)) None) ≡ option_map f (option_or o (cond b (Some x) None))
mapped_or f None true x = refl
mapped_or f None false x = refl
mapped_or f (Some y) b x = refl

listed_with : (t : ℕ) (reads : List (ℕ × Value)) (h : List Event) → last_listed t reads h ≡ option_map (λ what. kept_cause (cause_at reads what)) (last_with t h)
listed_with t reads [] = refl
listed_with t reads (e ∷ h) =
    ap (λ (o : Option KeptCause). option_or o (cause_listed t reads e.what)) (listed_with t reads h)
    ∙ ap (option_or (option_map (λ what. kept_cause (cause_at reads what)) (last_with t h))) (listed_is t reads e.what)
    ∙ mapped_or (λ what. kept_cause (cause_at reads what)) (last_with t h) (has_in_list t e.what) e.what

kept_listed : (reads : List (ℕ × Value)) (kept : Option KeptCause) (o : Option What) → Rising reads → reason_listed reads kept o ≡ reason_kept reads (option_or (option_map (λ what. kept_cause (cause_at reads what)) o) kept)
kept_listed reads kept None ascend = refl
kept_listed reads kept (Some what) ascend = ap IsStale (sym (cause_is reads (cause_at reads what) ascend (what_changes reads what)))

-- ---- a stale block
-- the event tells the reason of a stale block of these reads
abbrev pub IsListedReason : DeskView → ℕ → List (ℕ × Value) → Type 0
IsListedReason d t reads = Some (reason_listed reads (kept_cause_at t d.checkpoint) (last_with t d.history)) ≡ reason_of d t

stale_if : (b : Bool) (v : Option Verdict) (x u : Option Verdict) → Stale v ≡ cond b (Stale x) (Current u) → b ≡ true
stale_if true v x u e = refl
stale_if false v x u e = cc

listed_reason : (d : DeskView) (t : ℕ) (w : Waiter) (s : Since) → MayStart d.table d.checkpoint → IsTypedHistory (start_state d) d.history → find_waiter t (state_of d).waiters ≡ Some w → w.since ≡ Some s → is_stale_since w.block s ≡ true
    → IsListedReason d t (reads_of (under s.store_then) w.block.tree)
listed_reason d t w s start k f e stale =
    let reads = reads_of (under s.store_then) w.block.tree in
    let kept = kept_cause_at t d.checkpoint in
    let ascend : Rising reads = (of_the_store w.block.tree (under s.store_then)).0 in
    let whole = stale_whole d t w s start k f e stale (tracked_from (start_state d) d.history t w s k.possible k.legal f e) in
    let some : is_some (reason_of d t) ≡ true = has_reason d t start k ∙ ap is_some f in
    let again : Some (reason_kept reads (cause_kept (reason_of d t))) ≡ reason_of d t =
    subst (λ (r : Option WaitReason). Some (reason_kept reads (cause_kept r)) ≡ r) (sym whole)
    (stale_again (stale_at t d.checkpoint) kept reads d.history (events_since t d.history) ascend (ap is_some (sym whole) ∙ some))
    in
    ap Some (kept_listed reads kept (last_with t d.history) ascend)
    ∙ ap (λ (o : Option KeptCause). Some (reason_kept reads (option_or o kept))) (sym (listed_with t reads d.history))
    ∙ ap (λ (o : Option KeptCause). Some (reason_kept reads o)) (found d t w s start k f e stale).is
    ∙ again

stale_since : (d : DeskView) (t : ℕ) (w : Waiter) (o : Option Since) (v : Option Verdict) (reads : List (ℕ × Value)) → MayStart d.table d.checkpoint → IsTypedHistory (start_state d) d.history → find_waiter t (state_of d).waiters ≡ Some w → w.since ≡ o
    → Stale v ≡ standing_since (state_of d).store w.block o → Some reads ≡ read_since_then w.block o → IsListedReason d t reads
stale_since d t w None v reads start k f e n r = absurd (cc)
stale_since d t w (Some s) v reads start k f e n r =
    let stale : is_stale_since w.block s ≡ true = stale_if (is_stale_since w.block s) v (verdict_on s.store_then w.block) (verdict_on (state_of d).store w.block) n in
    let same : reads_of (under s.store_then) w.block.tree ≡ reads = cc in
    subst (λ (rs : List (ℕ × Value)). IsListedReason d t rs) same (listed_reason d t w s start k f e stale)

stale_by : (d : DeskView) (t : ℕ) (v : Option Verdict) (reads : List (ℕ × Value)) (o : Option Waiter) → MayStart d.table d.checkpoint → IsTypedHistory (start_state d) d.history → find_waiter t (state_of d).waiters ≡ o
    → Some (Stale v) ≡ option_map (standing (state_of d).store) o → Some reads ≡ read_then o → IsListedReason d t reads
stale_by d t v reads None start k f e r = absurd (cc)
stale_by d t v reads (Some w) start k f e r = let n : Stale v ≡ standing (state_of d).store w = cc in stale_since d t w w.since v reads start k f refl n r

pub stands_stale : (d : DeskView) (t : ℕ) (v : Option Verdict) (reads : List (ℕ × Value)) → MayStart d.table d.checkpoint → IsTypedHistory (start_state d) d.history
    → Some (Stale v) ≡ option_map (standing (state_of d).store) (find_waiter t (state_of d).waiters) → Some reads ≡ read_then (find_waiter t (state_of d).waiters) → IsListedReason d t reads
stands_stale d t v reads start k e r = stale_by d t v reads (find_waiter t (state_of d).waiters) start k refl e r
