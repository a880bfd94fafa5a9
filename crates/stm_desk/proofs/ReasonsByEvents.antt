-- What a waiting block waits for, by how it stands.
use Rattle.std.proofs.Common.{◌≡◌, ℕ, Bool, true, false, not, cond, List, [], ◌∷◌, Option, Some, None, refl, sym, ap, subst, ◌∙◌, eqb-true}
use Rattle.std.specs.Prelude.{nat_eq, is_some, option_map, if◌then◌else◌}
use Rattle.stm_terms.specs.declared.values.Value.{Value}
use Rattle.stm_terms.specs.declared.verdicts.Verdict.{Verdict}
use Rattle.stm_terms.specs.ReadSet.{reads_of}
use Rattle.stm_store.specs.declared.cell.Cell.{Cell}
use Rattle.stm_events.specs.declared.event.Event.{Event}
use Rattle.stm_events.specs.BlockStatus.{read_since_then, read_then, read_now}
use Rattle.stm_events.specs.Headline.{is_installed}
use Rattle.stm_events.specs.SlowDesk.{Since, Waiter, Standing, New, Stale, Current, under, verdict_on, is_blocks, is_stale_since, current_since, is_current, find_waiter, standing_since, standing}
use Rattle.stm_events.specs.SlowSettle.{ends}
use Rattle.stm_events.proofs.SinceFrom.{TracksFrom, Here, Before, IsTracked, tracked_state}
use Rattle.stm_machine.specs.Checkpoints.{MayStart}
use Rattle.stm_desk.specs.DeskView.{DeskView, start_state, state_of}
use Rattle.stm_desk.specs.Reasons.{Cause, first_cause, cause_since_delivery, kept_cause_at, WaitReason, NotEvaluated, IsStale, Waits, CanFinish, current_reason, reason_kept, was_stale, reason_before, stale_reason, reason_since, reason_of_waiter, reason_of}
use Rattle.stm_desk.specs.ReasonsByEvents.{cause_told, events_since, stale_at, stale_told}
use Rattle.stm_desk.proofs.CausesTold.{is_caused, is_caused_before}
use Rattle.stm_desk.proofs.StaleBefore.{was_stale_at}
use Rattle.stm_desk.proofs.Starts.{IsTypedHistory}

-- ---- no block, and a new one
none_by : (store : List Cell) (o : Option Waiter) → None ≡ option_map (standing store) o → o ≡ None
none_by store None e = refl
none_by store (Some w) e = absurd (cc)

pub no_waiter : (d : DeskView) (t : ℕ) → None ≡ option_map (standing (state_of d).store) (find_waiter t (state_of d).waiters) → find_waiter t (state_of d).waiters ≡ None
no_waiter d t e = none_by (state_of d).store (find_waiter t (state_of d).waiters) e

pub no_reason : (d : DeskView) (t : ℕ) → find_waiter t (state_of d).waiters ≡ None → None ≡ reason_of d t
unfolding reason_of
no_reason d t e = rw e refl

new_since : (d : DeskView) (w : Waiter) (o : Option Since) → w.since ≡ o → None ≡ read_since_then w.block o → Some NotEvaluated ≡ reason_since d w w.since
new_since d w None e n = rw e refl
new_since d w (Some s) e n = absurd (cc)

new_by : (d : DeskView) (o : Option Waiter) (x : Standing) → Some x ≡ option_map (standing (state_of d).store) o → None ≡ read_then o → Some NotEvaluated ≡ reason_of_waiter d o
new_by d None x e n = absurd (cc)
new_by d (Some w) x e n = new_since d w w.since refl n

pub unread : (d : DeskView) (t : ℕ) (x : Standing) → Some x ≡ option_map (standing (state_of d).store) (find_waiter t (state_of d).waiters) → None ≡ read_then (find_waiter t (state_of d).waiters) → Some NotEvaluated ≡ reason_of d t
unfolding reason_of
unread d t x e n = new_by d (find_waiter t (state_of d).waiters) x e n

is_new_by : (b : Bool) (v u : Option Verdict) → New ≡ cond b (Stale v) (Current u) → ⊥
is_new_by true v u e = cc
is_new_by false v u e = cc

standing_new : (d : DeskView) (w : Waiter) (o : Option Since) → w.since ≡ o → New ≡ standing_since (state_of d).store w.block o → Some NotEvaluated ≡ reason_since d w w.since
standing_new d w None e n = rw e refl
standing_new d w (Some s) e n = absurd (is_new_by (is_stale_since w.block s) (verdict_on s.store_then w.block) (verdict_on (state_of d).store w.block) n)

stands_new_by : (d : DeskView) (o : Option Waiter) → Some New ≡ option_map (standing (state_of d).store) o → Some NotEvaluated ≡ reason_of_waiter d o
stands_new_by d None e = absurd (cc)
stands_new_by d (Some w) e = let n : New ≡ standing (state_of d).store w = cc in standing_new d w w.since refl n

pub stands_new : (d : DeskView) (t : ℕ) → Some New ≡ option_map (standing (state_of d).store) (find_waiter t (state_of d).waiters) → Some NotEvaluated ≡ reason_of d t
unfolding reason_of
stands_new d t e = stands_new_by d (find_waiter t (state_of d).waiters) e

-- ---- a stale block
-- what a block had read at its last delivery
abbrev reads_at : Waiter → Since → List (ℕ × Value)
reads_at w s = reads_of (under s.store_then) w.block.tree

ticket_by : (b : Bool) (t : ℕ) (v w : Waiter) (o : Option Waiter) → nat_eq t v.ticket ≡ b → (o ≡ Some w → w.ticket ≡ t) → cond b (Some v) o ≡ Some w → w.ticket ≡ t
ticket_by true t v w o e more f = let q : v ≡ w = cc in subst (λ (x : Waiter). x.ticket ≡ t) q (sym (eqb-true t v.ticket e))
ticket_by false t v w o e more f = more f

pub found_ticket : (t : ℕ) (ws : List Waiter) (w : Waiter) → find_waiter t ws ≡ Some w → w.ticket ≡ t
found_ticket t [] w f = cc
found_ticket t (v ∷ ws) w f = ticket_by (nat_eq t v.ticket) t v w (find_waiter t ws) refl (found_ticket t ws w) f

reason_here : (b : Bool) (o : Option Cause) (r : Option WaitReason) → b ≡ true → (if b then option_map IsStale o else r) ≡ option_map IsStale o
reason_here true o r e = refl
reason_here false o r e = cc

reason_else : (b : Bool) (o r : Option WaitReason) → b ≡ false → (if b then o else r) ≡ r
reason_else true o r e = cc
reason_else false o r e = refl

before_by : (b : Bool) (kept : WaitReason) (first told : Option Cause) → (b ≡ false → first ≡ told) → (if b then Some kept else option_map IsStale first) ≡ (if b then Some kept else option_map IsStale told)
before_by true kept first told h = refl
before_by false kept first told h = ap (option_map IsStale) (h refl)

pub told_by : (d : DeskView) (t : ℕ) (w : Waiter) (s : Since) → MayStart d.table d.checkpoint → IsTypedHistory (start_state d) d.history → TracksFrom (start_state d) d.history t w.block s
    → stale_reason (kept_cause_at t d.checkpoint) t (reads_of (under s.store_then) w.block.tree) (start_state d) d.history
    ≡ stale_told (stale_at t d.checkpoint) (kept_cause_at t d.checkpoint) (reads_of (under s.store_then) w.block.tree) d.history (events_since t d.history)
told_by d t w s start k (Here since) =
    let p = is_caused (start_state d) d.history t w s k since in
    let reads = reads_at w s in
    let kept = kept_cause_at t d.checkpoint in
    reason_here (is_installed t d.history) (cause_since_delivery t reads (start_state d) d.history) (reason_before kept t reads (start_state d) d.history) p.installed
    ∙ ap (option_map IsStale) p.told ∙ ap (stale_told (stale_at t d.checkpoint) kept reads d.history) (sym p.since)
told_by d t w s start k (Before since) =
    let p = is_caused_before (start_state d) d.history t w s k since in
    let reads = reads_at w s in
    let kept = kept_cause_at t d.checkpoint in
    reason_else (is_installed t d.history) (option_map IsStale (cause_since_delivery t reads (start_state d) d.history)) (reason_before kept t reads (start_state d) d.history) p.installed
    ∙ before_by (was_stale (find_waiter t (start_state d).waiters)) (reason_kept reads kept) (first_cause reads (start_state d) d.history) (cause_told reads d.history) p.told
    ∙ ap (λ (b : Bool). stale_told b kept reads d.history None) (was_stale_at t d.table d.checkpoint start) ∙ ap (stale_told (stale_at t d.checkpoint) kept reads d.history) (sym p.since)

stale_reason_if : (b : Bool) (r o : Option WaitReason) → b ≡ true → cond b r o ≡ r
stale_reason_if true r o e = refl
stale_reason_if false r o e = cc

-- why a block is stale, by what the events write
pub stale_whole : (d : DeskView) (t : ℕ) (w : Waiter) (s : Since) → MayStart d.table d.checkpoint → IsTypedHistory (start_state d) d.history → find_waiter t (state_of d).waiters ≡ Some w → w.since ≡ Some s → is_stale_since w.block s ≡ true
    → TracksFrom (start_state d) d.history t w.block s → reason_of d t ≡ stale_told (stale_at t d.checkpoint) (kept_cause_at t d.checkpoint) (reads_of (under s.store_then) w.block.tree) d.history (events_since t d.history)
unfolding reason_of
stale_whole d t w s start k f e stale tracks =
    let looked = reads_at w s in
    ap (reason_of_waiter d) f ∙ ap (reason_since d w) e
    ∙ stale_reason_if (is_stale_since w.block s) (stale_reason (kept_cause_at w.ticket d.checkpoint) w.ticket looked (start_state d) d.history) (Some (current_reason (state_of d).store w)) stale
    ∙ ap (λ (u : ℕ). stale_reason (kept_cause_at u d.checkpoint) u looked (start_state d) d.history) (found_ticket t (state_of d).waiters w f)
    ∙ told_by d t w s start k tracks

-- ---- a current block
current_if : (b : Bool) (v : Verdict) (x u : Option Verdict) → Current (Some v) ≡ cond b (Stale x) (Current u) → (b ≡ false) × (u ≡ Some v)
current_if true v x u e = absurd (cc)
current_if false v x u e = (refl, cc)

current_told : (v : Verdict) (store : List Cell) (w : Waiter) (reads : List (ℕ × Value)) → verdict_on store w.block ≡ Some v → reads ≡ read_now store w → (if is_blocks v then Waits reads else CanFinish) ≡ current_reason store w
current_told v store w reads e r = by (is_blocks v) ∙ ap (λ (b : Bool). cond b CanFinish (Waits (read_now store w))) (sym (ap ends e)) where
  by : (b : Bool) → cond b (Waits reads) CanFinish ≡ cond (not b) CanFinish (Waits (read_now store w))
  by true = ap Waits r
  by false = refl

current_reason_if : (b : Bool) (d : DeskView) (w : Waiter) (o : Option WaitReason) → b ≡ false → cond b o (Some (current_reason (state_of d).store w)) ≡ Some (current_reason (state_of d).store w)
current_reason_if true d w o e = cc
current_reason_if false d w o e = refl

current_of : (d : DeskView) (t : ℕ) (w : Waiter) (o : Option Since) (v : Verdict) (reads : List (ℕ × Value)) → find_waiter t (state_of d).waiters ≡ Some w → w.since ≡ o → Current (Some v) ≡ standing_since (state_of d).store w.block o
    → (is_current w ≡ true → Some reads ≡ Some (read_now (state_of d).store w)) → Some (if is_blocks v then Waits reads else CanFinish) ≡ reason_of d t
unfolding reason_of
current_of d t w None v reads f e n r = absurd (cc)
current_of d t w (Some s) v reads f e n r =
    let p = current_if (is_stale_since w.block s) v (verdict_on s.store_then w.block) (verdict_on (state_of d).store w.block) n in
    let c : is_current w ≡ true = ap (current_since w.block) e ∙ ap not p.0 in
    let same : reads ≡ read_now (state_of d).store w = (let g = r c in cc) in
    ap Some (current_told v (state_of d).store w reads p.1 same)
    ∙ sym (ap (reason_of_waiter d) f ∙ ap (reason_since d w) e
    ∙ current_reason_if (is_stale_since w.block s) d w (stale_reason (kept_cause_at w.ticket d.checkpoint) w.ticket (reads_of (under s.store_then) w.block.tree) (start_state d) d.history) p.0)

current_by : (d : DeskView) (t : ℕ) (v : Verdict) (reads : List (ℕ × Value)) (o : Option Waiter) → find_waiter t (state_of d).waiters ≡ o → Some (Current (Some v)) ≡ option_map (standing (state_of d).store) o
    → ((w : Waiter) → o ≡ Some w → is_current w ≡ true → Some reads ≡ Some (read_now (state_of d).store w)) → Some (if is_blocks v then Waits reads else CanFinish) ≡ reason_of d t
current_by d t v reads None f e r = absurd (cc)
current_by d t v reads (Some w) f e r =
    let n : Current (Some v) ≡ standing (state_of d).store w = cc in
    current_of d t w w.since v reads f refl n (r w refl)

pub stands_current : (d : DeskView) (t : ℕ) (v : Verdict) (reads : List (ℕ × Value)) → Some (Current (Some v)) ≡ option_map (standing (state_of d).store) (find_waiter t (state_of d).waiters)
    → ((w : Waiter) → find_waiter t (state_of d).waiters ≡ Some w → is_current w ≡ true → Some reads ≡ Some (read_now (state_of d).store w)) → Some (if is_blocks v then Waits reads else CanFinish) ≡ reason_of d t
stands_current d t v reads e r = current_by d t v reads (find_waiter t (state_of d).waiters) refl e r

-- ---- a block that waits has a reason
some_mapped : (o : Option Cause) → is_some o ≡ true → is_some (option_map IsStale o) ≡ true
some_mapped None e = e
some_mapped (Some c) e = refl

reason_if : (b : Bool) (o : Option WaitReason) (r : WaitReason) → (b ≡ true → is_some o ≡ true) → is_some (cond b o (Some r)) ≡ true
reason_if true o r h = h refl
reason_if false o r h = refl

has_before : (b : Bool) (kept : WaitReason) (told : Option Cause) → (b ≡ false → is_some told ≡ true) → is_some (if b then Some kept else option_map IsStale told) ≡ true
has_before true kept told h = refl
has_before false kept told h = some_mapped told (h refl)

has_told : (d : DeskView) (t : ℕ) (w : Waiter) (s : Since) → MayStart d.table d.checkpoint → IsTypedHistory (start_state d) d.history → TracksFrom (start_state d) d.history t w.block s → is_stale_since w.block s ≡ true
    → is_some (stale_told (stale_at t d.checkpoint) (kept_cause_at t d.checkpoint) (reads_of (under s.store_then) w.block.tree) d.history (events_since t d.history)) ≡ true
has_told d t w s start k (Here since) stale =
    let p = is_caused (start_state d) d.history t w s k since in
    let reads = reads_at w s in
    ap (λ (o : Option (List Event)). is_some (stale_told (stale_at t d.checkpoint) (kept_cause_at t d.checkpoint) reads d.history o)) p.since ∙ some_mapped (cause_told reads since.delivery.later) (p.caused stale)
has_told d t w s start k (Before since) stale =
    let p = is_caused_before (start_state d) d.history t w s k since in
    let reads = reads_at w s in
    let same = was_stale_at t d.table d.checkpoint start in
    ap (λ (o : Option (List Event)). is_some (stale_told (stale_at t d.checkpoint) (kept_cause_at t d.checkpoint) reads d.history o)) p.since
    ∙ has_before (stale_at t d.checkpoint) (reason_kept reads (kept_cause_at t d.checkpoint)) (cause_told reads d.history) (λ none. p.caused (same ∙ none) stale)

has_reason_since : (d : DeskView) (t : ℕ) (w : Waiter) (o : Option Since) → MayStart d.table d.checkpoint → IsTypedHistory (start_state d) d.history → find_waiter t (state_of d).waiters ≡ Some w → IsTracked (start_state d) d.history t w.block o
    → is_some (reason_since d w o) ≡ true
has_reason_since d t w None start k f tracks = refl
has_reason_since d t w (Some s) start k f tracks =
    let reads = reads_at w s in
    reason_if (is_stale_since w.block s) (stale_reason (kept_cause_at w.ticket d.checkpoint) w.ticket reads (start_state d) d.history) (current_reason (state_of d).store w)
    (λ stale.
    ap (λ (u : ℕ). is_some (stale_reason (kept_cause_at u d.checkpoint) u reads (start_state d) d.history)) (found_ticket t (state_of d).waiters w f)
    ∙ ap (λ (r : Option WaitReason). is_some r) (told_by d t w s start k tracks) ∙ has_told d t w s start k tracks stale)

has_reason_by : (d : DeskView) (t : ℕ) (o : Option Waiter) → MayStart d.table d.checkpoint → IsTypedHistory (start_state d) d.history → find_waiter t (state_of d).waiters ≡ o → is_some (reason_of_waiter d o) ≡ is_some o
has_reason_by d t None start k f = refl
has_reason_by d t (Some w) start k f = has_reason_since d t w w.since start k f ((tracked_state (start_state d) d.history k.possible k.legal).each t w f)

pub has_reason : (d : DeskView) (t : ℕ) → MayStart d.table d.checkpoint → IsTypedHistory (start_state d) d.history → is_some (reason_of d t) ≡ is_some (find_waiter t (state_of d).waiters)
unfolding reason_of
has_reason d t start k = has_reason_by d t (find_waiter t (state_of d).waiters) start k refl
