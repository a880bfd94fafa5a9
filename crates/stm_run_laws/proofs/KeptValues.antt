-- What a checkpoint keeps of waiting blocks is in range: what they read at their last deliveries, and with which values a finish left
-- that; and no count of a variable has more than 64 bits.
use Rattle.std.proofs.Common.{ℕ, zero, suc, ◌<◌, ◌^◌, Bool, true, false, cond, List, [], ◌∷◌, ◌++◌, length, map, Option, Some, None, IfSome, arith}
use Rattle.std.specs.Prelude.{⊤, nat_eq, option_map, slice_get, slice_set}
use Rattle.stm_terms.specs.declared.kinds.Ty.{Ty}
use Rattle.stm_terms.specs.declared.values.Value.{Value}
use Rattle.stm_terms.specs.declared.values.Value.TheVariants as value
use Rattle.stm_terms.specs.declared.verdicts.Verdict.{Verdict}
use Rattle.stm_terms.specs.declared.verdicts.Verdict.TheVariants.{Commits, Throws, Blocks}
use Rattle.stm_terms.specs.Changes.{Variables, find}
use Rattle.stm_terms.specs.ReadSet.{insert_read, insert_reads, looks_of, reads_of}
use Rattle.stm_terms.specs.Value.{same_value}
use Rattle.stm_store.specs.declared.cell.Cell.{Cell}
use Rattle.stm_store.specs.Cells.{renumbered, counted, rewritten, with_write, with_writes, new_cell, applied}
use Rattle.stm_store.specs.Tables.{Declared, opened}
use Rattle.stm_check.specs.TypedBlock.{Block}
use Rattle.stm_events.specs.declared.event.Event.{Event}
use Rattle.stm_events.specs.declared.event.What.{What}
use Rattle.stm_events.specs.declared.event.What.TheVariants.{Submitted, Installed, Finished, Cancelled, Declared as DeclaredLate, Labelled}
use Rattle.stm_events.specs.declared.kept_cause.KeptCause.{KeptCause}
use Rattle.stm_events.specs.BlockStatus.{read_now}
use Rattle.stm_events.specs.Headline.{installs_to, is_installed}
use Rattle.stm_events.specs.Labels.{Labels}
use Rattle.stm_events.specs.SlowDesk.{Since, Waiter, Slow, under, verdict_on, is_stale_since, find_waiter, without_waiter, with_delivery, delivered, after_writes, waking, declaration, after, state_from, LegalFrom}
use Rattle.stm_events.specs.SlowSettle.{can_end}
use Rattle.stm_machine.specs.declared.checkpoint.CheckpointBlock.{CheckpointBlock}
use Rattle.stm_machine.specs.Checkpoints.{CheckpointView, since_held, waiter_of, held_since, block_of_waiter, labelled_block, caused_block}
use Rattle.stm_waiting.specs.declared.waiting.Held.{Held}
use Rattle.stm_desk.specs.declared.reason.Change.{Change}
use Rattle.stm_desk.specs.Checkpointed.{cause_kept, causes_of}
use Rattle.stm_desk.specs.DeskView.{DeskView, start_state, state_of}
use Rattle.stm_desk.specs.Reasons.{Cause, WaitReason, NotEvaluated, IsStale, WasStale, Waits, CanFinish, change_to, changes_from, ticket_of, cause_or, first_cause, cause_since_delivery, kept_cause_in, kept_cause_at, current_reason, was_stale, reason_kept, reason_before, stale_reason, reason_since, reason_of_waiter, reason_of}
use Rattle.stm_desk_laws.specs.IntegerRange.{Is64Bit, AreVariables64Bit, AreWrites64Bit, AreCells64Bit, IsState64Bit, AreGiven64Bit, HistoriesStay64Bit}
use Rattle.stm_desk_laws.proofs.HistoryRange.{under_fits, applied_fits}
use Rattle.stm_desk_laws.proofs.VerdictRange.{find_fits, put_fits}
use Rattle.stm_run.proofs.ArgumentCases.{either_has}

-- ---- counts
abbrev pub AreCounted : List Cell → Type 0
AreCounted [] = ⊤
AreCounted (c ∷ cs) = (c.count < 2 ^ 64) × AreCounted cs

rewritten_counted : (n : ℕ) (v : Value) (c : Cell) → c.count < 2 ^ 64 → (rewritten n v c).count < 2 ^ 64
rewritten_counted n v c l = either_has (λ (k : ℕ). k < 2 ^ 64) (same_value (renumbered n v) c.value) c.count (counted c.count) l (omega arith)

set_counted : (cells : List Cell) (i : ℕ) (d : Cell) → d.count < 2 ^ 64 → AreCounted cells → AreCounted (slice_set cells i d)
set_counted [] i d l k = k
set_counted (c ∷ cs) zero d l k = (l, k.1)
set_counted (c ∷ cs) (suc i) d l k = (k.0, set_counted cs i d l k.1)

get_counted : (cells : List Cell) (i : ℕ) → AreCounted cells → IfSome (slice_get cells i) (λ c. c.count < 2 ^ 64)
get_counted [] i k = tt
get_counted (c ∷ cs) zero k = k.0
get_counted (c ∷ cs) (suc i) k = get_counted cs i k.1

write_counted : (n : ℕ) (cells : List Cell) (i : ℕ) (v : Value) (o : Option Cell) → IfSome o (λ c. c.count < 2 ^ 64) → AreCounted cells → AreCounted (with_write n cells i v o)
write_counted n cells i v (Some c) l k = set_counted cells i (rewritten n v c) (rewritten_counted n v c l) k
write_counted n cells i v None l k = k

writes_counted : (n : ℕ) (ws : List (ℕ × Value)) (cells : List Cell) → AreCounted cells → AreCounted (with_writes n ws cells)
writes_counted n [] cells k = k
writes_counted n (w ∷ ws) cells k = writes_counted n ws _ (write_counted n cells w.0 w.1 (slice_get cells w.0) (get_counted cells w.0 k) k)

news_counted : (n : ℕ) (cells : List Cell) (news : List (Ty × Value)) → AreCounted cells → AreCounted (cells ++ map (new_cell n) news)
news_counted n [] [] k = tt
news_counted n [] (d ∷ ds) k = (omega arith, news_counted n [] ds tt)
news_counted n (c ∷ cs) news k = (k.0, news_counted n cs news k.1)

applied_counted : (cells : List Cell) (v : Verdict) → AreCounted cells → AreCounted (applied cells v)
applied_counted cells (Commits writes news result) k = news_counted (length cells) _ news (writes_counted (length cells) writes cells k)
applied_counted cells (Throws f) k = k
applied_counted cells Blocks k = k

pub opened_counted : (table : List Declared) → AreCounted (opened table)
opened_counted [] = tt
opened_counted (d ∷ ds) = (omega arith, opened_counted ds)

counted_after : (s : Slow) (what : What) → AreCounted s.store → AreCounted (after s what).store
counted_after s (Submitted t block) k = k
counted_after s (Installed t v) k = k
counted_after s (Finished t v n stale) k = applied_counted s.store v k
counted_after s (Cancelled t) k = k
counted_after s (DeclaredLate name kind v) k = applied_counted s.store (declaration kind v) k
counted_after s (Labelled t label) k = k

pub counted_from : (s : Slow) (es : List Event) → AreCounted s.store → AreCounted (state_from s es).store
counted_from s [] k = k
counted_from s (e ∷ es) k = counted_from (after s e.what) es (counted_after s e.what k)

-- ---- the stores of a history
abbrev pub StoresAre64Bit : Slow → List Event → Type 0
StoresAre64Bit s [] = AreCells64Bit s.store
StoresAre64Bit s (e ∷ es) = AreCells64Bit s.store × StoresAre64Bit (after s e.what) es

pub stores_range : HistoriesStay64Bit → (s : Slow) (es : List Event) → IsState64Bit s → LegalFrom s es → AreGiven64Bit es → StoresAre64Bit s es
stores_range laws s [] k l g = k.store
stores_range laws s (e ∷ es) k l g = (k.store, stores_range laws (after s e.what) es (laws.later s (e ∷ []) k (l.0, tt) (g.0, tt)) l.1 g.1)

here : (s : Slow) (es : List Event) → StoresAre64Bit s es → AreCells64Bit s.store
here s [] k = k
here s (e ∷ es) k = k.0

-- ---- last deliveries
-- the store of each was in range
abbrev IsSince64Bit : Option Since → Type 0
IsSince64Bit None = ⊤
IsSince64Bit (Some s) = AreCells64Bit s.store_then

abbrev pub AreSince64Bit : List Waiter → Type 0
AreSince64Bit [] = ⊤
AreSince64Bit (w ∷ ws) = IsSince64Bit w.since × AreSince64Bit ws

since_push : (ws : List Waiter) (w : Waiter) → AreSince64Bit ws → IsSince64Bit w.since → AreSince64Bit (ws ++ w ∷ [])
since_push [] w h k = (k, tt)
since_push (x ∷ ws) w h k = (h.0, since_push ws w h.1 k)

since_delivered : (t : ℕ) (store : List Cell) (ws : List Waiter) → AreCells64Bit store → AreSince64Bit ws → AreSince64Bit (delivered t store ws)
since_delivered t store [] c h = tt
since_delivered t store (w ∷ ws) c h =
    either_has AreSince64Bit (nat_eq t w.ticket) (with_delivery store w ∷ ws) (w ∷ delivered t store ws) (c, h.1) (h.0, since_delivered t store ws c h.1)

since_without : (t : ℕ) (ws : List Waiter) → AreSince64Bit ws → AreSince64Bit (without_waiter t ws)
since_without t [] h = tt
since_without t (w ∷ ws) h = either_has AreSince64Bit (nat_eq t w.ticket) ws (w ∷ without_waiter t ws) h.1 (h.0, since_without t ws h.1)

woken_since : (woken : List ℕ) (w : Waiter) (o : Option Since) → IsSince64Bit o → IsSince64Bit (after_writes woken (record w { since = o })).since
woken_since woken w None h = tt
woken_since woken w (Some s) h = h

since_marked : (woken : List ℕ) (ws : List Waiter) → AreSince64Bit ws → AreSince64Bit (map (after_writes woken) ws)
since_marked woken [] h = tt
since_marked woken (w ∷ ws) h = (woken_since woken w w.since h.0, since_marked woken ws h.1)

since_after : (s : Slow) (what : What) → AreCells64Bit s.store → AreSince64Bit s.waiters → AreSince64Bit (after s what).waiters
since_after s (Submitted t block) c h = since_push s.waiters (record { ticket = t; block = block; since = None }) h tt
since_after s (Installed t v) c h = since_delivered t s.store s.waiters c h
since_after s (Finished t v n stale) c h = since_marked (waking s.rule s.store v) (without_waiter t s.waiters) (since_without t s.waiters h)
since_after s (Cancelled t) c h = since_without t s.waiters h
since_after s (DeclaredLate name kind v) c h = h
since_after s (Labelled t label) c h = h

pub since_from : (s : Slow) (es : List Event) → StoresAre64Bit s es → AreSince64Bit s.waiters → AreSince64Bit (state_from s es).waiters
since_from s [] k h = h
since_from s (e ∷ es) k h = since_from (after s e.what) es k.1 (since_after s e.what k.0 h)

-- so what was read is
read_range : (i : ℕ) (o : Option Value) (reads : List (ℕ × Value)) → IfSome o Is64Bit → AreWrites64Bit reads → AreWrites64Bit (insert_read i o reads)
read_range i (Some v) reads h r = put_fits i v reads h r
read_range i None reads h r = r

reads_range : (variables : Variables) (is : List ℕ) (reads : List (ℕ × Value)) → AreVariables64Bit variables → AreWrites64Bit reads → AreWrites64Bit (insert_reads variables is reads)
reads_range variables [] reads u r = r
reads_range variables (i ∷ is) reads u r = reads_range variables is _ u (read_range i (variables i) reads (u i) r)

-- ---- causes
abbrev AreLefts64Bit : List Change → Type 0
AreLefts64Bit [] = ⊤
AreLefts64Bit (c ∷ cs) = Is64Bit c.left × AreLefts64Bit cs

lefts_append : (cs ds : List Change) → AreLefts64Bit cs → AreLefts64Bit ds → AreLefts64Bit (cs ++ ds)
lefts_append [] ds h k = k
lefts_append (c ∷ cs) ds h k = (h.0, lefts_append cs ds h.1 k)

change_range : (i : ℕ) (v : Value) (o : Option Value) → IfSome o Is64Bit → AreLefts64Bit (change_to i v o)
change_range i v None h = tt
change_range i v (Some new) h = either_has AreLefts64Bit (same_value v new) [] (record { variable = i; read = v; left = new } ∷ []) tt (h, tt)

changes_range : (rs : List (ℕ × Value)) (variables : Variables) → AreVariables64Bit variables → AreLefts64Bit (changes_from rs variables)
changes_range [] variables u = tt
changes_range (r ∷ rs) variables u =
    lefts_append (change_to r.0 r.1 (variables r.0)) (changes_from rs variables) (change_range r.0 r.1 (variables r.0) (u r.0)) (changes_range rs variables u)

abbrev IsCause64Bit : Option Cause → Type 0
IsCause64Bit o = IfSome o (λ c. AreLefts64Bit c.changes)

cause_or_range : (t : ℕ) (cs : List Change) (later : Option Cause) → AreLefts64Bit cs → IsCause64Bit later → IsCause64Bit (cause_or t cs later)
cause_or_range t [] later h k = k
cause_or_range t (c ∷ cs) later h k = h

first_range : (reads : List (ℕ × Value)) (s : Slow) (es : List Event) → StoresAre64Bit s es → IsCause64Bit (first_cause reads s es)
first_range reads s [] k = tt
first_range reads s (e ∷ es) k =
    let next = after s e.what in
    cause_or_range (ticket_of e.what) (changes_from reads (under next.store)) (first_cause reads next es)
    (changes_range reads (under next.store) (under_fits next.store (here next es k.1))) (first_range reads next es k.1)

delivery_range : (t : ℕ) (reads : List (ℕ × Value)) (s : Slow) (es : List Event) → StoresAre64Bit s es → IsCause64Bit (cause_since_delivery t reads s es)
delivery_range t reads s [] k = tt
delivery_range t reads s (e ∷ es) k =
    let next = after s e.what in
    let later = delivery_range t reads next es k.1 in
    either_has IsCause64Bit (is_installed t es) (cause_since_delivery t reads next es)
    (cond (installs_to t e.what) (first_cause reads next es) (cause_since_delivery t reads next es)) later
    (either_has IsCause64Bit (installs_to t e.what) (first_cause reads next es) (cause_since_delivery t reads next es) (first_range reads next es k.1) later)

-- the values that a kept cause has
abbrev pub IsKeptCause64Bit : Option KeptCause → Type 0
IsKeptCause64Bit o = IfSome o (λ k. AreWrites64Bit k.left)

abbrev IsReason64Bit : Option WaitReason → Type 0
IsReason64Bit None = ⊤
IsReason64Bit (Some NotEvaluated) = ⊤
IsReason64Bit (Some (IsStale c)) = AreLefts64Bit c.changes
IsReason64Bit (Some WasStale) = ⊤
IsReason64Bit (Some (Waits reads)) = ⊤
IsReason64Bit (Some CanFinish) = ⊤

stale_range : (o : Option Cause) → IsCause64Bit o → IsReason64Bit (option_map IsStale o)
stale_range None h = tt
stale_range (Some c) h = h

again_range : (reads : List (ℕ × Value)) (o : Option KeptCause) → IsKeptCause64Bit o → IsReason64Bit (Some (reason_kept reads o))
again_range reads None h = tt
again_range reads (Some k) h = changes_range reads (λ i. find i k.left) (λ i. find_fits i k.left h)

current_range : (b : Bool) (reads : List (ℕ × Value)) → IsReason64Bit (Some (cond b CanFinish (Waits reads)))
current_range true reads = tt
current_range false reads = tt

-- what a checkpoint keeps of its blocks is in range
abbrev pub AreKept64Bit : List CheckpointBlock → Type 0
AreKept64Bit [] = ⊤
AreKept64Bit (b ∷ bs) = (IfSome b.waiting.held (λ h. AreWrites64Bit h.reads) × IsKeptCause64Bit b.cause) × AreKept64Bit bs

kept_in_range : (t : ℕ) (bs : List CheckpointBlock) → AreKept64Bit bs → IsKeptCause64Bit (kept_cause_in t bs)
kept_in_range t [] h = tt
kept_in_range t (b ∷ bs) h = either_has IsKeptCause64Bit (nat_eq t b.ticket) b.cause (kept_cause_in t bs) h.0.1 (kept_in_range t bs h.1)

kept_at_range : (t : ℕ) (o : Option CheckpointView) → IfSome o (λ c. AreKept64Bit c.blocks) → IsKeptCause64Bit (kept_cause_at t o)
kept_at_range t None h = tt
kept_at_range t (Some c) h = kept_in_range t c.blocks h

module _ (d : DeskView) (stores : StoresAre64Bit (start_state d) d.history) (kept : IfSome d.checkpoint (λ c. AreKept64Bit c.blocks)) where
  since_reason : (w : Waiter) (o : Option Since) → IsReason64Bit (reason_since d w o)
  since_reason w None = tt
  since_reason w (Some s) =
      let first = start_state d in
      let t = w.ticket in
      let reads = reads_of (under s.store_then) w.block.tree in
      let cause = kept_cause_at t d.checkpoint in
      either_has IsReason64Bit (is_stale_since w.block s) (stale_reason cause t reads first d.history) (Some (current_reason (state_of d).store w))
      (either_has IsReason64Bit (is_installed t d.history) (option_map IsStale (cause_since_delivery t reads first d.history)) (reason_before cause t reads first d.history)
      (stale_range (cause_since_delivery t reads first d.history) (delivery_range t reads first d.history stores))
      (either_has IsReason64Bit (was_stale (find_waiter t first.waiters)) (Some (reason_kept reads cause)) (option_map IsStale (first_cause reads first d.history))
      (again_range reads cause (kept_at_range t d.checkpoint kept)) (stale_range (first_cause reads first d.history) (first_range reads first d.history stores))))
      (current_range (can_end (state_of d).store w) (read_now (state_of d).store w))

  waiter_reason : (o : Option Waiter) → IsReason64Bit (reason_of_waiter d o)
  waiter_reason None = tt
  waiter_reason (Some w) = since_reason w w.since

lefts_kept : (cs : List Change) → AreLefts64Bit cs → AreWrites64Bit (map (λ x. (x.variable, x.left)) cs)
lefts_kept [] h = tt
lefts_kept (c ∷ cs) h = (h.0, lefts_kept cs h.1)

reason_kept_range : (o : Option WaitReason) → IsReason64Bit o → IsKeptCause64Bit (cause_kept o)
reason_kept_range None h = tt
reason_kept_range (Some NotEvaluated) h = tt
reason_kept_range (Some (IsStale c)) h = lefts_kept c.changes h
reason_kept_range (Some WasStale) h = tt
reason_kept_range (Some (Waits reads)) h = tt
reason_kept_range (Some CanFinish) h = tt

pub causes_range : (d : DeskView) → StoresAre64Bit (start_state d) d.history → IfSome d.checkpoint (λ c. AreKept64Bit c.blocks) → (t : ℕ) → IsKeptCause64Bit (causes_of d t)
unfolding causes_of reason_of
causes_range d stores kept t =
    let o = find_waiter t (state_of d).waiters in reason_kept_range (reason_of_waiter d o) (waiter_reason d stores kept o)

-- ---- checkpoints
held_range : (store : List Cell) (stale : Bool) (o : Option Held) → AreCells64Bit store → IfSome o (λ h. AreWrites64Bit h.reads) → IsSince64Bit (since_held store stale o)
held_range store stale None c h = tt
held_range store stale (Some x) c h = applied_fits store (Commits x.reads [] value.Unit) c (h, tt, tt)

-- the state of a checkpoint
pub blocks_since : (store : List Cell) (bs : List CheckpointBlock) → AreCells64Bit store → AreKept64Bit bs → AreSince64Bit (map (waiter_of store) bs)
blocks_since store [] c h = tt
blocks_since store (b ∷ bs) c h = (held_range store b.stale b.waiting.held c h.0.0, blocks_since store bs c h.1)

-- the checkpoint of a state
delivered_range : (reads : List (ℕ × Value)) (o : Option Verdict) → AreWrites64Bit reads → IfSome (option_map (λ v. record { reads = reads; verdict = v }) o) (λ (h : Held). AreWrites64Bit h.reads)
delivered_range reads None r = tt
delivered_range reads (Some v) r = r

since_held_range : (block : Block) (o : Option Since) → IsSince64Bit o → IfSome (held_since block o) (λ h. AreWrites64Bit h.reads)
since_held_range block None h = tt
since_held_range block (Some s) h =
    delivered_range (reads_of (under s.store_then) block.tree) (verdict_on s.store_then block)
    (reads_range (under s.store_then) (looks_of (under s.store_then) block.tree) [] (under_fits s.store_then h) tt)

pub kept_now : (ls : Labels) (causes : ℕ → Option KeptCause) (ws : List Waiter) → ((t : ℕ) → IsKeptCause64Bit (causes t)) → AreSince64Bit ws
    → AreKept64Bit (map (caused_block causes) (map (labelled_block ls) (map block_of_waiter ws)))
kept_now ls causes [] c h = tt
kept_now ls causes (w ∷ ws) c h = ((since_held_range w.block w.since h.0, c w.ticket), kept_now ls causes ws c h.1)
