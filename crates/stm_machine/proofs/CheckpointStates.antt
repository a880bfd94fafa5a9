-- Events may go on from the state of a checkpoint; and the checkpoint of a state is one, of which the same is observed.
use Rattle.std.proofs.Common.{◌≡◌, ◌≢◌, ⊎_elim, ℕ, Bool, true, false, not, ◌&&◌, cond, List, [], ◌∷◌, map, Option, Some, None, IsSome, refl, sym, ap, subst, ◌∙◌, arith, inl}
use Rattle.std.specs.Prelude.{nat_eq, is_some, option_map}
use Rattle.std.specs.List.{list_any}
use Rattle.std.proofs.lemmas.List.{length-map}
use Rattle.std.proofs.lemmas.Bool.{or_left, or_right}
use Rattle.stm_terms.specs.declared.values.Value.{Value}
use Rattle.stm_terms.specs.declared.values.Value.TheVariants as value
use Rattle.stm_terms.specs.declared.verdicts.Verdict.{Verdict}
use Rattle.stm_terms.specs.declared.verdicts.Verdict.TheVariants.{Commits}
use Rattle.stm_terms.specs.Changes.{find}
use Rattle.stm_terms.specs.ReadSet.{reads_of}
use Rattle.stm_store.specs.declared.cell.Cell.{Cell}
use Rattle.stm_store.specs.Cells.{plains, Fits, StoreIsTyped}
use Rattle.stm_store.proofs.ApplyPreservesTyping.{applied_typed}
use Rattle.stm_check.specs.TypedBlock.{Block}
use Rattle.stm_eval.specs.Laws.{In}
use Rattle.stm_eval.specs.Messages.{Holds}
use Rattle.stm_eval.proofs.FragmentsAndStores.{looked, of_the_store, holds_agrees, holds_again}
use Rattle.stm_queue.proofs.Merging.{itself}
use Rattle.stm_events.specs.Laws.{AreRising}
use Rattle.stm_events.specs.SlowDesk.{Since, Waiter, Standing, Stale, Current, under, verdict_on, looked_on, intersects, is_stale_since, is_new_since, current_since, weak_since}
use Rattle.stm_events.specs.States.{AreCovered, IsUnwoken, AreUnwoken, HadVerdict, HadVerdicts, IsPossible, AreWellTyped, WasTyped, WereTyped, ObservedWaiter, observed_waiter}
use Rattle.stm_events.specs.BlockStatus.{read_since_then}
use Rattle.stm_events.proofs.CurrentHoldsNow.{stays}
use Rattle.stm_waiting.specs.declared.waiting.Held.{Held}
use Rattle.stm_machine.specs.declared.checkpoint.CheckpointBlock.{CheckpointBlock}
use Rattle.stm_machine.specs.Checkpoints.{CheckpointView, store_with, since_held, waiter_of, checkpoint_state, IsRightDelivery, AreCheckpointBlocks, IsCheckpoint, CheckpointsArePossible, held_since, block_of_waiter, checkpoint_of, CheckpointsAreUnseen}
use Rattle.stm_machine.proofs.CheckpointLabels.{no_label_is}
use Rattle.stm_machine.proofs.SameReadsElsewhere.{differs_nowhere}
use Rattle.stm_machine.proofs.Delivery.{none_differs}
use Rattle.stm_machine.proofs.StoreWith.{has_values, other_value, same_values, same_kinds, not_found, values_fit}

-- ---- the last delivery of a block
right_unwoken : (store : List Cell) (block : Block) (stale : Bool) (h : Held) → IsRightDelivery store block stale (Some h) → IsUnwoken store (since_held store stale (Some h))
right_unwoken store block true h d = λ i x n u. other_value store h.reads d.0 i x (not_found h.reads i n) u
right_unwoken store block false h d = λ i x n u. same_values store h.reads d.0 (none_differs (under store) h.reads (d.2 refl)) i x u

is_unwoken : (store : List Cell) (block : Block) (stale : Bool) (held : Option Held) → IsRightDelivery store block stale held → IsUnwoken store (since_held store stale held)
is_unwoken store block stale None d = tt
is_unwoken store block stale (Some h) d = right_unwoken store block stale h d

some_is : (o : Option Verdict) (v : Verdict) → o ≡ Some v → is_some o ≡ true
some_is o v e = ap is_some e

had_verdict : (store : List Cell) (block : Block) (stale : Bool) (held : Option Held) → IsRightDelivery store block stale held → HadVerdict block (since_held store stale held)
had_verdict store block stale None d = tt
had_verdict store block stale (Some h) d = some_is (verdict_on (store_with h.reads store) block) h.verdict d.1.verdict_is

was_typed : (store : List Cell) (block : Block) (stale : Bool) (held : Option Held) → StoreIsTyped (plains store) → IsRightDelivery store block stale held → WasTyped store (since_held store stale held)
was_typed store block stale None typed d = tt
was_typed store block stale (Some h) typed d = (applied_typed store (Commits h.reads [] value.Unit) d.0 typed, same_kinds store h.reads d.0)

-- ---- all blocks
waiters_rise : (store : List Cell) (n k : ℕ) (bs : List CheckpointBlock) → AreCheckpointBlocks store n k bs → AreRising n k (map (waiter_of store) bs)
waiters_rise store n k [] a = tt
waiters_rise store n k (b ∷ bs) a = (a.0, a.1, waiters_rise store n b.ticket bs a.3)

waiters_covered : (store : List Cell) (n k : ℕ) (bs : List CheckpointBlock) → AreCheckpointBlocks store n k bs → AreCovered store (map (waiter_of store) bs)
waiters_covered store n k [] a = tt
waiters_covered store n k (b ∷ bs) a = (a.2.covered, waiters_covered store n b.ticket bs a.3)

waiters_unwoken : (store : List Cell) (n k : ℕ) (bs : List CheckpointBlock) → AreCheckpointBlocks store n k bs → AreUnwoken store (map (waiter_of store) bs)
waiters_unwoken store n k [] a = tt
waiters_unwoken store n k (b ∷ bs) a = (is_unwoken store b.waiting.block b.stale b.waiting.held a.2.delivery, waiters_unwoken store n b.ticket bs a.3)

waiters_evaluated : (store : List Cell) (n k : ℕ) (bs : List CheckpointBlock) → AreCheckpointBlocks store n k bs → HadVerdicts (map (waiter_of store) bs)
waiters_evaluated store n k [] a = tt
waiters_evaluated store n k (b ∷ bs) a = (had_verdict store b.waiting.block b.stale b.waiting.held a.2.delivery, waiters_evaluated store n b.ticket bs a.3)

waiters_typed : (store : List Cell) (n k : ℕ) (bs : List CheckpointBlock) → AreCheckpointBlocks store n k bs → AreWellTyped (map (waiter_of store) bs)
waiters_typed store n k [] a = tt
waiters_typed store n k (b ∷ bs) a = (a.2.typed, waiters_typed store n b.ticket bs a.3)

waiters_were : (store : List Cell) (n k : ℕ) (bs : List CheckpointBlock) → StoreIsTyped (plains store) → AreCheckpointBlocks store n k bs → WereTyped store (map (waiter_of store) bs)
waiters_were store n k [] typed a = tt
waiters_were store n k (b ∷ bs) typed a = (was_typed store b.waiting.block b.stale b.waiting.held typed a.2.delivery, waiters_were store n b.ticket bs typed a.3)

pub is_possible : (c : CheckpointView) → IsCheckpoint c → IsPossible (checkpoint_state c)
is_possible c k = record {
  begun = k.begun;
  rising = waiters_rise c.store c.next 0 c.blocks k.blocks;
  few = let l = length-map c.blocks (waiter_of c.store) in let f = k.few in omega arith;
  named = k.named;
  covered = waiters_covered c.store c.next 0 c.blocks k.blocks;
  unwoken = waiters_unwoken c.store c.next 0 c.blocks k.blocks;
  evaluated = waiters_evaluated c.store c.next 0 c.blocks k.blocks;
}

pub checkpoints_are_possible : CheckpointsArePossible
checkpoints_are_possible c k = (
  is_possible c k,
  record {
    store = k.store.typed;
    blocks = waiters_typed c.store c.next 0 c.blocks k.blocks;
    deliveries = waiters_were c.store c.next 0 c.blocks k.store.typed k.blocks;
  },
)

-- ---- the checkpoint of a state
intersects_none : (is : List ℕ) → intersects [] is ≡ false
intersects_none [] = refl
intersects_none (i ∷ is) = intersects_none is

meets : (woken is : List ℕ) (i : ℕ) → list_any (nat_eq i) woken ≡ true → In i is → intersects woken is ≡ true
meets woken [] i h m = absurd m
meets woken (j ∷ is) i h m =
    ⊎_elim (λ (e : j ≡ i). or_left (list_any (nat_eq j) woken) (intersects woken is) (subst (λ (k : ℕ). list_any (nat_eq k) woken ≡ true) (sym e) h))
    (λ (n : In i is). or_right (list_any (nat_eq j) woken) (intersects woken is) (meets woken is i h n)) m

none_looked : (woken is : List ℕ) → ((i : ℕ) → In i is → ⊥) → intersects woken is ≡ false
none_looked woken [] f = refl
none_looked woken (j ∷ is) f = absurd (f j (inl refl))

found_first : (r : ℕ × Value) (rs : List (ℕ × Value)) → IsSome (find r.0 (r ∷ rs))
found_first r rs = rw (itself r.0) refl

stale_by : (store : List Cell) (block : Block) (reads : List (ℕ × Value)) (v : Verdict) → Holds block.tree (under store) reads v → reads ≢ [] → intersects (map (λ r. r.0) reads) (looked_on store block) ≡ true
stale_by store block [] v holds n = absurd (n refl)
stale_by store block (r ∷ rs) v holds n =
    let some : IsSome (find r.0 (reads_of (under store) block.tree)) = rw holds.reads_are (found_first r rs) in
    meets (map (λ x. x.0) (r ∷ rs)) (looked_on store block) r.0 (or_left (nat_eq r.0 r.0) _ (itself r.0)) ((looked block.tree (under store) v holds.verdict_is r.0).1 some)

-- the state has of a block whether it is stale
pub is_stale_held : (store : List Cell) (block : Block) (stale : Bool) (h : Held) → IsRightDelivery store block stale (Some h)
    → is_stale_since block (record { store_then = store_with h.reads store; woken = cond stale (map (λ r. r.0) h.reads) [] }) ≡ stale
is_stale_held store block true h d = stale_by (store_with h.reads store) block h.reads h.verdict d.1 (d.3 refl)
is_stale_held store block false h d = intersects_none (looked_on (store_with h.reads store) block)

not_twice : (b : Bool) → not (not b) ≡ b
not_twice true = refl
not_twice false = refl

-- a block that is stale has read something
something_read : (block : Block) (s : Since) (v : Verdict) → verdict_on s.store_then block ≡ Some v → is_stale_since block s ≡ true → reads_of (under s.store_then) block.tree ≢ []
something_read block s v e stale none =
    let nothing : (i : ℕ) → In i (looked_on s.store_then block) → ⊥ = λ i m.
    let some : IsSome (find i (reads_of (under s.store_then) block.tree)) = (looked block.tree (under s.store_then) v e i).0 m in
    let gone : IsSome (find i []) = subst (λ (rs : List (ℕ × Value)). IsSome (find i rs)) none some in
    cc in
    let fresh : is_stale_since block s ≡ false = none_looked s.woken (looked_on s.store_then block) nothing in
    cc

right_by : (store : List Cell) (block : Block) (s : Since) (x : Option Verdict) → verdict_on s.store_then block ≡ x → is_some x ≡ true → WasTyped store (Some s) → IsUnwoken store (Some s)
    → IsRightDelivery store block (not (not (is_stale_since block s))) (option_map (λ v. record { reads = reads_of (under s.store_then) block.tree; verdict = v }) x)
right_by store block s None e some typed unwoken = cc
right_by store block s (Some v) e some typed unwoken =
    let S = under s.store_then in
    let reads : List (ℕ × Value) = reads_of S block.tree in
    let now : Holds block.tree S reads v = record { verdict_is = e; reads_are = refl } in
    let fits : Fits (plains store) (Commits reads [] value.Unit) = values_fit s.store_then store reads typed.0 typed.1 (of_the_store block.tree S).0 (of_the_store block.tree S).1 in (
      fits,
      holds_again block.tree reads v S (under (store_with reads store)) now (has_values store reads fits),
      λ fresh. differs_nowhere (under store) reads (of_the_store block.tree S).0
          (holds_agrees block.tree (under store) reads v (stays block store s reads v unwoken (sym (not_twice (is_stale_since block s)) ∙ fresh) now)),
      λ stale. something_read block s v e (sym (not_twice (is_stale_since block s)) ∙ stale),
    )

right_since : (store : List Cell) (block : Block) (o : Option Since) → HadVerdict block o → WasTyped store o → IsUnwoken store o
    → IsRightDelivery store block (not (is_new_since o) && not (current_since block o)) (held_since block o)
right_since store block None had typed unwoken = refl
right_since store block (Some s) had typed unwoken = right_by store block s (verdict_on s.store_then block) refl had typed unwoken

-- ---- of it the same is observed
weak_alike : (store : List Cell) (block : Block) (s : Since) (x : Option Verdict) (stale : Bool) → verdict_on s.store_then block ≡ x → is_some x ≡ true → stale ≡ is_stale_since block s
    → IsRightDelivery store block stale (option_map (λ v. record { reads = reads_of (under s.store_then) block.tree; verdict = v }) x)
    → weak_since block (since_held store stale (option_map (λ v. record { reads = reads_of (under s.store_then) block.tree; verdict = v }) x)) ≡ weak_since block (Some s)
weak_alike store block s None stale e some q d = cc
weak_alike store block s (Some v) stale e some q d =
    let h : Held = record { reads = reads_of (under s.store_then) block.tree; verdict = v } in
    let verdicts : verdict_on (store_with h.reads store) block ≡ verdict_on s.store_then block = d.1.verdict_is ∙ sym e in
    ap (λ (b : Bool). cond b (Stale (verdict_on (store_with h.reads store) block)) (Current (verdict_on (store_with h.reads store) block))) (is_stale_held store block stale h d ∙ q)
    ∙ ap (λ (x : Option Verdict). cond (is_stale_since block s) (Stale x) (Current x)) verdicts

reads_alike : (store : List Cell) (block : Block) (s : Since) (x : Option Verdict) (stale : Bool) → is_some x ≡ true
    → IsRightDelivery store block stale (option_map (λ v. record { reads = reads_of (under s.store_then) block.tree; verdict = v }) x)
    → read_since_then block (since_held store stale (option_map (λ v. record { reads = reads_of (under s.store_then) block.tree; verdict = v }) x)) ≡ read_since_then block (Some s)
reads_alike store block s None stale some d = cc
reads_alike store block s (Some v) stale some d = ap Some d.1.reads_are

observed_by : (t : ℕ) (block : Block) (x y : Standing) (r q : Option (List (ℕ × Value))) → x ≡ y → r ≡ q
    → (let o : ObservedWaiter = record { ticket = t; block = block; standing = x; reads = r } in o) ≡ (let o : ObservedWaiter = record { ticket = t; block = block; standing = y; reads = q } in o)
observed_by t block x y r q e f = rw (e, f) refl

one_observed : (store : List Cell) (t : ℕ) (block : Block) (o : Option Since) → HadVerdict block o → IsRightDelivery store block (not (is_new_since o) && not (current_since block o)) (held_since block o)
    → observed_waiter (waiter_of store (block_of_waiter (record { ticket = t; block = block; since = o }))) ≡ observed_waiter (record { ticket = t; block = block; since = o })
one_observed store t block None had d = refl
one_observed store t block (Some s) had d =
    observed_by t block _ _ _ _
    (weak_alike store block s (verdict_on s.store_then block) (not (not (is_stale_since block s))) refl had (not_twice (is_stale_since block s)) d)
    (reads_alike store block s (verdict_on s.store_then block) (not (not (is_stale_since block s))) had d)

-- ---- all of them
are_blocks : (store : List Cell) (n k : ℕ) (ws : List Waiter) → AreRising n k ws → AreCovered store ws → AreUnwoken store ws → HadVerdicts ws → AreWellTyped ws → WereTyped store ws
    → AreCheckpointBlocks store n k (map block_of_waiter ws)
are_blocks store n k [] rising covered unwoken had typed were = tt
are_blocks store n k (w ∷ ws) rising covered unwoken had typed were = (
  rising.0,
  rising.1,
  record { covered = covered.0; typed = typed.0; delivery = right_since store w.block w.since had.0 were.0 unwoken.0; cause = tt; label = no_label_is },
  are_blocks store n w.ticket ws rising.2 covered.1 unwoken.1 had.1 typed.1 were.1,
)

all_observed : (store : List Cell) (n k : ℕ) (ws : List Waiter) → HadVerdicts ws → AreCheckpointBlocks store n k (map block_of_waiter ws)
    → map observed_waiter (map (waiter_of store) (map block_of_waiter ws)) ≡ map observed_waiter ws
all_observed store n k [] had a = refl
all_observed store n k (w ∷ ws) had a =
    ap (λ (o : ObservedWaiter). o ∷ map observed_waiter (map (waiter_of store) (map block_of_waiter ws))) (one_observed store w.ticket w.block w.since had.0 a.2.delivery)
    ∙ ap (λ (os : List ObservedWaiter). observed_waiter w ∷ os) (all_observed store n w.ticket ws had.1 a.3)

pub checkpoints_are_unseen : CheckpointsAreUnseen
unfolding checkpoint_of
checkpoints_are_unseen s possible typed rule low store =
    let blocks : AreCheckpointBlocks s.store s.next 0 (map block_of_waiter s.waiters) =
    are_blocks s.store s.next 0 s.waiters possible.rising possible.covered possible.unwoken possible.evaluated typed.blocks typed.deliveries in (
      record {
        begun = possible.begun;
        tickets = low;
        store = store;
        named = possible.named;
        few = let l = length-map s.waiters block_of_waiter in let f = possible.few in omega arith;
        blocks = blocks;
      },
      let same = all_observed s.store s.next 0 s.waiters possible.evaluated blocks in
          rw (rule, same) refl,
    )
