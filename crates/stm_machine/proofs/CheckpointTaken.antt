-- The blocks that a machine keeps, one after another, as those of the checkpoint of its state.
use Rattle.std.proofs.Common.{◌≡◌, ℕ, ◌+◌, ◌<◌, ◌≤◌, Bool, true, false, not, ◌&&◌, List, [], ◌∷◌, ◌++◌, map, length, Option, Some, None, refl, sym, ap, subst, ◌∙◌, arith, length-append}
use Rattle.std.specs.Prelude.{nat_eq, nat_lt, is_some}
use Rattle.std.proofs.lemmas.Bool.Decides.{nat_tests}
use Rattle.std.proofs.lemmas.List.{map-append}
use Rattle.stm_store.specs.declared.cell.Cell.{Cell}
use Rattle.stm_store.specs.Cells.{plains, IsStore}
use Rattle.stm_store.specs.Naming.{Named}
use Rattle.stm_check.specs.TypedBlock.{Block}
use Rattle.stm_queue.specs.Queue.{Entry, has_ticket}
use Rattle.stm_queue.proofs.Merging.{itself}
use Rattle.stm_events.specs.declared.staleness.StalenessRule.TheVariants.{Changed}
use Rattle.stm_events.specs.Labels.{Labels, AreLabels}
use Rattle.stm_events.specs.Laws.{AreRising}
use Rattle.stm_events.specs.States.{IsTypedState}
use Rattle.stm_events.specs.SlowDesk.{Since, Waiter, Slow, is_new_since, is_new, is_current, find_waiter}
use Rattle.stm_waiting.specs.declared.waiting.Held.{Held}
use Rattle.stm_waiting.specs.declared.waiting.Waiting.{Waiting}
use Rattle.stm_waiting.specs.Entries.{kept_at, AllBelow, first_above}
use Rattle.stm_machine.specs.declared.checkpoint.CheckpointBlock.{CheckpointBlock}
use Rattle.stm_machine.specs.Checkpoints.{CheckpointView, held_since, block_of_waiter, checkpoint_of, labelled_block, with_labels, IsCheckpoint, max_next}
use Rattle.stm_machine.specs.CheckpointEntries.{EntriesRise, block_of}
use Rattle.stm_machine.specs.Entries.{IsHeld, IsKeptOf, AreKeptOf}
use Rattle.stm_machine.specs.Machine.{Parts, IsAt}
use Rattle.stm_machine.specs.QueueAndIndex.{due_of}
use Rattle.stm_machine.proofs.BlocksByTicket.{below_more, below_push}
use Rattle.stm_machine.proofs.CheckpointLabels.{labels_leave_checkpoints}
use Rattle.stm_machine.proofs.CheckpointStates.{checkpoints_are_unseen}
use Rattle.stm_machine.proofs.States.{rising_at}

-- ---- one block
held_is : (b : Block) (h : Option Held) (o : Option Since) → IsHeld b h o → h ≡ held_since b o
held_is b None None i = refl
held_is b None (Some s) i = absurd i
held_is b (Some h) None i = absurd i
held_is b (Some h) (Some s) i = rw (i.verdict_is, i.reads_are) refl

held_not_new : (b : Block) (h : Option Held) (o : Option Since) → IsHeld b h o → is_some h ≡ not (is_new_since o)
held_not_new b None None i = refl
held_not_new b None (Some s) i = absurd i
held_not_new b (Some h) None i = absurd i
held_not_new b (Some h) (Some s) i = refl

block_equal : (t u : ℕ) (b c : Block) (h g : Option Held) (s r : Bool) → t ≡ u → b ≡ c → h ≡ g → s ≡ r
    → (let x : CheckpointBlock = record { ticket = t; waiting = record { block = b; held = h }; stale = s; cause = None; label = [] } in x)
    ≡ (let y : CheckpointBlock = record { ticket = u; waiting = record { block = c; held = g }; stale = r; cause = None; label = [] } in y)
block_equal t u b c h g s r e f p q = rw (e, f, p, q) refl

one_block : (pending : List Entry) (e : ℕ × Waiting) (w : Waiter) → IsKeptOf e w → has_ticket e.0 pending ≡ not (is_current w) → block_of pending e ≡ block_of_waiter w
one_block pending e w d q =
    block_equal e.0 w.ticket e.1.block w.block e.1.held (held_since w.block w.since) (is_some e.1.held && has_ticket e.0 pending) (not (is_new w) && not (is_current w))
    d.ticket d.block (held_is w.block e.1.held w.since d.held)
    (ap (λ (b : Bool). b && has_ticket e.0 pending) (held_not_new w.block e.1.held w.since d.held) ∙ ap (λ (b : Bool). not (is_new w) && b) q)

-- ---- all of them
later_found : (t : ℕ) (w : Waiter) (ws : List Waiter) → w.ticket < t → find_waiter t (w ∷ ws) ≡ find_waiter t ws
later_found t w ws l = let no : nat_eq t w.ticket ≡ false = grind (arith, nat_tests) in rw no refl

pub blocks_are : (pending : List Entry) (n k : ℕ) (es : List (ℕ × Waiting)) (ws : List Waiter) → AreKeptOf es ws → AreRising n k ws → ((t : ℕ) → k < t → has_ticket t pending ≡ due_of (find_waiter t ws))
    → map (block_of pending) es ≡ map block_of_waiter ws
blocks_are pending n k [] [] d r q = refl
blocks_are pending n k [] (w ∷ ws) d r q = absurd d
blocks_are pending n k (e ∷ es) [] d r q = absurd d
blocks_are pending n k (e ∷ es) (w ∷ ws) d r q =
    let low : k < w.ticket = r.0 in
    let found : find_waiter w.ticket (w ∷ ws) ≡ Some w = rw (itself w.ticket) refl in
    let here : has_ticket w.ticket pending ≡ not (is_current w) = q w.ticket low ∙ ap due_of found in
    let one : block_of pending e ≡ block_of_waiter w = one_block pending e w d.0 (ap (λ (t : ℕ). has_ticket t pending) d.0.ticket ∙ here) in
    ap (λ (b : CheckpointBlock). b ∷ map (block_of pending) es) one
    ∙ ap (λ (bs : List CheckpointBlock). block_of_waiter w ∷ bs)
    (blocks_are pending n w.ticket es ws d.1 r.2 (λ t l. q t (omega arith) ∙ ap due_of (later_found t w ws l)))

pub entries_rise : (n k : ℕ) (es : List (ℕ × Waiting)) (ws : List Waiter) → AreKeptOf es ws → AreRising n k ws → EntriesRise k es
entries_rise n k [] ws d r = tt
entries_rise n k (e ∷ es) [] d r = absurd d
entries_rise n k (e ∷ es) (w ∷ ws) d r = (rw d.0.ticket r.0, rw d.0.ticket (entries_rise n w.ticket es ws d.1 r.2))

pub kept_rise : (m : Parts) (s : Slow) → IsAt m s → EntriesRise 0 m.entries
kept_rise m s k = entries_rise s.next 0 m.entries s.waiters k.stands.entries_are (rising_at m s k)

taken : (m : Parts) (s : Slow) → IsAt m s → (let c : CheckpointView = record { store = m.store; names = m.names; next = m.next; blocks = map (block_of m.pending) m.entries } in c) ≡ checkpoint_of s
unfolding checkpoint_of
taken m s k =
    let same = blocks_are m.pending s.next 0 m.entries s.waiters k.stands.entries_are (rising_at m s k) (λ t l. k.stands.queue t) in
    rw (k.stands.store_is, k.stands.names_are, k.stands.next_is, same) refl

pub taken_of : (m : Parts) (s : Slow) (labels : Labels) (store : List Cell) (names : List Named) (some blocks : List CheckpointBlock) → IsAt m s → store ≡ m.store → names ≡ m.names → some ≡ map (block_of m.pending) m.entries
    → blocks ≡ map (labelled_block labels) some → (let c : CheckpointView = record { store = store; names = names; next = m.next; blocks = blocks } in c) ≡ with_labels labels (checkpoint_of s)
taken_of m s labels store names some blocks k e n f g =
    let c : CheckpointView = record { store = store; names = names; next = m.next; blocks = some } in
    let same : c ≡ checkpoint_of s = rw (e, n, f) (taken m s k) in
    rw g (ap (with_labels labels) same)

pub taken_right : (m : Parts) (s : Slow) (labels : Labels) (store : List Cell) (names : List Named) (some blocks : List CheckpointBlock) → IsAt m s → AreLabels labels → IsTypedState s → s.rule ≡ Changed → m.next ≤ max_next
    → IsStore (plains m.store) → store ≡ m.store → names ≡ m.names → some ≡ map (block_of m.pending) m.entries → blocks ≡ map (labelled_block labels) some
    → IsCheckpoint (record { store = store; names = names; next = m.next; blocks = blocks })
taken_right m s labels store names some blocks k are typed rule low is_store e n f g =
    subst IsCheckpoint (sym (taken_of m s labels store names some blocks k e n f g))
    (labels_leave_checkpoints labels (checkpoint_of s) are
    (checkpoints_are_unseen s k.possible typed rule (subst (λ (n : ℕ). n ≤ max_next) k.stands.next_is low) (subst (λ (z : List Cell). IsStore (plains z)) k.stands.store_is is_store)).0).0

-- ---- one after another
pub record IsWalked (pending : List Entry) (all : List (ℕ × Waiting)) (i after : ℕ) (blocks : List CheckpointBlock) : Type 0 where
  pub done : List (ℕ × Waiting)
  pub rest : List (ℕ × Waiting)
  pub split : all ≡ done ++ rest
  pub count : length done ≡ i
  pub made : blocks ≡ map (block_of pending) done
  pub below : AllBelow (after + 1) done
  pub rises : EntriesRise after rest

pub record IsNext (pending : List Entry) (all : List (ℕ × Waiting)) (i after : ℕ) (blocks : List CheckpointBlock) : Type 0 where
  pub entry : ℕ × Waiting
  pub first : first_above after all ≡ Some entry.0
  pub kept : kept_at entry.0 all ≡ Some entry.1
  pub walked : IsWalked pending all (i + 1) entry.0 (blocks ++ block_of pending entry ∷ [])

first_split : (a : ℕ) (done rest : List (ℕ × Waiting)) (e : ℕ × Waiting) → AllBelow (a + 1) done → a < e.0 → first_above a (done ++ e ∷ rest) ≡ Some e.0
first_split a [] rest e b l = let yes : nat_lt a e.0 ≡ true = grind (arith, nat_tests) in rw yes refl
first_split a (d ∷ done) rest e b l =
    let low : d.0 < a + 1 = b.0 in
    let no : nat_lt a d.0 ≡ false = grind (arith, nat_tests) in
    rw no (first_split a done rest e b.1 l)

kept_split : (a : ℕ) (done rest : List (ℕ × Waiting)) (e : ℕ × Waiting) → AllBelow (a + 1) done → a < e.0 → kept_at e.0 (done ++ e ∷ rest) ≡ Some e.1
kept_split a [] rest e b l = rw (itself e.0) refl
kept_split a (d ∷ done) rest e b l =
    let low : d.0 < a + 1 = b.0 in
    let no : nat_eq e.0 d.0 ≡ false = grind (arith, nat_tests) in
    rw no (kept_split a done rest e b.1 l)

regroup : (done rest : List (ℕ × Waiting)) (e : ℕ × Waiting) → done ++ e ∷ rest ≡ (done ++ e ∷ []) ++ rest
regroup [] rest e = refl
regroup (d ∷ done) rest e = ap (λ (xs : List (ℕ × Waiting)). d ∷ xs) (regroup done rest e)

nothing_left : (done : List (ℕ × Waiting)) → done ++ [] ≡ done
nothing_left [] = refl
nothing_left (d ∷ done) = ap (λ (xs : List (ℕ × Waiting)). d ∷ xs) (nothing_left done)

next_by : (pending : List Entry) (all : List (ℕ × Waiting)) (i after : ℕ) (blocks : List CheckpointBlock) (done rest : List (ℕ × Waiting)) → all ≡ done ++ rest → length done ≡ i → blocks ≡ map (block_of pending) done
    → AllBelow (after + 1) done → EntriesRise after rest → i < length all → IsNext pending all i after blocks
next_by pending all i after blocks done [] split count made below rises l =
    let n : length all ≡ length done = ap length (split ∙ nothing_left done) in
    absurd (omega arith)
next_by pending all i after blocks done (e ∷ rest) split count made below rises l =
    let up : after < e.0 = rises.0 in
    record {
      entry = e;
      first = ap (first_above after) split ∙ first_split after done rest e below up;
      kept = ap (kept_at e.0) split ∙ kept_split after done rest e below up;
      walked = record {
        done = done ++ e ∷ [];
        rest = rest;
        split = split ∙ regroup done rest e;
        count = length-append done (e ∷ []) ∙ ap (λ (n : ℕ). n + 1) count;
        made = ap (λ (bs : List CheckpointBlock). bs ++ block_of pending e ∷ []) made ∙ sym (map-append (block_of pending) done (e ∷ []));
        below = below_push (e.0 + 1) e done (below_more (after + 1) (e.0 + 1) done (omega arith) below) (omega arith);
        rises = rises.1;
      };
    }

pub walk_next : (pending : List Entry) (all : List (ℕ × Waiting)) (i after : ℕ) (blocks : List CheckpointBlock) → IsWalked pending all i after blocks → i < length all → IsNext pending all i after blocks
walk_next pending all i after blocks w l = next_by pending all i after blocks w.done w.rest w.split w.count w.made w.below w.rises l

pub not_ended : (pending : List Entry) (all : List (ℕ × Waiting)) (i after : ℕ) (blocks : List CheckpointBlock) → IsNext pending all i after blocks → first_above after all ≡ None → ⊥
not_ended pending all i after blocks n e = let f = n.first in cc

pub no_gap : (pending : List Entry) (all : List (ℕ × Waiting)) (i after : ℕ) (blocks : List CheckpointBlock) (t : ℕ) → IsNext pending all i after blocks → first_above after all ≡ Some t → kept_at t all ≡ None → ⊥
no_gap pending all i after blocks t n e k =
    let same : n.entry.0 ≡ t = (let f = n.first in cc) in
    let there : kept_at t all ≡ Some n.entry.1 = subst (λ (u : ℕ). kept_at u all ≡ Some n.entry.1) same n.kept in
    cc

pub next_walked : (pending : List Entry) (all : List (ℕ × Waiting)) (i after : ℕ) (blocks more : List CheckpointBlock) (t : ℕ) (x : Waiting) → IsNext pending all i after blocks → first_above after all ≡ Some t → kept_at t all ≡ Some x
    → more ≡ blocks ++ block_of pending (t, x) ∷ [] → IsWalked pending all (i + 1) t more
next_walked pending all i after blocks more t x n e k m =
    let ticket : n.entry.0 ≡ t = (let f = n.first in cc) in
    let there : kept_at t all ≡ Some n.entry.1 = subst (λ (u : ℕ). kept_at u all ≡ Some n.entry.1) ticket n.kept in
    let waiting : n.entry.1 ≡ x = cc in
    let walked : IsWalked pending all (i + 1) t (blocks ++ block_of pending (n.entry.0, n.entry.1) ∷ []) = subst (λ (u : ℕ). IsWalked pending all (i + 1) u (blocks ++ block_of pending n.entry ∷ [])) ticket n.walked in
    let same : blocks ++ block_of pending (n.entry.0, n.entry.1) ∷ [] ≡ more = ap (λ (u : ℕ). blocks ++ block_of pending (u, n.entry.1) ∷ []) ticket ∙ ap (λ (y : Waiting). blocks ++ block_of pending (t, y) ∷ []) waiting ∙ sym m in
    subst (IsWalked pending all (i + 1) t) same walked
