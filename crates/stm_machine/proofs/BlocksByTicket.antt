-- The blocks of a checkpoint by their tickets, and a machine at its state.
use Rattle.std.proofs.Common.{◌≡◌, ℕ, ◌<◌, ◌≤◌, Bool, true, false, not, ◌&&◌, ◌||◌, cond, List, [], ◌∷◌, ◌++◌, map, Option, Some, None, refl, sym, ap, subst, ◌∙◌, arith}
use Rattle.std.specs.Prelude.{nat_eq, nat_lt, is_some, option_map}
use Rattle.std.specs.List.{list_any}
use Rattle.std.proofs.lemmas.Bool.Decides.{nat_tests}
use Rattle.stm_terms.specs.declared.values.Value.{Value}
use Rattle.stm_store.specs.declared.cell.Cell.{Cell}
use Rattle.stm_check.specs.TypedBlock.{Block}
use Rattle.stm_watch.specs.Pairs.{has_pair, is_read}
use Rattle.stm_queue.specs.Queue.{Entry, has_ticket, with_ticket}
use Rattle.stm_queue.proofs.Merging.{itself, has_with}
use Rattle.stm_events.specs.declared.staleness.StalenessRule.TheVariants.{Changed}
use Rattle.stm_events.specs.SlowDesk.{Waiter, is_stale_since, is_current, find_waiter}
use Rattle.stm_waiting.specs.declared.waiting.Held.{Held}
use Rattle.stm_waiting.specs.declared.waiting.Waiting.{Waiting}
use Rattle.stm_waiting.specs.Entries.{kept_at, with_held, AllBelow, held_reads}
use Rattle.stm_machine.specs.declared.checkpoint.CheckpointBlock.{CheckpointBlock}
use Rattle.stm_machine.specs.Checkpoints.{CheckpointView, waiter_of, checkpoint_state, since_held, store_with, IsRightDelivery, IsCheckpointBlock, AreCheckpointBlocks, IsCheckpoint}
use Rattle.stm_machine.specs.CheckpointEntries.{TicketsAscend, entry_of, is_due_block, watches_variable, is_ready_block, has_block}
use Rattle.stm_machine.specs.Entries.{IsHeld, AreKeptOf, held_ends, kept_ends}
use Rattle.stm_machine.specs.Machine.{Parts, IsAt}
use Rattle.stm_machine.specs.QueueAndIndex.{due_of, watches_of}
use Rattle.stm_machine.specs.ReadySet.{AreReady}
use Rattle.stm_machine.specs.SettleChoices.{some_out}
use Rattle.stm_machine.proofs.CheckpointStates.{is_stale_held, is_possible}

-- ---- tickets
pub tickets_rise : (store : List Cell) (n k : ℕ) (bs : List CheckpointBlock) → AreCheckpointBlocks store n k bs → TicketsAscend k bs
tickets_rise store n k [] a = tt
tickets_rise store n k (b ∷ bs) a = (a.0, tickets_rise store n b.ticket bs a.3)

pub below_more : (n m : ℕ) (es : List (ℕ × Waiting)) → n ≤ m → AllBelow n es → AllBelow m es
below_more n m [] l a = tt
below_more n m (e ∷ es) l a = let b : e.0 < n = a.0 in (omega arith, below_more n m es l a.1)

pub below_push : (n : ℕ) (e : ℕ × Waiting) (es : List (ℕ × Waiting)) → AllBelow n es → e.0 < n → AllBelow n (es ++ e ∷ [])
below_push n e [] a l = (l, tt)
below_push n e (f ∷ es) a l = (a.0, below_push n e es a.1 l)

-- ---- a block that is inserted
apart : (t n : ℕ) → n < t → nat_eq t n ≡ false
apart t n l = grind (arith, nat_tests)

pub held_push : (t : ℕ) (h : Held) (b : Block) (es : List (ℕ × Waiting)) → AllBelow t es
    → with_held t h (es ++ (t, record { block = b; held = None }) ∷ []) ≡ es ++ (t, record { block = b; held = Some h }) ∷ []
held_push t h b [] a = rw (itself t) refl
held_push t h b (e ∷ es) a = rw (apart t e.0 a.0) (ap (λ (xs : List (ℕ × Waiting)). e ∷ xs) (held_push t h b es a.1))

pub kept_push : (t : ℕ) (x : Waiting) (es : List (ℕ × Waiting)) → AllBelow t es → kept_at t (es ++ (t, x) ∷ []) ≡ Some x
kept_push t x [] a = rw (itself t) refl
kept_push t x (e ∷ es) a = rw (apart t e.0 a.0) (kept_push t x es a.1)

-- ---- the block with a ticket
abbrev find_block : ℕ → List CheckpointBlock → Option CheckpointBlock
find_block t [] = None
find_block t (b ∷ bs) = cond (nat_eq t b.ticket) (Some b) (find_block t bs)

abbrev holds_of : (CheckpointBlock → Bool) → Option CheckpointBlock → Bool
holds_of f None = false
holds_of f (Some b) = f b

waiter_step : (store : List Cell) (c : Bool) (b : CheckpointBlock) (o : Option Waiter) (p : Option CheckpointBlock) → o ≡ option_map (waiter_of store) p
    → cond c (Some (waiter_of store b)) o ≡ option_map (waiter_of store) (cond c (Some b) p)
waiter_step store true b o p e = refl
waiter_step store false b o p e = e

waiter_found : (store : List Cell) (t : ℕ) (bs : List CheckpointBlock) → find_waiter t (map (waiter_of store) bs) ≡ option_map (waiter_of store) (find_block t bs)
waiter_found store t [] = refl
waiter_found store t (b ∷ bs) = waiter_step store (nat_eq t b.ticket) b (find_waiter t (map (waiter_of store) bs)) (find_block t bs) (waiter_found store t bs)

kept_step : (c : Bool) (b : CheckpointBlock) (o : Option Waiting) (p : Option CheckpointBlock) → o ≡ option_map (λ x. x.waiting) p → cond c (Some b.waiting) o ≡ option_map (λ x. x.waiting) (cond c (Some b) p)
kept_step true b o p e = refl
kept_step false b o p e = e

kept_found : (t : ℕ) (bs : List CheckpointBlock) → kept_at t (map entry_of bs) ≡ option_map (λ x. x.waiting) (find_block t bs)
kept_found t [] = refl
kept_found t (b ∷ bs) = kept_step (nat_eq t b.ticket) b (kept_at t (map entry_of bs)) (find_block t bs) (kept_found t bs)

right_step : (store : List Cell) (n : ℕ) (c : Bool) (b x : CheckpointBlock) (p : Option CheckpointBlock) → IsCheckpointBlock store n b → (p ≡ Some x → IsCheckpointBlock store n x) → cond c (Some b) p ≡ Some x → IsCheckpointBlock store n x
right_step store n true b x p r more e = let q : b ≡ x = cc in subst (IsCheckpointBlock store n) q r
right_step store n false b x p r more e = more e

right_found : (store : List Cell) (n k t : ℕ) (bs : List CheckpointBlock) (x : CheckpointBlock) → AreCheckpointBlocks store n k bs → find_block t bs ≡ Some x → IsCheckpointBlock store n x
right_found store n k t [] x a e = cc
right_found store n k t (b ∷ bs) x a e = right_step store n (nat_eq t b.ticket) b x (find_block t bs) a.2 (right_found store n b.ticket t bs x a.3) e

none_above : (f : CheckpointBlock → Bool) (t k : ℕ) (bs : List CheckpointBlock) → t ≤ k → TicketsAscend k bs → has_block f t bs ≡ false
none_above f t k [] l r = refl
none_above f t k (b ∷ bs) l r =
    let m : k < b.ticket = r.0 in
    let no : nat_eq t b.ticket ≡ false = grind (arith, nat_tests) in
    rw no (none_above f t b.ticket bs (omega arith) r.1)

has_step : (f : CheckpointBlock → Bool) (c : Bool) (b : CheckpointBlock) (rest : Bool) (p : Option CheckpointBlock) → (c ≡ true → rest ≡ false) → rest ≡ holds_of f p
    → ((c && f b) || rest) ≡ holds_of f (cond c (Some b) p)
has_step f true b rest p none e = none_left (f b) rest (none refl) where
  none_left : (x y : Bool) → y ≡ false → (x || y) ≡ x
  none_left true y h = refl
  none_left false y h = h
has_step f false b rest p none e = e

has_found : (f : CheckpointBlock → Bool) (t k : ℕ) (bs : List CheckpointBlock) → TicketsAscend k bs → has_block f t bs ≡ holds_of f (find_block t bs)
has_found f t k [] r = refl
has_found f t k (b ∷ bs) r =
    has_step f (nat_eq t b.ticket) b (has_block f t bs) (find_block t bs)
    (λ e. let l : t ≤ b.ticket = grind (arith, nat_tests) in none_above f t b.ticket bs l r.1) (has_found f t b.ticket bs r.1)

-- ---- what is listed of one block
not_twice : (b : Bool) → not (not b) ≡ b
not_twice true = refl
not_twice false = refl

due_by : (store : List Cell) (t : ℕ) (block : Block) (stale : Bool) (held : Option Held) → IsRightDelivery store block stale held
    → not (is_some held && not stale) ≡ not (is_current (record { ticket = t; block = block; since = since_held store stale held }))
due_by store t block stale None d = refl
due_by store t block stale (Some h) d = ap (λ (b : Bool). not (not b)) (sym (is_stale_held store block stale h d))

due_one : (store : List Cell) (n : ℕ) (b : CheckpointBlock) → IsCheckpointBlock store n b → is_due_block b ≡ not (is_current (waiter_of store b))
due_one store n b r = due_by store b.ticket b.waiting.block b.stale b.waiting.held r.delivery

watches_by : (store : List Cell) (v t : ℕ) (block : Block) (stale : Bool) (held : Option Held) → IsRightDelivery store block stale held
    → (not (not (is_some held && not stale)) && is_read (held_reads held) v) ≡ watches_of (Some (record { ticket = t; block = block; since = since_held store stale held })) v
watches_by store v t block stale None d = refl
watches_by store v t block stale (Some h) d =
    ap (λ (b : Bool). not (not (not b)) && is_read h.reads v) (sym (is_stale_held store block stale h d))
    ∙ ap (λ (b : Bool). b && is_read h.reads v) (not_twice (not (is_stale_since block (record { store_then = store_with h.reads store; woken = cond stale (map (λ r. r.0) h.reads) [] }))))
    ∙ ap (λ (rs : List (ℕ × Value)). not (is_stale_since block (record { store_then = store_with h.reads store; woken = cond stale (map (λ r. r.0) h.reads) [] })) && is_read rs v) (sym d.1.reads_are)

watches_one : (store : List Cell) (n v : ℕ) (b : CheckpointBlock) → IsCheckpointBlock store n b → watches_variable v b ≡ watches_of (Some (waiter_of store b)) v
watches_one store n v b r = watches_by store v b.ticket b.waiting.block b.stale b.waiting.held r.delivery

due_found : (store : List Cell) (n : ℕ) (o : Option CheckpointBlock) → ((b : CheckpointBlock) → o ≡ Some b → IsCheckpointBlock store n b) → holds_of is_due_block o ≡ due_of (option_map (waiter_of store) o)
due_found store n None r = refl
due_found store n (Some b) r = due_one store n b (r b refl)

watches_found : (store : List Cell) (n v : ℕ) (o : Option CheckpointBlock) → ((b : CheckpointBlock) → o ≡ Some b → IsCheckpointBlock store n b)
    → holds_of (watches_variable v) o ≡ watches_of (option_map (waiter_of store) o) v
watches_found store n v None r = refl
watches_found store n v (Some b) r = watches_one store n v b (r b refl)

swap : (a b : Bool) → (a && b) ≡ (b && a)
swap true true = refl
swap true false = refl
swap false true = refl
swap false false = refl

ready_found : (o : Option CheckpointBlock) → holds_of is_ready_block o ≡ (kept_ends (option_map (λ x. x.waiting) o) && not (holds_of is_due_block o))
ready_found None = refl
ready_found (Some b) = swap (not (is_due_block b)) (held_ends b.waiting.held)

-- ---- all that a machine keeps
pub due_of_blocks : (store : List Cell) (n t : ℕ) (bs : List CheckpointBlock) → AreCheckpointBlocks store n 0 bs → has_block is_due_block t bs ≡ due_of (find_waiter t (map (waiter_of store) bs))
due_of_blocks store n t bs a =
    has_found is_due_block t 0 bs (tickets_rise store n 0 bs a) ∙ due_found store n (find_block t bs) (λ b. right_found store n 0 t bs b a) ∙ ap due_of (sym (waiter_found store t bs))

pub watches_of_blocks : (store : List Cell) (n v t : ℕ) (bs : List CheckpointBlock) → AreCheckpointBlocks store n 0 bs → has_block (watches_variable v) t bs ≡ watches_of (find_waiter t (map (waiter_of store) bs)) v
watches_of_blocks store n v t bs a =
    has_found (watches_variable v) t 0 bs (tickets_rise store n 0 bs a) ∙ watches_found store n v (find_block t bs) (λ b. right_found store n 0 t bs b a)
    ∙ ap (λ (o : Option Waiter). watches_of o v) (sym (waiter_found store t bs))

held_one : (store : List Cell) (block : Block) (stale : Bool) (held : Option Held) → IsRightDelivery store block stale held → IsHeld block held (since_held store stale held)
held_one store block stale None d = tt
held_one store block stale (Some h) d = d.1

pub entries_due : (store : List Cell) (n k : ℕ) (bs : List CheckpointBlock) → AreCheckpointBlocks store n k bs → AreKeptOf (map entry_of bs) (map (waiter_of store) bs)
entries_due store n k [] a = tt
entries_due store n k (b ∷ bs) a = (
  record { ticket = refl; block = refl; held = held_one store b.waiting.block b.stale b.waiting.held a.2.delivery },
  entries_due store n b.ticket bs a.3,
)

pub blocks_ready : (bs : List CheckpointBlock) (ts : List ℕ) (pending : List Entry) (k : ℕ) → TicketsAscend k bs → ((t : ℕ) → list_any (nat_eq t) ts ≡ has_block is_ready_block t bs)
    → ((t : ℕ) → has_ticket t pending ≡ has_block is_due_block t bs) → AreReady ts (map entry_of bs) pending
blocks_ready bs ts pending k r ready due = λ t.
    ready t ∙ has_found is_ready_block t k bs r ∙ ready_found (find_block t bs)
    ∙ ap (λ (o : Option Waiting). kept_ends o && not (holds_of is_due_block (find_block t bs))) (sym (kept_found t bs))
    ∙ ap (λ (b : Bool). kept_ends (kept_at t (map entry_of bs)) && not b) (sym (due t ∙ has_found is_due_block t k bs r))

pub stands_at : (c : CheckpointView) (m : Parts) → IsCheckpoint c → m.rule ≡ Changed → m.store ≡ c.store → m.names ≡ c.names → m.next ≡ c.next → m.entries ≡ map entry_of c.blocks
    → ((t : ℕ) → has_ticket t m.pending ≡ has_block is_due_block t c.blocks) → ((v t : ℕ) → has_pair m.watch v t ≡ has_block (watches_variable v) t c.blocks) → IsAt m (checkpoint_state c)
stands_at c m k rule store names next entries due watch = record {
  possible = is_possible c k;
  stands = record {
    rule_is = rule;
    store_is = store;
    names_are = names;
    next_is = next;
    entries_are = subst (λ (es : List (ℕ × Waiting)). AreKeptOf es (map (waiter_of c.store) c.blocks)) (sym entries) (entries_due c.store c.next 0 c.blocks k.blocks);
    queue = λ t. due t ∙ due_of_blocks c.store c.next t c.blocks k.blocks;
    index = λ v t. watch v t ∙ watches_of_blocks c.store c.next v t c.blocks k.blocks;
  };
}

-- ---- one block more, of those that are left
pub named_more : (h n f rest whole : Bool) → f ≡ true → (h || ((n && f) || rest)) ≡ whole → ((n || h) || rest) ≡ whole
named_more true true f rest whole e q = q
named_more true false f rest whole e q = q
named_more false true true rest whole e q = q
named_more false true false rest whole e q = cc
named_more false false f rest whole e q = q

pub named_same : (h n f rest whole : Bool) → f ≡ false → (h || ((n && f) || rest)) ≡ whole → (h || rest) ≡ whole
named_same true n f rest whole e q = q
named_same false true true rest whole e q = cc
named_same false true false rest whole e q = q
named_same false false f rest whole e q = q

out_step : (c : Bool) (t : ℕ) (e : Entry) (es fs : List Entry) → some_out fs ≡ some_out es → some_out (cond c ((t, false) ∷ e ∷ es) (e ∷ fs)) ≡ some_out (e ∷ es)
out_step true t e es fs h = refl
out_step false t e es fs h = ap (λ (b : Bool). e.1 || b) h

pub out_with : (t : ℕ) (es : List Entry) → some_out (with_ticket t es) ≡ some_out es
out_with t [] = refl
out_with t (e ∷ es) = out_step (nat_lt t e.0) t e es (with_ticket t es) (out_with t es)

pub above_with : (u t : ℕ) (es : List Entry) → t < u → has_ticket u es ≡ false → has_ticket u (with_ticket t es) ≡ false
above_with u t es l h = has_with u (t, false) es ∙ ap (λ (b : Bool). nat_eq u t || b) h ∙ by (apart u t l) where
  by : nat_eq u t ≡ false → (nat_eq u t || false) ≡ false
  by e = rw e refl

-- ---- a block that is inserted with its last delivery
pub inserted_waits : (t : ℕ) (x : Waiting) (es fs : List (ℕ × Waiting)) → AllBelow t es → fs ≡ es ++ (t, x) ∷ [] → kept_at t fs ≡ None → ⊥
inserted_waits t x es fs a e none = let there = kept_push t x es a in let same = ap (kept_at t) e in cc

pub inserted_held : (b : CheckpointBlock) (block : Block) (h g : Held) (es fs gs : List (ℕ × Waiting)) → AllBelow b.ticket es → block ≡ b.waiting.block → b.waiting.held ≡ Some h → g ≡ h
    → fs ≡ es ++ (b.ticket, record { block = block; held = None }) ∷ [] → gs ≡ with_held b.ticket g fs → gs ≡ es ++ entry_of b ∷ []
inserted_held b block h g es fs gs a same held copy e f =
    f ∙ ap (with_held b.ticket g) e ∙ held_push b.ticket g block es a
    ∙ ap (λ (x : Waiting). es ++ (b.ticket, x) ∷ []) (entry_equal block b.waiting.block (Some g) b.waiting.held same (ap Some copy ∙ sym held)) where
      entry_equal : (x y : Block) (p q : Option Held) → x ≡ y → p ≡ q → (let w : Waiting = record { block = x; held = p } in w) ≡ (let v : Waiting = record { block = y; held = q } in v)
      entry_equal x y p q u v = rw (u, v) refl
