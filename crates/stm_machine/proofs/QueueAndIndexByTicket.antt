-- The queue and the index, ticket by ticket, after each change of the waiting blocks.
use Rattle.std.proofs.Common.{◌≡◌, ℕ, ◌<◌, ◌≤◌, Bool, true, false, not, ◌&&◌, ◌||◌, cond, List, [], ◌∷◌, ◌++◌, map, filter, Option, Some, None, refl, sym, ap, ◌∙◌, arith}
use Rattle.std.specs.Prelude.{nat_eq, option_map}
use Rattle.std.specs.List.{list_any}
use Rattle.std.proofs.lemmas.List.Folds.{list_any-append}
use Rattle.std.proofs.lemmas.Bool.Decides.{nat_tests}
use Rattle.stm_terms.specs.declared.values.Value.{Value}
use Rattle.stm_terms.specs.ReadSet.{reads_of}
use Rattle.stm_store.specs.declared.cell.Cell.{Cell}
use Rattle.stm_check.specs.TypedBlock.{Block}
use Rattle.stm_watch.specs.Pairs.{is_read}
use Rattle.stm_queue.specs.Queue.{Entry, has_ticket, with_ticket}
use Rattle.stm_queue.proofs.Merging.{has_with}
use Rattle.stm_events.specs.SlowDesk.{Since, Waiter, under, looked_on, intersects, current_since, is_current, woken_more, after_writes, becomes_stale, stale_after, find_waiter, with_delivery}
use Rattle.stm_events.specs.Laws.{AreRising}
use Rattle.stm_events.proofs.Rising.{not_above}
use Rattle.stm_machine.specs.QueueAndIndex.{with_tickets, due_of, read_since, watches_of}

-- ---- nobody waits under a ticket that isn't given yet
pub not_yet : (t n k : ℕ) (ws : List Waiter) → n ≤ t → AreRising n k ws → find_waiter t ws ≡ None
not_yet t n k [] h r = refl
not_yet t n k (w ∷ ws) h r =
    let b : w.ticket < n = r.1 in
    let e : nat_eq t w.ticket ≡ false = grind (arith, nat_tests) in
    rw e (not_yet t n w.ticket ws h r.2)

pub meets-nothing : (is : List ℕ) → intersects [] is ≡ false
meets-nothing [] = refl
meets-nothing (i ∷ is) = meets-nothing is

swap_or : (a b c d : Bool) → ((a || b) || (c || d)) ≡ ((a || c) || (b || d))
swap_or true b c d = refl
swap_or false true true d = refl
swap_or false true false d = refl
swap_or false false c d = refl

pub meets-append : (a b : List ℕ) (is : List ℕ) → intersects (a ++ b) is ≡ (intersects a is || intersects b is)
meets-append a b [] = refl
meets-append a b (i ∷ is) =
    rw (list_any-append (nat_eq i) a b, meets-append a b is) (swap_or (list_any (nat_eq i) a) (list_any (nat_eq i) b) (intersects a is) (intersects b is))

-- ---- tickets of the queue
turn : (a b c : Bool) → (b || (a || c)) ≡ ((a || b) || c)
turn true true c = refl
turn true false c = refl
turn false b c = refl

pub has_with_tickets : (u : ℕ) (ts : List ℕ) (es : List Entry) → has_ticket u (with_tickets ts es) ≡ (list_any (nat_eq u) ts || has_ticket u es)
has_with_tickets u [] es = refl
has_with_tickets u (t ∷ ts) es =
    has_with_tickets u ts (with_ticket t es) ∙ ap (λ (b : Bool). list_any (nat_eq u) ts || b) (has_with u (t, false) es)
    ∙ turn (nat_eq u t) (list_any (nat_eq u) ts) (has_ticket u es)

-- ---- a block more
pub queue_push : (d x : Bool) (t : ℕ) (b : Block) (o : Option Waiter) → x ≡ due_of o → (d || x) ≡ due_of (cond d (Some (record { ticket = t; block = b; since = None })) o)
queue_push true x t b o e = refl
queue_push false x t b o e = e

pub index_push : (d x : Bool) (v t : ℕ) (b : Block) (o : Option Waiter) → x ≡ watches_of o v → (d ≡ true → o ≡ None) → x ≡ watches_of (cond d (Some (record { ticket = t; block = b; since = None })) o) v
index_push true x v t b o e none = let n : o ≡ None = none refl in e ∙ ap (λ (p : Option Waiter). watches_of p v) n
index_push false x v t b o e none = e

-- ---- a delivery
queue_there : (store : List Cell) (o : Option Waiter) → false ≡ due_of (option_map (with_delivery store) o)
queue_there store None = refl
queue_there store (Some w) = rw (meets-nothing (looked_on store w.block)) refl

pub queue_delivered : (d x : Bool) (store : List Cell) (o : Option Waiter) → x ≡ due_of o → (not d && x) ≡ due_of (cond d (option_map (with_delivery store) o) o)
queue_delivered true x store o e = queue_there store o
queue_delivered false x store o e = e

-- what the index has, and the pairs of the variables read
pub index_delivered : (d x r : Bool) (v : ℕ) (store : List Cell) (o : Option Waiter) (w : Waiter) → x ≡ watches_of o v → (d ≡ true → o ≡ Some w) → is_current w ≡ false
    → r ≡ is_read (reads_of (under store) w.block.tree) v → (x || (d && r)) ≡ watches_of (cond d (option_map (with_delivery store) o) o) v
index_delivered true x r v store o w e here n s =
    let h : o ≡ Some w = here refl in
    let z : x ≡ false = e ∙ ap (λ (p : Option Waiter). watches_of p v) h ∙ ap (λ (c : Bool). c && is_read (read_since w.block w.since) v) n in
    rw (z, h, meets-nothing (looked_on store w.block)) s
index_delivered false true r v store o w e here n s = e
index_delivered false false r v store o w e here n s = e

-- ---- a block less
pub queue_gone : (d x : Bool) (o : Option Waiter) → x ≡ due_of o → (not d && x) ≡ due_of (cond d None o)
queue_gone true x o e = refl
queue_gone false x o e = e

gone_bools : (c r : Bool) → ((c && r) && not r) ≡ false
gone_bools true true = refl
gone_bools true false = refl
gone_bools false r = refl

stay_bools : (x : Bool) → (x && not false) ≡ x
stay_bools true = refl
stay_bools false = refl

index_here : (r : Bool) (v : ℕ) (o : Option Waiter) (reads : List (ℕ × Value)) → ((w : Waiter) → o ≡ Some w → reads ≡ read_since w.block w.since) → r ≡ is_read reads v → (watches_of o v && not r) ≡ false
index_here r v None reads same s = refl
index_here r v (Some w) reads same s = let h : reads ≡ read_since w.block w.since = same w refl in rw (s, h) (gone_bools (is_current w) (is_read (read_since w.block w.since) v))

pub index_gone : (d x r : Bool) (v : ℕ) (o : Option Waiter) (reads : List (ℕ × Value)) → x ≡ watches_of o v → (d ≡ true → (w : Waiter) → o ≡ Some w → reads ≡ read_since w.block w.since) → r ≡ is_read reads v
    → (x && not (d && r)) ≡ watches_of (cond d None o) v
index_gone true x r v o reads e same s = rw e (index_here r v o reads (same refl) s)
index_gone false x r v o reads e same s = stay_bools x ∙ e

-- ---- a finish
read_more : (woken : List ℕ) (b : Block) (o : Option Since) → read_since b (woken_more woken o) ≡ read_since b o
read_more woken b None = refl
read_more woken b (Some s) = refl

-- whether the block under a ticket becomes stale
abbrev pub stale_of : List ℕ → Option Waiter → Bool
stale_of woken None = false
stale_of woken (Some w) = becomes_stale woken w

-- what is current after a finish was so before it
still_bools : (a b : Bool) → not (a || b) ≡ true → not a ≡ true
still_bools true b h = h
still_bools false b h = refl

pub still_current : (woken : List ℕ) (b : Block) (o : Option Since) → current_since b (woken_more woken o) ≡ true → current_since b o ≡ true
still_current woken b None h = h
still_current woken b (Some s) h =
    still_bools (intersects s.woken (looked_on s.store_then b)) (intersects woken (looked_on s.store_then b)) (ap not (sym (meets-append s.woken woken (looked_on s.store_then b))) ∙ h)

due_bools : (a b : Bool) → (b ≡ true → a ≡ true) → ((a && not b) || not a) ≡ not b
due_bools true true h = refl
due_bools true false h = refl
due_bools false true h = sym (h refl)
due_bools false false h = refl

queue_written : (woken : List ℕ) (o : Option Waiter) → (stale_of woken o || due_of o) ≡ due_of (option_map (after_writes woken) o)
queue_written woken None = refl
queue_written woken (Some w) = due_bools (is_current w) (is_current (after_writes woken w)) (still_current woken w.block w.since)

pub queue_finished : (d x : Bool) (woken : List ℕ) (o : Option Waiter) → x ≡ due_of o → (d ≡ true → x ≡ false) → (stale_of woken (cond d None o) || x) ≡ due_of (option_map (after_writes woken) (cond d None o))
queue_finished true x woken o e current = current refl
queue_finished false x woken o e current = rw e (queue_written woken o)

index_bools : (c d r : Bool) → (d ≡ true → c ≡ true) → ((c && r) && not ((c && not d) && r)) ≡ (d && r)
index_bools true true true h = refl
index_bools true true false h = refl
index_bools true false true h = refl
index_bools true false false h = refl
index_bools false true r h = absurd (cc (h refl))
index_bools false false r h = refl

index_written : (r : Bool) (v : ℕ) (woken : List ℕ) (o : Option Waiter) → ((w : Waiter) → o ≡ Some w → r ≡ is_read (read_since w.block w.since) v) → (watches_of o v && not (stale_of woken o && r)) ≡ watches_of (option_map (after_writes woken) o) v
index_written r v woken None same = refl
index_written r v woken (Some w) same =
    let s : r ≡ is_read (read_since w.block w.since) v = same w refl in
    rw (s, read_more woken w.block w.since) (index_bools (is_current w) (is_current (after_writes woken w)) (is_read (read_since w.block w.since) v) (still_current woken w.block w.since))

-- x: what the index had; then the pairs of what becomes stale were taken away, then those of the block that finished
pub index_finished : (d x q r : Bool) (v : ℕ) (woken : List ℕ) (o : Option Waiter) → x ≡ watches_of o v
    → (d ≡ true → (w : Waiter) → o ≡ Some w → q ≡ is_read (read_since w.block w.since) v) → (d ≡ false → (w : Waiter) → o ≡ Some w → r ≡ is_read (read_since w.block w.since) v)
    → ((x && not (stale_of woken (cond d None o) && r)) && not (d && q)) ≡ watches_of (option_map (after_writes woken) (cond d None o)) v
index_finished true x q r v woken o e same_q same_r = rw (e, stay_bools (watches_of o v)) (here o q (same_q refl)) where
  here : (p : Option Waiter) (q : Bool) → ((w : Waiter) → p ≡ Some w → q ≡ is_read (read_since w.block w.since) v) → (watches_of p v && not q) ≡ false
  here None q same = refl
  here (Some w) q same = rw (same w refl) (gone_bools (is_current w) (is_read (read_since w.block w.since) v))
index_finished false x q r v woken o e same_q same_r = stay_bools (x && not (stale_of woken o && r)) ∙ rw e (index_written r v woken o (same_r refl))

-- ---- which tickets become stale
stale_step : (d c : Bool) (u n k : ℕ) (woken : List ℕ) (w : Waiter) (ws : List Waiter) → nat_eq u w.ticket ≡ d → becomes_stale woken w ≡ c → AreRising n k (w ∷ ws)
    → list_any (nat_eq u) (stale_after woken ws) ≡ stale_of woken (find_waiter u ws)
    → list_any (nat_eq u) (map (λ x. x.ticket) (cond c (w ∷ filter (becomes_stale woken) ws) (filter (becomes_stale woken) ws))) ≡ stale_of woken (cond d (Some w) (find_waiter u ws))
stale_step true true u n k woken w ws e s r more = rw (e, s) refl
stale_step true false u n k woken w ws e s r more =
    let l : u ≤ w.ticket = grind (arith, nat_tests) in
    let m : find_waiter u ws ≡ None = not_above u n w.ticket ws l r.2 in
    more ∙ ap (stale_of woken) m ∙ sym s
stale_step false true u n k woken w ws e s r more = rw e more
stale_step false false u n k woken w ws e s r more = more

pub has_stale : (u n k : ℕ) (woken : List ℕ) (ws : List Waiter) → AreRising n k ws → list_any (nat_eq u) (stale_after woken ws) ≡ stale_of woken (find_waiter u ws)
has_stale u n k woken [] r = refl
has_stale u n k woken (w ∷ ws) r = stale_step (nat_eq u w.ticket) (becomes_stale woken w) u n k woken w ws refl refl r (has_stale u n w.ticket woken ws r.2)
