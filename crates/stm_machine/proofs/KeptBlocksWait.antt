-- The blocks kept are those that wait, after each change of the list.
use Rattle.std.proofs.Common.{◌≡◌, ℕ, Bool, true, false, cond, List, [], ◌∷◌, ◌++◌, map, length, Option, Some, None, refl, sym, ap, subst, arith}
use Rattle.std.specs.Prelude.{nat_eq}
use Rattle.stm_store.specs.declared.cell.Cell.{Cell}
use Rattle.stm_check.specs.TypedBlock.{Block}
use Rattle.stm_eval.specs.Messages.{Holds}
use Rattle.stm_events.specs.SlowDesk.{Since, Waiter, under, find_waiter, without_waiter, with_delivery, delivered, woken_more, after_writes}
use Rattle.stm_events.specs.Laws.{AreRising}
use Rattle.stm_waiting.specs.declared.waiting.Held.{Held}
use Rattle.stm_waiting.specs.declared.waiting.Waiting.{Waiting}
use Rattle.stm_waiting.specs.Entries.{kept_at, kept, lose, with_held, AllBelow, held_reads}
use Rattle.stm_machine.specs.Entries.{IsHeld, IsKeptOf, AreKeptOf}
use Rattle.stm_machine.specs.QueueAndIndex.{read_since}

-- what is kept under a ticket is the block that waits under it
pub record IsSame (x : Waiting) (w : Waiter) : Type 0 where
  pub block : x.block ≡ w.block
  pub held : IsHeld w.block x.held w.since

abbrev pub IsFound : Option Waiting → Option Waiter → Type 0
IsFound None None = Unit {0}
IsFound None (Some w) = ⊥
IsFound (Some x) None = ⊥
IsFound (Some x) (Some w) = IsSame x w

found_step : (b : Bool) (e : ℕ × Waiting) (w : Waiter) (o : Option Waiting) (p : Option Waiter) → IsKeptOf e w → IsFound o p → IsFound (cond b (Some e.1) o) (cond b (Some w) p)
found_step true e w o p d f = record { block = d.block; held = d.held }
found_step false e w o p d f = f

pub found : (t : ℕ) (es : List (ℕ × Waiting)) (ws : List Waiter) → AreKeptOf es ws → IsFound (kept_at t es) (find_waiter t ws)
found t [] [] d = tt
found t [] (w ∷ ws) d = absurd d
found t (e ∷ es) [] d = absurd d
found t (e ∷ es) (w ∷ ws) d = rw d.0.ticket (found_step (nat_eq t w.ticket) e w (kept_at t es) (find_waiter t ws) d.0 (found t es ws d.1))

pub length_due : (es : List (ℕ × Waiting)) (ws : List Waiter) → AreKeptOf es ws → length es ≡ length ws
length_due [] [] d = refl
length_due [] (w ∷ ws) d = absurd d
length_due (e ∷ es) [] d = absurd d
length_due (e ∷ es) (w ∷ ws) d = let h = length_due es ws d.1 in omega arith

pub below_due : (n k : ℕ) (es : List (ℕ × Waiting)) (ws : List Waiter) → AreKeptOf es ws → AreRising n k ws → AllBelow n es
below_due n k [] [] d r = tt
below_due n k [] (w ∷ ws) d r = absurd d
below_due n k (e ∷ es) [] d r = absurd d
below_due n k (e ∷ es) (w ∷ ws) d r = (rw d.0.ticket r.1, below_due n w.ticket es ws d.1 r.2)

pub due_push : (es : List (ℕ × Waiting)) (ws : List Waiter) (t : ℕ) (b : Block) → AreKeptOf es ws
    → AreKeptOf (es ++ (t, record { block = b; held = None }) ∷ []) (ws ++ record { ticket = t; block = b; since = None } ∷ [])
due_push [] [] t b d = (record { ticket = refl; block = refl; held = tt }, tt)
due_push [] (w ∷ ws) t b d = absurd d
due_push (e ∷ es) [] t b d = absurd d
due_push (e ∷ es) (w ∷ ws) t b d = (d.0, due_push es ws t b d.1)

lose_step : (b : Bool) (e : ℕ × Waiting) (w : Waiter) (es fs : List (ℕ × Waiting)) (ws vs : List Waiter) → IsKeptOf e w → AreKeptOf es ws → AreKeptOf fs vs → AreKeptOf (cond b es (e ∷ fs)) (cond b ws (w ∷ vs))
lose_step true e w es fs ws vs d a c = a
lose_step false e w es fs ws vs d a c = (d, c)

pub due_lose : (t : ℕ) (es : List (ℕ × Waiting)) (ws : List Waiter) → AreKeptOf es ws → AreKeptOf (lose t es) (without_waiter t ws)
due_lose t [] [] d = tt
due_lose t [] (w ∷ ws) d = absurd d
due_lose t (e ∷ es) [] d = absurd d
due_lose t (e ∷ es) (w ∷ ws) d =
    subst (λ (b : Bool). AreKeptOf (cond b es (e ∷ lose t es)) (cond (nat_eq t w.ticket) ws (w ∷ without_waiter t ws))) (sym (ap (λ (n : ℕ). nat_eq t n) d.0.ticket))
    (lose_step (nat_eq t w.ticket) e w es (lose t es) ws (without_waiter t ws) d.0 d.1 (due_lose t es ws d.1))

held_more : (woken : List ℕ) (b : Block) (h : Option Held) (o : Option Since) → IsHeld b h o → IsHeld b h (woken_more woken o)
held_more woken b None None i = i
held_more woken b None (Some s) i = absurd i
held_more woken b (Some h) None i = absurd i
held_more woken b (Some h) (Some s) i = i

pub due_marks : (woken : List ℕ) (es : List (ℕ × Waiting)) (ws : List Waiter) → AreKeptOf es ws → AreKeptOf es (map (after_writes woken) ws)
due_marks woken [] [] d = tt
due_marks woken [] (w ∷ ws) d = absurd d
due_marks woken (e ∷ es) [] d = absurd d
due_marks woken (e ∷ es) (w ∷ ws) d = (record { ticket = d.0.ticket; block = d.0.block; held = held_more woken w.block e.1.held w.since d.0.held }, due_marks woken es ws d.1)

-- a delivery to the block under a ticket, which does on the store what the delivery says
abbrev HoldsAt : ℕ → Held → List Cell → Option Waiter → Type 0
HoldsAt t h store None = Unit {0}
HoldsAt t h store (Some w) = Holds w.block.tree (under store) h.reads h.verdict

held_step : (b : Bool) (t : ℕ) (h : Held) (store : List Cell) (e : ℕ × Waiting) (w : Waiter) (es fs : List (ℕ × Waiting)) (ws vs : List Waiter) → IsKeptOf e w → AreKeptOf es ws
    → HoldsAt t h store (cond b (Some w) (find_waiter t ws)) → (HoldsAt t h store (find_waiter t ws) → AreKeptOf fs vs)
    → AreKeptOf (cond b ((e.0, kept h e.1) ∷ es) (e ∷ fs)) (cond b (with_delivery store w ∷ ws) (w ∷ vs))
held_step true t h store e w es fs ws vs d a holds more = (record { ticket = d.ticket; block = d.block; held = holds }, a)
held_step false t h store e w es fs ws vs d a holds more = (d, more holds)

due_held_by : (t : ℕ) (h : Held) (store : List Cell) (es : List (ℕ × Waiting)) (ws : List Waiter) → AreKeptOf es ws → HoldsAt t h store (find_waiter t ws) → AreKeptOf (with_held t h es) (delivered t store ws)
due_held_by t h store [] [] d holds = tt
due_held_by t h store [] (w ∷ ws) d holds = absurd d
due_held_by t h store (e ∷ es) [] d holds = absurd d
due_held_by t h store (e ∷ es) (w ∷ ws) d holds =
    subst (λ (b : Bool). AreKeptOf (cond b ((e.0, kept h e.1) ∷ es) (e ∷ with_held t h es)) (cond (nat_eq t w.ticket) (with_delivery store w ∷ ws) (w ∷ delivered t store ws)))
    (sym (ap (λ (n : ℕ). nat_eq t n) d.0.ticket))
    (held_step (nat_eq t w.ticket) t h store e w es (with_held t h es) ws (delivered t store ws) d.0 d.1 holds (due_held_by t h store es ws d.1))

pub due_held : (t : ℕ) (h : Held) (store : List Cell) (es : List (ℕ × Waiting)) (ws : List Waiter) (w : Waiter) → AreKeptOf es ws → find_waiter t ws ≡ Some w → Holds w.block.tree (under store) h.reads h.verdict
    → AreKeptOf (with_held t h es) (delivered t store ws)
due_held t h store es ws w d e holds = due_held_by t h store es ws d (subst (HoldsAt t h store) (sym e) holds)

-- what is kept as read is what was read
pub held_are : (b : Block) (h : Option Held) (o : Option Since) → IsHeld b h o → held_reads h ≡ read_since b o
held_are b None None i = refl
held_are b None (Some s) i = absurd i
held_are b (Some h) None i = absurd i
held_are b (Some h) (Some s) i = sym i.reads_are
