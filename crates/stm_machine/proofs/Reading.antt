-- What a desk shows is what the slow desk has.
use Rattle.std.proofs.Common.{◌≡◌, ℕ, Bool, true, false, not, cond, List, [], ◌∷◌, Option, Some, None, refl, sym, ap, subst, ◌∙◌}
use Rattle.std.specs.Prelude.{nat_lt, option_map}
use Rattle.stm_terms.specs.declared.values.Value.{Value}
use Rattle.stm_terms.specs.declared.verdicts.Verdict.{Verdict}
use Rattle.stm_terms.specs.ReadSet.{reads_of}
use Rattle.stm_store.specs.declared.cell.Cell.{Cell}
use Rattle.stm_check.specs.TypedBlock.{Block}
use Rattle.stm_events.specs.SlowDesk.{Since, Waiter, under, verdict_on, is_current, is_stale_since, current_since, standing_since, standing}
use Rattle.stm_events.specs.SlowDesk as slow
use Rattle.stm_events.specs.SlowSettle.{lowest}
use Rattle.stm_waiting.specs.declared.waiting.Waiting.{Waiting}
use Rattle.stm_waiting.specs.Entries.{first_above}
use Rattle.stm_machine.specs.Entries.{AreKeptOf}
use Rattle.stm_events.specs.BlockStatus.{read_then, read_now}

-- ---- the least ticket above one
above_step : (b : Bool) (n : ℕ) (w : Waiter) (o : Option ℕ) (p : Option Waiter) → n ≡ w.ticket → o ≡ option_map (λ v. v.ticket) p → cond b (Some n) o ≡ option_map (λ v. v.ticket) (cond b (Some w) p)
above_step true n w o p e h = ap Some e
above_step false n w o p e h = h

pub above_due : (a : ℕ) (es : List (ℕ × Waiting)) (ws : List Waiter) → AreKeptOf es ws → first_above a es ≡ option_map (λ w. w.ticket) (lowest (λ w. nat_lt a w.ticket) ws)
above_due a [] [] d = refl
above_due a [] (w ∷ ws) d = absurd d
above_due a (e ∷ es) [] d = absurd d
above_due a (e ∷ es) (w ∷ ws) d =
    ap (λ (n : ℕ). cond (nat_lt a n) (Some e.0) (first_above a es)) d.0.ticket
    ∙ above_step (nat_lt a w.ticket) e.0 w (first_above a es) (lowest (λ v. nat_lt a v.ticket) ws) d.0.ticket (above_due a es ws d.1)

-- ---- how a block stands
pub stands_new : (store : List Cell) (o : Option Waiter) (w : Waiter) → o ≡ Some w → w.since ≡ None → Some slow.New ≡ option_map (standing store) o
stands_new store o w e n = rw (e, n) refl

stale_by : (b : Block) (store : List Cell) (o : Option Since) (s : Since) (v : Verdict) → o ≡ Some s → current_since b o ≡ false → verdict_on s.store_then b ≡ Some v → slow.Stale (Some v) ≡ standing_since store b o
stale_by b store None s v e c r = cc
stale_by b store (Some z) s v e c r =
    let q : z ≡ s = cc in
    let t : is_stale_since b z ≡ true = flip (is_stale_since b z) c in
    rw t (ap slow.Stale (sym (subst (λ (x : Since). verdict_on x.store_then b ≡ Some v) (sym q) r))) where
      flip : (a : Bool) → not a ≡ false → a ≡ true
      flip true h = refl
      flip false h = cc

pub stands_stale : (store : List Cell) (o : Option Waiter) (w : Waiter) (s : Since) (v : Verdict) → o ≡ Some w → w.since ≡ Some s → is_current w ≡ false → verdict_on s.store_then w.block ≡ Some v → Some (slow.Stale (Some v)) ≡ option_map (standing store) o
stands_stale store o w s v e n c r = ap Some (stale_by w.block store w.since s v n c r) ∙ sym (ap (option_map (standing store)) e)

current_by : (b : Block) (store : List Cell) (o : Option Since) (v : Verdict) → current_since b o ≡ true → verdict_on store b ≡ Some v → slow.Current (Some v) ≡ standing_since store b o
current_by b store None v c r = cc
current_by b store (Some z) v c r =
    let t : is_stale_since b z ≡ false = flip (is_stale_since b z) c in
    rw t (ap slow.Current (sym r)) where
      flip : (a : Bool) → not a ≡ true → a ≡ false
      flip true h = cc
      flip false h = refl

pub stands_current : (store : List Cell) (o : Option Waiter) (w : Waiter) (v : Verdict) → o ≡ Some w → is_current w ≡ true → verdict_on store w.block ≡ Some v → Some (slow.Current (Some v)) ≡ option_map (standing store) o
stands_current store o w v e c r = ap Some (current_by w.block store w.since v c r) ∙ sym (ap (option_map (standing store)) e)

pub reads_are : (o : Option Waiter) (w : Waiter) (s : Since) (reads : List (ℕ × Value)) → o ≡ Some w → w.since ≡ Some s → reads_of (under s.store_then) w.block.tree ≡ reads → Some reads ≡ read_then o
reads_are o w s reads e n r = rw (e, n) (ap Some (sym r))

pub reads_new : (o : Option Waiter) (w : Waiter) → o ≡ Some w → w.since ≡ None → None ≡ read_then o
reads_new o w e n = rw (e, n) refl

pub none_current : (o : Option Waiter) (w v : Waiter) → o ≡ Some w → w.since ≡ None → o ≡ Some v → is_current v ≡ true → ⊥
none_current o w v e n f c =
    let q : Some w ≡ Some v = sym e ∙ f in
    let i : w ≡ v = same w v q in
    let g : is_current w ≡ true = subst (λ (x : Waiter). is_current x ≡ true) (sym i) c in
    no w.block w.since n g where
      same : (a b : Waiter) → Some a ≡ Some b → a ≡ b
      same a b h = cc

      no : (b : Block) (s : Option Since) → s ≡ None → current_since b s ≡ true → ⊥
      no b None n c = cc
      no b (Some s) n c = cc

pub reads_now : (o : Option Waiter) (store : List Cell) (w v : Waiter) (reads : List (ℕ × Value)) → o ≡ Some w → o ≡ Some v → (is_current w ≡ true → reads_of (under store) w.block.tree ≡ reads) → is_current v ≡ true → Some reads ≡ Some (read_now store v)
reads_now o store w v reads e f r c =
    let i : w ≡ v = same w v (sym e ∙ f) in
    let g : is_current w ≡ true = subst (λ (x : Waiter). is_current x ≡ true) (sym i) c in
    ap Some (sym (r g) ∙ ap (λ (x : Waiter). reads_of (under store) x.block.tree) i) where
      same : (a b : Waiter) → Some a ≡ Some b → a ≡ b
      same a b h = cc
