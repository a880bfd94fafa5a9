-- The stale blocks of a checkpoint, and its blocks with their causes.
use Rattle.std.proofs.Common.{◌≡◌, ℕ, ◌≤◌, Bool, true, false, not, ◌&&◌, ◌||◌, cond, List, [], ◌∷◌, map, Option, Some, None, Result, Ok, Err, refl, ap, ◌∙◌, arith, eqb-true}
use Rattle.std.specs.Prelude.{nat_eq, IfOk}
use Rattle.std.proofs.lemmas.Bool.Decides.{nat_tests}
use Rattle.stm_events.specs.declared.kept_cause.KeptCause.{KeptCause}
use Rattle.stm_events.specs.Labels.{Labels}
use Rattle.stm_events.specs.Laws.{AreRising}
use Rattle.stm_events.specs.SlowDesk.{Waiter, Slow, is_new, is_current, find_waiter}
use Rattle.stm_events.proofs.Rising.{not_above}
use Rattle.stm_machine.specs.declared.checkpoint.CheckpointBlock.{CheckpointBlock}
use Rattle.stm_machine.specs.Checkpoints.{CheckpointView, block_of_waiter, checkpoint_of, labelled_block, with_labels, caused_block, with_causes}
use Rattle.stm_desk.specs.Reasons.{was_stale}
use Rattle.stm_desk.specs.Causes.{has_stale}

turned : (t u : ℕ) → nat_eq u t ≡ nat_eq t u
turned t u = grind (arith, nat_tests)

stale_step : (b : Bool) (w : Waiter) (o : Option Waiter) (more : Bool) → (b ≡ true → o ≡ None) → more ≡ was_stale o → ((b && (not (is_new w) && not (is_current w))) || more) ≡ was_stale (cond b (Some w) o)
stale_step true w o more none e = ap (λ (x : Bool). was_stale (Some w) || x) (e ∙ ap was_stale (none refl)) ∙ by (was_stale (Some w)) where
  by : (x : Bool) → (x || false) ≡ x
  by true = refl
  by false = refl
stale_step false w o more none e = e

none_past : (t n : ℕ) (w : Waiter) (ws : List Waiter) → AreRising n w.ticket ws → nat_eq t w.ticket ≡ true → find_waiter t ws ≡ None
none_past t n w ws r e = let low : t ≤ w.ticket = (let q = eqb-true t w.ticket e in omega arith) in not_above t n w.ticket ws low r

stale_among : (t n k : ℕ) (labels : Labels) (ws : List Waiter) → AreRising n k ws → has_stale t (map (labelled_block labels) (map block_of_waiter ws)) ≡ was_stale (find_waiter t ws)
stale_among t n k labels [] r = refl
stale_among t n k labels (w ∷ ws) r =
    ap (λ (b : Bool). (b && (not (is_new w) && not (is_current w))) || has_stale t (map (labelled_block labels) (map block_of_waiter ws))) (turned t w.ticket)
    ∙ stale_step (nat_eq t w.ticket) w (find_waiter t ws) (has_stale t (map (labelled_block labels) (map block_of_waiter ws))) (none_past t n w ws r.2) (stale_among t n w.ticket labels ws r.2)

-- the stale ones are those of the state
pub stale_blocks_are : (t : ℕ) (labels : Labels) (s : Slow) → AreRising s.next 0 s.waiters → has_stale t (with_labels labels (checkpoint_of s)).blocks ≡ was_stale (find_waiter t s.waiters)
unfolding checkpoint_of
stale_blocks_are t labels s r = stale_among t s.next 0 labels s.waiters r

-- the same causes make the same checkpoint
same_blocks : (f g : ℕ → Option KeptCause) (bs : List CheckpointBlock) → ((t : ℕ) → f t ≡ g t) → map (caused_block f) bs ≡ map (caused_block g) bs
same_blocks f g [] h = refl
same_blocks f g (b ∷ bs) h =
    ap (λ (o : Option KeptCause). (record b { cause = o }) ∷ map (caused_block f) bs) (h b.ticket) ∙ ap (λ (xs : List CheckpointBlock). caused_block g b ∷ xs) (same_blocks f g bs h)

pub same_causes : (f g : ℕ → Option KeptCause) (c : CheckpointView) → ((t : ℕ) → f t ≡ g t) → with_causes f c ≡ with_causes g c
same_causes f g c h = ap (λ (bs : List CheckpointBlock). record c { blocks = bs }) (same_blocks f g c.blocks h)

-- what holds of a checkpoint holds of one that is returned
pub of_returned : {E : Type 0} (r : Result CheckpointView E) (P Q : CheckpointView → Type 0) → ((x : CheckpointView) → P x → Q x) → IfOk r P → IfOk r Q
of_returned (Ok x) P Q h p = h x p
of_returned (Err e) P Q h p = tt
