-- What holds of each state that a machine is at, the state after an event, and what two such states have in common.
use Rattle.std.proofs.Common.{◌≡◌, ℕ, ◌≤◌, Bool, true, false, not, List, length, Option, Some, None, refl, sym, subst, ◌∙◌}
use Rattle.stm_terms.specs.declared.values.Value.{Value}
use Rattle.stm_terms.specs.declared.verdicts.Verdict.{Verdict}
use Rattle.stm_store.specs.declared.cell.Cell.{Cell}
use Rattle.stm_store.specs.Cells.{plains, Covers}
use Rattle.stm_check.specs.TypedBlock.{Block}
use Rattle.stm_eval.specs.Messages.{Holds}
use Rattle.stm_queue.specs.Queue.{Entry, has_ticket}
use Rattle.stm_events.specs.declared.event.What.{What}
use Rattle.stm_events.specs.SlowDesk.{Since, Waiter, Slow, under, verdict_on, is_current, is_stale_since, find_waiter, after, Allows}
use Rattle.stm_terms.specs.Limits.{max_waiting}
use Rattle.stm_events.specs.Laws.{AreRising}
use Rattle.stm_events.proofs.Covered.{covered_waiter}
use Rattle.stm_events.proofs.CurrentHoldsNow.{still_holds}
use Rattle.stm_events.proofs.Possible.{possible_after}
use Rattle.stm_waiting.specs.declared.waiting.Waiting.{Waiting}
use Rattle.stm_machine.specs.Machine.{Parts, Stands, IsAt}
use Rattle.stm_machine.specs.QueueAndIndex.{due_of}
use Rattle.stm_machine.proofs.KeptBlocksWait.{IsFound, found, length_due}

-- ---- what holds of it
pub rising_at : (m : Parts) (s : Slow) → IsAt m s → AreRising s.next 0 s.waiters
rising_at m s k = k.possible.rising

pub covered_at : (m : Parts) (s : Slow) → IsAt m s → (t : ℕ) (w : Waiter) → find_waiter t s.waiters ≡ Some w → Covers (plains s.store) w.block.uses
covered_at m s k t w = covered_waiter t s.store s.waiters w k.possible.covered

-- what a current block did at its delivery, it does on the present store
pub holds_at : (m : Parts) (s : Slow) → IsAt m s → (t : ℕ) (w : Waiter) (d : Since) (reads : List (ℕ × Value)) (v : Verdict) → find_waiter t s.waiters ≡ Some w → w.since ≡ Some d
    → is_stale_since w.block d ≡ false → Holds w.block.tree (under d.store_then) reads v → Holds w.block.tree (under s.store) reads v
holds_at m s k t w d reads v = still_holds t s.store s.waiters w d reads v k.possible.unwoken

pub few_at : (m : Parts) (s : Slow) → IsAt m s → length s.waiters ≤ max_waiting
few_at m s k = k.possible.few

-- ---- the state after an event
pub moves_to : (m m' : Parts) (s : Slow) (what : What) → IsAt m s → Allows s what → Stands (after s what) m' → (Allows s what × IsAt m' (after s what))
moves_to m m' s what k a q = (a, record { possible = possible_after s what k.possible a; stands = q })

-- what has the same tickets queued or out is at the same state
pub requeued : (m : Parts) (s : Slow) (ps : List Entry) → ((u : ℕ) → has_ticket u ps ≡ has_ticket u m.pending) → IsAt m s → IsAt (record m { pending = ps }) s
requeued m s ps same k = record {
  possible = k.possible;
  stands = record {
    rule_is = k.stands.rule_is;
    store_is = k.stands.store_is;
    names_are = k.stands.names_are;
    next_is = k.stands.next_is;
    entries_are = k.stands.entries_are;
    queue = λ u. same u ∙ k.stands.queue u;
    index = k.stands.index;
  };
}

-- ---- two states that a machine is at
-- under a ticket the same block waits in both, current in both or in neither
pub record IsLike (w : Waiter) (o : Option Waiter) : Type 0 where
  pub other : Waiter
  pub found : o ≡ Some other
  pub block : other.block ≡ w.block
  pub current : is_current other ≡ is_current w

same_flags : (a b : Bool) → not a ≡ not b → a ≡ b
same_flags true true e = refl
same_flags true false e = cc
same_flags false true e = cc
same_flags false false e = refl

like_by : (w : Waiter) (x : Option Waiting) (o p : Option Waiter) → o ≡ Some w → IsFound x o → IsFound x p → due_of p ≡ due_of o → IsLike w p
like_by w x None p e f g d = cc
like_by w None (Some v) p e f g d = absurd f
like_by w (Some y) (Some v) None e f g d = absurd g
like_by w (Some y) (Some v) (Some u) e f g d =
    let q : v ≡ w = cc in
    subst (λ (z : Waiter). IsLike z (Some u)) q (record { other = u; found = refl; block = sym g.block ∙ f.block; current = same_flags (is_current u) (is_current v) d })

pub like_at : (m : Parts) (s s' : Slow) → IsAt m s → IsAt m s' → (t : ℕ) (w : Waiter) → find_waiter t s.waiters ≡ Some w → IsLike w (find_waiter t s'.waiters)
like_at m s s' k k' t w e =
    like_by w _ (find_waiter t s.waiters) (find_waiter t s'.waiters) e (found t m.entries s.waiters k.stands.entries_are) (found t m.entries s'.waiters k'.stands.entries_are)
    (sym (k'.stands.queue t) ∙ k.stands.queue t)

pub same_verdict : (store store' : List Cell) (b b' : Block) (v : Verdict) → store' ≡ store → b' ≡ b → verdict_on store b ≡ Some v → verdict_on store' b' ≡ Some v
same_verdict store store' b b' v e f h = rw (e, f) h

pub same_rule : (m : Parts) (s s' : Slow) → IsAt m s → IsAt m s' → s'.rule ≡ s.rule
same_rule m s s' k k' = sym k'.stands.rule_is ∙ k.stands.rule_is

pub same_store : (m : Parts) (s s' : Slow) → IsAt m s → IsAt m s' → s'.store ≡ s.store
same_store m s s' k k' = sym k'.stands.store_is ∙ k.stands.store_is

pub same_length : (m : Parts) (s s' : Slow) → IsAt m s → IsAt m s' → length s'.waiters ≡ length s.waiters
same_length m s s' k k' = sym (length_due m.entries s'.waiters k'.stands.entries_are) ∙ length_due m.entries s.waiters k.stands.entries_are
