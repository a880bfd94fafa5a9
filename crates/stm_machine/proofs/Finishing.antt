-- A block that may finish, and what its finish leaves.
use Rattle.std.proofs.Common.{◌≡◌, ℕ, ◌+◌, ◌≤◌, Bool, true, false, not, ◌&&◌, cond, List, [], length, Option, Some, None, refl, sym, ap, subst, ◌∙◌, arith}
use Rattle.std.specs.Prelude.{nat_le, nat_eq, if◌then◌else◌}
use Rattle.std.specs.List.{list_any}
use Rattle.std.proofs.lemmas.Bool.Decides.{nat_tests}
use Rattle.stm_terms.specs.declared.verdicts.Verdict.{Verdict}
use Rattle.stm_terms.specs.ReadSet.{reads_of}
use Rattle.stm_store.specs.declared.cell.Cell.{Cell}
use Rattle.stm_store.specs.Cells.{plains, Covers, Fits, StoreIsTyped, applied, made_by}
use Rattle.stm_terms.specs.Typing.{ActionType, action_type, kinds_in}
use Rattle.stm_check.specs.TypedBlock.{Block}
use Rattle.stm_check.proofs.Weakening.{verdict_fits}
use Rattle.stm_eval.specs.Messages.{Holds}
use Rattle.stm_watch.specs.Pairs.{Pairs, watches}
use Rattle.stm_queue.specs.Queue.{has_ticket}
use Rattle.stm_queue.specs.SortedTickets.{IsRising}
use Rattle.stm_events.specs.declared.event.What.TheVariants.{Finished}
use Rattle.stm_events.specs.declared.staleness.StalenessRule.{StalenessRule}
use Rattle.stm_events.specs.SlowDesk.{Since, Waiter, under, verdict_on, waking, is_blocks, is_new, is_current, is_stale_since, current_since, stale_after, find_waiter, without_waiter, Slow, after, Allows, max_cells}
use Rattle.stm_events.specs.Laws.{AreRising}
use Rattle.stm_events.proofs.Rising.{waiter_without, rising_without}
use Rattle.stm_waiting.specs.declared.waiting.Held.{Held}
use Rattle.stm_waiting.specs.declared.waiting.Waiting.{Waiting}
use Rattle.stm_events.specs.declared.errors.FinishError.TheVariants as finish
use Rattle.stm_waiting.specs.Entries.{kept_at, lose}
use Rattle.stm_machine.specs.Entries.{IsHeld}
use Rattle.stm_machine.specs.Machine.{Parts, IsAt}
use Rattle.stm_machine.specs.QueueAndIndex.{due_of, with_tickets}
use Rattle.stm_machine.specs.Plans.{IsPlan}
use Rattle.stm_events.specs.Refusals.{overflows, finish_first}
use Rattle.stm_machine.proofs.Calls.{waits}
use Rattle.stm_machine.proofs.Delivery.{not_current, current}
use Rattle.stm_machine.proofs.MovesFollowEvents.{IsUnwatched, stands_finish}
use Rattle.stm_machine.proofs.QueueAndIndexByTicket.{stale_of, has_stale}
use Rattle.stm_machine.proofs.AscendingListsAreOne.{stale_is, stale_rising, watched_stale}
use Rattle.stm_machine.proofs.States.{IsLike, rising_at, covered_at, holds_at, moves_to, like_at, same_verdict, same_rule, same_store}

-- ---- what it is refused for, by what is kept
pub no_ticket : (store : List Cell) (full : Bool) (o : Option Waiter) → o ≡ None → finish_first store full o ≡ Some finish.NoTicket
no_ticket store full o e = rw e refl

pub not_evaluated : (store : List Cell) (full : Bool) (o : Option Waiter) (w : Waiter) → o ≡ Some w → w.since ≡ None → finish_first store full o ≡ Some finish.NotEvaluated
not_evaluated store full o w e n = rw (e, n) refl

-- a block with a delivery, and whether it is current
pub first_stale : (store : List Cell) (full : Bool) (o : Option Waiter) (w : Waiter) (s : Since) → o ≡ Some w → w.since ≡ Some s → is_current w ≡ false → finish_first store full o ≡ Some finish.Stale
first_stale store full o w s e n c =
    let d : is_new w ≡ false = rw n refl in
    rw (e, c, d) refl

pub first_blocks : (store : List Cell) (full : Bool) (o : Option Waiter) (w : Waiter) (s : Since) (v : Verdict) → o ≡ Some w → w.since ≡ Some s → is_current w ≡ true → verdict_on store w.block ≡ Some v → is_blocks v ≡ true
    → finish_first store full o ≡ Some finish.Blocks
first_blocks store full o w s v e n c r b =
    let d : is_new w ≡ false = rw n refl in
    rw (e, c, d, r, b) refl

pub first_rest : (store : List Cell) (full : Bool) (o : Option Waiter) (w : Waiter) (s : Since) (v : Verdict) → o ≡ Some w → w.since ≡ Some s → is_current w ≡ true → verdict_on store w.block ≡ Some v → is_blocks v ≡ false
    → finish_first store full o ≡ (if full then Some finish.HistoryFull else if overflows store (Some v) then Some finish.CellsFull else None)
first_rest store full o w s v e n c r b =
    let d : is_new w ≡ false = rw n refl in
    rw (e, c, d, r, b) refl

-- ---- the kept verdict is that of the present store
since_by : (b : Block) (h : Held) (o : Option Since) → IsHeld b (Some h) o → (s : Since) × (o ≡ Some s) × Holds b.tree (under s.store_then) h.reads h.verdict
since_by b h None i = absurd i
since_by b h (Some s) i = (s, refl, i)

none_by : (b : Block) (o : Option Since) → IsHeld b None o → o ≡ None
none_by b None i = refl
none_by b (Some s) i = absurd i

not_stale : (b : Block) (o : Option Since) (s : Since) → o ≡ Some s → current_since b o ≡ true → is_stale_since b s ≡ false
not_stale b None s e c = cc
not_stale b (Some z) s e c = let q : z ≡ s = cc in subst (λ (x : Since). is_stale_since b x ≡ false) q (flip (is_stale_since b z) c) where
  flip : (a : Bool) → not a ≡ true → a ≡ false
  flip true h = cc
  flip false h = refl

module _ (m : Parts) (s : Slow) (k : IsAt m s) where
  -- a block that waits with a delivery
  pub record HasHeld (t : ℕ) (h : Held) (x : Waiting) : Type 0 where
    pub one : Waiter
    pub found : find_waiter t s.waiters ≡ Some one
    pub block : x.block ≡ one.block
    pub since : Since
    pub since_is : one.since ≡ Some since
    pub holds : Holds one.block.tree (under since.store_then) h.reads h.verdict

  pub has_held : (t : ℕ) (x : Waiting) (h : Held) → kept_at t m.entries ≡ Some x → x.held ≡ Some h → HasHeld t h x
  has_held t x h e q =
      let p = waits t x m.entries s.waiters k.stands.entries_are e in
      let i : IsHeld p.one.block (Some h) p.one.since = subst (λ (o : Option Held). IsHeld p.one.block o p.one.since) q p.same.held in
      let d = since_by p.one.block h p.one.since i in
      record { one = p.one; found = p.found; block = p.same.block; since = d.0; since_is = d.1; holds = d.2 }

  pub no_held : (t : ℕ) (x : Waiting) → kept_at t m.entries ≡ Some x → x.held ≡ None → (w : Waiter) × (find_waiter t s.waiters ≡ Some w) × (w.since ≡ None)
  no_held t x e q =
      let p = waits t x m.entries s.waiters k.stands.entries_are e in
      let i : IsHeld p.one.block None p.one.since = subst (λ (o : Option Held). IsHeld p.one.block o p.one.since) q p.same.held in
      (p.one, p.found, none_by p.one.block p.one.since i)

  pub is_stale : (t : ℕ) (h : Held) (x : Waiting) (b : Bool) → (p : HasHeld t h x) → b ≡ has_ticket t m.pending → b ≡ true → is_current p.one ≡ false
  is_stale t h x b p e c = not_current (find_waiter t s.waiters) p.one b p.found (e ∙ k.stands.queue t) c

  pub is_fresh : (t : ℕ) (h : Held) (x : Waiting) (b : Bool) → (p : HasHeld t h x) → b ≡ has_ticket t m.pending → b ≡ false → is_current p.one ≡ true
  is_fresh t h x b p e c = current (find_waiter t s.waiters) p.one b p.found (e ∙ k.stands.queue t) c

  pub present : (t : ℕ) (h : Held) (x : Waiting) → (p : HasHeld t h x) → is_current p.one ≡ true → verdict_on s.store p.one.block ≡ Some h.verdict
  present t h x p c =
      (holds_at m s k t p.one p.since h.reads h.verdict p.found p.since_is (not_stale p.one.block p.one.since p.since p.since_is c) p.holds).verdict_is

  pub present_reads : (t : ℕ) (h : Held) (x : Waiting) → (p : HasHeld t h x) → is_current p.one ≡ true → reads_of (under s.store) p.one.block.tree ≡ h.reads
  present_reads t h x p c =
      (holds_at m s k t p.one p.since h.reads h.verdict p.found p.since_is (not_stale p.one.block p.one.since p.since p.since_is c) p.holds).reads_are

  pub fits : (t : ℕ) (h : Held) (x : Waiting) (r : ActionType) → (p : HasHeld t h x) → is_current p.one ≡ true → StoreIsTyped (plains m.store) → action_type (kinds_in x.block.uses) [] x.block.tree ≡ Some r → Fits (plains s.store) h.verdict
  fits t h x r p c typed action =
      let ty : StoreIsTyped (plains s.store) = subst (λ (z : List Cell). StoreIsTyped (plains z)) k.stands.store_is typed in
      let co : Covers (plains s.store) p.one.block.uses = covered_at m s k t p.one p.found in
      let ac : action_type (kinds_in p.one.block.uses) [] p.one.block.tree ≡ Some r = subst (λ (b : Block). action_type (kinds_in b.uses) [] b.tree ≡ Some r) p.block action in
      verdict_fits (plains s.store) p.one.block.uses p.one.block.tree r h.verdict ty co ac (present t h x p c)

room_of : (a : ℕ) → not (nat_le a 1000000) ≡ false → a ≤ 1000000
room_of a e = grind (arith, nat_tests)

pub is_plan : (m : Parts) (s : Slow) (k : IsAt m s) (t : ℕ) (h : Held) (x : Waiting) (r : ActionType) (p : HasHeld m s k t h x) (verdict : Verdict) (n : ℕ) (stale : List ℕ)
    → is_current p.one ≡ true → StoreIsTyped (plains m.store) → action_type (kinds_in x.block.uses) [] x.block.tree ≡ Some r
    → is_blocks h.verdict ≡ false → overflows m.store (Some h.verdict) ≡ false
    → verdict ≡ h.verdict → n ≡ length m.store → IsRising stale → ((u : ℕ) → list_any (nat_eq u) stale ≡ (not (nat_eq u t) && watches m.watch (waking m.rule m.store h.verdict) u))
    → IsPlan s t verdict n stale
is_plan m s k t h x r p verdict n stale c typed action ends room ve ne inc q =
    record {
      one = p.one;
      found = p.found;
      may = record {
        current = c;
        verdict_is = present m s k t h x p c ∙ ap Some (sym ve);
        ends = ap is_blocks ve ∙ ends;
        first_new = ne ∙ ap length k.stands.store_is;
        room =
            let a : not (nat_le (length s.store + length (made_by h.verdict)) 1000000) ≡ false = subst (λ (z : List Cell). overflows z (Some h.verdict) ≡ false) k.stands.store_is room in
            let b : length s.store + length (made_by h.verdict) ≤ max_cells = room_of (length s.store + length (made_by h.verdict)) a in
            subst (λ (v : Verdict). length s.store + length (made_by v) ≤ max_cells) (sym ve) b;
        listed =
            stale_is m.watch m.entries s.waiters (waking m.rule m.store h.verdict) stale s.next t k.stands.entries_are k.stands.index (rising_at m s k) inc q
            ∙ ap (λ (r : StalenessRule). stale_after (waking r m.store h.verdict) (without_waiter t s.waiters)) k.stands.rule_is
            ∙ ap (λ (z : List Cell). stale_after (waking s.rule z h.verdict) (without_waiter t s.waiters)) k.stands.store_is
            ∙ ap (λ (v : Verdict). stale_after (waking s.rule s.store v) (without_waiter t s.waiters)) (sym ve);
      };
      fits = subst (λ (v : Verdict). Fits (plains s.store) v) (sym ve) (fits m s k t h x r p c typed action);
    }

-- ---- the stale tickets aren't queued yet
becomes_bools : (a b : Bool) → (a && not b) ≡ true → a ≡ true
becomes_bools true b e = refl
becomes_bools false b e = cc

stale_due : (woken : List ℕ) (d : Bool) (o : Option Waiter) → stale_of woken (cond d None o) ≡ true → due_of o ≡ false
stale_due woken true o e = cc
stale_due woken false None e = cc
stale_due woken false (Some w) e = ap not (becomes_bools (is_current w) _ e)

pub plan_absent : (m : Parts) (s : Slow) → IsAt m s → (t : ℕ) (verdict : Verdict) (n : ℕ) (stale : List ℕ) → IsPlan s t verdict n stale
    → (u : ℕ) → list_any (nat_eq u) stale ≡ true → has_ticket u m.pending ≡ false
plan_absent m s k t verdict n stale p u e =
    let W = waking s.rule s.store verdict in
    let r : AreRising s.next 0 s.waiters = rising_at m s k in
    let q : stale_of W (cond (nat_eq u t) None (find_waiter u s.waiters)) ≡ true =
    sym (ap (list_any (nat_eq u)) p.may.listed ∙ has_stale u s.next 0 W (without_waiter t s.waiters) (rising_without t s.next 0 s.waiters r) ∙ ap (stale_of W) (waiter_without t u s.next 0 s.waiters r)) ∙ e in
    k.stands.queue u ∙ stale_due W (nat_eq u t) (find_waiter u s.waiters) q

pub plan_rising : (m : Parts) (s : Slow) → IsAt m s → (t : ℕ) (verdict : Verdict) (n : ℕ) (stale : List ℕ) → IsPlan s t verdict n stale → IsRising stale
plan_rising m s k t verdict n stale p =
    subst IsRising (sym p.may.listed) (stale_rising s.next 0 (waking s.rule s.store verdict) (without_waiter t s.waiters) (rising_without t s.next 0 s.waiters (rising_at m s k)))

-- the verdict of a plan fits what is held
pub plan_fits : (m : Parts) (s : Slow) → IsAt m s → (t : ℕ) (verdict : Verdict) (n : ℕ) (stale : List ℕ) → IsPlan s t verdict n stale → Fits (plains m.store) verdict
plan_fits m s k t verdict n stale p = subst (λ (z : List Cell). Fits (plains z) verdict) (sym k.stands.store_is) p.fits

-- a plan at one state of the machine is one at each
plan_alike : (m : Parts) (s s' : Slow) (t : ℕ) (verdict : Verdict) (n : ℕ) (stale : List ℕ) → IsAt m s → IsPlan s t verdict n stale → IsAt m s' → IsPlan s' t verdict n stale
plan_alike m s s' t verdict n stale k p k' =
    let l : IsLike p.one (find_waiter t s'.waiters) = like_at m s s' k k' t p.one p.found in
    let store : s'.store ≡ s.store = same_store m s s' k k' in
    let W = waking s.rule s.store verdict in
    let ws = without_waiter t s.waiters in
    let r : AreRising s.next 0 s.waiters = rising_at m s k in
    let q : (u : ℕ) → list_any (nat_eq u) stale ≡ (not (nat_eq u t) && watches m.watch W u) = λ u.
    ap (list_any (nat_eq u)) p.may.listed ∙ watched_stale m.watch m.entries s.waiters W s.next t u k.stands.entries_are k.stands.index r in
    record {
      one = l.other;
      found = l.found;
      may = record {
        current = l.current ∙ p.may.current;
        verdict_is = same_verdict s.store s'.store p.one.block l.other.block verdict store l.block p.may.verdict_is;
        ends = p.may.ends;
        first_new = p.may.first_new ∙ ap length (sym store);
        room = subst (λ (z : List Cell). length z + length (made_by verdict) ≤ max_cells) (sym store) p.may.room;
        listed =
            stale_is m.watch m.entries s'.waiters W stale s'.next t k'.stands.entries_are k'.stands.index (rising_at m s' k') (plan_rising m s k t verdict n stale p) q
            ∙ ap (λ (r : StalenessRule). stale_after (waking r s.store verdict) (without_waiter t s'.waiters)) (sym (same_rule m s s' k k'))
            ∙ ap (λ (z : List Cell). stale_after (waking s'.rule z verdict) (without_waiter t s'.waiters)) (sym store);
      };
      fits = subst (λ (z : List Cell). Fits (plains z) verdict) (sym store) p.fits;
    }

pub moves_finish : (m : Parts) (s s' : Slow) (store' : List Cell) (watch' : Pairs) (t : ℕ) (verdict : Verdict) (n : ℕ) (stale : List ℕ)
    → IsAt m s → IsPlan s t verdict n stale → IsAt m s' → store' ≡ applied m.store verdict → IsUnwatched t stale m.entries m.watch watch'
    → (Allows s' (Finished t verdict n stale) × IsAt (record m { store = store'; entries = lose t m.entries; pending = with_tickets stale m.pending; watch = watch' }) (after s' (Finished t verdict n stale)))
moves_finish m s s' store' watch' t verdict n stale k c k' st q =
    let p : IsPlan s' t verdict n stale = plan_alike m s s' t verdict n stale k c k' in
    let a : Allows s' (Finished t verdict n stale) = rw p.found p.may in
    moves_to m _ s' (Finished t verdict n stale) k' a
    (stands_finish s' m store' watch' t p.one verdict n stale (rising_at m s' k') k'.stands p.found p.may.current p.may.listed st q)
