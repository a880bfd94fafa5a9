-- What `atomically` does, event by event: each is allowed, and what it leaves.
use Rattle.std.proofs.Common.{◌≡◌, ℕ, ◌+◌, ◌<◌, ◌≤◌, true, false, not, List, [], ◌∷◌, ◌++◌, map, length, Option, Some, None, refl, sym, ap, subst, ◌∙◌, arith}
use Rattle.std.specs.Prelude.{nat_eq, IsSomeAnd}
use Rattle.std.proofs.lemmas.Bool.Decides.{nat_tests}
use Rattle.stm_terms.specs.declared.verdicts.Verdict.{Verdict}
use Rattle.stm_store.specs.declared.cell.Cell.{Cell}
use Rattle.stm_store.specs.Cells.{plains, Covers, applied, made_by}
use Rattle.stm_check.specs.TypedBlock.{Block}
use Rattle.stm_events.specs.declared.event.What.{What}
use Rattle.stm_events.specs.declared.event.What.TheVariants.{Submitted, Installed, Finished}
use Rattle.stm_events.specs.SlowAtomically.{atomically, AllowsEach}
use Rattle.stm_events.specs.SlowDesk.{Waiter, Slow, verdict_on, looked_on, waking, is_blocks, intersects, find_waiter, without_waiter, with_delivery, delivered, after_writes, stale_after, after, Allows, MayInstall, MayFinish, max_cells}
use Rattle.stm_terms.specs.Limits.{max_waiting}
use Rattle.stm_events.specs.SlowDrain.{after_all}
use Rattle.stm_events.specs.Laws.{AreRising}
use Rattle.stm_events.specs.States.{IsPossible}
use Rattle.stm_events.proofs.Possible.{possible_after}

-- ---- the waiting blocks, and one more under the next ticket
itself : (t : ℕ) → nat_eq t t ≡ true
itself t = grind (arith, nat_tests)

above : (t n u : ℕ) → n ≤ t → u < n → nat_eq t u ≡ false
above t n u l h = grind (arith, nat_tests)

-- under a ticket that isn't given yet none waits
pub absent_without : (t n k : ℕ) (ws : List Waiter) → n ≤ t → AreRising n k ws → without_waiter t ws ≡ ws
absent_without t n k [] l r = refl
absent_without t n k (w ∷ ws) l r = rw (above t n w.ticket l r.1) (ap (λ (vs : List Waiter). w ∷ vs) (absent_without t n w.ticket ws l r.2))

last_gone : (t n k : ℕ) (one : Waiter) (ws : List Waiter) → one.ticket ≡ t → n ≤ t → AreRising n k ws → without_waiter t (ws ++ one ∷ []) ≡ ws
last_gone t n k one [] e l r = rw (e, itself t) refl
last_gone t n k one (w ∷ ws) e l r = rw (above t n w.ticket l r.1) (ap (λ (vs : List Waiter). w ∷ vs) (last_gone t n w.ticket one ws e l r.2))

last_delivered : (t n k : ℕ) (store : List Cell) (one : Waiter) (ws : List Waiter) → one.ticket ≡ t → n ≤ t → AreRising n k ws → delivered t store (ws ++ one ∷ []) ≡ ws ++ with_delivery store one ∷ []
last_delivered t n k store one [] e l r = rw (e, itself t) refl
last_delivered t n k store one (w ∷ ws) e l r = rw (above t n w.ticket l r.1) (ap (λ (vs : List Waiter). w ∷ vs) (last_delivered t n w.ticket store one ws e l r.2))

pub last_found : (t n k : ℕ) (one : Waiter) (ws : List Waiter) → one.ticket ≡ t → n ≤ t → AreRising n k ws → find_waiter t (ws ++ one ∷ []) ≡ Some one
last_found t n k one [] e l r = rw (e, itself t) refl
last_found t n k one (w ∷ ws) e l r = rw (above t n w.ticket l r.1) (last_found t n w.ticket one ws e l r.2)

meets_nothing : (is : List ℕ) → intersects [] is ≡ false
meets_nothing [] = refl
meets_nothing (i ∷ is) = meets_nothing is

-- ---- what may be run, by its verdict
pub record MayRun (s : Slow) (block : Block) (v : Verdict) : Type 0 where
  pub covered : Covers (plains s.store) block.uses
  pub few : length s.waiters < max_waiting
  pub verdict_is : verdict_on s.store block ≡ Some v

module _ (s : Slow) (block : Block) (v : Verdict) (p : IsPossible s) where
  abbrev new : Waiter
  new = record { ticket = s.next; block = block; since = None }

  abbrev pub submitted : Slow
  submitted = after s (Submitted s.next block)

  abbrev pub installed : Slow
  installed = after submitted (Installed s.next v)

  waiting_last : installed.waiters ≡ s.waiters ++ with_delivery s.store new ∷ []
  waiting_last = last_delivered s.next s.next 0 s.store new s.waiters refl (omega arith) p.rising

  pub others_wait : without_waiter s.next installed.waiters ≡ s.waiters
  others_wait = ap (without_waiter s.next) waiting_last ∙ last_gone s.next s.next 0 (with_delivery s.store new) s.waiters refl (omega arith) p.rising

  found_new : find_waiter s.next submitted.waiters ≡ Some new
  found_new = last_found s.next s.next 0 new s.waiters refl (omega arith) p.rising

  found_installed : find_waiter s.next installed.waiters ≡ Some (with_delivery s.store new)
  found_installed = ap (find_waiter s.next) waiting_last ∙ last_found s.next s.next 0 (with_delivery s.store new) s.waiters refl (omega arith) p.rising

  pub submit_allowed : MayRun s block v → Allows s (Submitted s.next block)
  submit_allowed m = (refl, m.covered, m.few)

  pub install_allowed : MayRun s block v → Allows submitted (Installed s.next v)
  install_allowed m =
      let may : MayInstall submitted new v = record { not_current = refl; verdict_is = m.verdict_is } in
      subst (λ (o : Option Waiter). IsSomeAnd o (λ w. MayInstall submitted w v)) (sym found_new) may

  pub finish_allowed : (stale : List ℕ) → MayRun s block v → is_blocks v ≡ false → length s.store + length (made_by v) ≤ max_cells → stale ≡ stale_after (waking s.rule s.store v) s.waiters
      → Allows installed (Finished s.next v (length s.store) stale)
  finish_allowed stale m ends room listed =
      let one = with_delivery s.store new in
      let may : MayFinish installed s.next one v (length s.store) stale = record {
        current = ap not (meets_nothing (looked_on s.store block));
        verdict_is = m.verdict_is;
        ends = ends;
        first_new = refl;
        room = room;
        listed = listed ∙ ap (stale_after (waking s.rule s.store v)) (sym others_wait);
      } in
      subst (λ (o : Option Waiter). IsSomeAnd o (λ w. MayFinish installed s.next w v (length s.store) stale)) (sym found_installed) may

  -- ---- a block that waits
  pub whats_waiting : verdict_on s.store block ≡ Some v → is_blocks v ≡ true → atomically s block ≡ Submitted s.next block ∷ Installed s.next v ∷ []
  whats_waiting e b = rw (e, b) refl

  pub waiting_allowed : MayRun s block v → AllowsEach s (Submitted s.next block ∷ Installed s.next v ∷ [])
  waiting_allowed m = (submit_allowed m, (install_allowed m, tt))

  -- ---- a block that ends
  pub whats_ending : (stale : List ℕ) → verdict_on s.store block ≡ Some v → is_blocks v ≡ false → stale ≡ stale_after (waking s.rule s.store v) s.waiters
      → atomically s block ≡ Submitted s.next block ∷ Installed s.next v ∷ Finished s.next v (length s.store) stale ∷ []
  whats_ending stale e b listed = rw (e, b) (ap (λ (l : List ℕ). Submitted s.next block ∷ Installed s.next v ∷ Finished s.next v (length s.store) l ∷ []) (ap (stale_after (waking s.rule s.store v)) others_wait ∙ sym listed))

  pub ending_allowed : (stale : List ℕ) → MayRun s block v → is_blocks v ≡ false → length s.store + length (made_by v) ≤ max_cells → stale ≡ stale_after (waking s.rule s.store v) s.waiters
      → AllowsEach s (Submitted s.next block ∷ Installed s.next v ∷ Finished s.next v (length s.store) stale ∷ [])
  ending_allowed stale m b room listed = (submit_allowed m, (install_allowed m, (finish_allowed stale m b room listed, tt)))

  -- the state after it: the block was never among those that wait
  pub after_ending : (stale : List ℕ) → after_all s (Submitted s.next block ∷ Installed s.next v ∷ Finished s.next v (length s.store) stale ∷ [])
      ≡ record s { store = applied s.store v; next = s.next + 1; waiters = map (after_writes (waking s.rule s.store v)) s.waiters }
  after_ending stale = ap (λ (ws : List Waiter). record s { store = applied s.store v; next = s.next + 1; waiters = map (after_writes (waking s.rule s.store v)) ws }) others_wait

-- ---- the state after events that are allowed is possible
pub possible_all : (s : Slow) (whats : List What) → IsPossible s → AllowsEach s whats → IsPossible (after_all s whats)
possible_all s [] p a = p
possible_all s (x ∷ xs) p a = possible_all (after s x) xs (possible_after s x p a.0) a.1
