-- Running a block atomically: what it leaves is what the slow desk has after its events.
use Rattle.std.proofs.Common.{◌≡◌, ℕ, ◌+◌, ◌<◌, ◌≤◌, Bool, true, false, not, ◌&&◌, ◌||◌, List, [], ◌∷◌, ◌++◌, map, length, Option, Some, None, refl, sym, ap, subst, ◌∙◌, arith}
use Rattle.std.specs.Prelude.{nat_le, nat_eq, Result, Ok, Err, IfOk, OnOk, IsSomeAnd}
use Rattle.std.specs.List.{list_any}
use Rattle.std.proofs.lemmas.Bool.Decides.{nat_tests}
use Rattle.stm_terms.specs.declared.kinds.Ty.{Ty}
use Rattle.stm_terms.specs.declared.values.Value.{Value}
use Rattle.stm_terms.specs.declared.verdicts.Verdict.{Verdict}
use Rattle.stm_terms.specs.Changes.{cell_value}
use Rattle.stm_terms.specs.ReadSet.{reads_of}
use Rattle.stm_terms.specs.Typing.{ActionType, action_type, kinds_in}
use Rattle.stm_terms.specs.Verdict.{verdict}
use Rattle.stm_store.specs.declared.cell.Cell.{Cell}
use Rattle.stm_store.specs.Cells.{plains, Covers, Fits, StoreIsTyped, applied, made_by}
use Rattle.stm_check.specs.TypedBlock.{Block}
use Rattle.stm_check.proofs.Weakening.{verdict_fits}
use Rattle.stm_eval.specs.Messages.{Holds}
use Rattle.stm_watch.specs.Pairs.{Pairs, has_pair, is_read, watches, WithReads}
use Rattle.stm_queue.specs.Queue.{Entry, has_ticket, with_ticket}
use Rattle.stm_queue.specs.SortedTickets.{IsRising, member}
use Rattle.stm_queue.proofs.Merging.{removed_with, has_with, itself}
use Rattle.stm_events.specs.declared.event.What.{What}
use Rattle.stm_events.specs.declared.event.What.TheVariants.{Submitted, Installed, Finished}
use Rattle.stm_events.specs.declared.staleness.StalenessRule.{StalenessRule}
use Rattle.stm_events.specs.Refusals.{missing, overflows, submit_refused}
use Rattle.stm_events.specs.SlowAtomically.{AllowsEach}
use Rattle.stm_events.specs.SlowDesk.{Waiter, Slow, under, verdict_on, waking, is_blocks, stale_after, after_writes, find_waiter, without_waiter, after, MayInstall, Allows, is_current, max_cells}
use Rattle.stm_terms.specs.Limits.{max_waiting}
use Rattle.stm_events.specs.SlowDrain.{after_all}
use Rattle.stm_events.proofs.Atomically.{MayRun, absent_without, last_found, ending_allowed, after_ending, possible_all}
use Rattle.stm_events.proofs.Rising.{waiter_marks}
use Rattle.stm_waiting.specs.declared.waiting.Held.{Held}
use Rattle.stm_waiting.specs.declared.waiting.Waiting.{Waiting}
use Rattle.stm_waiting.specs.Entries.{kept_at, lose, with_held, AllBelow}
use Rattle.stm_machine.specs.declared.finish.Plan.{Plan}
use Rattle.stm_machine.specs.Atomic.{IsVerdictOf, IsRunPlan, PlansRun}
use Rattle.stm_machine.specs.Entries.{kept_reads, kept_ends}
use Rattle.stm_machine.specs.Machine.{Parts, Stands, IsAt}
use Rattle.stm_machine.specs.QueueAndIndex.{due_of, watches_of, with_tickets}
use Rattle.stm_machine.specs.ReadySet.{AreReady}
use Rattle.stm_machine.proofs.BlocksByTicket.{inserted_waits}
use Rattle.stm_machine.proofs.Calls.{MaySubmit, may_submit, none_missing, below_limit, moves_submit, next_absent}
use Rattle.stm_machine.proofs.KeptBlocksWait.{due_marks}
use Rattle.stm_machine.proofs.MovesFollowEvents.{stands_install, reads_there}
use Rattle.stm_machine.proofs.QueueAndIndexByTicket.{has_with_tickets, stale_of, has_stale, queue_finished, index_finished}
use Rattle.stm_machine.proofs.Ready.{ready_wait, ready_held}
use Rattle.stm_machine.proofs.AscendingListsAreOne.{stale_is, stale_rising, watched_stale}
use Rattle.stm_machine.proofs.States.{rising_at, moves_to, same_rule, same_store, same_verdict}

-- ---- the verdict of a block that may be submitted
pub may_wait : (m : Parts) (s : Slow) (b : Block) → IsAt m s → submit_refused s false b ≡ None → MaySubmit (missing (plains s.store) b.uses) (nat_le max_waiting (length s.waiters))
may_wait m s b k e = may_submit (missing (plains s.store) b.uses) (nat_le max_waiting (length s.waiters)) e

pub is_covered : (m : Parts) (s : Slow) (b : Block) → IsAt m s → submit_refused s false b ≡ None → Covers (plains m.store) b.uses
is_covered m s b k e = subst (λ (cells : List Cell). Covers (plains cells) b.uses) (sym k.stands.store_is) (none_missing (plains s.store) b.uses (may_wait m s b k e).covers)

verdict_there : (m : Parts) (s s' : Slow) (b : Block) (v : Verdict) (cells : List (Ty × Value)) (reads : List (ℕ × Value)) (r : ActionType) → IsAt m s → submit_refused s false b ≡ None → IsAt m s'
    → cells ≡ plains m.store → StoreIsTyped (plains m.store) → action_type (kinds_in b.uses) [] b.tree ≡ Some r → verdict (cell_value cells) b.tree ≡ Some v → reads ≡ reads_of (cell_value cells) b.tree → IsVerdictOf s' b v reads
verdict_there m s s' b v cells reads r k e k' c typed action f g =
    let same : cells ≡ plains s'.store = c ∙ ap plains k'.stands.store_is in
    let ty : StoreIsTyped (plains s'.store) = subst (λ (z : List Cell). StoreIsTyped (plains z)) k'.stands.store_is typed in
    let co : Covers (plains s'.store) b.uses = subst (λ (z : List Cell). Covers (plains z) b.uses) k'.stands.store_is (is_covered m s b k e) in
    let is : verdict_on s'.store b ≡ Some v = rw (← same) f in
    record { verdict = is; fits = verdict_fits (plains s'.store) b.uses b.tree r v ty co action is; reads_are = rw (← same) g }

pub if_verdict_of : {E : Type 0} (m : Parts) (s : Slow) (b : Block) (cells : List (Ty × Value)) (reads : List (ℕ × Value)) (t : ActionType) (r : Result Verdict E) → IsAt m s → submit_refused s false b ≡ None
    → cells ≡ plains m.store → StoreIsTyped (plains m.store) → action_type (kinds_in b.uses) [] b.tree ≡ Some t
    → IfOk r (λ v. verdict (cell_value cells) b.tree ≡ Some v) → OnOk r (reads ≡ reads_of (cell_value cells) b.tree) → IfOk r (λ v. (s : Slow) → IsAt m s → IsVerdictOf s b v reads)
if_verdict_of m s b cells reads t (Ok v) k e c typed action f g = λ s' k'. verdict_there m s s' b v cells reads t k e k' c typed action f g
if_verdict_of m s b cells reads t (Err refused) k e c typed action f g = tt

-- ---- the plan
room_of : (a : ℕ) → not (nat_le a max_cells) ≡ false → a ≤ max_cells
room_of a e = grind (arith, nat_tests)

none_next : (m : Parts) (s : Slow) → IsAt m s → without_waiter m.next s.waiters ≡ s.waiters
none_next m s k = absent_without m.next s.next 0 s.waiters (let h = k.stands.next_is in omega arith) (rising_at m s k)

pub is_run_plan : (m : Parts) (s : Slow) → IsAt m s → (v : Verdict) (n : ℕ) (stale : List ℕ) → Fits (plains s.store) v → is_blocks v ≡ false → overflows s.store (Some v) ≡ false → n ≡ length m.store
    → IsRising stale → ((u : ℕ) → list_any (nat_eq u) stale ≡ (not (nat_eq u m.next) && watches m.watch (waking m.rule m.store v) u)) → IsRunPlan s v n stale
is_run_plan m s k v n stale fits ends room ne inc q =
    record {
      fits = fits;
      ends = ends;
      first_new_is = ne ∙ ap length k.stands.store_is;
      room = room_of (length s.store + length (made_by v)) room;
      listed =
          stale_is m.watch m.entries s.waiters (waking m.rule m.store v) stale s.next m.next k.stands.entries_are k.stands.index (rising_at m s k) inc q
          ∙ ap (stale_after (waking m.rule m.store v)) (none_next m s k)
          ∙ ap (λ (r : StalenessRule). stale_after (waking r m.store v) s.waiters) k.stands.rule_is
          ∙ ap (λ (z : List Cell). stale_after (waking s.rule z v) s.waiters) k.stands.store_is;
    }

pub if_planned : {E : Type 0} (m : Parts) (v : Verdict) (r : Result Plan E) → IfOk r (λ p. p.first_new ≡ length m.store) → IfOk r (λ p. IsRising p.stale)
    → IfOk r (λ p. (u : ℕ) → list_any (nat_eq u) p.stale ≡ (not (nat_eq u m.next) && watches m.watch (waking m.rule m.store v) u)) → IfOk r (λ p. PlansRun m v p.first_new p.stale)
if_planned m v (Ok p) n inc q = λ s k fits ends room. is_run_plan m s k v p.first_new p.stale fits ends room n inc q
if_planned m v (Err e) n inc q = tt

-- ---- the stale tickets rise, and aren't queued yet
becomes : (a b : Bool) → (a && not b) ≡ true → a ≡ true
becomes true b e = refl
becomes false b e = cc

not_due : (woken : List ℕ) (o : Option Waiter) → stale_of woken o ≡ true → due_of o ≡ false
not_due woken None e = cc
not_due woken (Some w) e = ap not (becomes (is_current w) _ e)

pub run_rising : (m : Parts) (s : Slow) → IsAt m s → (v : Verdict) (n : ℕ) (stale : List ℕ) → IsRunPlan s v n stale → IsRising stale
run_rising m s k v n stale p = subst IsRising (sym p.listed) (stale_rising s.next 0 (waking s.rule s.store v) s.waiters (rising_at m s k))

pub run_absent : (m : Parts) (s : Slow) → IsAt m s → (v : Verdict) (n : ℕ) (stale : List ℕ) → IsRunPlan s v n stale → (u : ℕ) → list_any (nat_eq u) stale ≡ true → has_ticket u m.pending ≡ false
run_absent m s k v n stale p u e =
    let W = waking s.rule s.store v in
    k.stands.queue u ∙ not_due W (find_waiter u s.waiters) (sym (ap (list_any (nat_eq u)) p.listed ∙ has_stale u s.next 0 W s.waiters (rising_at m s k)) ∙ e)

-- the verdict of a plan fits what is held
pub run_fits : (m : Parts) (s : Slow) → IsAt m s → (v : Verdict) (n : ℕ) (stale : List ℕ) → IsRunPlan s v n stale → Fits (plains m.store) v
run_fits m s k v n stale p = subst (λ (z : List Cell). Fits (plains z) v) (sym k.stands.store_is) p.fits

-- a plan at one state of the machine is one at each
run_alike : (m : Parts) (s s' : Slow) (v : Verdict) (n : ℕ) (stale : List ℕ) → IsAt m s → IsRunPlan s v n stale → IsAt m s' → IsRunPlan s' v n stale
run_alike m s s' v n stale k p k' =
    let store : s'.store ≡ s.store = same_store m s s' k k' in
    let W = waking s.rule s.store v in
    let q : (u : ℕ) → list_any (nat_eq u) stale ≡ (not (nat_eq u m.next) && watches m.watch W u) = λ u.
    ap (list_any (nat_eq u)) (p.listed ∙ ap (stale_after W) (sym (none_next m s k))) ∙ watched_stale m.watch m.entries s.waiters W s.next m.next u k.stands.entries_are k.stands.index (rising_at m s k) in
    record {
      fits = subst (λ (z : List Cell). Fits (plains z) v) (sym store) p.fits;
      ends = p.ends;
      first_new_is = p.first_new_is ∙ ap length (sym store);
      room = subst (λ (z : List Cell). length z + length (made_by v) ≤ max_cells) (sym store) p.room;
      listed =
          stale_is m.watch m.entries s'.waiters W stale s'.next m.next k'.stands.entries_are k'.stands.index (rising_at m s' k') (run_rising m s k v n stale p) q
          ∙ ap (stale_after W) (none_next m s' k')
          ∙ ap (λ (r : StalenessRule). stale_after (waking r s.store v) s'.waiters) (sym (same_rule m s s' k k'))
          ∙ ap (λ (z : List Cell). stale_after (waking s'.rule z v) s'.waiters) (sym store);
    }

-- ---- a block that ends
yes : (b : Bool) → (b && true) ≡ b
yes true = refl
yes false = refl

stands_run : (s : Slow) (m : Parts) (store' : List Cell) (watch' : Pairs) (v : Verdict) (stale : List ℕ) → IsAt m s → stale ≡ stale_after (waking s.rule s.store v) s.waiters → store' ≡ applied m.store v
    → ((x u : ℕ) → has_pair watch' x u ≡ (has_pair m.watch x u && not (list_any (nat_eq u) stale && is_read (kept_reads (kept_at u m.entries)) x)))
    → Stands (record s { store = applied s.store v; next = s.next + 1; waiters = map (after_writes (waking s.rule s.store v)) s.waiters })
    (record m { store = store'; next = m.next + 1; pending = with_tickets stale m.pending; watch = watch' })
stands_run s m store' watch' v stale at listed store_is q =
    let k = at.stands in
    let r = rising_at m s at in
    let W = waking s.rule s.store v in
    let there = λ (u : ℕ). waiter_marks u W s.waiters in
    let has_listed : (u : ℕ) → list_any (nat_eq u) stale ≡ stale_of W (find_waiter u s.waiters) = λ u. ap (list_any (nat_eq u)) listed ∙ has_stale u s.next 0 W s.waiters r in
    record {
      rule_is = k.rule_is;
      store_is = store_is ∙ ap (λ (x : List Cell). applied x v) k.store_is;
      names_are = k.names_are;
      next_is = ap (λ n. n + 1) k.next_is;
      entries_are = due_marks W m.entries s.waiters k.entries_are;
      queue = λ u.
          has_with_tickets u stale m.pending ∙ ap (λ (b : Bool). b || has_ticket u m.pending) (has_listed u)
          ∙ queue_finished false (has_ticket u m.pending) W (find_waiter u s.waiters) (k.queue u) (λ e. cc)
          ∙ sym (ap due_of (there u));
      index = λ x u.
          q x u ∙ ap (λ (b : Bool). has_pair m.watch x u && not (b && is_read (kept_reads (kept_at u m.entries)) x)) (has_listed u)
          ∙ sym (yes (has_pair m.watch x u && not (stale_of W (find_waiter u s.waiters) && is_read (kept_reads (kept_at u m.entries)) x)))
          ∙ index_finished false (has_pair m.watch x u) false (is_read (kept_reads (kept_at u m.entries)) x) x W (find_waiter u s.waiters) (k.index x u) (λ e. absurd (cc))
          (λ e y g. ap (λ (rs : List (ℕ × Value)). is_read rs x) (reads_there u m.entries s.waiters y k.entries_are g))
          ∙ sym (ap (λ (o : Option Waiter). watches_of o x) (there u));
    }

-- what a run to the end comes to, by its ticket and its first new variable
abbrev Ends : Slow → Parts → Block → Verdict → List ℕ → ℕ → ℕ → Type 0
Ends s m b v stale t n =
    AllowsEach s (Submitted t b ∷ Installed t v ∷ Finished t v n stale ∷ []) × IsAt m (after_all s (Submitted t b ∷ Installed t v ∷ Finished t v n stale ∷ []))

pub moves_run : (m : Parts) (s s' : Slow) (store' : List Cell) (watch' : Pairs) (b : Block) (v : Verdict) (n : ℕ) (stale : List ℕ)
    → IsAt m s → IsRunPlan s v n stale → IsAt m s' → submit_refused s' false b ≡ None → verdict_on s'.store b ≡ Some v → store' ≡ applied m.store v
    → ((x u : ℕ) → has_pair watch' x u ≡ (has_pair m.watch x u && not (list_any (nat_eq u) stale && is_read (kept_reads (kept_at u m.entries)) x)))
    → Ends s' (record m { store = store'; next = m.next + 1; pending = with_tickets stale m.pending; watch = watch' }) b v stale s'.next n
moves_run m s s' store' watch' b v n stale k c k' e h st q =
    let m' : Parts = record m { store = store'; next = m.next + 1; pending = with_tickets stale m.pending; watch = watch' } in
    let p : IsRunPlan s' v n stale = run_alike m s s' v n stale k c k' in
    let w = may_wait m s' b k' e in
    let may : MayRun s' b v = record {
      covered = none_missing (plains s'.store) b.uses w.covers;
      few = below_limit max_waiting (length s'.waiters) w.few;
      verdict_is = h;
    } in
    let whats : List What = Submitted s'.next b ∷ Installed s'.next v ∷ Finished s'.next v (length s'.store) stale ∷ [] in
    let a : AllowsEach s' whats = ending_allowed s' b v k'.possible stale may p.ends p.room p.listed in
    let at : IsAt m' (after_all s' whats) = record {
      possible = possible_all s' whats k'.possible a;
      stands = subst (λ (z : Slow). Stands z m') (sym (after_ending s' b v k'.possible stale)) (stands_run s' m store' watch' v stale k' p.listed st q);
    } in
    subst (Ends s' m' b v stale s'.next) (sym p.first_new_is) (a, at)

run_test : (s k q m : Bool) → m ≡ (k && not q) → (m && not s) ≡ (k && not (s || q))
run_test true true true m e = rw e refl
run_test true true false m e = rw e refl
run_test true false q m e = rw e refl
run_test false true true m e = rw e refl
run_test false true false m e = rw e refl
run_test false false q m e = rw e refl

pub ready_run : (stale rs rs' : List ℕ) (es : List (ℕ × Waiting)) (ps : List Entry) → AreReady rs es ps → ((u : ℕ) → member u rs' ≡ (member u rs && not (list_any (nat_eq u) stale))) → AreReady rs' es (with_tickets stale ps)
ready_run stale rs rs' es ps a more = λ u.
    more u ∙ run_test (list_any (nat_eq u) stale) (kept_ends (kept_at u es)) (has_ticket u ps) (member u rs) (a u)
    ∙ ap (λ (g : Bool). kept_ends (kept_at u es) && not g) (sym (has_with_tickets u stale ps))

-- ---- a block that waits
above : (t u : ℕ) → u < t → nat_eq t u ≡ false
above t u l = grind (arith, nat_tests)

-- what was inserted last is removed
pub last_lost : (t : ℕ) (x : Waiting) (es : List (ℕ × Waiting)) → AllBelow t es → lose t (es ++ (t, x) ∷ []) ≡ es
last_lost t x [] low = rw (itself t) refl
last_lost t x (e ∷ es) low = rw (above t e.0 low.0) (ap (λ (fs : List (ℕ × Waiting)). e ∷ fs) (last_lost t x es low.1))

abbrev inserted : Parts → Block → List (ℕ × Waiting)
inserted m b = m.entries ++ (m.next, record { block = b; held = None }) ∷ []

pub moves_current : (m : Parts) (s s' : Slow) (watch' : Pairs) (b : Block) (v : Verdict) (reads : List (ℕ × Value))
    → IsAt m s → submit_refused s false b ≡ None → IsVerdictOf s b v reads → IsAt m s' → WithReads m.watch m.next reads watch'
    → (AllowsEach s' (Submitted m.next b ∷ Installed m.next v ∷ [])
    × IsAt (record m { next = m.next + 1; entries = with_held m.next (record { reads = reads; verdict = v }) (m.entries ++ (m.next, record { block = b; held = None }) ∷ []); watch = watch' }) (after_all s' (Submitted m.next b ∷ Installed m.next v ∷ [])))
moves_current m s s' watch' b v reads k e c k' q =
    let t = m.next in
    let h : Held = record { reads = reads; verdict = v } in
    let new : Waiter = record { ticket = t; block = b; since = None } in
    let same = same_store m s s' k k' in
    let first = moves_submit m s s' b k e k' in
    let s1 = after s' (Submitted t b) in
    let m1 : Parts = record m { next = t + 1; entries = inserted m b; pending = with_ticket t m.pending } in
    let found : find_waiter t s1.waiters ≡ Some new = last_found t s'.next 0 new s'.waiters refl (let g = k'.stands.next_is in omega arith) (rising_at m s' k') in
    let is : verdict_on s'.store b ≡ Some v = same_verdict s.store s'.store b b v same refl c.verdict in
    let holds : Holds b.tree (under s'.store) reads v = record { verdict_is = is; reads_are = sym (c.reads_are ∙ ap (λ (z : List Cell). reads_of (under z) b.tree) (sym same)) } in
    let may : MayInstall s1 new v = record { not_current = refl; verdict_is = is } in
    let a : Allows s1 (Installed t v) = subst (λ (o : Option Waiter). IsSomeAnd o (λ w. MayInstall s1 w v)) (sym found) may in
    let second = moves_to m1 _ s1 (Installed t v) first.1 a (stands_install s1 m1 watch' t new h first.1.stands found refl holds q) in (
      (first.0, (a, tt)),
      subst (λ (ps : List Entry). IsAt (record m { next = t + 1; entries = with_held t h (inserted m b); pending = ps; watch = watch' }) (after s1 (Installed t v))) (removed_with t false m.pending (next_absent m s' k')) second.1,
    )

blocks_test : (b d m : Bool) → b ≡ true → m ≡ ((not b && d) || m)
blocks_test b d m e = rw e refl

pub ready_current : (t : ℕ) (b : Block) (h : Held) (rs : List ℕ) (es : List (ℕ × Waiting)) (ps : List Entry) → AllBelow t es → has_ticket t ps ≡ false → is_blocks h.verdict ≡ true → AreReady rs es ps
    → AreReady rs (with_held t h (es ++ (t, record { block = b; held = None }) ∷ [])) ps
ready_current t b h rs es ps low absent blocks a =
    let fs = es ++ (t, record { block = b; held = None }) ∷ [] in
    subst (λ (qs : List Entry). AreReady rs (with_held t h fs) qs) (removed_with t false ps absent)
    (ready_held t h rs rs fs (with_ticket t ps) (inserted_waits t _ es fs low refl) (ready_wait t b rs es ps low a) (has_with t (t, false) ps ∙ ap (λ (x : Bool). x || has_ticket t ps) (itself t))
    (λ u. blocks_test (is_blocks h.verdict) (nat_eq u t) (member u rs) blocks))
