-- The set of the blocks that could finish now: what it is of the slow desk, and after and_parts change.
use Rattle.std.proofs.Common.{◌≡◌, ℕ, ◌<◌, ◌≤◌, Bool, true, false, not, ◌&&◌, ◌||◌, cond, List, [], ◌∷◌, ◌++◌, Option, Some, None, refl, sym, ap, subst, ◌∙◌, arith, eqb-true}
use Rattle.std.specs.Prelude.{nat_eq, nat_lt, option_map}
use Rattle.std.specs.List.{list_any}
use Rattle.std.proofs.lemmas.Bool.Decides.{nat_tests}
use Rattle.std.proofs.lemmas.Bool.{and_from, and_parts, lt-ltb, ltb-true, or_right}
use Rattle.stm_store.specs.declared.cell.Cell.{Cell}
use Rattle.stm_check.specs.TypedBlock.{Block}
use Rattle.stm_queue.specs.Queue.{Entry, has_ticket, with_ticket, without_ticket}
use Rattle.stm_queue.specs.SortedTickets.{RisesAbove, IsRising, member, next_after}
use Rattle.stm_queue.proofs.Membership.{has_without}
use Rattle.stm_queue.proofs.Merging.{has_with}
use Rattle.stm_events.specs.SlowDesk.{Since, Waiter, Slow, is_stale_since, current_since, is_current, find_waiter, without_waiter}
use Rattle.stm_events.specs.SlowSettle.{lowest, ends, can_end}
use Rattle.stm_events.specs.Ready.{is_ready, next_ready}
use Rattle.stm_events.specs.Laws.{AreRising}
use Rattle.stm_events.proofs.Rising.{not_above, waiter_without}
use Rattle.stm_waiting.specs.declared.waiting.Held.{Held}
use Rattle.stm_waiting.specs.declared.waiting.Waiting.{Waiting}
use Rattle.stm_waiting.specs.Entries.{kept_at, kept, lose, with_held, AllBelow}
use Rattle.stm_machine.specs.Entries.{IsHeld, held_ends, kept_ends}
use Rattle.stm_machine.specs.Machine.{Parts, IsAt}
use Rattle.stm_machine.specs.QueueAndIndex.{with_tickets, due_of}
use Rattle.stm_machine.specs.ReadySet.{AreReady}
use Rattle.stm_machine.proofs.States.{rising_at, holds_at}
use Rattle.stm_machine.proofs.KeptBlocksWait.{IsFound, found, due_lose}
use Rattle.stm_machine.proofs.LowestDueIsFirst.{lowest_waits, lowest_holds}
use Rattle.stm_machine.proofs.QueueAndIndexByTicket.{has_with_tickets}

-- ---- a block begins to wait
absent_below : (t n : ℕ) (es : List (ℕ × Waiting)) → n ≤ t → AllBelow n es → kept_at t es ≡ None
absent_below t n [] l b = refl
absent_below t n (e ∷ es) l b =
    let m : e.0 < n = b.0 in
    let f : nat_eq t e.0 ≡ false = grind (arith, nat_tests) in
    rw f (absent_below t n es l b.1)

same_head : (b : Bool) (x : Waiting) (o p : Option Waiting) → kept_ends o ≡ kept_ends p → kept_ends (cond b (Some x) o) ≡ kept_ends (cond b (Some x) p)
same_head true x o p h = refl
same_head false x o p h = h

fresh_last : (b : Bool) (x : Waiting) → x.held ≡ None → kept_ends (cond b (Some x) None) ≡ false
fresh_last true x h = ap held_ends h
fresh_last false x h = refl

ends_pushed : (u t : ℕ) (x : Waiting) (es : List (ℕ × Waiting)) → x.held ≡ None → kept_ends (kept_at u (es ++ (t, x) ∷ [])) ≡ kept_ends (kept_at u es)
ends_pushed u t x [] h = fresh_last (nat_eq u t) x h
ends_pushed u t x (e ∷ es) h = same_head (nat_eq u e.0) e.1 (kept_at u (es ++ (t, x) ∷ [])) (kept_at u es) (ends_pushed u t x es h)

wait_test : (b k h : Bool) → (b ≡ true → k ≡ false) → (k && not h) ≡ (k && not (b || h))
wait_test true true h f = let e : true ≡ false = f refl in cc
wait_test true false h f = refl
wait_test false k h f = refl

pub ready_wait : (t : ℕ) (b : Block) (rs : List ℕ) (es : List (ℕ × Waiting)) (ps : List Entry) → AllBelow t es → AreReady rs es ps
    → AreReady rs (es ++ (t, record { block = b; held = None }) ∷ []) (with_ticket t ps)
ready_wait t b rs es ps low a = λ u.
    let x : Waiting = record { block = b; held = None } in
    let none : nat_eq u t ≡ true → kept_ends (kept_at u es) ≡ false = λ e. ap kept_ends (let l : t ≤ u = grind (arith, nat_tests) in absent_below u t es l low) in
    a u ∙ wait_test (nat_eq u t) (kept_ends (kept_at u es)) (has_ticket u ps) none
    ∙ ap (λ (k : Bool). k && not (nat_eq u t || has_ticket u ps)) (sym (ends_pushed u t x es refl))
    ∙ ap (λ (h : Bool). kept_ends (kept_at u (es ++ (t, x) ∷ [])) && not h) (sym (has_with u (t, false) ps))

-- ---- a delivery
held_here : (u t : ℕ) (h : Held) (e : ℕ × Waiting) (es xs : List (ℕ × Waiting)) (b c d : Bool) → nat_eq t e.0 ≡ b → nat_eq u e.0 ≡ c → nat_eq u t ≡ d
    → kept_at u xs ≡ cond d (option_map (kept h) (kept_at t es)) (kept_at u es)
    → kept_at u (cond b ((e.0, kept h e.1) ∷ es) (e ∷ xs)) ≡ cond d (option_map (kept h) (cond b (Some e.1) (kept_at t es))) (cond c (Some e.1) (kept_at u es))
held_here u t h e es xs true true true p q r more = rw q refl
held_here u t h e es xs true true false p q r more = absurd (let x : false ≡ true = grind (arith, nat_tests) in cc)
held_here u t h e es xs true false true p q r more = absurd (let x : false ≡ true = grind (arith, nat_tests) in cc)
held_here u t h e es xs true false false p q r more = rw q refl
held_here u t h e es xs false true true p q r more = absurd (let x : false ≡ true = grind (arith, nat_tests) in cc)
held_here u t h e es xs false true false p q r more = rw q refl
held_here u t h e es xs false false true p q r more = rw q more
held_here u t h e es xs false false false p q r more = rw q more

held_at_ticket : (u t : ℕ) (h : Held) (es : List (ℕ × Waiting)) → kept_at u (with_held t h es) ≡ cond (nat_eq u t) (option_map (kept h) (kept_at t es)) (kept_at u es)
held_at_ticket u t h [] = by (nat_eq u t) where
  by : (d : Bool) → None ≡ cond d (option_map (kept h) None) None
  by true = refl
  by false = refl
held_at_ticket u t h (e ∷ es) = held_here u t h e es (with_held t h es) (nat_eq t e.0) (nat_eq u e.0) (nat_eq u t) refl refl refl (held_at_ticket u t h es)

held_ends_at : (d : Bool) (h : Held) (o p : Option Waiting) → (o ≡ None → ⊥) → kept_ends (cond d (option_map (kept h) o) p) ≡ cond d (held_ends (Some h)) (kept_ends p)
held_ends_at true h None p n = absurd (n refl)
held_ends_at true h (Some x) p n = refl
held_ends_at false h o p n = refl

install_test : (d w k q m : Bool) → (d ≡ true → m ≡ false) → m ≡ (k && not q) → ((w && d) || m) ≡ (cond d w k && not (not d && q))
install_test true true k q m f e = refl
install_test true false k q m f e = f refl
install_test false true k q m f e = e
install_test false false k q m f e = e

not_queued : (a b : Bool) → b ≡ true → (a && not b) ≡ false
not_queued true true h = refl
not_queued true false h = cc
not_queued false b h = refl

pub due_absent : (t : ℕ) (rs : List ℕ) (es : List (ℕ × Waiting)) (ps : List Entry) → AreReady rs es ps → has_ticket t ps ≡ true → member t rs ≡ false
due_absent t rs es ps a h = a t ∙ not_queued (kept_ends (kept_at t es)) (has_ticket t ps) h

pub ready_held : (t : ℕ) (h : Held) (rs rs' : List ℕ) (es : List (ℕ × Waiting)) (ps : List Entry) → (kept_at t es ≡ None → ⊥) → AreReady rs es ps → has_ticket t ps ≡ true
    → ((u : ℕ) → member u rs' ≡ ((held_ends (Some h) && nat_eq u t) || member u rs)) → AreReady rs' (with_held t h es) (without_ticket t ps)
ready_held t h rs rs' es ps n a q more = λ u.
    let here : nat_eq u t ≡ true → member u rs ≡ false = λ e. subst (λ (x : ℕ). member x rs ≡ false) (sym (eqb-true u t e)) (due_absent t rs es ps a q) in
    more u ∙ install_test (nat_eq u t) (held_ends (Some h)) (kept_ends (kept_at u es)) (has_ticket u ps) (member u rs) here (a u)
    ∙ ap (λ (k : Bool). k && not (not (nat_eq u t) && has_ticket u ps)) (sym (ap kept_ends (held_at_ticket u t h es) ∙ held_ends_at (nat_eq u t) h (kept_at t es) (kept_at u es) n))
    ∙ ap (λ (g : Bool). kept_ends (kept_at u (with_held t h es)) && not g) (sym (has_without u t ps))

-- ---- a block waits no more
lost_here : (u t : ℕ) (e : ℕ × Waiting) (es xs : List (ℕ × Waiting)) (b c : Bool) → nat_eq t e.0 ≡ b → nat_eq u e.0 ≡ c → nat_eq u t ≡ false → kept_at u xs ≡ kept_at u es
    → kept_at u (cond b es (e ∷ xs)) ≡ cond c (Some e.1) (kept_at u es)
lost_here u t e es xs true true p q r more = absurd (let x : false ≡ true = grind (arith, nat_tests) in cc)
lost_here u t e es xs true false p q r more = refl
lost_here u t e es xs false true p q r more = rw q refl
lost_here u t e es xs false false p q r more = rw q more

lost_other : (u t : ℕ) (es : List (ℕ × Waiting)) → nat_eq u t ≡ false → kept_at u (lose t es) ≡ kept_at u es
lost_other u t [] r = refl
lost_other u t (e ∷ es) r = lost_here u t e es (lose t es) (nat_eq t e.0) (nat_eq u e.0) refl refl r (lost_other u t es r)

lost_ends : (d : Bool) (u t : ℕ) (es : List (ℕ × Waiting)) → nat_eq u t ≡ d → kept_at t (lose t es) ≡ None → kept_ends (kept_at u (lose t es)) ≡ (kept_ends (kept_at u es) && not d)
lost_ends true u t es r n =
    ap kept_ends (subst (λ (x : ℕ). kept_at x (lose t es) ≡ None) (sym (eqb-true u t r)) n) ∙ sym (no (kept_ends (kept_at u es))) where
      no : (k : Bool) → (k && false) ≡ false
      no true = refl
      no false = refl
lost_ends false u t es r n =
    ap kept_ends (lost_other u t es r) ∙ sym (yes (kept_ends (kept_at u es))) where
      yes : (k : Bool) → (k && true) ≡ k
      yes true = refl
      yes false = refl

leave_test : (d k q m : Bool) → m ≡ (k && not q) → (m && not d) ≡ ((k && not d) && not (not d && q))
leave_test true true true m e = rw e refl
leave_test true true false m e = rw e refl
leave_test true false q m e = rw e refl
leave_test false true true m e = rw e refl
leave_test false true false m e = rw e refl
leave_test false false q m e = rw e refl

pub ready_left : (t : ℕ) (rs rs' : List ℕ) (es : List (ℕ × Waiting)) (ps : List Entry) → kept_at t (lose t es) ≡ None → AreReady rs es ps
    → ((u : ℕ) → member u rs' ≡ (member u rs && not (nat_eq u t))) → AreReady rs' (lose t es) (without_ticket t ps)
ready_left t rs rs' es ps n a less = λ u.
    less u ∙ leave_test (nat_eq u t) (kept_ends (kept_at u es)) (has_ticket u ps) (member u rs) (a u)
    ∙ ap (λ (k : Bool). k && not (not (nat_eq u t) && has_ticket u ps)) (sym (lost_ends (nat_eq u t) u t es refl n))
    ∙ ap (λ (g : Bool). kept_ends (kept_at u (lose t es)) && not g) (sym (has_without u t ps))

finish_test : (d s k q m : Bool) → m ≡ (k && not q) → ((m && not d) && not s) ≡ ((k && not d) && not (s || q))
finish_test true true true true m e = rw e refl
finish_test true true true false m e = rw e refl
finish_test true true false q m e = rw e refl
finish_test true false true true m e = rw e refl
finish_test true false true false m e = rw e refl
finish_test true false false q m e = rw e refl
finish_test false true true true m e = rw e refl
finish_test false true true false m e = rw e refl
finish_test false true false q m e = rw e refl
finish_test false false true true m e = rw e refl
finish_test false false true false m e = rw e refl
finish_test false false false q m e = rw e refl

pub ready_finished : (t : ℕ) (stale rs ss rs' : List ℕ) (es : List (ℕ × Waiting)) (ps : List Entry) → kept_at t (lose t es) ≡ None → AreReady rs es ps
    → ((u : ℕ) → member u ss ≡ (member u rs && not (nat_eq u t))) → ((u : ℕ) → member u rs' ≡ (member u ss && not (list_any (nat_eq u) stale)))
    → AreReady rs' (lose t es) (with_tickets stale ps)
ready_finished t stale rs ss rs' es ps n a one more = λ u.
    more u ∙ ap (λ (m : Bool). m && not (list_any (nat_eq u) stale)) (one u)
    ∙ finish_test (nat_eq u t) (list_any (nat_eq u) stale) (kept_ends (kept_at u es)) (has_ticket u ps) (member u rs) (a u)
    ∙ ap (λ (k : Bool). k && not (list_any (nat_eq u) stale || has_ticket u ps)) (sym (lost_ends (nat_eq u t) u t es refl n))
    ∙ ap (λ (g : Bool). kept_ends (kept_at u (lose t es)) && not g) (sym (has_with_tickets u stale ps))

-- ---- tickets are out or queued
pub ready_same : (rs : List ℕ) (es : List (ℕ × Waiting)) (ps qs : List Entry) → ((u : ℕ) → has_ticket u qs ≡ has_ticket u ps) → AreReady rs es ps → AreReady rs es qs
ready_same rs es ps qs h a = λ u. a u ∙ ap (λ (g : Bool). kept_ends (kept_at u es) && not g) (sym (h u))

-- ---- what is kept, and what the slow desk has
-- the block that waits, if one does, could finish now
abbrev ready_of : List Cell → Option Waiter → Bool
ready_of store None = false
ready_of store (Some w) = is_ready store w

module _ (m : Parts) (s : Slow) (k : IsAt m s) where
  -- a block that waits no more isn't kept
  pub lost_none : (t : ℕ) → kept_at t (lose t m.entries) ≡ None
  lost_none t =
      none (kept_at t (lose t m.entries)) (subst (IsFound (kept_at t (lose t m.entries))) (waiter_without t t s.next 0 s.waiters (rising_at m s k) ∙ itself t)
      (found t (lose t m.entries) (without_waiter t s.waiters) (due_lose t m.entries s.waiters k.stands.entries_are))) where
        none : (o : Option Waiting) → IsFound o None → o ≡ None
        none None f = refl
        none (Some x) f = absurd f

        itself : (t : ℕ) → cond (nat_eq t t) None (find_waiter t s.waiters) ≡ None
        itself t = let e : nat_eq t t ≡ true = grind (arith, nat_tests) in rw e refl

  not_stale : (b : Block) (o : Option Since) (z : Since) → o ≡ Some z → current_since b o ≡ true → is_stale_since b z ≡ false
  not_stale b None z e c = cc
  not_stale b (Some x) z e c = let q : x ≡ z = cc in subst (λ (y : Since). is_stale_since b y ≡ false) q (flip (is_stale_since b x) c) where
    flip : (a : Bool) → not a ≡ true → a ≡ false
    flip true h = cc
    flip false h = refl

  no_since : (b : Block) (o : Option Since) → o ≡ None → current_since b o ≡ true → ⊥
  no_since b None e c = cc
  no_since b (Some z) e c = cc

  -- the verdict that is kept of a current block is that of the present store
  ends_by : (t : ℕ) (w : Waiter) → find_waiter t s.waiters ≡ Some w → is_current w ≡ true → (h : Option Held) (o : Option Since) → w.since ≡ o → IsHeld w.block h o → held_ends h ≡ can_end s.store w
  ends_by t w e c None None q i = absurd (no_since w.block w.since q c)
  ends_by t w e c None (Some z) q i = absurd i
  ends_by t w e c (Some h) None q i = absurd i
  ends_by t w e c (Some h) (Some z) q i =
      let p = holds_at m s k t w z h.reads h.verdict e q (not_stale w.block w.since z q c) i in
      ap ends (sym p.verdict_is)

  test : (c : Bool) (h e : Bool) → (c ≡ true → h ≡ e) → (h && not (not c)) ≡ (c && e)
  test true true e f = f refl
  test true false e f = f refl
  test false true e f = refl
  test false false e f = refl

  ready_by : (t : ℕ) (o : Option Waiting) (p : Option Waiter) → find_waiter t s.waiters ≡ p → IsFound o p → (kept_ends o && not (due_of p)) ≡ ready_of s.store p
  ready_by t None None e f = refl
  ready_by t None (Some w) e f = absurd f
  ready_by t (Some x) None e f = absurd f
  ready_by t (Some x) (Some w) e f = test (is_current w) (held_ends x.held) (can_end s.store w) (λ c. ends_by t w e c x.held w.since refl f.held)

  pub ready_is : (rs : List ℕ) → AreReady rs m.entries m.pending → (t : ℕ) → member t rs ≡ ready_of s.store (find_waiter t s.waiters)
  ready_is rs a t =
      a t ∙ ap (λ (b : Bool). kept_ends (kept_at t m.entries) && not b) (k.stands.queue t)
      ∙ ready_by t (kept_at t m.entries) (find_waiter t s.waiters) refl (found t m.entries s.waiters k.stands.entries_are)

-- ---- the next ticket of the set
member_step : (b : Bool) (k u t : ℕ) (ts : List ℕ) → nat_eq u t ≡ b → k < t → (member u ts ≡ true → t < u) → (b || member u ts) ≡ true → k < u
member_step true k u t ts e l more h = grind (arith, nat_tests)
member_step false k u t ts e l more h = let m : t < u = more h in omega arith

member_above : (k u : ℕ) (ts : List ℕ) → RisesAbove k ts → member u ts ≡ true → k < u
member_above k u [] r h = cc
member_above k u (t ∷ ts) r h = member_step (nat_eq u t) k u t ts refl r.0 (member_above t u ts r.1) h

least_step : (b d : Bool) (t x y u : ℕ) (ys : List ℕ) → nat_lt t y ≡ b → nat_eq u y ≡ d → RisesAbove y ys → (next_after t ys ≡ Some x → member u ys ≡ true → x ≤ u)
    → cond b (Some y) (next_after t ys) ≡ Some x → (d || member u ys) ≡ true → t < u → x ≤ u
least_step true true t x y u ys p q r more e h l = let i : y ≡ x = cc in grind (arith, nat_tests)
least_step true false t x y u ys p q r more e h l =
    let i : y ≡ x = cc in
    let m : y < u = member_above y u ys r h in
    omega arith
least_step false true t x y u ys p q r more e h l = absurd (let a : y ≤ t = grind (arith, nat_tests) in let b : u ≡ y = eqb-true u y q in omega arith)
least_step false false t x y u ys p q r more e h l = more e h

least_above : (t x k u : ℕ) (ts : List ℕ) → RisesAbove k ts → next_after t ts ≡ Some x → member u ts ≡ true → t < u → x ≤ u
least_above t x k u [] r e h l = cc
least_above t x k u (y ∷ ys) r e h l = least_step (nat_lt t y) (nat_eq u y) t x y u ys refl refl r.1 (λ f g. least_above t x y u ys r.1 f g l) e h l

next_least : (t x u : ℕ) (ts : List ℕ) → IsRising ts → next_after t ts ≡ Some x → member u ts ≡ true → t < u → x ≤ u
next_least t x u [] r e h l = cc
next_least t x u (y ∷ ys) r e h l = least_step (nat_lt t y) (nat_eq u y) t x y u ys refl refl r (λ f g. least_above t x y u ys r f g l) e h l

itself : (t : ℕ) → nat_eq t t ≡ true
itself t = grind (arith, nat_tests)

some_step : (b : Bool) (t x y : ℕ) (ys : List ℕ) → nat_lt t y ≡ b → (next_after t ys ≡ Some x → (member x ys ≡ true) × (t < x)) → cond b (Some y) (next_after t ys) ≡ Some x → (member x (y ∷ ys) ≡ true) × (t < x)
some_step true t x y ys p more e =
    let i : y ≡ x = cc in (
      rw (i, itself x) refl,
      grind (arith, nat_tests),
    )
some_step false t x y ys p more e = let m = more e in (or_right (nat_eq x y) (member x ys) m.0, m.1)

next_some : (t x : ℕ) (ts : List ℕ) → next_after t ts ≡ Some x → (member x ts ≡ true) × (t < x)
next_some t x [] e = cc
next_some t x (y ∷ ys) e = some_step (nat_lt t y) t x y ys refl (next_some t x ys) e

none_step : (b d : Bool) (t y u : ℕ) (ys : List ℕ) → nat_lt t y ≡ b → nat_eq u y ≡ d → (next_after t ys ≡ None → member u ys ≡ true → ⊥) → cond b (Some y) (next_after t ys) ≡ None → (d || member u ys) ≡ true → t < u → ⊥
none_step true d t y u ys p q more e h l = cc
none_step false true t y u ys p q more e h l = let a : y ≤ t = grind (arith, nat_tests) in let b : u ≡ y = eqb-true u y q in omega arith
none_step false false t y u ys p q more e h l = more e h

next_none : (t u : ℕ) (ts : List ℕ) → next_after t ts ≡ None → member u ts ≡ true → t < u → ⊥
next_none t u [] e h l = cc
next_none t u (y ∷ ys) e h l = none_step (nat_lt t y) (nat_eq u y) t y u ys refl refl (λ f g. next_none t u ys f g l) e h l

-- ---- the lowest waiting block that passes a test
above_by : (t k : ℕ) (ws : List Waiter) (c : Waiter) → (t ≤ k → find_waiter t ws ≡ None) → find_waiter t ws ≡ Some c → (t ≤ k → ⊥)
above_by t k ws c none f = λ l. let e = none l in no (find_waiter t ws) e f where
  no : (o : Option Waiter) → o ≡ None → o ≡ Some c → ⊥
  no None e f = cc
  no (Some w) e f = cc

pub waits_above : (n k t : ℕ) (ws : List Waiter) (c : Waiter) → AreRising n k ws → find_waiter t ws ≡ Some c → k < t
waits_above n k t ws c r f = by (nat_lt k t) refl where
  by : (b : Bool) → nat_lt k t ≡ b → k < t
  by true e = grind (arith, nat_tests)
  by false e = absurd (above_by t k ws c (λ l. not_above t n k ws l r) f (grind (arith, nat_tests)))

le_step : (b d : Bool) (p : Waiter → Bool) (t n k : ℕ) (w one c : Waiter) (ws : List Waiter) → p w ≡ b → nat_eq t w.ticket ≡ d → AreRising n k (w ∷ ws) → p c ≡ true
    → (lowest p ws ≡ Some one → find_waiter t ws ≡ Some c → one.ticket ≤ t) → cond b (Some w) (lowest p ws) ≡ Some one → cond d (Some w) (find_waiter t ws) ≡ Some c → one.ticket ≤ t
le_step true true p t n k w one c ws h e r pc more f g = let i : w ≡ one = cc in subst (λ (x : Waiter). x.ticket ≤ t) i (grind (arith, nat_tests))
le_step true false p t n k w one c ws h e r pc more f g =
    let i : w ≡ one = cc in
    let l : w.ticket < t = waits_above n w.ticket t ws c r.2 g in
    subst (λ (x : Waiter). x.ticket ≤ t) i (omega arith)
le_step false true p t n k w one c ws h e r pc more f g = let i : w ≡ c = cc in let q : p c ≡ false = subst (λ (x : Waiter). p x ≡ false) i h in cc
le_step false false p t n k w one c ws h e r pc more f g = more f g

lowest_le : (p : Waiter → Bool) (t n k : ℕ) (ws : List Waiter) (one c : Waiter) → AreRising n k ws → p c ≡ true → lowest p ws ≡ Some one → find_waiter t ws ≡ Some c → one.ticket ≤ t
lowest_le p t n k [] one c r h f g = cc
lowest_le p t n k (w ∷ ws) one c r h f g = le_step (p w) (nat_eq t w.ticket) p t n k w one c ws refl refl r h (lowest_le p t n w.ticket ws one c r.2 h) f g

passes_step : (b d : Bool) (p : Waiter → Bool) (w c : Waiter) (o q : Option Waiter) → p w ≡ b → (o ≡ None → q ≡ Some c → p c ≡ false) → cond b (Some w) o ≡ None → cond d (Some w) q ≡ Some c → p c ≡ false
passes_step true d p w c o q h more f g = cc
passes_step false true p w c o q h more f g = let i : w ≡ c = cc in subst (λ (x : Waiter). p x ≡ false) i h
passes_step false false p w c o q h more f g = more f g

none_passes : (p : Waiter → Bool) (t : ℕ) (ws : List Waiter) (c : Waiter) → lowest p ws ≡ None → find_waiter t ws ≡ Some c → p c ≡ false
none_passes p t [] c f g = cc
none_passes p t (w ∷ ws) c f g = passes_step (p w) (nat_eq t w.ticket) p w c (lowest p ws) (find_waiter t ws) refl (none_passes p t ws c) f g

ticket_step : (b : Bool) (t : ℕ) (w c : Waiter) (o : Option Waiter) → nat_eq t w.ticket ≡ b → (o ≡ Some c → c.ticket ≡ t) → cond b (Some w) o ≡ Some c → c.ticket ≡ t
ticket_step true t w c o e more f = let i : w ≡ c = cc in subst (λ (x : Waiter). x.ticket ≡ t) i (sym (eqb-true t w.ticket e))
ticket_step false t w c o e more f = more f

own_ticket : (t : ℕ) (ws : List Waiter) (c : Waiter) → find_waiter t ws ≡ Some c → c.ticket ≡ t
own_ticket t [] c f = cc
own_ticket t (w ∷ ws) c f = ticket_step (nat_eq t w.ticket) t w c (find_waiter t ws) refl (own_ticket t ws c) f

record Ready (store : List Cell) (t : ℕ) (ws : List Waiter) : Type 0 where
  pub one : Waiter
  pub found : find_waiter t ws ≡ Some one
  pub ready : is_ready store one ≡ true

a_ready : (store : List Cell) (t : ℕ) (ws : List Waiter) (o : Option Waiter) → find_waiter t ws ≡ o → ready_of store o ≡ true → Ready store t ws
a_ready store t ws None f h = cc
a_ready store t ws (Some w) f h = record { one = w; found = f; ready = h }

module _ (s : Slow) (t : ℕ) (rs : List ℕ) (low : IsRising rs) (r : AreRising s.next 0 s.waiters) (a : (u : ℕ) → member u rs ≡ ready_of s.store (find_waiter u s.waiters)) where
  abbrev wanted : Waiter → Bool
  wanted w = nat_lt t w.ticket && is_ready s.store w

  -- a ticket of the set above t is of a block that is wanted
  wanted_at : (u : ℕ) → member u rs ≡ true → t < u → (c : Waiter) × (find_waiter u s.waiters ≡ Some c) × (wanted c ≡ true)
  wanted_at u h l =
      let w = a_ready s.store u s.waiters (find_waiter u s.waiters) refl (sym (a u) ∙ h) in
      let q : w.one.ticket ≡ u = own_ticket u s.waiters w.one w.found in
      (w.one, w.found, and_from (nat_lt t w.one.ticket) (is_ready s.store w.one) (lt-ltb t w.one.ticket (omega arith)) w.ready)

  -- and a block that is wanted has its ticket in the set
  in_set : (c : Waiter) → find_waiter c.ticket s.waiters ≡ Some c → wanted c ≡ true → (member c.ticket rs ≡ true) × (t < c.ticket)
  in_set c f h =
      let b = and_parts (nat_lt t c.ticket) (is_ready s.store c) h in
      (a c.ticket ∙ ap (ready_of s.store) f ∙ b.1, ltb-true t c.ticket b.0)

  next_by : (o : Option ℕ) (p : Option Waiter) → next_after t rs ≡ o → lowest wanted s.waiters ≡ p → o ≡ option_map (λ (w : Waiter). w.ticket) p
  next_by None None e f = refl
  next_by None (Some w) e f =
      let i = in_set w (lowest_waits wanted s.next 0 s.waiters w r f) (lowest_holds wanted s.waiters w f) in
      absurd (next_none t w.ticket rs e i.0 i.1)
  next_by (Some x) None e f =
      let n = next_some t x rs e in
      let c = wanted_at x n.0 n.1 in
      let g : wanted c.0 ≡ false = none_passes wanted x s.waiters c.0 f c.1 in
      absurd (no (wanted c.0) g c.2) where
        no : (b : Bool) → b ≡ false → b ≡ true → ⊥
        no true g h = cc
        no false g h = cc
  next_by (Some x) (Some w) e f =
      let n = next_some t x rs e in
      let c = wanted_at x n.0 n.1 in
      let i = in_set w (lowest_waits wanted s.next 0 s.waiters w r f) (lowest_holds wanted s.waiters w f) in
      let l : x ≤ w.ticket = next_least t x w.ticket rs low e i.0 i.1 in
      let m : w.ticket ≤ x = lowest_le wanted x s.next 0 s.waiters w c.0 r c.2 f c.1 in
      let q : x ≡ w.ticket = omega arith in
      ap Some q

  pub next_set : next_after t rs ≡ next_ready t s
  next_set = next_by (next_after t rs) (lowest wanted s.waiters) refl refl

pub next_is_ready : (m : Parts) (s : Slow) → IsAt m s → (rs : List ℕ) → IsRising rs → AreReady rs m.entries m.pending → (t : ℕ) → next_after t rs ≡ next_ready t s
next_is_ready m s k rs low a t = next_set s t rs low (rising_at m s k) (ready_is m s k rs a)
