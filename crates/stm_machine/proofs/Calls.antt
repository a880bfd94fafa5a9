-- What is kept and who waits; a block that is submitted, and one that is cancelled.
use Rattle.std.proofs.Common.{◌≡◌, ℕ, ◌+◌, ◌<◌, ◌^◌, Bool, true, false, cond, List, [], ◌∷◌, ◌++◌, length, Option, Some, None, refl, sym, ap, subst, ◌∙◌, arith}
use Rattle.std.specs.Prelude.{nat_le}
use Rattle.std.proofs.lemmas.Bool.Decides.{nat_tests}
use Rattle.stm_terms.specs.declared.kinds.Ty.{Ty}
use Rattle.stm_store.specs.Cells.{plains, kinds_of, Covers}
use Rattle.stm_store.specs.Tables.{is_type}
use Rattle.stm_check.specs.TypedBlock.{Block}
use Rattle.stm_check.proofs.ExpressionsSound.{same_ty_equal}
use Rattle.stm_watch.specs.Pairs.{Pairs, WithoutReads}
use Rattle.stm_queue.specs.Queue.{has_ticket, with_ticket, without_ticket}
use Rattle.stm_events.specs.declared.event.What.TheVariants.{Submitted, Cancelled, Labelled}
use Rattle.stm_events.specs.Labels.{is_label}
use Rattle.stm_events.specs.SlowDesk.{Waiter, Slow, find_waiter, after, Allows}
use Rattle.stm_terms.specs.Limits.{max_waiting}
use Rattle.stm_events.specs.Laws.{AreRising}
use Rattle.stm_waiting.specs.declared.waiting.Waiting.{Waiting}
use Rattle.stm_waiting.specs.Entries.{kept_at, lose, AllBelow}
use Rattle.stm_machine.specs.Entries.{AreKeptOf, kept_reads}
use Rattle.stm_machine.specs.Machine.{Parts, IsAt, HasTicketLeft}
use Rattle.stm_machine.specs.QueueAndIndex.{due_of}
use Rattle.stm_events.specs.Refusals.{missing, submit_first, submit_refused, label_first, label_refused, cancel_first, cancel_refused}
use Rattle.stm_machine.proofs.KeptBlocksWait.{IsSame, IsFound, found, below_due}
use Rattle.stm_machine.proofs.QueueAndIndexByTicket.{not_yet}
use Rattle.stm_machine.proofs.MovesFollowEvents.{stands_submit, stands_cancel}
use Rattle.stm_machine.proofs.States.{IsLike, rising_at, moves_to, like_at, same_store, same_length}

-- ---- what is kept under a ticket, and who waits under it
pub record Waits (t : ℕ) (x : Waiting) (ws : List Waiter) : Type 0 where
  pub one : Waiter
  pub found : find_waiter t ws ≡ Some one
  pub same : IsSame x one

waits_by : (t : ℕ) (x : Waiting) (ws : List Waiter) (o : Option Waiting) (p : Option Waiter) → find_waiter t ws ≡ p → o ≡ Some x → IsFound o p → Waits t x ws
waits_by t x ws None p e h f = cc
waits_by t x ws (Some y) None e h f = absurd f
waits_by t x ws (Some y) (Some w) e h f = let q : y ≡ x = cc in record { one = w; found = e; same = subst (λ (z : Waiting). IsSame z w) q f }

pub waits : (t : ℕ) (x : Waiting) (es : List (ℕ × Waiting)) (ws : List Waiter) → AreKeptOf es ws → kept_at t es ≡ Some x → Waits t x ws
waits t x es ws d e = waits_by t x ws (kept_at t es) (find_waiter t ws) refl e (found t es ws d)

lost_by : (o : Option Waiting) (p : Option Waiter) → IsFound o p → o ≡ None → p ≡ None
lost_by None None f e = refl
lost_by None (Some w) f e = absurd f
lost_by (Some x) p f e = cc

pub lost : (t : ℕ) (es : List (ℕ × Waiting)) (ws : List Waiter) → AreKeptOf es ws → kept_at t es ≡ None → find_waiter t ws ≡ None
lost t es ws d e = lost_by (kept_at t es) (find_waiter t ws) (found t es ws d) e

module _ (m : Parts) (s : Slow) (k : IsAt m s) where
  rising_next : AreRising m.next 0 s.waiters
  rising_next = subst (λ (n : ℕ). AreRising n 0 s.waiters) (sym k.stands.next_is) (rising_at m s k)

  pub below_next : AllBelow m.next m.entries
  below_next = below_due m.next 0 m.entries s.waiters k.stands.entries_are rising_next

  pub ticket_small : HasTicketLeft s → m.next + 1 < 2 ^ 32
  ticket_small l = let c = k.stands.next_is in omega arith

  pub next_absent : has_ticket m.next m.pending ≡ false
  next_absent = k.stands.queue m.next ∙ ap due_of (not_yet m.next m.next 0 s.waiters (omega arith) rising_next)

-- ---- submit
kind_is_by : (o : Option Ty) (t : Ty) → is_type o t ≡ true → o ≡ Some t
kind_is_by (Some u) t e = ap Some (same_ty_equal u t e)
kind_is_by None t e = cc

missing_step : (b : Bool) (cells : List (Ty × _)) (u : ℕ × Ty) (us : List (ℕ × Ty)) → is_type (kinds_of cells u.0) u.1 ≡ b → (missing cells us ≡ None → Covers cells us) → cond b (missing cells us) (Some u.0) ≡ None → Covers cells (u ∷ us)
missing_step true cells u us e more h = (kind_is_by (kinds_of cells u.0) u.1 e, more h)
missing_step false cells u us e more h = cc

pub none_missing : (cells : List (Ty × _)) (uses : List (ℕ × Ty)) → missing cells uses ≡ None → Covers cells uses
none_missing cells [] h = tt
none_missing cells (u ∷ us) h = missing_step (is_type (kinds_of cells u.0) u.1) cells u us refl (none_missing cells us) h

pub record MaySubmit (m : Option ℕ) (many : Bool) : Type 0 where
  pub covers : m ≡ None
  pub few : many ≡ false

pub may_submit : (m : Option ℕ) (many : Bool) → submit_first m many false ≡ None → MaySubmit m many
may_submit (Some i) many e = cc
may_submit None true e = cc
may_submit None false e = record { covers = refl; few = refl }

pub below_limit : (limit n : ℕ) → nat_le limit n ≡ false → n < limit
below_limit limit n e = grind (arith, nat_tests)

-- another state of the machine refuses it no more than this one
pub submit_refused_alike : (m : Parts) (s s' : Slow) → IsAt m s → IsAt m s' → (b : Block) → submit_refused s false b ≡ None → submit_refused s' false b ≡ None
submit_refused_alike m s s' k k' b e = rw (same_store m s s' k k', same_length m s s' k k') e

pub moves_submit : (m : Parts) (s s' : Slow) (b : Block) → IsAt m s → submit_refused s false b ≡ None → IsAt m s'
    → (Allows s' (Submitted m.next b) × IsAt (record m { next = m.next + 1; entries = m.entries ++ (m.next, record { block = b; held = None }) ∷ []; pending = with_ticket m.next m.pending }) (after s' (Submitted m.next b)))
moves_submit m s s' b k e k' =
    let p : MaySubmit (missing (plains s'.store) b.uses) (nat_le max_waiting (length s'.waiters)) = may_submit _ _ (submit_refused_alike m s s' k k' b e) in
    moves_to m _ s' (Submitted m.next b) k' (k'.stands.next_is, none_missing (plains s'.store) b.uses p.covers, below_limit max_waiting (length s'.waiters) p.few)
    (stands_submit s' m b (rising_at m s' k') k'.stands)

-- ---- cancel
waits_there : (o : Option Waiter) → cancel_first o false ≡ None → (w : Waiter) × (o ≡ Some w)
waits_there None e = cc
waits_there (Some w) e = (w, refl)

pub moves_cancel : (m : Parts) (s s' : Slow) (watch' : Pairs) (t : ℕ) → IsAt m s → cancel_refused s false t ≡ None → IsAt m s' → WithoutReads m.watch t (kept_reads (kept_at t m.entries)) watch'
    → (Allows s' (Cancelled t) × IsAt (record m { entries = lose t m.entries; pending = without_ticket t m.pending; watch = watch' }) (after s' (Cancelled t)))
moves_cancel m s s' watch' t k e k' q =
    let p = waits_there (find_waiter t s.waiters) e in
    let l : IsLike p.0 (find_waiter t s'.waiters) = like_at m s s' k k' t p.0 p.1 in
    let a : Allows s' (Cancelled t) = rw l.found tt in
    moves_to m _ s' (Cancelled t) k' a (stands_cancel s' m watch' t (rising_at m s' k') k'.stands q)

-- ---- label
labelled_there : (o : Option Waiter) → label_first o false ≡ None → (w : Waiter) × (o ≡ Some w)
labelled_there None e = cc
labelled_there (Some w) e = (w, refl)

pub moves_label : (m : Parts) (s s' : Slow) (t : ℕ) (label : List ℕ) → IsAt m s → is_label label ≡ true → label_refused s false t ≡ None → IsAt m s'
    → (Allows s' (Labelled t label) × IsAt m (after s' (Labelled t label)))
moves_label m s s' t label k one e k' =
    let p = labelled_there (find_waiter t s.waiters) e in
    let l : IsLike p.0 (find_waiter t s'.waiters) = like_at m s s' k k' t p.0 p.1 in
    (rw l.found one, k')
