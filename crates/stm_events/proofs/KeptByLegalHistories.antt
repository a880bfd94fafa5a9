-- What every legal history keeps: what the declared variables cover, and the block under a ticket.
use Rattle.std.proofs.Common.{◌≡◌, ℕ, ◌<◌, Bool, true, false, cond, List, [], ◌∷◌, ◌++◌, Option, Some, None, refl, sym, subst, ◌∙◌, arith, length-append}
use Rattle.std.specs.Prelude.{nat_eq, option_map}
use Rattle.std.proofs.lemmas.Bool.Decides.{nat_tests}
use Rattle.stm_terms.specs.declared.kinds.Ty.{Ty}
use Rattle.stm_store.specs.declared.cell.Cell.{Cell}
use Rattle.stm_store.specs.Cells.{plains, Covers}
use Rattle.stm_store.proofs.ApplyPreservesTyping.{covered_stay}
use Rattle.stm_check.specs.TypedBlock.{Block}
use Rattle.stm_events.specs.declared.event.Event.{Event}
use Rattle.stm_events.specs.declared.event.What.{What}
use Rattle.stm_events.specs.declared.event.What.TheVariants.{Submitted, Installed, Finished, Cancelled, Declared as DeclaredLate, Labelled}
use Rattle.stm_events.specs.SlowDesk.{Waiter, Slow, declaration, waking, find_waiter, without_waiter, with_delivery, after_writes, after, Allows, initial_state, state_from, state_by, LegalFrom, IsLegalBy}
use Rattle.stm_events.specs.Laws.{AreRising, DeclaredAreCovered, BlocksStay}
use Rattle.stm_events.specs.States.{IsPossible, IsTicketOf, TicketsStay, VariablesStayCovered}
use Rattle.stm_events.proofs.Folds.{state-append}
use Rattle.stm_events.proofs.Rising.{rising_after, rising_state, low, waiter_without, waiter_delivered, waiter_marks, waiter_push}

-- ---- what is covered
pub covered_after : (s : Slow) (d : What) (us : List (ℕ × Ty)) → Covers (plains s.store) us → Covers (plains (after s d).store) us
covered_after s (Submitted t b) us c = c
covered_after s (Installed t v) us c = c
covered_after s (Finished t v n l) us c = covered_stay s.store v us c
covered_after s (Cancelled t) us c = c
covered_after s (DeclaredLate name kind value) us c = covered_stay s.store (declaration kind value) us c
covered_after s (Labelled t label) us c = c

covered_from : (s : Slow) (es : List Event) (us : List (ℕ × Ty)) → Covers (plains s.store) us → Covers (plains (state_from s es).store) us
covered_from s [] us c = c
covered_from s (e ∷ es) us c = covered_from (after s e.what) es us (covered_after s e.what us c)

pub declared_are_covered : DeclaredAreCovered
declared_are_covered rule table history us l c = covered_from (initial_state rule table) history us c

-- ---- a history after another
-- the first part of a legal history is legal, and so is the rest after it
pub record IsLegalAppend (s : Slow) (before more : List Event) : Type 0 where
  pub first : LegalFrom s before
  pub rest : LegalFrom (state_from s before) more

pub legal-append : (s : Slow) (before more : List Event) → LegalFrom s (before ++ more) → IsLegalAppend s before more
legal-append s [] more l = record { first = tt; rest = l }
legal-append s (e ∷ before) more l = let r = legal-append (after s e.what) before more l.1 in record { first = (l.0, r.first); rest = r.rest }

-- ---- the block under a ticket that was given
abbrev IsBlock : Block → Option Waiter → Type 0
IsBlock b o = (w : Waiter) → o ≡ Some w → w.block ≡ b

block_given : (d : Bool) (b : Block) (v : Waiter) (o : Option Waiter) → d ≡ false → IsBlock b o → IsBlock b (cond d (Some v) o)
block_given true b v o e h = absurd (cc)
block_given false b v o e h = h

block_kept : (b : Block) (f : Waiter → Waiter) (o : Option Waiter) → ((w : Waiter) → (f w).block ≡ w.block) → IsBlock b o → IsBlock b (option_map f o)
block_kept b f None same h = λ w e. cc
block_kept b f (Some x) same h = λ w e. let q : f x ≡ w = cc in subst (λ (y : Waiter). y.block ≡ b) q (same x ∙ h x refl)

block_delivered : (d : Bool) (b : Block) (store : List Cell) (o : Option Waiter) → IsBlock b o → IsBlock b (cond d (option_map (with_delivery store) o) o)
block_delivered true b store o h = block_kept b (with_delivery store) o (λ w. refl) h
block_delivered false b store o h = h

block_gone : (d : Bool) (b : Block) (o : Option Waiter) → IsBlock b o → IsBlock b (cond d None o)
block_gone true b o h = λ w e. cc
block_gone false b o h = h

record IsKept (t : ℕ) (b : Block) (s : Slow) : Type 0 where
  pub rising : AreRising s.next 0 s.waiters
  pub given : t < s.next
  pub block : IsBlock b (find_waiter t s.waiters)

unlike : (t u n : ℕ) → t < n → u ≡ n → nat_eq t u ≡ false
unlike t u n l e = grind (arith, nat_tests)

kept_after : (t : ℕ) (b : Block) (s : Slow) (d : What) → Allows s d → IsKept t b s → IsKept t b (after s d)
kept_after t b s (Submitted u block) a k =
    let v : Waiter = record { ticket = u; block = block; since = None } in
    record {
      rising = rising_after s (Submitted u block) (let g = k.given in omega arith) k.rising a;
      given = let g = k.given in omega arith;
      block = subst (IsBlock b) (sym (waiter_push t s.next 0 v s.waiters a.0 k.rising)) (block_given (nat_eq t u) b v (find_waiter t s.waiters) (unlike t u s.next k.given a.0) k.block);
    }
kept_after t b s (Installed u v) a k = record {
  rising = rising_after s (Installed u v) (let g = k.given in omega arith) k.rising a;
  given = k.given;
  block = subst (IsBlock b) (sym (waiter_delivered u t s.store s.waiters)) (block_delivered (nat_eq t u) b s.store (find_waiter t s.waiters) k.block);
}
kept_after t b s (Finished u v n l) a k = record {
  rising = rising_after s (Finished u v n l) (let g = k.given in omega arith) k.rising a;
  given = k.given;
  block =
      subst (IsBlock b) (sym (waiter_marks t (waking s.rule s.store v) (without_waiter u s.waiters)))
      (block_kept b (after_writes (waking s.rule s.store v)) (find_waiter t (without_waiter u s.waiters)) (λ w. refl)
      (subst (IsBlock b) (sym (waiter_without u t s.next 0 s.waiters k.rising)) (block_gone (nat_eq t u) b (find_waiter t s.waiters) k.block)));
}
kept_after t b s (Cancelled u) a k = record {
  rising = rising_after s (Cancelled u) (let g = k.given in omega arith) k.rising a;
  given = k.given;
  block = subst (IsBlock b) (sym (waiter_without u t s.next 0 s.waiters k.rising)) (block_gone (nat_eq t u) b (find_waiter t s.waiters) k.block);
}
kept_after t b s (DeclaredLate name kind value) a k = record { rising = k.rising; given = k.given; block = k.block }
kept_after t b s (Labelled u label) a k = k

kept_from : (t : ℕ) (b : Block) (s : Slow) (es : List Event) → LegalFrom s es → IsKept t b s → IsKept t b (state_from s es)
kept_from t b s [] l k = k
kept_from t b s (e ∷ es) l k = kept_from t b (after s e.what) es l.1 (kept_after t b s e.what l.0.what k)

pub blocks_stay : BlocksStay
blocks_stay rule table before more t v w l e f =
    let s = state_by rule table before in
    let p = legal-append (initial_state rule table) before more l.each in
    let legal : IsLegalBy rule table before = record { each = p.first; few = let few = l.few in omega (arith, length-append before more, few) } in
    let rising : AreRising s.next 0 s.waiters = rising_state rule table before legal in
    let begin : IsKept t v.block s = record { rising = rising; given = low t s.next 0 s.waiters v rising e; block = λ x g. let q : v ≡ x = cc in subst (λ (y : Waiter). y.block ≡ v.block) q refl } in
    let there : find_waiter t (state_from s more).waiters ≡ Some w = subst (λ (x : Slow). find_waiter t x.waiters ≡ Some w) (state-append (initial_state rule table) before more) f in
    (kept_from t v.block s more p.rest begin).block w there

-- ---- the ticket of a block
pub ticket_waiting : (s : Slow) (t : ℕ) (w : Waiter) → IsPossible s → find_waiter t s.waiters ≡ Some w → IsTicketOf w.block s t
ticket_waiting s t w p e = record { given = low t s.next 0 s.waiters w p.rising e; waits = λ x f. let q : w ≡ x = cc in subst (λ (y : Waiter). y.block ≡ w.block) q refl }

pub ticket_after : (s : Slow) (what : What) (block : Block) (t : ℕ) → IsPossible s → Allows s what → IsTicketOf block s t → IsTicketOf block (after s what) t
ticket_after s what block t p a k =
    let r = kept_after t block s what a (record { rising = p.rising; given = k.given; block = k.waits }) in
    record { given = r.given; waits = r.block }

pub ticket_from : (s : Slow) (events : List Event) (block : Block) (t : ℕ) → IsPossible s → LegalFrom s events → IsTicketOf block s t → IsTicketOf block (state_from s events) t
ticket_from s events block t p l k =
    let r = kept_from t block s events l (record { rising = p.rising; given = k.given; block = k.waits }) in
    record { given = r.given; waits = r.block }

pub tickets_stay : TicketsStay
tickets_stay = record { waiting = ticket_waiting; next = ticket_after; later = ticket_from }

pub variables_stay_covered : VariablesStayCovered
variables_stay_covered = covered_from
