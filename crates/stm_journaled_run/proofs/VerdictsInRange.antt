-- The verdicts of a legal history, and those of a checkpoint, are in range if their values are: each fits the store that it was found
-- on, so its new variables have types of few `TVar`.
use Rattle.std.proofs.Common.{◌≡◌, ℕ, suc, ◌≤◌, Bool, List, [], ◌∷◌, Option, Some, None, refl, sym, ◌∙◌, subst}
use Rattle.std.specs.Prelude.{IsSomeAnd, slice_get}
use Rattle.stm_terms.specs.declared.kinds.Ty.{Ty}
use Rattle.stm_terms.specs.declared.values.Value.{Value}
use Rattle.stm_terms.specs.declared.values.Value.TheVariants as value
use Rattle.stm_terms.specs.declared.values.Fault.TheVariants.{Thrown, Overflow}
use Rattle.stm_terms.specs.declared.verdicts.Verdict.{Verdict}
use Rattle.stm_terms.specs.declared.verdicts.Verdict.TheVariants.{Commits, Throws, Blocks}
use Rattle.stm_terms.specs.Limits.{most_refs}
use Rattle.stm_store.specs.declared.cell.Cell.{Cell}
use Rattle.stm_store.specs.Cells.{plains, Covers, Fits, StoreIsTyped}
use Rattle.stm_store.proofs.ApplyPreservesTyping.{applied_typed, covered_stay}
use Rattle.stm_check.specs.TypedBlock.{Block}
use Rattle.stm_check.proofs.TypingLaws.{every_verdict_fits}
use Rattle.stm_events.specs.declared.event.Event.{Event}
use Rattle.stm_events.specs.declared.event.What.{What}
use Rattle.stm_events.specs.declared.event.What.TheVariants.{Submitted, Installed, Finished, Cancelled, Declared as DeclaredLate, Labelled}
use Rattle.stm_events.specs.Laws.{IsWellTyped, SubmittedAreWellTyped}
use Rattle.stm_events.specs.SlowDesk.{Waiter, Slow, verdict_on, find_waiter, after, Allows, LegalFrom}
use Rattle.stm_events.proofs.TypedStores.{typed_verdict}
use Rattle.stm_waiting.specs.declared.waiting.Held.{Held}
use Rattle.stm_machine.specs.Checkpoints.{store_with, IsRightDelivery}
use Rattle.stm_event_lines.specs.Fits.{FitNews, FitsVerdict}
use Rattle.stm_run.specs.Fitting.{IsVerdictInRange, AreVerdictsInRange}
use Rattle.stm_run.proofs.SoundStates.{IsSound, sound_after}
use Rattle.stm_journaled_run.specs.Ranges.{AreValuesInRange, IsInRange, IsEventInRange, AreEventsInRange}

news_fit : (news : List (Ty × Value)) → ((k : ℕ) (c : Ty × Value) → slice_get news k ≡ Some c → c.0.refs ≤ most_refs) → AreValuesInRange news → FitNews news
news_fit [] few r = tt
news_fit (n ∷ ns) few r = (few 0 n refl, r.0, news_fit ns (λ k c e. few (suc k) c e) r.1)

fits_range : (cells : List (Ty × Value)) (v : Verdict) → Fits cells v → IsInRange v → FitsVerdict v
unfolding Fits
fits_range cells (Commits writes news result) f r = (r.0, news_fit news (λ k c e. (f.news k c e).1) r.1, r.2)
fits_range cells (Throws (Thrown n)) f r = r
fits_range cells (Throws Overflow) f r = tt
fits_range cells Blocks f r = tt

-- a verdict that fits some store, found for one that is known
found_fits : (cells : List (Ty × Value)) (o : Option Verdict) (v : Verdict) → (b : Verdict) × (o ≡ Some b) × Fits cells b → o ≡ Some v → IsInRange v → FitsVerdict v
found_fits cells o v b is range =
    let one : Some b.0 ≡ Some v = sym b.1 ∙ is in
    let same : b.0 ≡ v = cc in
    fits_range cells v (subst (Fits cells) same b.2) range

-- ---- events
by_waiter : (s : Slow) → IsSound s → (t : ℕ) (v : Verdict) (P : Waiter → Type 0) (o : Option Waiter) → find_waiter t s.waiters ≡ o → IsSomeAnd o P
    → ((w : Waiter) → P w → verdict_on s.store w.block ≡ Some v) → IsInRange v → FitsVerdict v
by_waiter s k t v P None found p is range = absurd p
by_waiter s k t v P (Some w) found p is range = found_fits (plains s.store) (verdict_on s.store w.block) v (typed_verdict s t w k.possible k.typed found) (is w p) range

allowed_in_range : (s : Slow) → IsSound s → (what : What) → Allows s what → IsEventInRange what → IsVerdictInRange what
allowed_in_range s k (Submitted t block) a range = tt
allowed_in_range s k (Installed t v) a range = by_waiter s k t v _ (find_waiter t s.waiters) refl a (λ w m. m.verdict_is) range
allowed_in_range s k (Finished t v n stale) a range = by_waiter s k t v _ (find_waiter t s.waiters) refl a (λ w m. m.verdict_is) range
allowed_in_range s k (Cancelled t) a range = tt
allowed_in_range s k (DeclaredLate name kind value) a range = tt
allowed_in_range s k (Labelled t label) a range = tt

pub all_in_range : (s : Slow) → IsSound s → (es : List Event) → LegalFrom s es → SubmittedAreWellTyped es → AreEventsInRange es → AreVerdictsInRange es
all_in_range s k [] l w range = tt
all_in_range s k (e ∷ es) l w range =
    (allowed_in_range s k e.what l.0.what range.0, all_in_range (after s e.what) (sound_after s e.what k l.0.what w.0) es l.1 w.1 range.1)

-- ---- a last delivery
pub delivery_fits : (store : List Cell) (block : Block) (stale : Bool) (h : Held) → StoreIsTyped (plains store) → Covers (plains store) block.uses → IsWellTyped block → IsRightDelivery store block stale (Some h)
    → IsInRange h.verdict → FitsVerdict h.verdict
delivery_fits store block stale h typed covered action right range =
    let then = store_with h.reads store in
    let change : Verdict = Commits h.reads [] value.Unit in
    let store_typed : StoreIsTyped (plains then) = applied_typed store change right.0 typed in
    let store_covers : Covers (plains then) block.uses = covered_stay store change block.uses covered in
    found_fits (plains then) (verdict_on then block) h.verdict (every_verdict_fits (plains then) block.uses block.tree action.0 store_typed store_covers action.1) right.1.verdict_is range
