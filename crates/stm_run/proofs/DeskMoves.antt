-- What `submit`, `declare`, `finish`, `cancel` and `label` do is allowed if they aren't refused, so the desk goes on standing.
use Rattle.std.proofs.Common.{◌≡◌, ℕ, ◌+◌, ◌<◌, ◌≤◌, Bool, true, false, cond, not, List, [], ◌∷◌, length, Option, Some, None, refl, sym, subst, ap, arith}
use Rattle.std.specs.Prelude.{nat_le, nat_lt, is_some, IsSomeAnd, IsTrue}
use Rattle.std.proofs.lemmas.Bool.Decides.{nat_tests}
use Rattle.stm_terms.specs.declared.kinds.Ty.{Ty}
use Rattle.stm_terms.specs.declared.values.Value.{Value}
use Rattle.stm_terms.specs.declared.verdicts.Verdict.{Verdict}
use Rattle.stm_terms.specs.Names.{is_name_text}
use Rattle.stm_store.specs.declared.cell.Cell.{Cell}
use Rattle.stm_store.specs.Cells.{plains, Covers, kinds_of, made_by, changed_by}
use Rattle.stm_store.specs.Naming.{may_hold_known, number_named}
use Rattle.stm_store.specs.Tables.{Declared, is_type}
use Rattle.stm_check.specs.TypedBlock.{Block}
use Rattle.stm_events.specs.declared.event.What.TheVariants.{Submitted, Finished, Cancelled, Declared as DeclaredLate, Labelled}
use Rattle.stm_events.specs.declared.errors.SubmitError.{SubmitError}
use Rattle.stm_events.specs.declared.errors.SubmitError.TheVariants as submit
use Rattle.stm_events.specs.declared.errors.LateDeclareError.{LateDeclareError}
use Rattle.stm_events.specs.declared.errors.LateDeclareError.TheVariants as late
use Rattle.stm_events.specs.declared.errors.FinishError.{FinishError}
use Rattle.stm_events.specs.declared.errors.FinishError.TheVariants as finish
use Rattle.stm_events.specs.declared.errors.CancelError.{CancelError}
use Rattle.stm_events.specs.declared.errors.CancelError.TheVariants as cancel
use Rattle.stm_events.specs.declared.errors.LabelError.{LabelError}
use Rattle.stm_events.specs.declared.errors.LabelError.TheVariants as label
use Rattle.stm_events.specs.Labels.{is_label}
use Rattle.stm_events.specs.Laws.{IsWellTyped}
use Rattle.stm_events.specs.Refusals.{missing, submit_first, declare_first, late_declare_refused, blocks_there, overflows, finish_first, cancel_first, label_first}
use Rattle.stm_events.specs.SlowDesk.{Waiter, verdict_on, is_new, is_current, find_waiter, without_waiter, stale_after, waking, max_cells, MayFinish}
use Rattle.stm_terms.specs.Limits.{max_waiting}
use Rattle.stm_events.specs.declared.staleness.StalenessRule.{StalenessRule}
use Rattle.stm_machine.proofs.Declaring.{may_declare}
use Rattle.stm_desk.specs.Refusals.{submit_refusal, late_declare_refusal, finish_refusal, cancel_refusal, label_refusal}
use Rattle.stm_desk.specs.DeskView.{DeskView, state_of, is_full}
use Rattle.stm_commands.specs.Blocks.{submit_block_step}
use Rattle.stm_commands.specs.Declaring.{declare_variable_step}
use Rattle.stm_commands.specs.Endings.{finish_ticket_step, cancel_ticket_step, finish_verdict_step, finish_waiter_step}
use Rattle.stm_commands.specs.Labelling.{label_ticket_step}
use Rattle.stm_commands.specs.OpenDesk.{HandedOut}
use Rattle.stm_run.proofs.StandingDesk.{Stands, stands_sound, stands_event}
use Rattle.stm_run.proofs.TypedTable.{same_kind}

-- ---- submit
record MayWait (m : Option ℕ) (many full : Bool) : Type 0 where
  pub there : m ≡ None
  pub few : many ≡ false
  pub room : full ≡ false

may_wait : (m : Option ℕ) (many full : Bool) → submit_first m many full ≡ None → MayWait m many full
may_wait (Some i) many full e = absurd cc
may_wait None true full e = absurd cc
may_wait None false true e = absurd cc
may_wait None false false e = record { there = refl; few = refl; room = refl }

covered_first : (cells : List (Ty × Value)) (u : ℕ × Ty) (us : List (ℕ × Ty)) (b : Bool) → is_type (kinds_of cells u.0) u.1 ≡ b
    → (missing cells us ≡ None → Covers cells us) → cond b (missing cells us) (Some u.0) ≡ None → Covers cells (u ∷ us)
covered_first cells u us true h more e = (same_kind (kinds_of cells u.0) u.1 h, more e)
covered_first cells u us false h more e = absurd cc

pub none_missing : (cells : List (Ty × Value)) (us : List (ℕ × Ty)) → missing cells us ≡ None → Covers cells us
none_missing cells [] e = tt
none_missing cells (u ∷ us) e = covered_first cells u us (is_type (kinds_of cells u.0) u.1) refl (none_missing cells us) e

few_wait : (n : ℕ) → nat_le max_waiting n ≡ false → n < max_waiting
few_wait n e = grind (arith, nat_tests)

pub submitted_stands : (d : DeskView) (jobs : List HandedOut) (block : Block) → IsWellTyped block → (o : Option SubmitError) → submit_refusal d block ≡ o → Stands d jobs → Stands (submit_block_step d block o).0 jobs
submitted_stands d jobs block w (Some x) e k = k
submitted_stands d jobs block w None e k =
    let s = state_of d in
    let m = may_wait (missing (plains s.store) block.uses) (nat_le max_waiting (length s.waiters)) (is_full d) e in
    stands_event d jobs (Submitted s.next block) m.room (refl, none_missing (plains s.store) block.uses m.there, few_wait (length s.waiters) m.few) w k

-- what a submission is refused for is printed
pub submit_told : (m : Option ℕ) (many full : Bool) → submit_first m many full ≡ Some submit.NoMemory → ⊥
submit_told (Some i) many full e = cc
submit_told None true full e = cc
submit_told None false true e = cc
submit_told None false false e = cc

-- ---- declare
has_event_room : (taken holds full room : Bool) → declare_first taken holds full room ≡ None → full ≡ false
has_event_room true holds full room e = absurd cc
has_event_room false false full room e = absurd cc
has_event_room false true true room e = absurd cc
has_event_room false true false room e = refl

pub declared_stands : (d : DeskView) (jobs : List HandedOut) (v : Declared) → IsTrue (is_name_text v.name) → (o : Option LateDeclareError) → late_declare_refusal d v.name v.kind v.value ≡ o → Stands d jobs → Stands (declare_variable_step d v o).0 jobs
declared_stands d jobs v n (Some x) e k = k
declared_stands d jobs v n None e k =
    let s = state_of d in
    let room : is_full d ≡ false = has_event_room (is_some (number_named v.name s.names)) (may_hold_known s.names v.kind v.value) (is_full d) (nat_lt (length s.store) max_cells) e in
    let may : late_declare_refused s false v.name v.kind v.value ≡ None = subst (λ (full : Bool). late_declare_refused s full v.name v.kind v.value ≡ None) room e in
    stands_event d jobs (DeclaredLate v.name v.kind v.value) room (may_declare s v.name v.kind v.value n may) tt k

-- what a declaration is refused for is printed
pub declare_told : (taken holds full room : Bool) → declare_first taken holds full room ≡ Some late.NoMemory → ⊥
declare_told true holds full room e = cc
declare_told false false full room e = cc
declare_told false true true room e = cc
declare_told false true false true e = cc
declare_told false true false false e = cc

-- ---- cancel
pub cancelled_stands : (d : DeskView) (jobs : List HandedOut) (t : ℕ) (o : Option CancelError) → cancel_refusal d t ≡ o → Stands d jobs → Stands (cancel_ticket_step d t o).0 jobs
cancelled_stands d jobs t (Some x) e k = k
cancelled_stands d jobs t None e k = by (find_waiter t (state_of d).waiters) refl (is_full d) refl e
  where
    by : (o : Option Waiter) → find_waiter t (state_of d).waiters ≡ o → (full : Bool) → is_full d ≡ full → cancel_first o full ≡ None → Stands (cancel_ticket_step d t None).0 jobs
    by None f full r q = absurd cc
    by (Some w) f true r q = absurd cc
    by (Some w) f false r q = stands_event d jobs (Cancelled t) r (subst (λ (o : Option Waiter). IsSomeAnd o (λ w. Unit {0})) (sym f) tt) tt k

pub cancel_told : (o : Option Waiter) (full : Bool) → cancel_first o full ≡ Some cancel.NoMemory → ⊥
cancel_told None full e = cc
cancel_told (Some w) true e = cc
cancel_told (Some w) false e = cc

-- ---- label
pub labelled_stands : (d : DeskView) (jobs : List HandedOut) (t : ℕ) (text : List ℕ) → IsTrue (is_label text) → (o : Option LabelError) → label_refusal d t ≡ o → Stands d jobs → Stands (label_ticket_step d t text o).0 jobs
labelled_stands d jobs t text h (Some x) e k = k
labelled_stands d jobs t text h None e k = by (find_waiter t (state_of d).waiters) refl (is_full d) refl e
  where
    by : (o : Option Waiter) → find_waiter t (state_of d).waiters ≡ o → (full : Bool) → is_full d ≡ full → label_first o full ≡ None → Stands (label_ticket_step d t text None).0 jobs
    by None f full r q = absurd cc
    by (Some w) f true r q = absurd cc
    by (Some w) f false r q = stands_event d jobs (Labelled t text) r (subst (λ (o : Option Waiter). IsSomeAnd o (λ w. is_label text ≡ true)) (sym f) h) tt k

pub label_told : (o : Option Waiter) (full : Bool) → label_first o full ≡ Some label.NoMemory → ⊥
label_told None full e = cc
label_told (Some w) true e = cc
label_told (Some w) false e = cc

-- ---- finish
pub record MayEnd (new current blocks full over : Bool) : Type 0 where
  pub is : current ≡ true
  pub ends : blocks ≡ false
  pub room : full ≡ false
  pub fits : over ≡ false

abbrev tested : Bool → Bool → Bool → Bool → Bool → Option FinishError
tested new current blocks full over =
    cond new (Some finish.NotEvaluated) (cond (not current) (Some finish.Stale) (cond blocks (Some finish.Blocks)
    (cond full (Some finish.HistoryFull) (cond over (Some finish.CellsFull) None))))

pub may_end : (new current blocks full over : Bool) → tested new current blocks full over ≡ None → MayEnd new current blocks full over
may_end true current blocks full over e = absurd cc
may_end false false blocks full over e = absurd cc
may_end false true true full over e = absurd cc
may_end false true false true over e = absurd cc
may_end false true false false true e = absurd cc
may_end false true false false false e = record { is = refl; ends = refl; room = refl; fits = refl }

told : (new current blocks full over : Bool) → tested new current blocks full over ≡ Some finish.NoMemory → ⊥
told true current blocks full over e = cc
told false false blocks full over e = cc
told false true true full over e = cc
told false true false true over e = cc
told false true false false true e = cc
told false true false false false e = cc

pub finish_told : (store : List Cell) (full : Bool) (o : Option Waiter) → finish_first store full o ≡ Some finish.NoMemory → ⊥
finish_told store full None e = cc
finish_told store full (Some w) e = told (is_new w) (is_current w) (blocks_there (verdict_on store w.block)) full (overflows store (verdict_on store w.block)) e

room_for : (store : List Cell) (v : Verdict) → overflows store (Some v) ≡ false → length store + length (made_by v) ≤ max_cells
room_for store v e = of (nat_le (length store + length (made_by v)) max_cells) refl e
  where
    of : (b : Bool) → nat_le (length store + length (made_by v)) max_cells ≡ b → not b ≡ false → length store + length (made_by v) ≤ max_cells
    of true h q = grind (arith, nat_tests)
    of false h q = absurd cc

finishes_by : (d : DeskView) (jobs : List HandedOut) (t : ℕ) (w : Waiter) (v : Option Verdict) → find_waiter t (state_of d).waiters ≡ Some w → verdict_on (state_of d).store w.block ≡ v
    → MayEnd (is_new w) (is_current w) (blocks_there v) (is_full d) (overflows (state_of d).store v) → Stands d jobs → Stands (finish_verdict_step d t v).0 jobs
finishes_by d jobs t w None f e m k = k
finishes_by d jobs t w (Some v) f e m k =
    let s = state_of d in
    let stale = stale_after (changed_by s.store v) (without_waiter t s.waiters) in
    let may : MayFinish s t w v (length s.store) stale = record {
      current = m.is;
      verdict_is = e;
      ends = m.ends;
      first_new = refl;
      room = room_for s.store v m.fits;
      listed = ap (λ (r : StalenessRule). stale_after (waking r s.store v) (without_waiter t s.waiters)) (sym (stands_sound d jobs k).rule);
    } in
    stands_event d jobs (Finished t v (length s.store) stale) m.room
    (subst (λ (o : Option Waiter). IsSomeAnd o (λ x. MayFinish s t x v (length s.store) stale)) (sym f) may) tt k

finishes_of : (d : DeskView) (jobs : List HandedOut) (t : ℕ) (o : Option Waiter) → find_waiter t (state_of d).waiters ≡ o → finish_first (state_of d).store (is_full d) o ≡ None → Stands d jobs → Stands (finish_waiter_step d t o).0 jobs
finishes_of d jobs t None f e k = absurd cc
finishes_of d jobs t (Some w) f e k =
    let v = verdict_on (state_of d).store w.block in
    finishes_by d jobs t w v f refl (may_end (is_new w) (is_current w) (blocks_there v) (is_full d) (overflows (state_of d).store v) e) k

pub finished_stands : (d : DeskView) (jobs : List HandedOut) (t : ℕ) (o : Option FinishError) → finish_refusal d t ≡ o → Stands d jobs → Stands (finish_ticket_step d t o).0 jobs
finished_stands d jobs t (Some x) e k = k
finished_stands d jobs t None e k = finishes_of d jobs t (find_waiter t (state_of d).waiters) refl e k
