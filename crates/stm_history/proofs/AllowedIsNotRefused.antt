-- What the slow desk allows, no call refuses.
use Rattle.std.proofs.Common.{◌≡◌, ℕ, ◌+◌, ◌≤◌, Bool, true, false, not, List, [], ◌∷◌, length, Option, Some, None, refl, ap, ◌∙◌, arith}
use Rattle.std.specs.Prelude.{nat_eq, nat_le, nat_lt, is_some, IsSomeAnd}
use Rattle.std.proofs.lemmas.Bool.Decides.{nat_tests}
use Rattle.stm_events.specs.Labels.{is_label}
use Rattle.stm_terms.specs.declared.kinds.Ty.{Ty}
use Rattle.stm_terms.specs.declared.kinds.Base.{Base}
use Rattle.stm_terms.specs.declared.kinds.Base.TheVariants as base
use Rattle.stm_terms.specs.declared.values.Value.{Value}
use Rattle.stm_terms.specs.declared.verdicts.Verdict.{Verdict}
use Rattle.stm_terms.specs.Typing.{same_base, same_ty}
use Rattle.stm_store.specs.declared.cell.Cell.{Cell}
use Rattle.stm_store.specs.Cells.{plains, Covers, kinds_of, made_by}
use Rattle.stm_store.specs.Naming.{may_hold_known, number_named}
use Rattle.stm_store.specs.Tables.{is_type}
use Rattle.stm_check.specs.TypedBlock.{Block}
use Rattle.stm_events.specs.declared.event.What.TheVariants.{Submitted, Finished, Cancelled, Declared as DeclaredLate, Labelled}
use Rattle.stm_events.specs.SlowDesk.{Since, Waiter, Slow, is_new_since, current_since, MayFinish, find_waiter, Allows, max_cells}
use Rattle.stm_terms.specs.Limits.{max_waiting}
use Rattle.stm_events.specs.Refusals.{declare_first, late_declare_refused, missing, submit_refused, cancel_first, cancel_refused, label_first, label_refused, overflows, finish_first, finish_refused}

-- ---- a block that is submitted
same_base_itself : (b : Base) → same_base b b ≡ true
same_base_itself base.Int = refl
same_base_itself base.Bool = refl
same_base_itself base.Unit = refl

number_itself : (n : ℕ) → nat_eq n n ≡ true
number_itself n = grind (arith, nat_tests)

same_ty_itself : (t : Ty) → same_ty t t ≡ true
same_ty_itself t = rw (same_base_itself t.base) (number_itself t.refs)

kind_there : (o : Option Ty) (t : Ty) → o ≡ Some t → is_type o t ≡ true
kind_there o t e = ap (λ (x : Option Ty). is_type x t) e ∙ same_ty_itself t

missing_none : (cells : List (Ty × Value)) (uses : List (ℕ × Ty)) → Covers cells uses → missing cells uses ≡ None
missing_none cells [] c = refl
missing_none cells (u ∷ us) c = rw (kind_there (kinds_of cells u.0) u.1 c.0) (missing_none cells us c.1)

pub submit_not_refused : (s : Slow) (t : ℕ) (b : Block) → Allows s (Submitted t b) → submit_refused s false b ≡ None
submit_not_refused s t b a =
    let few : nat_le max_waiting (length s.waiters) ≡ false = (let h = a.2 in grind (arith, nat_tests)) in
    rw (missing_none (plains s.store) b.uses a.1, few) refl

-- ---- a block that is cancelled
cancel_by : (o : Option Waiter) → IsSomeAnd o (λ w. Unit {0}) → cancel_first o false ≡ None
cancel_by None a = absurd a
cancel_by (Some w) a = refl

pub cancel_not_refused : (s : Slow) (t : ℕ) → Allows s (Cancelled t) → cancel_refused s false t ≡ None
cancel_not_refused s t a = cancel_by (find_waiter t s.waiters) a

-- ---- a block that gets a label
label_by : (label : List ℕ) (o : Option Waiter) → IsSomeAnd o (λ w. is_label label ≡ true) → label_first o false ≡ None
label_by label None a = absurd a
label_by label (Some w) a = refl

pub label_not_refused : (s : Slow) (t : ℕ) (label : List ℕ) → Allows s (Labelled t label) → label_refused s false t ≡ None
label_not_refused s t label a = label_by label (find_waiter t s.waiters) a

-- ---- a variable that is declared
declare_by : (taken holds room : Bool) → taken ≡ false → holds ≡ true → room ≡ true → declare_first taken holds false room ≡ None
declare_by true holds room e f g = cc
declare_by false false room e f g = cc
declare_by false true false e f g = cc
declare_by false true true e f g = refl

pub declare_not_refused : (s : Slow) (name : List ℕ) (kind : Ty) (value : Value) → Allows s (DeclaredLate name kind value) → late_declare_refused s false name kind value ≡ None
declare_not_refused s name kind value a =
    let room : nat_lt (length s.store) max_cells ≡ true = (let h = a.room in grind (arith, nat_tests)) in
    declare_by (is_some (number_named name s.names)) (may_hold_known s.names kind value) (nat_lt (length s.store) max_cells) (ap (λ (o : Option ℕ). is_some o) a.fresh) a.holds room

-- ---- a block that finishes
current_old : (b : Block) (o : Option Since) → current_since b o ≡ true → is_new_since o ≡ false
current_old b None c = cc
current_old b (Some s) c = refl

room_there : (store : List Cell) (v : Verdict) → length store + length (made_by v) ≤ max_cells → overflows store (Some v) ≡ false
room_there store v h = let e : nat_le (length store + length (made_by v)) max_cells ≡ true = grind (arith, nat_tests) in ap not e

finish_by : (s : Slow) (t : ℕ) (v : Verdict) (n : ℕ) (stale : List ℕ) (o : Option Waiter) → IsSomeAnd o (λ w. MayFinish s t w v n stale) → finish_first s.store false o ≡ None
finish_by s t v n stale None m = absurd m
finish_by s t v n stale (Some w) m = rw (current_old w.block w.since m.current, m.current, m.verdict_is, m.ends, room_there s.store v m.room) refl

pub finish_not_refused : (s : Slow) (t : ℕ) (v : Verdict) (n : ℕ) (stale : List ℕ) → Allows s (Finished t v n stale) → finish_refused s false t ≡ None
finish_not_refused s t v n stale a = finish_by s t v n stale (find_waiter t s.waiters) a
