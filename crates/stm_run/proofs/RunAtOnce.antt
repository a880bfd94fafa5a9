-- What `atomically` does is allowed if it isn't refused, so the desk goes on standing.
use Rattle.std.proofs.Common.{◌≡◌, ℕ, ◌+◌, ◌<◌, ◌≤◌, Bool, true, false, cond, not, List, [], ◌∷◌, length, Option, Some, None, refl, sym, subst, arith, length-append}
use Rattle.std.specs.Prelude.{nat_le, nat_lt}
use Rattle.std.proofs.lemmas.Bool.Decides.{nat_tests}
use Rattle.stm_terms.specs.declared.verdicts.Verdict.{Verdict}
use Rattle.stm_store.specs.Cells.{plains, Covers, made_by}
use Rattle.stm_check.specs.TypedBlock.{Block}
use Rattle.stm_events.specs.declared.event.What.{What}
use Rattle.stm_events.specs.declared.event.What.TheVariants.{Submitted, Installed, Finished}
use Rattle.stm_events.specs.Laws.{IsWellTyped, SubmitsWellTyped}
use Rattle.stm_events.specs.Refusals.{missing, overflows}
use Rattle.stm_events.specs.SlowAtomically.{install_at_once, atomically, AllowsEach}
use Rattle.stm_events.specs.SlowDesk.{Slow, verdict_on, waking, is_blocks, stale_after, after, max_cells}
use Rattle.stm_terms.specs.Limits.{max_waiting}
use Rattle.stm_events.specs.States.{IsPossible}
use Rattle.stm_events.proofs.Atomically.{MayRun, whats_waiting, waiting_allowed, whats_ending, ending_allowed}
use Rattle.stm_machine.specs.Machine.{event}
use Rattle.stm_desk.specs.declared.errors.AtomicError.{AtomicError}
use Rattle.stm_desk.specs.declared.errors.AtomicError.TheVariants as atomic
use Rattle.stm_desk.specs.DeskView.{DeskView, start_state, state_of, with_event, is_full, lacks_room}
use Rattle.stm_desk.specs.Refusals.{atomic_first, events_needed, atomic_refusal}
use Rattle.stm_desk.specs.Settling.{with_whats}
use Rattle.stm_commands.specs.Atomically.{atomically_block_step}
use Rattle.stm_commands.specs.OpenDesk.{HandedOut}
use Rattle.stm_run.proofs.DeskMoves.{none_missing}
use Rattle.stm_run.proofs.StandingDesk.{Stands, stands_sound, stands_event, state_later}

-- ---- what refuses it
pub record MayRunNow (m : Option ℕ) (many full crowded : Bool) : Type 0 where
  pub there : m ≡ None
  pub few : many ≡ false
  pub room : full ≡ false
  pub fits : crowded ≡ false

pub may_run_now : (m : Option ℕ) (many full crowded : Bool) → atomic_first m many full crowded ≡ None → MayRunNow m many full crowded
may_run_now (Some i) many full crowded e = absurd cc
may_run_now None true full crowded e = absurd cc
may_run_now None false true crowded e = absurd cc
may_run_now None false false true e = absurd cc
may_run_now None false false false e = record { there = refl; few = refl; room = refl; fits = refl }

-- it is printed
pub atomic_told : (m : Option ℕ) (many full crowded : Bool) → atomic_first m many full crowded ≡ Some atomic.NoMemory → ⊥
atomic_told (Some i) many full crowded e = cc
atomic_told None true full crowded e = cc
atomic_told None false true crowded e = cc
atomic_told None false false true e = cc
atomic_told None false false false e = cc

-- ---- its events
few_wait : (n : ℕ) → nat_le max_waiting n ≡ false → n < max_waiting
few_wait n e = grind (arith, nat_tests)

room_by : (n : ℕ) → not (nat_le n max_cells) ≡ false → n ≤ max_cells
room_by n e = grind (arith, nat_tests)

each_allowed : (s : Slow) (block : Block) (o : Option Verdict) → IsPossible s → Covers (plains s.store) block.uses → length s.waiters < max_waiting → verdict_on s.store block ≡ o → overflows s.store o ≡ false
    → AllowsEach s (atomically s block)
each_allowed s block None p c f e fits = subst (λ (o : Option Verdict). AllowsEach s (Submitted s.next block ∷ install_at_once (after s (Submitted s.next block)) s.next o)) (sym e) ((refl, c, f), tt)
each_allowed s block (Some v) p c f e fits = by (is_blocks v) refl
  where
    may : MayRun s block v
    may = record { covered = c; few = f; verdict_is = e }

    by : (b : Bool) → is_blocks v ≡ b → AllowsEach s (atomically s block)
    by true q = subst (AllowsEach s) (sym (whats_waiting s block v p e q)) (waiting_allowed s block v p may)
    by false q =
        let stale = stale_after (waking s.rule s.store v) s.waiters in
        subst (AllowsEach s) (sym (whats_ending s block v p stale e q refl)) (ending_allowed s block v p stale may q (room_by (length s.store + length (made_by v)) fits) refl)

count_by : (b : Bool) (x y z : What) → length (x ∷ y ∷ cond b [] (z ∷ [])) ≤ cond b 2 3
count_by true x y z = omega arith
count_by false x y z = omega arith

count_of : (s t : Slow) (block : Block) (o : Option Verdict) → length (Submitted t.next block ∷ install_at_once s t.next o) ≤ events_needed o
count_of s t block None = omega arith
count_of s t block (Some v) = count_by (is_blocks v) (Submitted t.next block) (Installed t.next v) _

-- none of these submits a block that isn't well typed
abbrev pub EachTyped : List What → Type 0
EachTyped [] = Unit {0}
EachTyped (x ∷ xs) = SubmitsWellTyped x × EachTyped xs

finish_typed : (b : Bool) (t n : ℕ) (v : Verdict) (stale : List ℕ) → EachTyped (cond b [] (Finished t v n stale ∷ []))
finish_typed true t n v stale = tt
finish_typed false t n v stale = (tt, tt)

install_typed : (s : Slow) (t : ℕ) (o : Option Verdict) → EachTyped (install_at_once s t o)
install_typed s t None = tt
install_typed s t (Some v) = (tt, finish_typed (is_blocks v) t _ v _)

pub run_typed : (s : Slow) (block : Block) → IsWellTyped block → EachTyped (atomically s block)
run_typed s block w = (w, install_typed (after s (Submitted s.next block)) s.next (verdict_on s.store block))

-- ---- the desk after them
not_full : (limit n k : ℕ) → n + (k + 1) ≤ limit → nat_le limit n ≡ false
not_full limit n k h = let l : n < limit = omega arith in grind (arith, nat_tests)

whats_stand : (d : DeskView) (jobs : List HandedOut) (xs : List What) → length d.history + length xs ≤ d.limit → AllowsEach (state_of d) xs → EachTyped xs → Stands d jobs → Stands (with_whats d 0 xs) jobs
whats_stand d jobs [] room a t k = k
whats_stand d jobs (x ∷ xs) room a t k =
    let next = with_event d 0 x in
    let full : is_full d ≡ false = not_full d.limit (length d.history) (length xs) (omega (arith, room)) in
    whats_stand next jobs xs (omega (arith, length-append d.history (event 0 x ∷ []), room)) (subst (λ (s : Slow). AllowsEach s xs) (sym (state_later (start_state d) d.history (event 0 x))) a.1) t.1
    (stands_event d jobs x full a.0 t.0 k)

room_left : (limit n k : ℕ) → nat_lt limit (n + k) ≡ false → n + k ≤ limit
room_left limit n k e = grind (arith, nat_tests)

pub run_allowed : (d : DeskView) (jobs : List HandedOut) (block : Block) → atomic_refusal d block ≡ None → Stands d jobs → AllowsEach (state_of d) (atomically (state_of d) block)
run_allowed d jobs block e k =
    let s = state_of d in
    let o = verdict_on s.store block in
    let m = may_run_now (missing (plains s.store) block.uses) (nat_le max_waiting (length s.waiters)) (lacks_room d (events_needed o)) (overflows s.store o) e in
    each_allowed s block o (stands_sound d jobs k).possible (none_missing (plains s.store) block.uses m.there) (few_wait (length s.waiters) m.few) refl m.fits

pub ran_stands : (d : DeskView) (jobs : List HandedOut) (block : Block) → IsWellTyped block → (o : Option AtomicError) → atomic_refusal d block ≡ o → Stands d jobs → Stands (atomically_block_step d block o).0 jobs
ran_stands d jobs block w (Some x) e k = k
ran_stands d jobs block w None e k =
    let s = state_of d in
    let o = verdict_on s.store block in
    let m = may_run_now (missing (plains s.store) block.uses) (nat_le max_waiting (length s.waiters)) (lacks_room d (events_needed o)) (overflows s.store o) e in
    let room : length d.history + events_needed o ≤ d.limit = room_left d.limit (length d.history) (events_needed o) m.room in
    let few : length (atomically s block) ≤ events_needed o = count_of (after s (Submitted s.next block)) s block o in
    whats_stand d jobs (atomically s block) (omega (arith, room, few)) (run_allowed d jobs block e k) (run_typed s block w) k
