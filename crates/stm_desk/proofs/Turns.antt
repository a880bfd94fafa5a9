-- One event of an order of work.
use Rattle.std.proofs.Common.{◌≡◌, ℕ, ◌+◌, ◌<◌, ◌≤◌, Bool, true, false, cond, List, length, Option, Some, None, Ok, Err, refl, sym, ap, subst, ◌∙◌, arith}
use Rattle.std.specs.Prelude.{is_some}
use Rattle.std.proofs.lemmas.Bool.Decides.{nat_tests}
use Rattle.std.proofs.lemmas.Bool.{and_parts, le-leb, not-true}
use Rattle.stm_terms.specs.declared.values.Value.{Value}
use Rattle.stm_terms.specs.declared.verdicts.Verdict.{Verdict}
use Rattle.stm_terms.specs.UnlessNoMemory.{RefusedAs}
use Rattle.stm_store.specs.declared.cell.Cell.{Cell}
use Rattle.stm_store.specs.Cells.{made_by}
use Rattle.stm_events.specs.declared.event.What.{What}
use Rattle.stm_events.specs.declared.event.What.TheVariants.{Installed, Finished}
use Rattle.stm_events.specs.declared.errors.FinishError.{FinishError}
use Rattle.stm_events.specs.declared.errors.FinishError.TheVariants as finish
use Rattle.stm_events.specs.Refusals.{overflows}
use Rattle.stm_events.specs.SlowDesk.{Since, Waiter, Slow, waking, verdict_on, is_blocks, is_new_since, is_new, current_since, is_current, find_waiter, without_waiter, stale_after, max_cells}
use Rattle.stm_events.specs.SlowSettle.{ends, can_end, Order}
use Rattle.stm_events.proofs.Folds.{state-push}
use Rattle.stm_machine.specs.Keeping.{IsVerdictUnder}
use Rattle.stm_machine.specs.Machine.{event}
use Rattle.stm_machine.specs.Plans.{IsPlan}
use Rattle.stm_desk.specs.declared.finish.Finish.{Finish}
use Rattle.stm_desk.specs.DeskView.{DeskView, start_state, state_of, with_event, is_full}
use Rattle.stm_desk.specs.Events.{finish_of}
use Rattle.stm_desk.specs.Refusals.{finish_refusal}
use Rattle.stm_desk.specs.Settling.{IsFull}
use Rattle.stm_desk.specs.Steps.{verdict_there, ready_there, InstallsNext, FinishesNext, IsNextEvent, StopsFor, StopsFinish, finish_why}

room_of : (d : DeskView) → is_full d ≡ false → length d.history < d.limit
room_of d e = grind (arith, nat_tests)

full_of : (d : DeskView) → length d.history ≤ d.limit → is_full d ≡ true → length d.history ≡ d.limit
full_of d l e = let g : d.limit ≤ length d.history = grind (arith, nat_tests) in omega arith

-- ---- a delivery
-- the verdict on the present store of the block under a ticket
there_by : (store : List Cell) (o : Option Waiter) (w : Waiter) (v : Verdict) → o ≡ Some w → verdict_on store w.block ≡ Some v → verdict_there store o ≡ Some v
there_by store o w v e f = rw e f

verdict_is : (s : Slow) (t : ℕ) (v : Verdict) (reads : List (ℕ × Value)) → IsVerdictUnder s t v reads → verdict_there s.store (find_waiter t s.waiters) ≡ Some v
verdict_is s t v reads p = there_by s.store (find_waiter t s.waiters) p.one v p.found p.verdict

pub next_install : (d new : DeskView) (client t : ℕ) (v : Verdict) (reads : List (ℕ × Value)) → IsVerdictUnder (state_of d) t v reads → is_full d ≡ false → new ≡ with_event d client (Installed t v)
    → (next : Order) → InstallsNext next (state_of d) t → IsNextEvent next client 0 1 d new
next_install d new client t v reads f r e = λ next n. record {
  what = Installed t v;
  comes = n v (verdict_is (state_of d) t v reads f);
  fits = refl;
  grown = e;
  room = room_of d r;
  finishing = refl;
  evaluating = refl;
}

pub full_at : (d : DeskView) (t : ℕ) (v : Verdict) (reads : List (ℕ × Value)) → length d.history ≤ d.limit → IsVerdictUnder (state_of d) t v reads → is_full d ≡ true
    → (next : Order) → InstallsNext next (state_of d) t → IsFull next d
full_at d t v reads k f e = λ next n. record { left = ap is_some (n v (verdict_is (state_of d) t v reads f)); full = full_of d k e }

-- the store stays
pub store_install : (d new : DeskView) (client t : ℕ) (v : Verdict) → new ≡ with_event d client (Installed t v) → (state_of new).store ≡ (state_of d).store
store_install d new client t v e = ap (λ (x : DeskView). (state_of x).store) e ∙ ap (λ (s : Slow). s.store) (state-push (start_state d) d.history (event client (Installed t v)))

-- ---- a finish
one_waits : (o : Option Waiter) (v w : Waiter) → o ≡ Some v → o ≡ Some w → v ≡ w
one_waits None v w e f = cc
one_waits (Some x) v w e f = let a : x ≡ v = cc in let b : x ≡ w = cc in sym a ∙ b

-- the block under a ticket is current and doesn't block
record Ends (d : DeskView) (t : ℕ) : Type 0 where
  pub one : Waiter
  pub waits : find_waiter t (state_of d).waiters ≡ Some one
  pub current : is_current one ≡ true
  pub verdict : Verdict
  pub verdict_is : verdict_on (state_of d).store one.block ≡ Some verdict
  pub ends : is_blocks verdict ≡ false

verdict_by : (o : Option Verdict) → ends o ≡ true → (v : Verdict) × (o ≡ Some v) × (is_blocks v ≡ false)
verdict_by None h = cc
verdict_by (Some v) h = (v, refl, not-true (is_blocks v) h)

ends_by : (d : DeskView) (t : ℕ) (o : Option Waiter) → find_waiter t (state_of d).waiters ≡ o → ready_there (state_of d).store o ≡ true → Ends d t
ends_by d t None f r = cc
ends_by d t (Some w) f r =
    let a = and_parts (is_current w) (can_end (state_of d).store w) r in
    let v = verdict_by (verdict_on (state_of d).store w.block) a.1 in
    record { one = w; waits = f; current = a.0; verdict = v.0; verdict_is = v.1; ends = v.2 }

abbrev IsReadyAt : DeskView → ℕ → Type 0
IsReadyAt d t = ready_there (state_of d).store (find_waiter t (state_of d).waiters) ≡ true

ends_at : (d : DeskView) (t : ℕ) → IsReadyAt d t → Ends d t
ends_at d t r = ends_by d t (find_waiter t (state_of d).waiters) refl r

old_by : (w : Waiter) → is_current w ≡ true → is_new w ≡ false
old_by w c = by w.block w.since c where
  by : (b : _) (o : Option Since) → current_since b o ≡ true → is_new_since o ≡ false
  by b None c = cc
  by b (Some s) c = refl

abbrev last_refusal : Bool → Bool → Option FinishError
last_refusal full over = cond full (Some finish.HistoryFull) (cond over (Some finish.CellsFull) None)

end_told : (d : DeskView) (t : ℕ) → (f : Ends d t) → finish_refusal d t ≡ last_refusal (is_full d) (overflows (state_of d).store (Some f.verdict))
end_told d t f =
    let b : is_new f.one ≡ false = old_by f.one f.current in
    rw (f.waits, b, f.current, f.verdict_is, f.ends) refl

-- the finish
abbrev finish_at : DeskView → ℕ → Verdict → What
finish_at d t v = Finished t v (length (state_of d).store) (stale_after (waking (state_of d).rule (state_of d).store v) (without_waiter t (state_of d).waiters))

end_next : (d : DeskView) (t : ℕ) (f : Ends d t) (next : Order) → FinishesNext next (state_of d) t → next (state_of d) ≡ Some (finish_at d t f.verdict)
end_next d t f next n = n f.verdict (there_by (state_of d).store (find_waiter t (state_of d).waiters) f.one f.verdict f.waits f.verdict_is)

not_full_by : {A : Type 0} (a b : Bool) (x : A) → RefusedAs finish.NoMemory (last_refusal a b) (Ok x) → a ≡ false
not_full_by true b x h = cc
not_full_by false b x h = refl

same_verdict : (v u : Verdict) → Some v ≡ Some u → v ≡ u
same_verdict v u h = cc

pub next_finish : (d new : DeskView) (client t : ℕ) (made : Finish) → IsReadyAt d t → new ≡ with_event d client (finish_of t made) → IsPlan (state_of d) t made.verdict made.applied.first_new made.stale
    → RefusedAs finish.NoMemory (finish_refusal d t) (Ok made) → (next : Order) → FinishesNext next (state_of d) t → IsNextEvent next client 1 0 d new
next_finish d new client t made ready e plan r = λ next n.
    let s = state_of d in
    let f = ends_at d t ready in
    let a = plan.may in
    let one : plan.one ≡ f.one = one_waits (find_waiter t s.waiters) plan.one f.one plan.found f.waits in
    let there : verdict_on s.store f.one.block ≡ Some made.verdict = subst (λ (w : Waiter). verdict_on s.store w.block ≡ Some made.verdict) one a.verdict_is in
    let q : f.verdict ≡ made.verdict = same_verdict f.verdict made.verdict (sym f.verdict_is ∙ there) in
    let g : next s ≡ Some (finish_of t made) = end_next d t f next n ∙ rw (a.first_new, a.listed, q) refl in
    record {
      what = finish_of t made;
      comes = g;
      fits = le-leb (length s.store + length (made_by made.verdict)) max_cells a.room;
      grown = e;
      room = room_of d (not_full_by (is_full d) (overflows s.store (Some f.verdict)) made (subst (λ (o : Option FinishError). RefusedAs finish.NoMemory o (Ok made)) (end_told d t f) r));
      finishing = refl;
      evaluating = refl;
    }

stops_finish_by : (a b : Bool) (e : FinishError) → RefusedAs {A = Finish} finish.NoMemory (last_refusal a b) (Err e) → StopsFinish e
stops_finish_by true b finish.NoTicket h = cc
stops_finish_by false true finish.NoTicket h = cc
stops_finish_by false false finish.NoTicket h = cc
stops_finish_by true b finish.NotEvaluated h = cc
stops_finish_by false true finish.NotEvaluated h = cc
stops_finish_by false false finish.NotEvaluated h = cc
stops_finish_by true b finish.Stale h = cc
stops_finish_by false true finish.Stale h = cc
stops_finish_by false false finish.Stale h = cc
stops_finish_by true b finish.Blocks h = cc
stops_finish_by false true finish.Blocks h = cc
stops_finish_by false false finish.Blocks h = cc
stops_finish_by a b finish.HistoryFull h = tt
stops_finish_by a b finish.CellsFull h = tt
stops_finish_by a b finish.NoMemory h = tt

-- a refusal by the reasons that are left
ended : (d : DeskView) (t : ℕ) (f : Ends d t) (e : FinishError) → RefusedAs {A = Finish} finish.NoMemory (finish_refusal d t) (Err e) → RefusedAs {A = Finish} finish.NoMemory (last_refusal (is_full d) (overflows (state_of d).store (Some f.verdict))) (Err e)
ended d t f e r = subst (λ (o : Option FinishError). RefusedAs {A = Finish} finish.NoMemory o (Err e)) (end_told d t f) r

pub stops_finish : (d : DeskView) (t : ℕ) (e : FinishError) → IsReadyAt d t → RefusedAs {A = Finish} finish.NoMemory (finish_refusal d t) (Err e) → StopsFinish e
stops_finish d t e r h = let f = ends_at d t r in stops_finish_by (is_full d) (overflows (state_of d).store (Some f.verdict)) e (ended d t f e h)

why_finish_by : (d : DeskView) (t : ℕ) (a b : Bool) (e : FinishError) (f : Ends d t) (next : Order) → FinishesNext next (state_of d) t → is_full d ≡ a → overflows (state_of d).store (Some f.verdict) ≡ b → length d.history ≤ d.limit → StopsFinish e
    → RefusedAs {A = Finish} finish.NoMemory (last_refusal a b) (Err e) → StopsFor next (finish_why e) d
why_finish_by d t a b finish.NoTicket f next n p q k s h = absurd s
why_finish_by d t a b finish.NotEvaluated f next n p q k s h = absurd s
why_finish_by d t a b finish.Stale f next n p q k s h = absurd s
why_finish_by d t a b finish.Blocks f next n p q k s h = absurd s
why_finish_by d t true b finish.HistoryFull f next n p q k s h = record { left = ap is_some (end_next d t f next n); full = full_of d k p }
why_finish_by d t false true finish.HistoryFull f next n p q k s h = cc
why_finish_by d t false false finish.HistoryFull f next n p q k s h = cc
why_finish_by d t true b finish.CellsFull f next n p q k s h = cc
why_finish_by d t false true finish.CellsFull f next n p q k s h = record {
  what = finish_at d t f.verdict;
  left = end_next d t f next n;
  room = room_of d p;
  crowded = not-true _ q;
}
why_finish_by d t false false finish.CellsFull f next n p q k s h = cc
why_finish_by d t a b finish.NoMemory f next n p q k s h = tt

pub why_finish : (d : DeskView) (t : ℕ) (e : FinishError) → IsReadyAt d t → length d.history ≤ d.limit → RefusedAs {A = Finish} finish.NoMemory (finish_refusal d t) (Err e)
    → (next : Order) → FinishesNext next (state_of d) t → StopsFor next (finish_why e) d
why_finish d t e ready k h = λ next n.
    let f = ends_at d t ready in
    let r = ended d t f e h in
    why_finish_by d t (is_full d) (overflows (state_of d).store (Some f.verdict)) e f next n refl refl k (stops_finish_by (is_full d) (overflows (state_of d).store (Some f.verdict)) e r) r
