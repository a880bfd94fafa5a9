-- A run of events in an order of work, and its end.
use Rattle.std.proofs.Common.{◌≡◌, ℕ, suc, ◌+◌, ◌-◌, ◌<◌, ◌≤◌, Bool, true, false, not, cond, List, [], ◌∷◌, ◌++◌, filter, length, Option, Some, None, refl, sym, ap, subst, ◌∙◌, arith, append_assoc, length-append, add-zero}
use Rattle.std.specs.Prelude.{nat_eq, is_some}
use Rattle.std.proofs.lemmas.List.Elements.{filter-append}
use Rattle.std.proofs.lemmas.Bool.{not-false}
use Rattle.stm_store.specs.declared.cell.Cell.{Cell}
use Rattle.stm_events.specs.declared.event.What.{What}
use Rattle.stm_terms.specs.declared.verdicts.Verdict.{Verdict}
use Rattle.stm_terms.specs.declared.verdicts.Verdict.TheVariants.{Commits, Throws, Blocks}
use Rattle.stm_events.specs.SlowDesk.{Waiter, Slow, verdict_on, is_blocks, is_current, find_waiter, after, state_from}
use Rattle.stm_events.specs.SlowSettle.{lowest, is_due, ends, can_end, Order, has_cells, running, Stop, NoRoom, NoCells, run_stop, AllBlock, is_finish, is_install, finishes, installs}
use Rattle.stm_events.proofs.Running.{running_more, running_ends, running_full, running_crowded, stopping_more, stopping_ends, stopping_full, stopping_crowded}
use Rattle.stm_events.proofs.Folds.{state-push}
use Rattle.stm_desk.specs.declared.errors.SettleWhy.{SettleWhy}
use Rattle.stm_desk.specs.declared.errors.SettleWhy.TheVariants.{HistoryFull, CellsFull, NoMemory}
use Rattle.stm_machine.specs.SettleChoices.{some_out}
use Rattle.stm_machine.specs.Machine.{event}
use Rattle.stm_desk.specs.DeskView.{DeskView, start_state, state_of, with_event, AllHaveVerdicts}
use Rattle.stm_desk.specs.Settling.{slow_run, slow_run_stop, with_whats, requeued_all, HasRun, HasBegun, HasHalted}
use Rattle.stm_desk.specs.Steps.{IsNextEvent, StopsFor}
use Rattle.stm_desk.proofs.Settles.{out_after, out_recalled}

-- ---- all events
append_nil : {A : Type 0} (xs : List A) → xs ++ [] ≡ xs
append_nil [] = refl
append_nil {A = A} (x ∷ xs) = ap (λ (ys : List A). x ∷ ys) (append_nil xs)

pub begun_here : (next : Order) (client : ℕ) (d : DeskView) → HasBegun next client d d 0 0
begun_here next client d = record { done = []; grown = refl; rest = refl; same_stop = refl; finished = refl; evaluated = refl }

with_more : (client : ℕ) (d : DeskView) (xs ys : List What) → with_whats d client (xs ++ ys) ≡ with_whats (with_whats d client xs) client ys
with_more client d [] ys = refl
with_more client d (x ∷ xs) ys = with_more client (with_event d client x) xs ys

with_length : (client : ℕ) (d : DeskView) (xs : List What) → length (with_whats d client xs).history ≡ length d.history + length xs
with_length client d [] = omega arith
with_length client d (x ∷ xs) = omega (arith, with_length client (with_event d client x) xs, length-append d.history (event client x ∷ []))

count_more : (p : What → Bool) (xs ys : List What) → length (filter p (xs ++ ys)) ≡ length (filter p xs) + length (filter p ys)
count_more p xs ys = rw filter-append (length-append (filter p xs) (filter p ys))

one_more : (client : ℕ) (d : DeskView) (x : What) → state_from (start_state d) (d.history ++ event client x ∷ []) ≡ after (state_of d) x
one_more client d x = state-push (start_state d) d.history (event client x)

one_less : (client : ℕ) (d : DeskView) (x : What) → length d.history < d.limit → d.limit - length d.history ≡ suc (d.limit - length (d.history ++ event client x ∷ []))
one_less client d x room = omega (arith, length-append d.history (event client x ∷ []))

next_left : (next : Order) (client : ℕ) (d new : DeskView) (x : What) → next (state_of d) ≡ Some x → has_cells (state_of d) x ≡ true → length d.history < d.limit → new ≡ with_event d client x → x ∷ slow_run next new ≡ slow_run next d
next_left next client d new x n h room e =
    let p = one_more client d x in
    let left = one_less client d x room in
    sym (rw e (running_more next _ _ (state_of d) x left n h ∙ ap (λ (s : Slow). x ∷ running next (d.limit - length (d.history ++ event client x ∷ [])) s) (sym p)))

stop_left : (next : Order) (client : ℕ) (d new : DeskView) (x : What) → next (state_of d) ≡ Some x → has_cells (state_of d) x ≡ true → length d.history < d.limit → new ≡ with_event d client x → slow_run_stop next new ≡ slow_run_stop next d
stop_left next client d new x n h room e =
    let p = one_more client d x in
    let left = one_less client d x room in
    rw e (ap (run_stop next (d.limit - length (d.history ++ event client x ∷ []))) p ∙ sym (stopping_more next _ _ (state_of d) x left n h))

pub begun_one : (next : Order) (client f e : ℕ) (d new : DeskView) → IsNextEvent next client f e d new → HasBegun next client d new f e
begun_one next client f e d new n = record {
  done = n.what ∷ [];
  grown = n.grown;
  rest = next_left next client d new n.what n.comes n.fits n.room n.grown;
  same_stop = stop_left next client d new n.what n.comes n.fits n.room n.grown;
  finished = sym n.finishing;
  evaluated = sym n.evaluating;
}

pub begun_then : (next : Order) (client f e g h : ℕ) (old mid new : DeskView) → HasBegun next client old mid f e → HasBegun next client mid new g h → HasBegun next client old new (f + g) (e + h)
begun_then next client f e g h old mid new b c = record {
  done = b.done ++ c.done;
  grown = c.grown ∙ ap (λ (d : DeskView). with_whats d client c.done) b.grown ∙ sym (with_more client old b.done c.done);
  same_stop = c.same_stop ∙ b.same_stop;
  rest = append_assoc b.done c.done (slow_run next new) ∙ ap (λ (xs : List What). b.done ++ xs) c.rest ∙ b.rest;
  finished = rw (b.finished, c.finished) (sym (count_more is_finish b.done c.done));
  evaluated = rw (b.evaluated, c.evaluated) (sym (count_more is_install b.done c.done));
}

all_done : (next : Order) (client f e : ℕ) (old new : DeskView) (stop : Option Stop) → HasBegun next client old new f e → slow_run next new ≡ [] → slow_run_stop next new ≡ stop → HasRun next client old new f e stop
all_done next client f e old new stop b h g =
    let k : b.done ≡ slow_run next old = sym (append_nil b.done) ∙ ap (λ (xs : List What). b.done ++ xs) (sym h) ∙ b.rest in
    record {
      grown = b.grown ∙ ap (with_whats old client) k;
      finished = b.finished ∙ ap finishes k;
      evaluated = b.evaluated ∙ ap installs k;
      stopped = sym b.same_stop ∙ g;
    }

pub settled_end : (next : Order) (client f e : ℕ) (old new : DeskView) → HasBegun next client old new f e → next (state_of new) ≡ None → HasRun next client old new f e None
settled_end next client f e old new b n =
    all_done next client f e old new None b (running_ends next (new.limit - length new.history) (state_of new) n) (stopping_ends next (new.limit - length new.history) (state_of new) n)

pub has_stopped : (next : Order) (client f e : ℕ) (old new : DeskView) (why : SettleWhy) → HasBegun next client old new f e → StopsFor next why new → HasHalted next why client old new f e
has_stopped next client f e old new HistoryFull b w =
    let full : length new.history ≡ new.limit = w.full in
    let none : new.limit - length new.history ≡ 0 = omega arith in
    (all_done next client f e old new (Some NoRoom) b (running_full next (new.limit - length new.history) (state_of new) none) (stopping_full next (new.limit - length new.history) (state_of new) none w.left), w)
has_stopped next client f e old new CellsFull b w =
    let some : 0 < new.limit - length new.history = (let r = w.room in omega arith) in (
      all_done next client f e old new (Some NoCells) b (running_crowded next (new.limit - length new.history) (state_of new) w.what w.left w.crowded)
          (stopping_crowded next (new.limit - length new.history) (state_of new) w.what some w.left w.crowded),
      w,
    )
has_stopped next client f e old new NoMemory b w = b

-- the counts fit
filter_cons : {A : Type 0} (b : Bool) (x : A) (xs ys : List A) → length xs ≤ length ys → length (cond b (x ∷ xs) xs) ≤ length (x ∷ ys)
filter_cons true x xs ys h = omega arith
filter_cons false x xs ys h = omega arith

filter_le : {A : Type 0} (p : A → Bool) (xs : List A) → length (filter p xs) ≤ length xs
filter_le p [] = omega arith
filter_le p (x ∷ xs) = filter_cons (p x) x (filter p xs) xs (filter_le p xs)

done_fits : (client : ℕ) (old new : DeskView) (xs : List What) → new ≡ with_whats old client xs → length xs ≤ length new.history
done_fits client old new xs e = rw e (omega (arith, with_length client old xs))

pub finished_fits : (next : Order) (client f e : ℕ) (old new : DeskView) → HasBegun next client old new f e → f ≤ length new.history
finished_fits next client f e old new b = omega (arith, done_fits client old new b.done b.grown, filter_le is_finish b.done, b.finished)

pub evaluated_fits : (next : Order) (client f e : ℕ) (old new : DeskView) → HasBegun next client old new f e → e ≤ length new.history
evaluated_fits next client f e old new b = omega (arith, done_fits client old new b.done b.grown, filter_le is_install b.done, b.evaluated)

-- the room gets less
pub less_room : (next : Order) (client f e : ℕ) (old new : DeskView) → IsNextEvent next client f e old new → new.limit - length new.history < old.limit - length old.history
less_room next client f e old new n = rw n.grown (omega (arith, length-append old.history (event client n.what ∷ []), n.room))

with_limit : (client : ℕ) (d : DeskView) (xs : List What) → (with_whats d client xs).limit ≡ d.limit
with_limit client d [] = refl
with_limit client d (x ∷ xs) = with_limit client (with_event d client x) xs

pub no_more_room : (next : Order) (client f e : ℕ) (old new : DeskView) → HasBegun next client old new f e → new.limit - length new.history ≤ old.limit - length old.history
no_more_room next client f e old new b = rw b.grown (omega (arith, with_length client old b.done, with_limit client old b.done))

-- none is out
pub out_one : (next : Order) (client f e : ℕ) (d new : DeskView) → IsNextEvent next client f e d new → some_out d.pending ≡ false → some_out new.pending ≡ false
out_one next client f e d new n h = ap (λ (x : DeskView). some_out x.pending) n.grown ∙ out_after n.what d.pending h

pub out_back : (d : DeskView) → some_out (requeued_all d).pending ≡ false
out_back d = out_recalled d.pending

-- what each part of the call adds
pub begun_install : (next : Order) (client e : ℕ) (old mid new : DeskView) → HasBegun next client old mid 0 e → IsNextEvent next client 0 1 mid new → HasBegun next client old new 0 (e + 1)
begun_install next client e old mid new b n = begun_then next client 0 e 0 1 old mid new b (begun_one next client 0 1 mid new n)

pub begun_round : (next : Order) (client f e n : ℕ) (old mid new : DeskView) → HasBegun next client old mid f e → HasBegun next client mid new 0 n → HasBegun next client old new f (e + n)
begun_round next client f e n old mid new b c = subst (λ (k : ℕ). HasBegun next client old new k (e + n)) (add-zero f) (begun_then next client f e 0 n old mid new b c)

pub begun_finish : (next : Order) (client f e : ℕ) (old mid new : DeskView) → HasBegun next client old mid f e → IsNextEvent next client 1 0 mid new → HasBegun next client old new (f + 1) e
begun_finish next client f e old mid new b n = subst (λ (k : ℕ). HasBegun next client old new (f + 1) k) (add-zero e) (begun_then next client f e 1 0 old mid new b (begun_one next client 1 0 mid new n))

pub less_after : (next : Order) (client n f e : ℕ) (old mid new : DeskView) → HasBegun next client old mid 0 n → IsNextEvent next client f e mid new → new.limit - length new.history < old.limit - length old.history
less_after next client n f e old mid new b x =
    let a : mid.limit - length mid.history ≤ old.limit - length old.history = no_more_room next client 0 n old mid b in
    let c : new.limit - length new.history < mid.limit - length mid.history = less_room next client f e mid new x in
    omega arith

-- ---- where nothing is queued and nothing can end
not_found : (p : Waiter → Bool) (b : Bool) (w : Waiter) (o : Option Waiter) → p w ≡ b → cond b (Some w) o ≡ None → (p w ≡ false) × (o ≡ None)
not_found p true w o e h = cc
not_found p false w o e h = (e, h)

blocks_is : (v : Verdict) → not (is_blocks v) ≡ false → v ≡ Blocks
blocks_is (Commits writes news result) e = cc
blocks_is (Throws f) e = cc
blocks_is Blocks e = refl

-- a verdict that is there, and by which the block doesn't end
verdict_blocks : (o : Option Verdict) → is_some o ≡ true → ends o ≡ false → o ≡ Some Blocks
verdict_blocks None h e = cc
verdict_blocks (Some v) h e = ap Some (blocks_is v e)

block_step : (b : Bool) (store : List Cell) (w one : Waiter) (o : Option Waiter) → is_due w ≡ false → can_end store w ≡ false
    → (o ≡ Some one → (is_current one ≡ true) × (ends (verdict_on store one.block) ≡ false)) → cond b (Some w) o ≡ Some one → (is_current one ≡ true) × (ends (verdict_on store one.block) ≡ false)
block_step true store w one o d e more f =
    let i : w ≡ one = cc in
    subst (λ (x : Waiter). (is_current x ≡ true) × (ends (verdict_on store x.block) ≡ false)) i (not-false (is_current w) d, e)
block_step false store w one o d e more f = more f

block_each : (store : List Cell) (ws : List Waiter) (t : ℕ) (one : Waiter) → lowest is_due ws ≡ None → lowest (can_end store) ws ≡ None → find_waiter t ws ≡ Some one → (is_current one ≡ true) × (ends (verdict_on store one.block) ≡ false)
block_each store [] t one d e f = cc
block_each store (w ∷ ws) t one d e f =
    let a = not_found is_due (is_due w) w (lowest is_due ws) refl d in
    let b = not_found (can_end store) (can_end store w) w (lowest (can_end store) ws) refl e in
    block_step (nat_eq t w.ticket) store w one (find_waiter t ws) a.0 b.0 (block_each store ws t one a.1 b.1) f

pub all_block : (s : Slow) → AllHaveVerdicts s → lowest is_due s.waiters ≡ None → lowest (can_end s.store) s.waiters ≡ None → AllBlock s
all_block s v d e = λ t w f.
    let b = block_each s.store s.waiters t w d e f in (b.0, verdict_blocks (verdict_on s.store w.block) (v t w f) b.1)
