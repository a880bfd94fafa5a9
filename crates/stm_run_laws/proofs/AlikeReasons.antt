-- What a block waits for after one event more: on two desks of which the same is observed, and on which each block waits for the
-- same, it does so afterwards, too.
use Rattle.std.proofs.Common.{◌≡◌, ⊎_elim, ℕ, Bool, true, false, not, ◌||◌, ◌&&◌, cond, List, [], ◌∷◌, ◌++◌, Option, Some, None, IsSome, refl, sym, ap, subst, ◌∙◌, arith}
use Rattle.std.specs.Prelude.{nat_eq, option_map, if◌then◌else◌}
use Rattle.std.specs.List.{list_any}
use Rattle.std.specs.Option.{option_or}
use Rattle.std.proofs.lemmas.Bool.Decides.{nat_tests}
use Rattle.std.proofs.lemmas.Bool.{or_parts}
use Rattle.stm_terms.specs.declared.values.Value.{Value}
use Rattle.stm_terms.specs.declared.verdicts.Verdict.{Verdict}
use Rattle.stm_terms.specs.Changes.{Variables, find}
use Rattle.stm_terms.specs.ReadSet.{reads_of}
use Rattle.stm_store.specs.declared.cell.Cell.{Cell}
use Rattle.stm_store.specs.Tables.{Declared}
use Rattle.stm_queue.specs.Queue.{Entry}
use Rattle.stm_check.specs.TypedBlock.{Block}
use Rattle.stm_eval.specs.Laws.{In}
use Rattle.stm_eval.proofs.FragmentsAndStores.{looked}
use Rattle.stm_events.specs.declared.event.Event.{Event}
use Rattle.stm_events.specs.declared.event.What.{What}
use Rattle.stm_events.specs.declared.event.What.TheVariants.{Submitted, Installed, Finished, Cancelled, Declared as DeclaredLate, Labelled}
use Rattle.stm_events.specs.declared.kept_cause.KeptCause.{KeptCause}
use Rattle.stm_events.specs.declared.staleness.StalenessRule.TheVariants.{Written}
use Rattle.stm_events.specs.BlockStatus.{read_since_then}
use Rattle.stm_events.specs.Headline.{installs_to, is_installed, waking_at, waking_from}
use Rattle.stm_events.specs.Laws.{SubmitsWellTyped}
use Rattle.stm_events.specs.SlowDesk.{Since, Waiter, Slow, declaration, under, verdict_on, looked_on, waking, intersects, is_stale_since, is_new_since, current_since, find_waiter, without_waiter, with_delivery, woken_more, after_writes, after, Allows, state_from}
use Rattle.stm_events.specs.SlowSettle.{ends}
use Rattle.stm_events.specs.States.{IsPossible, observed}
use Rattle.stm_events.proofs.AlikeWaitersStay.{IsAlike, AreAlike, MayBeAlike, alike_from, alike_found, same_current, meets-append}
use Rattle.stm_events.proofs.Observed.{observed_after}
use Rattle.stm_events.proofs.Possible.{possible_from}
use Rattle.stm_events.proofs.Rising.{waiter_without, waiter_delivered, waiter_marks, waiter_push}
use Rattle.stm_events.proofs.SinceFrom.{TracksFrom, Here, Before, tracked_from}
use Rattle.stm_events.proofs.Stores.{value_stays}
use Rattle.stm_machine.specs.Checkpoints.{CheckpointView, start_of, MayStart}
use Rattle.stm_machine.specs.Machine.{event}
use Rattle.stm_desk.specs.declared.reason.Change.{Change}
use Rattle.stm_desk.specs.DeskView.{DeskView, start_state, state_of, with_event}
use Rattle.stm_desk.specs.Reasons.{ticket_of, Cause, cause_or, kept_cause_at, WaitReason, NotEvaluated, IsStale, Waits, CanFinish, current_reason, was_stale, stale_reason, reason_since, reason_of_waiter, reason_of}
use Rattle.stm_desk.specs.ReasonsByEvents.{changes_told, cause_told, events_since, stale_at, stale_told}
use Rattle.stm_desk.proofs.CausesTold.{FitFrom, fit_all, fit_rest, told_here, is_caused, is_caused_before}
use Rattle.stm_desk.proofs.LastLists.{verdict_before, waiting_before}
use Rattle.stm_desk.proofs.Listed.{has_reads}
use Rattle.stm_desk.proofs.ReadValues.{AreRead, reads_are, unchanged}
use Rattle.stm_desk.proofs.ReasonsByEvents.{no_reason, stale_whole}
use Rattle.stm_desk.proofs.StaleBefore.{was_stale_at}
use Rattle.stm_desk.proofs.Starts.{IsTypedHistory}
use Rattle.stm_commands.specs.OpenDesk.{HandedOut}
use Rattle.stm_run.proofs.StandingDesk.{Stands, stands_typed, state_later, legal_later, typed_later}

-- from here these events show what each block waits for
pub record TellReasons (table : List Declared) (checkpoint : Option CheckpointView) (history : List Event) : Type 0 where
  pub start : MayStart table checkpoint
  pub typed : IsTypedHistory (start_of table checkpoint) history

-- the events of a desk show what each block waits for
abbrev pub HasReasons : DeskView → Type 0
HasReasons d = TellReasons d.table d.checkpoint d.history

pub stands_reasons : (d : DeskView) (jobs : List HandedOut) → Stands d jobs → HasReasons d
stands_reasons d jobs k = record { start = k.begins; typed = stands_typed d jobs k }

reasons_event : (d : DeskView) (what : What) → Allows (state_of d) what → SubmitsWellTyped what → HasReasons d → HasReasons (with_event d 0 what)
reasons_event d what a w k = record {
  start = k.start;
  typed = record {
    possible = k.typed.possible;
    state = k.typed.state;
    rule = k.typed.rule;
    legal = legal_later (start_state d) d.history (event 0 what) k.typed.legal (record { client = omega arith; what = a });
    typed = typed_later d.history (event 0 what) k.typed.typed w;
  };
}

-- why the block of a ticket would be stale that read this, by what the events write
abbrev told : DeskView → ℕ → List (ℕ × Value) → Option WaitReason
told d t reads = stale_told (stale_at t d.checkpoint) (kept_cause_at t d.checkpoint) reads d.history (events_since t d.history)

-- why an event makes one stale
abbrev told_by_it : List (ℕ × Value) → What → Option WaitReason
told_by_it reads what = option_map IsStale (cause_or (ticket_of what) (changes_told reads what) None)

-- ---- one event more
installed_later : (t : ℕ) (es : List Event) (e : Event) → installs_to t e.what ≡ false → is_installed t (es ++ e ∷ []) ≡ is_installed t es
installed_later t [] e n = rw n refl
installed_later t (x ∷ es) e n = ap (λ (b : Bool). installs_to t x.what || b) (installed_later t es e n)

since_step : (a b : Bool) (es : List Event) (e : Event) (o p : Option (List Event)) → p ≡ option_map (λ xs. xs ++ e ∷ []) o
    → (if a then p else if b then Some (es ++ e ∷ []) else None) ≡ option_map (λ xs. xs ++ e ∷ []) (if a then o else if b then Some es else None)
since_step true b es e o p k = k
since_step false true es e o p k = refl
since_step false false es e o p k = refl

since_later : (t : ℕ) (es : List Event) (e : Event) → installs_to t e.what ≡ false → events_since t (es ++ e ∷ []) ≡ option_map (λ xs. xs ++ e ∷ []) (events_since t es)
since_later t [] e n = rw n refl
since_later t (x ∷ es) e n =
    ap (λ (b : Bool). if b then events_since t (es ++ e ∷ []) else if installs_to t x.what then Some (es ++ e ∷ []) else None) (installed_later t es e n)
    ∙ since_step (is_installed t es) (installs_to t x.what) es e (events_since t es) (events_since t (es ++ e ∷ [])) (since_later t es e n)

or_step : (t : ℕ) (cs : List Change) (f g : Option Cause) → cause_or t cs (option_or f g) ≡ option_or (cause_or t cs f) g
or_step t [] f g = refl
or_step t (c ∷ cs) f g = refl

cause_later : (reads : List (ℕ × Value)) (es : List Event) (e : Event) → cause_told reads (es ++ e ∷ []) ≡ option_or (cause_told reads es) (cause_or (ticket_of e.what) (changes_told reads e.what) None)
cause_later reads [] e = refl
cause_later reads (x ∷ es) e =
    ap (cause_or (ticket_of x.what) (changes_told reads x.what)) (cause_later reads es e)
    ∙ or_step (ticket_of x.what) (changes_told reads x.what) (cause_told reads es) (cause_or (ticket_of e.what) (changes_told reads e.what) None)

mapped_or : (f g : Option Cause) → option_map IsStale (option_or f g) ≡ option_or (option_map IsStale f) (option_map IsStale g)
mapped_or None g = refl
mapped_or (Some c) g = refl

stale_later : (b : Bool) (kept : Option KeptCause) (reads : List (ℕ × Value)) (h : List Event) (e : Event) (o : Option (List Event))
    → stale_told b kept reads (h ++ e ∷ []) (option_map (λ xs. xs ++ e ∷ []) o) ≡ option_or (stale_told b kept reads h o) (told_by_it reads e.what)
stale_later b kept reads h e (Some later) =
    ap (option_map IsStale) (cause_later reads later e) ∙ mapped_or (cause_told reads later) (cause_or (ticket_of e.what) (changes_told reads e.what) None)
stale_later true kept reads h e None = refl
stale_later false kept reads h e None =
    ap (option_map IsStale) (cause_later reads h e) ∙ mapped_or (cause_told reads h) (cause_or (ticket_of e.what) (changes_told reads e.what) None)

told_later : (d : DeskView) (t : ℕ) (reads : List (ℕ × Value)) (what : What) → installs_to t what ≡ false → told (with_event d 0 what) t reads ≡ option_or (told d t reads) (told_by_it reads what)
told_later d t reads what n =
    let e = event 0 what in
    ap (stale_told (stale_at t d.checkpoint) (kept_cause_at t d.checkpoint) reads (d.history ++ e ∷ [])) (since_later t d.history e n)
    ∙ stale_later (stale_at t d.checkpoint) (kept_cause_at t d.checkpoint) reads d.history e (events_since t d.history)

not_met : (woken is : List ℕ) (i : ℕ) → intersects woken is ≡ false → In i is → list_any (nat_eq i) woken ≡ false
not_met woken [] i h m = absurd m
not_met woken (j ∷ is) i h m =
    let p = or_parts (list_any (nat_eq j) woken) (intersects woken is) h in
    ⊎_elim (λ (e : j ≡ i). subst (λ (k : ℕ). list_any (nat_eq k) woken ≡ false) e p.0) (λ (n : In i is). not_met woken is i p.1 n) m

found_first : (b : Bool) (x : Value) (o : Option Value) → b ≡ true → IsSome (cond b (Some x) o)
found_first true x o e = refl
found_first false x o e = cc

found_rest : (b : Bool) (x : Value) (o : Option Value) → IsSome o → IsSome (cond b (Some x) o)
found_rest true x o e = refl
found_rest false x o e = e

itself : (t : ℕ) → nat_eq t t ≡ true
itself t = grind (arith, nat_tests)

kept_read : (reads : List (ℕ × Value)) (u v : Variables) → ((i : ℕ) (x : Value) → IsSome (find i reads) → u i ≡ Some x → v i ≡ Some x) → AreRead reads u → AreRead reads v
kept_read [] u v h k = tt
kept_read (r ∷ rs) u v h k =
    (h r.0 r.1 (found_first (nat_eq r.0 r.0) r.1 (find r.0 rs) (itself r.0)) k.0, kept_read rs u v (λ i x m. h i x (found_rest (nat_eq r.0 i) r.1 (find i rs) m)) k.1)

value_after : (s : Slow) (what : What) (i : ℕ) (x : Value) → list_any (nat_eq i) (waking_at s what) ≡ false → under s.store i ≡ Some x → under (after s what).store i ≡ Some x
value_after s (Submitted t block) i x n e = e
value_after s (Installed t v) i x n e = e
value_after s (Finished t v m stale) i x n e = value_stays s.rule s.store v i x n e
value_after s (Cancelled t) i x n e = e
value_after s (DeclaredLate name kind value) i x n e = value_stays Written s.store (declaration kind value) i x refl e
value_after s (Labelled t label) i x n e = e

silent : (block : Block) (store_then : List Cell) (v : Verdict) (s : Slow) (es : List Event) → verdict_on store_then block ≡ Some v → FitFrom s es → AreRead (reads_of (under store_then) block.tree) (under s.store)
    → intersects (waking_from s es) (looked_on store_then block) ≡ false → cause_told (reads_of (under store_then) block.tree) es ≡ None
silent block store_then v s [] had f h n = refl
silent block store_then v s (e ∷ es) had f h n =
    let reads = reads_of (under store_then) block.tree in
    let looks = looked_on store_then block in
    let p = or_parts (intersects (waking_at s e.what) looks) (intersects (waking_from (after s e.what) es) looks) (sym (meets-append (waking_at s e.what) (waking_from (after s e.what) es) looks) ∙ n) in
    let now : AreRead reads (under (after s e.what).store) =
    kept_read reads (under s.store) (under (after s e.what).store)
    (λ i x m at. value_after s e.what i x (not_met (waking_at s e.what) looks i p.0 ((looked block.tree (under store_then) v had i).1 m)) at) h in
    let none : changes_told reads e.what ≡ [] = sym (told_here reads s e.what f.0 h).0 ∙ unchanged reads (under (after s e.what).store) now in
    ap (λ (cs : List Change). cause_or (ticket_of e.what) cs (cause_told reads es)) none ∙ silent block store_then v (after s e.what) es had f.1 now p.1

-- ---- so nothing gives a cause of a current block
was_fresh : (w : Waiter) (s : Since) → w.since ≡ Some s → is_stale_since w.block s ≡ false → was_stale (Some w) ≡ false
was_fresh w s e h =
    ap (λ (o : Option Since). not (is_new_since o) && not (current_since w.block o)) e ∙ ap (λ (b : Bool). not (not b)) h

none_told : (d : DeskView) (t : ℕ) (w : Waiter) (s : Since) → HasReasons d → TracksFrom (start_state d) d.history t w.block s → is_stale_since w.block s ≡ false → told d t (reads_of (under s.store_then) w.block.tree) ≡ None
none_told d t w s k (Here since) fresh =
    let last = since.delivery in
    let start = start_state d in
    let e : Event = record { client = last.client; what = Installed t last.verdict } in
    let reads = reads_of (under s.store_then) w.block.tree in
    let at : Slow = state_from start last.before in
    let fit : FitFrom (after at e.what) last.later = (fit_rest start last.before (e ∷ last.later) (subst (FitFrom start) last.whole (fit_all start d.history k.typed))).1 in
    let read : AreRead reads (under at.store) = subst (λ (cells : List Cell). AreRead reads (under cells)) since.store (reads_are (under s.store_then) w.block.tree) in
    let quiet : intersects (waking_from (after at e.what) last.later) (looked_on s.store_then w.block) ≡ false = ap (λ (woken : List ℕ). intersects woken (looked_on s.store_then w.block)) (sym since.woken) ∙ fresh in
    ap (stale_told (stale_at t d.checkpoint) (kept_cause_at t d.checkpoint) reads d.history) (is_caused start d.history t w s k.typed since).since
    ∙ ap (option_map IsStale) (silent w.block s.store_then last.verdict (after at e.what) last.later since.verdict fit read quiet)
none_told d t w s k (Before since) fresh =
    let start = start_state d in
    let reads = reads_of (under s.store_then) w.block.tree in
    let looks = looked_on s.store_then w.block in
    let p = or_parts (intersects since.since.woken looks) (intersects (waking_from start d.history) looks)
    (sym (meets-append since.since.woken (waking_from start d.history) looks) ∙ ap (λ (woken : List ℕ). intersects woken looks) (sym since.woken) ∙ fresh) in
    let first : is_stale_since since.first.block since.since ≡ false = (let a = since.store in let b = since.block in let c = p.0 in subst (λ (x : Block). is_stale_since x since.since ≡ false) b
    (subst (λ (cells : List Cell). intersects since.since.woken (looked_on cells w.block) ≡ false) a c)) in
    let was : was_stale (find_waiter t start.waiters) ≡ false = ap was_stale since.found ∙ was_fresh since.first since.since since.delivered first in
    let had = verdict_before start d.history t w s k.typed since in
    let read = has_reads t w.block s.store_then had.0 had.1 start k.typed.possible (waiting_before start d.history t w s k.typed since was) in
    let before : stale_at t d.checkpoint ≡ false = sym (was_stale_at t d.table d.checkpoint k.start) ∙ was in
    ap (stale_told (stale_at t d.checkpoint) (kept_cause_at t d.checkpoint) reads d.history) (is_caused_before start d.history t w s k.typed since).since
    ∙ ap (λ (b : Bool). stale_told b (kept_cause_at t d.checkpoint) reads d.history None) before
    ∙ ap (option_map IsStale) (silent w.block s.store_then had.0 start d.history had.1 (fit_all start d.history k.typed) read p.1)

-- ---- the reasons of a desk
tracked : (d : DeskView) (t : ℕ) (w : Waiter) (s : Since) → HasReasons d → find_waiter t (state_of d).waiters ≡ Some w → w.since ≡ Some s → TracksFrom (start_state d) d.history t w.block s
tracked d t w s k f e = tracked_from (start_state d) d.history t w s k.typed.possible k.typed.legal f e

reason_stale : (d : DeskView) (t : ℕ) (w : Waiter) (s : Since) → HasReasons d → find_waiter t (state_of d).waiters ≡ Some w → w.since ≡ Some s → is_stale_since w.block s ≡ true
    → reason_of d t ≡ told d t (reads_of (under s.store_then) w.block.tree)
reason_stale d t w s k f e stale = stale_whole d t w s k.start k.typed f e stale (tracked d t w s k f e)

reason_else : (b : Bool) (r o : Option WaitReason) → b ≡ false → cond b r o ≡ o
reason_else true r o e = cc
reason_else false r o e = refl

reason_current : (d : DeskView) (t : ℕ) (w : Waiter) (s : Since) → find_waiter t (state_of d).waiters ≡ Some w → w.since ≡ Some s → is_stale_since w.block s ≡ false → reason_of d t ≡ Some (current_reason (state_of d).store w)
unfolding reason_of
reason_current d t w s f e fresh =
    ap (reason_of_waiter d) f ∙ ap (reason_since d w) e
    ∙ reason_else (is_stale_since w.block s) (stale_reason (kept_cause_at w.ticket d.checkpoint) w.ticket (reads_of (under s.store_then) w.block.tree) (start_state d) d.history) (Some (current_reason (state_of d).store w)) fresh

reason_new : (d : DeskView) (t : ℕ) (w : Waiter) → find_waiter t (state_of d).waiters ≡ Some w → w.since ≡ None → reason_of d t ≡ Some NotEvaluated
unfolding reason_of
reason_new d t w f e = ap (reason_of_waiter d) f ∙ ap (reason_since d w) e

-- ---- a block that is stale after an event had its delivery before it
record WasThere (s : Slow) (t : ℕ) (w : Waiter) (r : Since) : Type 0 where
  before : Waiter
  since : Since
  found : find_waiter t s.waiters ≡ Some before
  delivered : before.since ≡ Some since
  reads : reads_of (under since.store_then) before.block.tree ≡ reads_of (under r.store_then) w.block.tree

-- and it isn't delivered by the event
abbrev IsLeft : Slow → What → ℕ → Waiter → Since → Type 0
IsLeft s what t w r = (installs_to t what ≡ false) × WasThere s t w r

there_still : (s : Slow) (t : ℕ) (w : Waiter) (r : Since) → find_waiter t s.waiters ≡ Some w → w.since ≡ Some r → WasThere s t w r
there_still s t w r f e = record { before = w; since = r; found = f; delivered = e; reads = refl }

pushed_by : (b : Bool) (s : Slow) (t : ℕ) (v w : Waiter) (r : Since) (o : Option Waiter) → find_waiter t s.waiters ≡ o → v.since ≡ None → cond b (Some v) o ≡ Some w → w.since ≡ Some r → WasThere s t w r
pushed_by true s t v w r o f none e d = let q : v ≡ w = cc in let z : w.since ≡ None = subst (λ (x : Waiter). x.since ≡ None) q none in absurd cc
pushed_by false s t v w r o f none e d = there_still s t w r (f ∙ e) d

none_meet : (is : List ℕ) → intersects [] is ≡ false
none_meet [] = refl
none_meet (i ∷ is) = none_meet is

delivered_there : (store : List Cell) (o : Option Waiter) (w : Waiter) (r : Since) → option_map (with_delivery store) o ≡ Some w → w.since ≡ Some r → is_stale_since w.block r ≡ false
delivered_there store None w r e d = cc
delivered_there store (Some x) w r e d =
    let q : with_delivery store x ≡ w = cc in
    let z : Some (record { store_then = store; woken = [] }) ≡ Some r = ap (λ (y : Waiter). y.since) q ∙ d in
    let y : record { store_then = store; woken = [] } ≡ r = cc in
    subst (λ (u : Since). is_stale_since w.block u ≡ false) y (none_meet (looked_on store w.block))

delivered_by : (b : Bool) (s : Slow) (t : ℕ) (w : Waiter) (r : Since) (o : Option Waiter) → find_waiter t s.waiters ≡ o → cond b (option_map (with_delivery s.store) o) o ≡ Some w → w.since ≡ Some r → is_stale_since w.block r ≡ true
    → (b ≡ false) × WasThere s t w r
delivered_by true s t w r o f e d stale = let z = delivered_there s.store o w r e d in absurd cc
delivered_by false s t w r o f e d stale = (refl, there_still s t w r (f ∙ e) d)

gone_by : (b : Bool) (o : Option Waiter) (w : Waiter) → cond b None o ≡ Some w → o ≡ Some w
gone_by true o w e = cc
gone_by false o w e = e

marked_since : (woken : List ℕ) (s : Slow) (t : ℕ) (x : Waiter) (r : Since) (o : Option Since) → find_waiter t s.waiters ≡ Some x → x.since ≡ o → woken_more woken o ≡ Some r → WasThere s t (after_writes woken x) r
marked_since woken s t x r None f d e = absurd cc
marked_since woken s t x r (Some q) f d e =
    let z : record { store_then = q.store_then; woken = q.woken ++ woken } ≡ r = cc in
    record { before = x; since = q; found = f; delivered = d; reads = ap (λ (u : Since). reads_of (under u.store_then) x.block.tree) z }

marked_by : (b : Bool) (woken : List ℕ) (s : Slow) (t : ℕ) (w : Waiter) (r : Since) (o : Option Waiter) → find_waiter t s.waiters ≡ o → option_map (after_writes woken) (cond b None o) ≡ Some w → w.since ≡ Some r → WasThere s t w r
marked_by true woken s t w r o f e d = absurd cc
marked_by false woken s t w r None f e d = absurd cc
marked_by false woken s t w r (Some x) f e d =
    let q : after_writes woken x ≡ w = cc in
    subst (λ (y : Waiter). WasThere s t y r) q (marked_since woken s t x r x.since f refl (ap (λ (y : Waiter). y.since) q ∙ d))

left_there : (s : Slow) (what : What) (t : ℕ) (w : Waiter) (r : Since) → IsPossible s → Allows s what → find_waiter t (after s what).waiters ≡ Some w → w.since ≡ Some r → is_stale_since w.block r ≡ true → IsLeft s what t w r
left_there s (Submitted u block) t w r p a f d stale =
    let v : Waiter = record { ticket = u; block = block; since = None } in
    (refl, pushed_by (nat_eq t u) s t v w r (find_waiter t s.waiters) refl refl (sym (waiter_push t s.next 0 v s.waiters a.0 p.rising) ∙ f) d)
left_there s (Installed u v) t w r p a f d stale = delivered_by (nat_eq t u) s t w r (find_waiter t s.waiters) refl (sym (waiter_delivered u t s.store s.waiters) ∙ f) d stale
left_there s (Finished u v n l) t w r p a f d stale =
    let woken = waking s.rule s.store v in (
      refl,
      marked_by (nat_eq t u) woken s t w r (find_waiter t s.waiters) refl
          (ap (option_map (after_writes woken)) (sym (waiter_without u t s.next 0 s.waiters p.rising)) ∙ sym (waiter_marks t woken (without_waiter u s.waiters)) ∙ f) d,
    )
left_there s (Cancelled u) t w r p a f d stale =
    (refl, there_still s t w r (gone_by (nat_eq t u) (find_waiter t s.waiters) w (sym (waiter_without u t s.next 0 s.waiters p.rising) ∙ f)) d)
left_there s (DeclaredLate name kind value) t w r p a f d stale = (refl, there_still s t w r f d)
left_there s (Labelled u label) t w r p a f d stale = (refl, there_still s t w r f d)

-- ---- two desks of which the same is observed
same_stale : (w w' : Waiter) (s s' : Since) → IsAlike w w' → w.since ≡ Some s → w'.since ≡ Some s' → is_stale_since w'.block s' ≡ is_stale_since w.block s
same_stale w w' s s' m e e' =
    flip (is_stale_since w'.block s') (is_stale_since w.block s) (sym (ap (current_since w'.block) e') ∙ sym (same_current w w' m) ∙ ap (current_since w.block) e)
  where
    flip : (a b : Bool) → not a ≡ not b → a ≡ b
    flip true true q = refl
    flip true false q = absurd cc
    flip false true q = absurd cc
    flip false false q = refl

module _ (d d' : DeskView) (k : HasReasons d) (k' : HasReasons d') (t : ℕ) (same : reason_of d t ≡ reason_of d' t) where
  -- what is said of a block that waits on both
  by_stale : (b : Bool) (w w' : Waiter) (s s' : Since) → is_stale_since w.block s ≡ b → is_stale_since w'.block s' ≡ b → find_waiter t (state_of d).waiters ≡ Some w → find_waiter t (state_of d').waiters ≡ Some w' → w.since ≡ Some s → w'.since ≡ Some s'
      → told d t (reads_of (under s.store_then) w.block.tree) ≡ told d' t (reads_of (under s'.store_then) w'.block.tree)
  by_stale true w w' s s' h h' f f' e e' = sym (reason_stale d t w s k f e h) ∙ same ∙ reason_stale d' t w' s' k' f' e' h'
  by_stale false w w' s s' h h' f f' e e' = none_told d t w s k (tracked d t w s k f e) h ∙ sym (none_told d' t w' s' k' (tracked d' t w' s' k' f' e') h')

  by_since : (w w' : Waiter) (s : Since) (o : Option Since) → IsAlike w w' → find_waiter t (state_of d).waiters ≡ Some w → find_waiter t (state_of d').waiters ≡ Some w' → w.since ≡ Some s → w'.since ≡ o
      → told d t (reads_of (under s.store_then) w.block.tree) ≡ told d' t (reads_of (under s.store_then) w.block.tree)
  by_since w w' s None m f f' e e' =
      let q : Some (reads_of (under s.store_then) w.block.tree) ≡ None = sym (ap (read_since_then w.block) e) ∙ m.reads ∙ ap (read_since_then w'.block) e' in
      absurd cc
  by_since w w' s (Some s') m f f' e e' =
      let q : Some (reads_of (under s.store_then) w.block.tree) ≡ Some (reads_of (under s'.store_then) w'.block.tree) = sym (ap (read_since_then w.block) e) ∙ m.reads ∙ ap (read_since_then w'.block) e' in
      let reads : reads_of (under s.store_then) w.block.tree ≡ reads_of (under s'.store_then) w'.block.tree = cc in
      by_stale (is_stale_since w.block s) w w' s s' refl (same_stale w w' s s' m e e') f f' e e' ∙ ap (told d' t) (sym reads)

  by_waiter : (w : Waiter) (s : Since) (o : Option Waiter) → MayBeAlike (Some w) o → find_waiter t (state_of d).waiters ≡ Some w → find_waiter t (state_of d').waiters ≡ o → w.since ≡ Some s
      → told d t (reads_of (under s.store_then) w.block.tree) ≡ told d' t (reads_of (under s.store_then) w.block.tree)
  by_waiter w s None m f f' e = absurd m
  by_waiter w s (Some w') m f f' e = by_since w w' s w'.since m f f' e refl

  same_told : (w : Waiter) (s : Since) → AreAlike (state_of d).waiters (state_of d').waiters → find_waiter t (state_of d).waiters ≡ Some w → w.since ≡ Some s
      → told d t (reads_of (under s.store_then) w.block.tree) ≡ told d' t (reads_of (under s.store_then) w.block.tree)
  same_told w s alike f e =
      by_waiter w s (find_waiter t (state_of d').waiters)
      (subst (λ (o : Option Waiter). MayBeAlike o (find_waiter t (state_of d').waiters)) f (alike_found t (state_of d).waiters (state_of d').waiters alike)) f refl e

-- ---- so each block waits for the same after an event
same_current_reason : (store store' : List Cell) (w w' : Waiter) → store ≡ store' → w.block ≡ w'.block → current_reason store w ≡ current_reason store' w'
same_current_reason store store' w w' c b = λ i. if ends (verdict_on (c i) (b i)) then CanFinish else Waits (reads_of (under (c i)) (b i).tree)

-- two desks on which each block waits for the same
pub record AlikeReasons (d d' : DeskView) : Type 0 where
  pub first : HasReasons d
  pub second : HasReasons d'
  pub each : (t : ℕ) → reason_of d t ≡ reason_of d' t

module _ (d d' : DeskView) (what : What) (allowed : Allows (state_of d) what) (typed : SubmitsWellTyped what) (same : observed (state_of d) ≡ observed (state_of d')) (k : AlikeReasons d d') where
  abbrev e : DeskView
  e = with_event d 0 what

  abbrev e' : DeskView
  e' = with_event d' 0 what

  possible : IsPossible (state_of d)
  possible = possible_from (start_state d) d.history k.first.typed.possible k.first.typed.legal

  possible_too : IsPossible (state_of d')
  possible_too = possible_from (start_state d') d'.history k.second.typed.possible k.second.typed.legal

  after_both : Allows (state_of d') what × (observed (after (state_of d) what) ≡ observed (after (state_of d') what))
  after_both = observed_after (state_of d) (state_of d') what possible possible_too same allowed

  next : HasReasons e
  next = reasons_event d what allowed typed k.first

  next_too : HasReasons e'
  next_too = reasons_event d' what after_both.0 typed k.second

  later : state_of e ≡ after (state_of d) what
  later = state_later (start_state d) d.history (event 0 what)

  observed_next : observed (state_of e) ≡ observed (state_of e')
  observed_next = ap observed later ∙ after_both.1 ∙ sym (ap observed (state_later (start_state d') d'.history (event 0 what)))

  alike : AreAlike (state_of d).waiters (state_of d').waiters
  alike = alike_from (state_of d).waiters (state_of d').waiters (ap (λ o. o.waiters) same)

  -- a stale one was there
  later_told : (t : ℕ) (w : Waiter) (r : Since) → find_waiter t (state_of e).waiters ≡ Some w → w.since ≡ Some r → is_stale_since w.block r ≡ true
      → told e t (reads_of (under r.store_then) w.block.tree) ≡ told e' t (reads_of (under r.store_then) w.block.tree)
  later_told t w r f since stale =
      let reads = reads_of (under r.store_then) w.block.tree in
      let left = left_there (state_of d) what t w r possible allowed (ap (λ (s : Slow). find_waiter t s.waiters) (sym later) ∙ f) since stale in
      let there = left.1 in
      let before : told d t reads ≡ told d' t reads =
      subst (λ (rs : List (ℕ × Value)). told d t rs ≡ told d' t rs) there.reads (same_told d d' k.first k.second t (k.each t) there.before there.since alike there.found there.delivered) in
      told_later d t reads what left.0 ∙ ap (λ (o : Option WaitReason). option_or o (told_by_it reads what)) before ∙ sym (told_later d' t reads what left.0)

  reason_by : (t : ℕ) (b : Bool) (w w' : Waiter) (r r' : Since) → IsAlike w w' → is_stale_since w.block r ≡ b → is_stale_since w'.block r' ≡ b → reads_of (under r.store_then) w.block.tree ≡ reads_of (under r'.store_then) w'.block.tree
      → find_waiter t (state_of e).waiters ≡ Some w → find_waiter t (state_of e').waiters ≡ Some w' → w.since ≡ Some r → w'.since ≡ Some r' → reason_of e t ≡ reason_of e' t
  reason_by t true w w' r r' m h h' reads f f' q q' =
      reason_stale e t w r next f q h ∙ later_told t w r f q h ∙ ap (told e' t) reads ∙ sym (reason_stale e' t w' r' next_too f' q' h')
  reason_by t false w w' r r' m h h' reads f f' q q' =
      reason_current e t w r f q h ∙ ap Some (same_current_reason (state_of e).store (state_of e').store w w' (ap (λ o. o.store) observed_next) m.block) ∙ sym (reason_current e' t w' r' f' q' h')

  reason_since_both : (t : ℕ) (w w' : Waiter) (o o' : Option Since) → IsAlike w w' → find_waiter t (state_of e).waiters ≡ Some w → find_waiter t (state_of e').waiters ≡ Some w' → w.since ≡ o → w'.since ≡ o' → reason_of e t ≡ reason_of e' t
  reason_since_both t w w' None None m f f' q q' = reason_new e t w f q ∙ sym (reason_new e' t w' f' q')
  reason_since_both t w w' None (Some r') m f f' q q' =
      let z : None ≡ Some (reads_of (under r'.store_then) w'.block.tree) = sym (ap (read_since_then w.block) q) ∙ m.reads ∙ ap (read_since_then w'.block) q' in
      absurd cc
  reason_since_both t w w' (Some r) None m f f' q q' =
      let z : Some (reads_of (under r.store_then) w.block.tree) ≡ None = sym (ap (read_since_then w.block) q) ∙ m.reads ∙ ap (read_since_then w'.block) q' in
      absurd cc
  reason_since_both t w w' (Some r) (Some r') m f f' q q' =
      let z : Some (reads_of (under r.store_then) w.block.tree) ≡ Some (reads_of (under r'.store_then) w'.block.tree) = sym (ap (read_since_then w.block) q) ∙ m.reads ∙ ap (read_since_then w'.block) q' in
      let reads : reads_of (under r.store_then) w.block.tree ≡ reads_of (under r'.store_then) w'.block.tree = cc in
      reason_by t (is_stale_since w.block r) w w' r r' m refl (same_stale w w' r r' m q q') reads f f' q q'

  reason_both : (t : ℕ) (o o' : Option Waiter) → MayBeAlike o o' → find_waiter t (state_of e).waiters ≡ o → find_waiter t (state_of e').waiters ≡ o' → reason_of e t ≡ reason_of e' t
  reason_both t None None m f f' = sym (no_reason e t f) ∙ no_reason e' t f'
  reason_both t None (Some w') m f f' = absurd m
  reason_both t (Some w) None m f f' = absurd m
  reason_both t (Some w) (Some w') m f f' = reason_since_both t w w' w.since w'.since m f f' refl refl

  pub reasons_next : AlikeReasons e e'
  reasons_next = record {
    first = next;
    second = next_too;
    each = λ t.
        reason_both t (find_waiter t (state_of e).waiters) (find_waiter t (state_of e').waiters)
        (alike_found t (state_of e).waiters (state_of e').waiters (alike_from (state_of e).waiters (state_of e').waiters (ap (λ o. o.waiters) observed_next))) refl refl;
  }

-- which tickets are queued doesn't matter
reason_pending : (d : DeskView) (es : List Entry) (t : ℕ) → reason_of (record d { pending = es }) t ≡ reason_of d t
unfolding reason_of
reason_pending d es t = refl

pub reasons_pending : (d d' : DeskView) (es es' : List Entry) → AlikeReasons d d' → AlikeReasons (record d { pending = es }) (record d' { pending = es' })
reasons_pending d d' es es' k = record { first = k.first; second = k.second; each = λ t. reason_pending d es t ∙ k.each t ∙ sym (reason_pending d' es' t) }
