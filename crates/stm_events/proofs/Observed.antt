-- Two possible states of which the same is observed allow the same, after it the same is observed of them, and they answer alike.
use Rattle.std.proofs.Common.{◌≡◌, ℕ, zero, suc, ◌+◌, ◌<◌, Bool, true, false, not, ◌||◌, ◌&&◌, cond, List, [], ◌∷◌, length, Option, Some, None, refl, sym, ap, subst, ◌∙◌}
use Rattle.std.specs.Prelude.{nat_lt, nat_le, is_some, option_map, IsSomeAnd}
use Rattle.stm_terms.specs.declared.values.Value.{Value}
use Rattle.stm_terms.specs.declared.verdicts.Verdict.{Verdict}
use Rattle.stm_store.specs.declared.cell.Cell.{Cell}
use Rattle.stm_store.specs.Cells.{plains, applied}
use Rattle.stm_events.specs.declared.errors.DeliverError.TheVariants as deliver
use Rattle.stm_events.specs.declared.errors.FinishError.TheVariants as finish
use Rattle.stm_events.specs.declared.event.Event.{Event}
use Rattle.stm_events.specs.declared.event.What.{What}
use Rattle.stm_events.specs.declared.event.What.TheVariants.{Submitted, Installed, Finished, Cancelled, Declared as DeclaredLate, Labelled}
use Rattle.stm_events.specs.Answers.{install_answer, AnswersAlike, ObservedAnswerAlike}
use Rattle.stm_events.specs.BlockStatus.{read_then}
use Rattle.stm_events.specs.Labels.{is_label}
use Rattle.stm_events.specs.Ready.{is_ready}
use Rattle.stm_events.specs.Refusals.{missing, submit_first, label_first, cancel_first, differing, overtaken_first, blocks_there, overflows, finish_first}
use Rattle.stm_events.specs.SlowDesk.{Waiter, Slow, declaration, with_name, under, verdict_on, waking, is_current, standing, find_waiter, without_waiter, stale_after, MayInstall, MayFinish, after, Allows, state_from, LegalFrom}
use Rattle.stm_terms.specs.Limits.{max_waiting}
use Rattle.stm_events.specs.SlowSettle.{Stop, NoRoom, NoCells, lowest, is_due, ends, can_end, installing, ending, next_of, Order, next_what, has_cells, settle_on, running, stop_on, run_stop}
use Rattle.stm_events.specs.SlowDrain.{is_next, drain_of, next_drain}
use Rattle.stm_events.specs.Laws.{AreRising}
use Rattle.stm_events.proofs.Draining.{drain_allowed}
use Rattle.stm_events.specs.States.{HadVerdicts, IsPossible, ObservedWaiter, observed, ObservationsDecide}
use Rattle.stm_events.proofs.AlikeWaitersStay.{IsAlike, AreAlike, MayBeAlike, alike_from, alike_to, same_current, same_new, same_standing, same_verdict, with_waiters, alike_after, same_length, alike_found, alike_lowest, same_stales, alike_without}
use Rattle.stm_events.proofs.Possible.{had_without, possible_after}
use Rattle.stm_events.proofs.SettlingAllowed.{IsAllowed, next_allowed}

-- ---- from the equation to the relation of the waiting blocks, and back
same_state : (s s' : Slow) → observed s ≡ observed s' → with_waiters s s'.waiters ≡ s'
same_state s s' e = λ i. record { rule = ap (λ x. x.rule) e i; store = ap (λ x. x.store) e i; names = ap (λ x. x.names) e i; next = ap (λ x. x.next) e i; waiters = s'.waiters }

alike_of : (s s' : Slow) → observed s ≡ observed s' → AreAlike s.waiters s'.waiters
alike_of s s' e = alike_from s.waiters s'.waiters (ap (λ x. x.waiters) e)

observed_with : (s : Slow) (ws ws' : List Waiter) → AreAlike ws ws' → observed (with_waiters s ws) ≡ observed (with_waiters s ws')
observed_with s ws ws' k = ap (λ (xs : List ObservedWaiter). record { rule = s.rule; store = s.store; names = s.names; next = s.next; waiters = xs }) (alike_to ws ws' k)

-- ---- an event on a state with other waiting blocks
observed_step : (s : Slow) (ws' : List Waiter) (d : What) → AreAlike (after s d).waiters (after (with_waiters s ws') d).waiters → observed (after s d) ≡ observed (after (with_waiters s ws') d)
observed_step s ws' (Submitted t b) k = observed_with (record s { next = s.next + 1 }) (after s (Submitted t b)).waiters (after (with_waiters s ws') (Submitted t b)).waiters k
observed_step s ws' (Installed t v) k = observed_with s (after s (Installed t v)).waiters (after (with_waiters s ws') (Installed t v)).waiters k
observed_step s ws' (Finished t v n l) k =
    observed_with (record s { store = applied s.store v }) (after s (Finished t v n l)).waiters (after (with_waiters s ws') (Finished t v n l)).waiters k
observed_step s ws' (DeclaredLate name kind value) k =
    observed_with (record s { store = applied s.store (declaration kind value); names = with_name s name kind }) (after s (DeclaredLate name kind value)).waiters (after (with_waiters s ws') (DeclaredLate name kind value)).waiters k
observed_step s ws' (Cancelled t) k = observed_with s (after s (Cancelled t)).waiters (after (with_waiters s ws') (Cancelled t)).waiters k
observed_step s ws' (Labelled t label) k = observed_with s s.waiters ws' k

moved_some : (o o' : Option Waiter) (P P' : Waiter → Type 0) → MayBeAlike o o' → ((w w' : Waiter) → IsAlike w w' → P w → P' w') → IsSomeAnd o P → IsSomeAnd o' P'
moved_some None None P P' m f a = absurd a
moved_some None (Some w') P P' m f a = absurd m
moved_some (Some w) None P P' m f a = absurd m
moved_some (Some w) (Some w') P P' m f a = f w w' m a

module _ (s : Slow) (ws' : List Waiter) (k : AreAlike s.waiters ws') (h : HadVerdicts s.waiters) (h' : HadVerdicts ws') where
  stales : (t : ℕ) (v : Verdict) → stale_after (waking s.rule s.store v) (without_waiter t s.waiters) ≡ stale_after (waking s.rule s.store v) (without_waiter t ws')
  stales t v = same_stales (waking s.rule s.store v) (without_waiter t s.waiters) (without_waiter t ws') (alike_without t s.waiters ws' k) (had_without t s.waiters h) (had_without t ws' h')

  may_install : (v : Verdict) (w w' : Waiter) → IsAlike w w' → MayInstall s w v → MayInstall (with_waiters s ws') w' v
  may_install v w w' a m = record { not_current = sym (same_current w w' a) ∙ m.not_current; verdict_is = sym (same_verdict s.store w w' a) ∙ m.verdict_is }

  may_finish : (t : ℕ) (v : Verdict) (n : ℕ) (l : List ℕ) (w w' : Waiter) → IsAlike w w' → MayFinish s t w v n l → MayFinish (with_waiters s ws') t w' v n l
  may_finish t v n l w w' a m = record {
    current = sym (same_current w w' a) ∙ m.current;
    verdict_is = sym (same_verdict s.store w w' a) ∙ m.verdict_is;
    ends = m.ends;
    first_new = m.first_new;
    room = m.room;
    listed = m.listed ∙ stales t v;
  }

  allows_alike : (d : What) → Allows s d → Allows (with_waiters s ws') d
  allows_alike (Submitted t b) a = (a.0, a.1, subst (λ (n : ℕ). n < max_waiting) (same_length s.waiters ws' k) a.2)
  allows_alike (Installed t v) a =
      moved_some (find_waiter t s.waiters) (find_waiter t ws') (λ w. MayInstall s w v) (λ w. MayInstall (with_waiters s ws') w v) (alike_found t s.waiters ws' k) (may_install v) a
  allows_alike (Finished t v n l) a =
      moved_some (find_waiter t s.waiters) (find_waiter t ws') (λ w. MayFinish s t w v n l) (λ w. MayFinish (with_waiters s ws') t w v n l) (alike_found t s.waiters ws' k) (may_finish t v n l) a
  allows_alike (DeclaredLate name kind value) a = record { name_is = a.name_is; fresh = a.fresh; holds = a.holds; room = a.room }
  allows_alike (Cancelled t) a =
      moved_some (find_waiter t s.waiters) (find_waiter t ws') (λ w. Unit {0}) (λ w. Unit {0}) (alike_found t s.waiters ws' k) (λ w w' a u. u) a
  allows_alike (Labelled t label) a =
      moved_some (find_waiter t s.waiters) (find_waiter t ws') (λ w. is_label label ≡ true) (λ w. is_label label ≡ true) (alike_found t s.waiters ws' k) (λ w w' a u. u) a

-- ---- the events
pub observed_after : (s s' : Slow) (what : What) → IsPossible s → IsPossible s' → observed s ≡ observed s' → Allows s what
    → (Allows s' what × (observed (after s what) ≡ observed (after s' what)))
observed_after s s' what p p' e a =
    let k = alike_of s s' e in
    subst (λ (x : Slow). Allows x what × (observed (after s what) ≡ observed (after x what))) (same_state s s' e)
    (allows_alike s s'.waiters k p.evaluated p'.evaluated what a, observed_step s s'.waiters what (alike_after s s'.waiters what k p.evaluated p'.evaluated))

pub observed_from : (s s' : Slow) (events : List Event) → IsPossible s → IsPossible s' → observed s ≡ observed s' → LegalFrom s events
    → (LegalFrom s' events × (observed (state_from s events) ≡ observed (state_from s' events)))
observed_from s s' [] p p' e l = (tt, e)
observed_from s s' (d ∷ events) p p' e l =
    let r = observed_after s s' d.what p p' e l.0.what in
    let rest = observed_from (after s d.what) (after s' d.what) events (possible_after s d.what p l.0.what) (possible_after s' d.what p' r.0) r.1 l.1 in
    ((record { client = l.0.client; what = r.0 }, rest.0), rest.1)

pub observations_decide : ObservationsDecide
observations_decide = record { next = observed_after; later = observed_from }

-- ---- the answers
label_by : (full : Bool) (o o' : Option Waiter) → MayBeAlike o o' → label_first o full ≡ label_first o' full
label_by full None None m = refl
label_by full None (Some w') m = absurd m
label_by full (Some w) None m = absurd m
label_by full (Some w) (Some w') m = refl

cancel_by : (full : Bool) (o o' : Option Waiter) → MayBeAlike o o' → cancel_first o full ≡ cancel_first o' full
cancel_by full None None m = refl
cancel_by full None (Some w') m = absurd m
cancel_by full (Some w) None m = absurd m
cancel_by full (Some w) (Some w') m = refl

finish_by : (store : List Cell) (full : Bool) (o o' : Option Waiter) → MayBeAlike o o' → finish_first store full o ≡ finish_first store full o'
finish_by store full None None m = refl
finish_by store full None (Some w') m = absurd m
finish_by store full (Some w) None m = absurd m
finish_by store full (Some w) (Some w') m =
    let new = same_new w w' m in
    let current = same_current w w' m in
    let v = same_verdict store w w' m in
    λ i.
    cond (new i) (Some finish.NotEvaluated)
    (cond (not (current i)) (Some finish.Stale) (cond (blocks_there (v i)) (Some finish.Blocks) (cond full (Some finish.HistoryFull) (cond (overflows store (v i)) (Some finish.CellsFull) None))))

deliver_by : (store : List Cell) (full : Bool) (reads : List (ℕ × Value)) (o o' : Option Waiter) → MayBeAlike o o' → option_map (install_answer store full reads) o ≡ option_map (install_answer store full reads) o'
deliver_by store full reads None None m = refl
deliver_by store full reads None (Some w') m = absurd m
deliver_by store full reads (Some w) None m = absurd m
deliver_by store full reads (Some w) (Some w') m =
    let current = same_current w w' m in
    λ i. Some (m.block i, cond (current i) (Some deliver.Already) (overtaken_first (differing (under store) reads) full))

standing_by : (store : List Cell) (o o' : Option Waiter) → MayBeAlike o o' → option_map (standing store) o ≡ option_map (standing store) o'
standing_by store None None m = refl
standing_by store None (Some w') m = absurd m
standing_by store (Some w) None m = absurd m
standing_by store (Some w) (Some w') m = ap Some (same_standing store w w' m)

current_by : (o o' : Option Waiter) → MayBeAlike o o' → option_map is_current o ≡ option_map is_current o'
current_by None None m = refl
current_by None (Some w') m = absurd m
current_by (Some w) None m = absurd m
current_by (Some w) (Some w') m = ap Some (same_current w w' m)

reads_by : (o o' : Option Waiter) → MayBeAlike o o' → read_then o ≡ read_then o'
reads_by None None m = refl
reads_by None (Some w') m = absurd m
reads_by (Some w) None m = absurd m
reads_by (Some w) (Some w') m = m.reads

ticket_by : (o o' : Option Waiter) → MayBeAlike o o' → option_map (λ w. w.ticket) o ≡ option_map (λ w. w.ticket) o'
ticket_by None None m = refl
ticket_by None (Some w') m = absurd m
ticket_by (Some w) None m = absurd m
ticket_by (Some w) (Some w') m = ap Some m.ticket

same_due : (w w' : Waiter) → IsAlike w w' → is_due w ≡ is_due w'
same_due w w' a = ap not (same_current w w' a)

same_end : (store : List Cell) (w w' : Waiter) → IsAlike w w' → can_end store w ≡ can_end store w'
same_end store w w' a = ap ends (same_verdict store w w' a)

same_next : (store : List Cell) (w w' : Waiter) → IsAlike w w' → is_next store w ≡ is_next store w'
same_next store w w' a = let due = same_due w w' a in let end = same_end store w w' a in λ i. due i || end i

same_ready : (t : ℕ) (store : List Cell) (w w' : Waiter) → IsAlike w w' → (nat_lt t w.ticket && is_ready store w) ≡ (nat_lt t w'.ticket && is_ready store w')
same_ready t store w w' a = let current = same_current w w' a in let end = same_end store w w' a in λ i. nat_lt t (a.ticket i) && (current i && end i)

module _ (s : Slow) (ws' : List Waiter) (k : AreAlike s.waiters ws') (h : HadVerdicts s.waiters) (h' : HadVerdicts ws') where
  ending_by : (t : ℕ) (v : Option Verdict) → ending s t v ≡ ending (with_waiters s ws') t v
  ending_by t None = refl
  ending_by t (Some v) = ap (λ (l : List ℕ). Some (Finished t v (length s.store) l)) (stales s ws' k h h' t v)

  next_by : (o o' e e' : Option Waiter) → MayBeAlike o o' → MayBeAlike e e' → next_of s o e ≡ next_of (with_waiters s ws') o' e'
  next_by (Some w) (Some w') e e' m n = let v = same_verdict s.store w w' m in λ i. installing (m.ticket i) (v i)
  next_by (Some w) None e e' m n = absurd m
  next_by None (Some w') e e' m n = absurd m
  next_by None None None None m n = refl
  next_by None None None (Some w') m n = absurd n
  next_by None None (Some w) None m n = absurd n
  next_by None None (Some w) (Some w') m n =
      let v = same_verdict s.store w w' n in (λ i. ending s (n.ticket i) (v i)) ∙ ending_by w'.ticket (verdict_on s.store w'.block)

  next_with : next_what s ≡ next_what (with_waiters s ws')
  next_with =
      next_by (lowest is_due s.waiters) (lowest is_due ws') (lowest (can_end s.store) s.waiters) (lowest (can_end s.store) ws') (alike_lowest is_due s.waiters ws' same_due k)
      (alike_lowest (can_end s.store) s.waiters ws' (same_end s.store) k)

  drain_by : (o o' : Option Waiter) → MayBeAlike o o' → drain_of s o ≡ drain_of (with_waiters s ws') o'
  drain_by None None m = refl
  drain_by None (Some w') m = absurd m
  drain_by (Some w) None m = absurd m
  drain_by (Some w) (Some w') m =
      let due = same_due w w' m in
      let v = same_verdict s.store w w' m in
      (λ i. cond (due i) (installing (m.ticket i) (v i)) (ending s (m.ticket i) (v i)))
      ∙ ap (λ (x : Option What). cond (is_due w') (installing w'.ticket (verdict_on s.store w'.block)) x) (ending_by w'.ticket (verdict_on s.store w'.block))

  drain_with : next_drain s ≡ next_drain (with_waiters s ws')
  drain_with = drain_by (lowest (is_next s.store) s.waiters) (lowest (is_next s.store) ws') (alike_lowest (is_next s.store) s.waiters ws' (same_next s.store) k)

next_alike : (s s' : Slow) → IsPossible s → IsPossible s' → observed s ≡ observed s' → next_what s ≡ next_what s'
next_alike s s' p p' e = next_with s s'.waiters (alike_of s s' e) p.evaluated p'.evaluated ∙ ap next_what (same_state s s' e)

drain_alike : (s s' : Slow) → IsPossible s → IsPossible s' → observed s ≡ observed s' → next_drain s ≡ next_drain s'
drain_alike s s' p p' e = drain_with s s'.waiters (alike_of s s' e) p.evaluated p'.evaluated ∙ ap next_drain (same_state s s' e)

cells_with : (s : Slow) (ws' : List Waiter) (d : What) → has_cells s d ≡ has_cells (with_waiters s ws') d
cells_with s ws' (Submitted t b) = refl
cells_with s ws' (Installed t v) = refl
cells_with s ws' (Finished t v n l) = refl
cells_with s ws' (Cancelled t) = refl
cells_with s ws' (DeclaredLate name kind value) = refl
cells_with s ws' (Labelled t label) = refl

cells_alike : (s s' : Slow) (d : What) → observed s ≡ observed s' → has_cells s d ≡ has_cells s' d
cells_alike s s' d e = cells_with s s'.waiters d ∙ ap (λ (x : Slow). has_cells x d) (same_state s s' e)

-- ---- settling and draining
-- a function of states gives the same for two possible ones of which the same is observed
abbrev IsObservable : (A : Type 0) → (Slow → A) → Type 0
IsObservable A f = (s s' : Slow) → IsPossible s → IsPossible s' → observed s ≡ observed s' → f s ≡ f s'

same_if : (A : Type 0) (b : Bool) (x y z : A) → (b ≡ true → x ≡ y) → cond b x z ≡ cond b y z
same_if A true x y z e = e refl
same_if A false x y z e = refl

-- it does so after an event that is allowed if the store has room
later_alike : (A : Type 0) (f : Slow → A) → IsObservable A f → (s s' : Slow) (d : What) → IsPossible s → IsPossible s' → observed s ≡ observed s' → IsAllowed s (Some d) → has_cells s d ≡ true → f (after s d) ≡ f (after s' d)
later_alike A f same s s' d p p' e allowed room =
    let a = allowed room in
    let r = observed_after s s' d p p' e a in
    same (after s d) (after s' d) (possible_after s d p a) (possible_after s' d p' r.0) r.1

runs_on : (next : Order) (room : ℕ) (s s' : Slow) (o : Option What) → IsObservable (List What) (running next room) → IsPossible s → IsPossible s' → observed s ≡ observed s' → IsAllowed s o
    → settle_on (running next room) s o ≡ settle_on (running next room) s' o
runs_on next room s s' None same p p' e a = refl
runs_on next room s s' (Some d) same p p' e a =
    same_if (List What) (has_cells s d) (d ∷ running next room (after s d)) (d ∷ running next room (after s' d)) []
    (λ r. ap (λ (ds : List What). d ∷ ds) (later_alike (List What) (running next room) same s s' d p p' e a r))
    ∙ ap (λ (b : Bool). cond b (d ∷ running next room (after s' d)) []) (cells_alike s s' d e)

-- an order of work of which each next thing is allowed
abbrev IsLawful : Order → Type 0
IsLawful next = (s : Slow) → AreRising s.next 0 s.waiters → IsAllowed s (next s)

running_alike : (next : Order) → IsLawful next → IsObservable (Option What) next → (room : ℕ) → IsObservable (List What) (running next room)
running_alike next lawful alike zero s s' p p' e = refl
running_alike next lawful alike (suc room) s s' p p' e =
    runs_on next room s s' (next s) (running_alike next lawful alike room) p p' e (lawful s p.rising) ∙ ap (settle_on (running next room) s') (alike s s' p p' e)

stops_on : (next : Order) (room : ℕ) (s s' : Slow) (o : Option What) → IsObservable (Option Stop) (run_stop next room) → IsPossible s → IsPossible s' → observed s ≡ observed s' → IsAllowed s o
    → stop_on (run_stop next room) s o ≡ stop_on (run_stop next room) s' o
stops_on next room s s' None same p p' e a = refl
stops_on next room s s' (Some d) same p p' e a =
    same_if (Option Stop) (has_cells s d) (run_stop next room (after s d)) (run_stop next room (after s' d)) (Some NoCells) (later_alike (Option Stop) (run_stop next room) same s s' d p p' e a)
    ∙ ap (λ (b : Bool). cond b (run_stop next room (after s' d)) (Some NoCells)) (cells_alike s s' d e)

stop_alike : (next : Order) → IsLawful next → IsObservable (Option What) next → (room : ℕ) → IsObservable (Option Stop) (run_stop next room)
stop_alike next lawful alike zero s s' p p' e = ap (λ (o : Option What). cond (is_some o) (Some NoRoom) None) (alike s s' p p' e)
stop_alike next lawful alike (suc room) s s' p p' e =
    stops_on next room s s' (next s) (stop_alike next lawful alike room) p p' e (lawful s p.rising) ∙ ap (stop_on (run_stop next room) s') (alike s s' p p' e)

-- ---- all of them
answers_with : (s : Slow) (ws' : List Waiter) → AreAlike s.waiters ws' → IsPossible s → IsPossible (with_waiters s ws') → observed s ≡ observed (with_waiters s ws') → AnswersAlike s (with_waiters s ws')
answers_with s ws' k p p' e =
    let found = λ (t : ℕ). alike_found t s.waiters ws' k in
    record {
      submit = λ full block. ap (λ (n : ℕ). submit_first (missing (plains s.store) block.uses) (nat_le max_waiting n) full) (same_length s.waiters ws' k);
      declare = λ full name kind value. refl;
      label = λ full t. label_by full (find_waiter t s.waiters) (find_waiter t ws') (found t);
      cancel = λ full t. cancel_by full (find_waiter t s.waiters) (find_waiter t ws') (found t);
      finish = λ full t. finish_by s.store full (find_waiter t s.waiters) (find_waiter t ws') (found t);
      deliver = λ full t reads. deliver_by s.store full reads (find_waiter t s.waiters) (find_waiter t ws') (found t);
      standing = λ t. standing_by s.store (find_waiter t s.waiters) (find_waiter t ws') (found t);
      current = λ t. current_by (find_waiter t s.waiters) (find_waiter t ws') (found t);
      reads = λ t. reads_by (find_waiter t s.waiters) (find_waiter t ws') (found t);
      ready = λ t.
          ticket_by (lowest (λ w. nat_lt t w.ticket && is_ready s.store w) s.waiters) (lowest (λ w. nat_lt t w.ticket && is_ready s.store w) ws')
          (alike_lowest (λ w. nat_lt t w.ticket && is_ready s.store w) s.waiters ws' (same_ready t s.store) k);
      waiting = same_length s.waiters ws' k;
      next = next_alike s (with_waiters s ws') p p' e;
      settling = λ room. running_alike next_what next_allowed next_alike room s (with_waiters s ws') p p' e;
      stop = λ room. stop_alike next_what next_allowed next_alike room s (with_waiters s ws') p p' e;
      next_drain = drain_alike s (with_waiters s ws') p p' e;
      draining = λ room. running_alike next_drain drain_allowed drain_alike room s (with_waiters s ws') p p' e;
      drain_stop = λ room. stop_alike next_drain drain_allowed drain_alike room s (with_waiters s ws') p p' e;
    }

pub observed_answers : ObservedAnswerAlike
observed_answers s s' p p' e =
    let same = same_state s s' e in
    subst (AnswersAlike s) same
    (answers_with s s'.waiters (alike_of s s' e) p (subst IsPossible (sym same) p') (observed_with s s.waiters s'.waiters (alike_of s s' e)))
