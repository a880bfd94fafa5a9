-- Desks of which the same is observed: what is shown of them is the same, and events keep them so.
use Rattle.std.proofs.Common.{◌≡◌, ◌⊎◌, ⊎_elim, ℕ, ◌≤◌, Bool, true, false, cond, List, [], ◌∷◌, ◌++◌, map, length, Option, Some, None, refl, sym, ap, ap₂, ◌∙◌, subst, arith, length-append}
use Rattle.std.specs.Prelude.{◌&&◌, nat_le, decimal, codes, filter, option_map}
use Rattle.std.proofs.lemmas.Bool.Decides.{nat_tests}
use Rattle.stm_terms.specs.ReadSet.{reads_of}
use Rattle.stm_check.specs.TypedBlock.{Block}
use Rattle.stm_store.specs.declared.cell.Cell.{Cell}
use Rattle.stm_store.specs.Cells.{plains}
use Rattle.stm_queue.specs.Queue.{Entry}
use Rattle.stm_events.specs.declared.event.Event.{Event}
use Rattle.stm_events.specs.declared.event.What.{What}
use Rattle.stm_events.specs.Answers.{AnswersAlike}
use Rattle.stm_events.specs.BlockStatus.{read_since_then}
use Rattle.stm_events.specs.Ready.{is_ready}
use Rattle.stm_events.specs.Labels.{Labels, label_of}
use Rattle.stm_events.specs.Laws.{SubmitsWellTyped, SubmittedAreWellTyped}
use Rattle.stm_events.specs.SlowSettle.{ends}
use Rattle.stm_events.specs.SlowDesk.{Since, Waiter, Slow, under, find_waiter, Allows}
use Rattle.stm_events.specs.States.{IsPossible, observed}
use Rattle.stm_events.proofs.AlikeWaitersStay.{IsAlike, AreAlike, MayBeAlike, alike_from, alike_found, same_length, same_standing, same_current, same_verdict}
use Rattle.stm_events.proofs.Folds.{legal_split}
use Rattle.stm_events.proofs.Observed.{observed_after, observed_answers}
use Rattle.stm_events.proofs.Possible.{possible_after}
use Rattle.stm_machine.specs.Machine.{event}
use Rattle.stm_machine.specs.JobsHandedOut.{block_at}
use Rattle.stm_machine.specs.Checkpoints.{first_labels}
use Rattle.stm_desk.specs.DeskView.{DeskView, start_state, state_of, labels_of, is_full, with_event, pending_after}
use Rattle.stm_commands.specs.Contents.{waiter_line, waiter_lines, standing_text, show_text, read_text, waiter_reads_text}
use Rattle.stm_commands.specs.Blocks.{reads_line}
use Rattle.stm_commands.specs.Jobs.{job_of, jobs_of}
use Rattle.stm_commands.specs.Labelling.{label_text, block_text_line, board_line, board_lines, board_text}
use Rattle.stm_commands.specs.OpenDesk.{HandedOut}
use Rattle.stm_commands.specs.Questions.{ready_tickets, ready_text}
use Rattle.stm_commands.specs.Endings.{tickets_text}
use Rattle.stm_run_laws.proofs.AlikeLabels.{labels_later, after_alike}
use Rattle.stm_run_laws.proofs.AlikeReasons.{AlikeReasons, reasons_next, reasons_pending}
use Rattle.stm_run.proofs.StandingDesk.{Stands, state_later}

-- the second has no longer a history than the first, if b says so
pub record AlikeDesks (b : Bool) (d d' : DeskView) : Type 0 where
  pub table : d.table ≡ d'.table
  pub limit : d.limit ≡ d'.limit
  pub pending : d.pending ≡ d'.pending
  pub possible : IsPossible (state_of d)
  pub possible_too : IsPossible (state_of d')
  pub same : observed (state_of d) ≡ observed (state_of d')
  pub labels : (t : ℕ) → label_of t (labels_of d) ≡ label_of t (labels_of d')
  pub reasons : AlikeReasons d d'
  pub fewer : b ≡ true → length d'.history ≤ length d.history

pub same_store : (b : Bool) (d d' : DeskView) → AlikeDesks b d d' → (state_of d).store ≡ (state_of d').store
same_store b d d' k = ap (λ o. o.store) k.same

pub same_next : (b : Bool) (d d' : DeskView) → AlikeDesks b d d' → (state_of d).next ≡ (state_of d').next
same_next b d d' k = ap (λ o. o.next) k.same

pub same_names : (b : Bool) (d d' : DeskView) → AlikeDesks b d d' → (state_of d).names ≡ (state_of d').names
same_names b d d' k = ap (λ o. o.names) k.same

pub same_waiters : (b : Bool) (d d' : DeskView) → AlikeDesks b d d' → AreAlike (state_of d).waiters (state_of d').waiters
same_waiters b d d' k = alike_from (state_of d).waiters (state_of d').waiters (ap (λ o. o.waiters) k.same)

pub same_found : (b : Bool) (d d' : DeskView) (t : ℕ) → AlikeDesks b d d' → MayBeAlike (find_waiter t (state_of d).waiters) (find_waiter t (state_of d').waiters)
same_found b d d' t k = alike_found t (state_of d).waiters (state_of d').waiters (same_waiters b d d' k)

pub same_answers : (b : Bool) (d d' : DeskView) → AlikeDesks b d d' → AnswersAlike (state_of d) (state_of d')
same_answers b d d' k = observed_answers (state_of d) (state_of d') k.possible k.possible_too k.same

-- ---- one event more
-- it is allowed, and submits no block that isn't well typed
abbrev pub MayHappen : Slow → What → Type 0
MayHappen s what = Allows s what × SubmitsWellTyped what

pub alike_event : (b : Bool) (d d' : DeskView) (what : What) → MayHappen (state_of d) what → AlikeDesks b d d' → AlikeDesks b (with_event d 0 what) (with_event d' 0 what)
alike_event b d d' what a k =
    let e = event 0 what in
    let s = state_of d in
    let s' = state_of d' in
    let later = sym (state_later (start_state d) d.history e) in
    let later' = sym (state_later (start_state d') d'.history e) in
    let next = observed_after s s' what k.possible k.possible_too k.same a.0 in
    record {
      table = k.table;
      limit = k.limit;
      pending = ap (pending_after what) k.pending;
      possible = subst IsPossible later (possible_after s what k.possible a.0);
      possible_too = subst IsPossible later' (possible_after s' what k.possible_too next.0);
      same = ap observed (sym later) ∙ next.1 ∙ ap observed later';
      labels = λ t.
          ap (label_of t) (labels_later (first_labels d.checkpoint) d.history e) ∙ after_alike what (labels_of d) (labels_of d') k.labels t
          ∙ sym (ap (label_of t) (labels_later (first_labels d'.checkpoint) d'.history e));
      reasons = reasons_next d d' what a.0 a.1 k.same k.reasons;
      fewer = λ f. let few = k.fewer f in omega (arith, length-append d.history (e ∷ []), length-append d'.history (e ∷ []), few);
    }

-- an event that a desk stands with was allowed before it
last_typed : (es : List Event) (e : Event) → SubmittedAreWellTyped (es ++ e ∷ []) → SubmitsWellTyped e.what
last_typed [] e h = h.0
last_typed (x ∷ es) e h = last_typed es e h.1

pub allowed_by : (d : DeskView) (jobs : List HandedOut) (what : What) → Stands (with_event d 0 what) jobs → MayHappen (state_of d) what
allowed_by d jobs what k = ((legal_split (start_state d) d.history (event 0 what) k.legal.each).allowed.what, last_typed d.history (event 0 what) k.typed)

-- the queue may change, if it changes on both
pub alike_pending : (b : Bool) (d d' : DeskView) (es es' : List Entry) → es ≡ es' → AlikeDesks b d d' → AlikeDesks b (record d { pending = es }) (record d' { pending = es' })
alike_pending b d d' es es' e k =
    record {
      table = k.table;
      limit = k.limit;
      pending = e;
      possible = k.possible;
      possible_too = k.possible_too;
      same = k.same;
      labels = k.labels;
      reasons = reasons_pending d d' es es' k.reasons;
      fewer = k.fewer;
    }

-- ---- a full history is reported, or makes no difference
fewer_full : (l m n : ℕ) → m ≤ n → nat_le l m ≡ true → nat_le l n ≡ true
fewer_full l m n h e = grind (arith, nat_tests)

pub full_too : (b : Bool) (d d' : DeskView) → AlikeDesks b d d' → b ≡ true → is_full d' ≡ true → is_full d ≡ true
full_too b d d' k e f =
    let g : nat_le d.limit (length d'.history) ≡ true = ap (λ (l : ℕ). nat_le l (length d'.history)) k.limit ∙ f in
    fewer_full d.limit (length d'.history) (length d.history) (k.fewer e) g

no_way : {P : Type 0} → true ≡ false → P
no_way e = absurd (cc e)

pub same_refusal : {E : Type 0} (f : Bool → Option E) (hf : E) → (f true ≡ f false) ⊎ (f true ≡ Some hf) → (b full full' : Bool) → (b ≡ true → full' ≡ true → full ≡ true) → (f full ≡ Some hf → ⊥)
    → (b ≡ false → f full' ≡ Some hf → ⊥) → f full ≡ f full'
same_refusal f hf e b true true h n m = refl
same_refusal f hf e b false false h n m = refl
same_refusal f hf e b true false h n m = ⊎_elim (λ q. q) (λ q. absurd (n q)) e
same_refusal f hf e true false true h n m = no_way (sym (h refl refl))
same_refusal f hf e false false true h n m = ⊎_elim (λ q. sym q) (λ q. absurd (m refl q)) e

-- ---- what is shown
lines_alike : (store : List Cell) (ws ws' : List Waiter) → AreAlike ws ws' → waiter_lines store ws ≡ waiter_lines store ws'
unfolding waiter_line
lines_alike store [] [] k = refl
lines_alike store [] (w' ∷ ws') k = absurd k
lines_alike store (w ∷ ws) [] k = absurd k
lines_alike store (w ∷ ws) (w' ∷ ws') k =
    ap₂ (λ (x y : List ℕ). x ++ y) (λ i. decimal (k.0.ticket i) ++ standing_text (same_standing store w w' k.0 i) ++ 10 ∷ []) (lines_alike store ws ws' k.1)

pub show_alike : (b : Bool) (d d' : DeskView) → AlikeDesks b d d' → show_text (state_of d) ≡ show_text (state_of d')
unfolding show_text
show_alike b d d' k =
    let ws = (state_of d).waiters in
    let ws' = (state_of d').waiters in
    let lines : waiter_lines (state_of d).store ws ≡ waiter_lines (state_of d').store ws' =
    lines_alike (state_of d).store ws ws' (same_waiters b d d' k) ∙ ap (λ (c : List Cell). waiter_lines c ws') (same_store b d d' k) in
    let count : length ws ≡ length ws' = same_length ws ws' (same_waiters b d d' k) in
    λ i. lines i ++ codes "waiting " ++ decimal (count i) ++ 10 ∷ []

board_by : (ls ls' : Labels) → ((t : ℕ) → label_of t ls ≡ label_of t ls') → (store : List Cell) (ws ws' : List Waiter) → AreAlike ws ws' → board_lines ls store ws ≡ board_lines ls' store ws'
unfolding board_line
board_by ls ls' same store [] [] k = refl
board_by ls ls' same store [] (w' ∷ ws') k = absurd k
board_by ls ls' same store (w ∷ ws) [] k = absurd k
board_by ls ls' same store (w ∷ ws) (w' ∷ ws') k =
    let label : label_of w.ticket ls ≡ label_of w'.ticket ls' = same w.ticket ∙ ap (λ (t : ℕ). label_of t ls') k.0.ticket in
    ap₂ (λ (x y : List ℕ). x ++ y) (λ i. decimal (k.0.ticket i) ++ standing_text (same_standing store w w' k.0 i) ++ 32 ∷ label_text (label i) ++ 10 ∷ [])
    (board_by ls ls' same store ws ws' k.1)

pub board_alike : (b : Bool) (d d' : DeskView) → AlikeDesks b d d' → board_text d ≡ board_text d'
unfolding board_text
board_alike b d d' k =
    let ws = (state_of d).waiters in
    let ws' = (state_of d').waiters in
    let lines : board_lines (labels_of d) (state_of d).store ws ≡ board_lines (labels_of d') (state_of d').store ws' =
    board_by (labels_of d) (labels_of d') k.labels (state_of d).store ws ws' (same_waiters b d d' k) ∙ ap (λ (c : List Cell). board_lines (labels_of d') c ws') (same_store b d d' k) in
    let count : length ws ≡ length ws' = same_length ws ws' (same_waiters b d d' k) in
    λ i. lines i ++ codes "waiting " ++ decimal (count i) ++ 10 ∷ []

block_alike : (o o' : Option Waiter) → MayBeAlike o o' → option_map (λ w. w.block) o ≡ option_map (λ w. w.block) o'
block_alike None None k = refl
block_alike None (Some w') k = absurd k
block_alike (Some w) None k = absurd k
block_alike (Some w) (Some w') k = ap Some k.block

pub text_alike : (b : Bool) (d d' : DeskView) (t : ℕ) → AlikeDesks b d d' → block_text_line t (block_at (state_of d) t) ≡ block_text_line t (block_at (state_of d') t)
text_alike b d d' t k = ap (block_text_line t) (block_alike (find_waiter t (state_of d).waiters) (find_waiter t (state_of d').waiters) (same_found b d d' t k))

read_alike : (block block' : Block) (o o' : Option Since) → read_since_then block o ≡ read_since_then block' o' → read_text block o ≡ read_text block' o'
read_alike block block' None None e = refl
read_alike block block' None (Some s') e = absurd (cc e)
read_alike block block' (Some s) None e = absurd (cc e)
read_alike block block' (Some s) (Some s') e =
    let q : reads_of (under s.store_then) block.tree ≡ reads_of (under s'.store_then) block'.tree = cc e in
    ap reads_line q

pub reads_alike : (o o' : Option Waiter) → MayBeAlike o o' → waiter_reads_text o ≡ waiter_reads_text o'
reads_alike None None k = refl
reads_alike None (Some w') k = absurd k
reads_alike (Some w) None k = absurd k
reads_alike (Some w) (Some w') k = read_alike w.block w'.block w.since w'.since k.reads

same_ready : (store : List Cell) (w w' : Waiter) → IsAlike w w' → is_ready store w ≡ is_ready store w'
same_ready store w w' k = ap₂ (λ (x y : Bool). x && y) (same_current w w' k) (ap ends (same_verdict store w w' k))

kept_by : (b b' : Bool) (w w' : Waiter) (ws ws' : List Waiter) → b ≡ b' → w.ticket ≡ w'.ticket → map (λ x. x.ticket) ws ≡ map (λ x. x.ticket) ws'
    → map (λ (x : Waiter). x.ticket) (cond b (w ∷ ws) ws) ≡ map (λ (x : Waiter). x.ticket) (cond b' (w' ∷ ws') ws')
kept_by true true w w' ws ws' e t r = λ i. t i ∷ r i
kept_by true false w w' ws ws' e t r = absurd (cc e)
kept_by false true w w' ws ws' e t r = absurd (cc e)
kept_by false false w w' ws ws' e t r = r

ready_by : (store : List Cell) (ws ws' : List Waiter) → AreAlike ws ws' → map (λ w. w.ticket) (filter (λ w. is_ready store w) ws) ≡ map (λ w. w.ticket) (filter (λ w. is_ready store w) ws')
ready_by store [] [] k = refl
ready_by store [] (w' ∷ ws') k = absurd k
ready_by store (w ∷ ws) [] k = absurd k
ready_by store (w ∷ ws) (w' ∷ ws') k =
    kept_by (is_ready store w) (is_ready store w') w w' (filter (λ w. is_ready store w) ws) (filter (λ w. is_ready store w) ws') (same_ready store w w' k.0) k.0.ticket (ready_by store ws ws' k.1)

pub ready_alike : (b : Bool) (d d' : DeskView) → AlikeDesks b d d' → ready_text (state_of d) ≡ ready_text (state_of d')
unfolding ready_text
ready_alike b d d' k =
    let tickets : ready_tickets (state_of d) ≡ ready_tickets (state_of d') =
    ready_by (state_of d).store (state_of d).waiters (state_of d').waiters (same_waiters b d d' k)
    ∙ ap (λ (c : List Cell). map (λ w. w.ticket) (filter (λ w. is_ready c w) (state_of d').waiters)) (same_store b d d' k) in
    λ i. codes "ready " ++ tickets_text (tickets i) ++ 10 ∷ []

-- ---- jobs
job_by : (c c' : List Cell) (t : ℕ) (o : Option Block) (s s' : Slow) → s.store ≡ s'.store → job_of s t o ≡ job_of s' t o
job_by c c' t None s s' e = refl
job_by c c' t (Some x) s s' e = λ i. record { ticket = t; block = x; store = plains (e i) } ∷ []

pub jobs_alike : (b : Bool) (d d' : DeskView) (ts : List ℕ) → AlikeDesks b d d' → jobs_of (state_of d) ts ≡ jobs_of (state_of d') ts
jobs_alike b d d' [] k = refl
jobs_alike b d d' (t ∷ ts) k =
    let s = state_of d in
    let s' = state_of d' in
    ap₂ (λ (x y : List HandedOut). x ++ y)
    (ap (job_of s t) (block_alike (find_waiter t s.waiters) (find_waiter t s'.waiters) (same_found b d d' t k)) ∙ job_by s.store s'.store t (block_at s' t) s s' (same_store b d d' k))
    (jobs_alike b d d' ts k)
