-- On a desk that stands, each command answers with a text that ends with a line feed: `try` has a verdict to print, `finish`
-- has an effect, and no refusal is an out-of-memory error.
use Rattle.std.proofs.Common.{◌≡◌, ℕ, ◌+◌, Bool, true, false, List, ◌∷◌, ◌++◌, length, Option, Some, None, Result, Ok, Err, refl, sym, subst, ap, ◌∙◌}
use Rattle.std.specs.Prelude.{codes, decimal, is_some, nat_lt, nat_le, ◌-◌, drop}
use Rattle.stm_terms.specs.declared.verdicts.Verdict.{Verdict}
use Rattle.stm_terms.specs.declared.verdicts.Verdict.TheVariants.{Commits, Throws, Blocks}
use Rattle.stm_terms.specs.ReadSet.{reads_of}
use Rattle.stm_terms.specs.Texts.{list_text, write_text, value_text, verdict_text}
use Rattle.stm_check.specs.Laws.{VerdictFits}
use Rattle.stm_check.specs.TypedBlock.{Block}
use Rattle.stm_store.specs.declared.cell.Cell.{Cell}
use Rattle.stm_store.specs.Cells.{plains, renumbered, changed_by}
use Rattle.stm_store.specs.Naming.{Named, may_hold_known, number_named}
use Rattle.stm_store.specs.Tables.{Declared}
use Rattle.stm_events.specs.declared.errors.CancelError.{CancelError}
use Rattle.stm_events.specs.declared.errors.DeliverError.{DeliverError}
use Rattle.stm_events.specs.declared.errors.FinishError.{FinishError}
use Rattle.stm_events.specs.declared.errors.LabelError.{LabelError}
use Rattle.stm_events.specs.declared.errors.LateDeclareError.{LateDeclareError}
use Rattle.stm_events.specs.declared.errors.SubmitError.{SubmitError}
use Rattle.stm_events.specs.declared.event.What.{What}
use Rattle.stm_events.specs.SlowAtomically.{atomically}
use Rattle.stm_events.specs.States.{IsPossible}
use Rattle.stm_events.proofs.Atomically.{whats_waiting, whats_ending}
use Rattle.stm_events.proofs.TypedStores.{typed_verdict}
use Rattle.stm_history_text.specs.Starts.{written_start}
use Rattle.stm_events.specs.Refusals.{missing, blocks_there, overflows, finish_first}
use Rattle.stm_events.specs.SlowDesk.{Since, Waiter, Slow, under, verdict_on, waking, is_blocks, is_new, is_current, find_waiter, without_waiter, stale_after, max_cells}
use Rattle.stm_terms.specs.Limits.{max_waiting}
use Rattle.stm_events.specs.SlowSettle.{Stop, NoRoom, NoCells, finishes, installs}
use Rattle.stm_desk.specs.declared.errors.AtomicError.{AtomicError}
use Rattle.stm_desk.specs.Refusals.{submit_refusal, late_declare_refusal, events_needed, atomic_refusal, finish_refusal, cancel_refusal, label_refusal}
use Rattle.stm_desk.specs.Reasons.{WaitReason, reason_of}
use Rattle.stm_machine.specs.JobsHandedOut.{block_at}
use Rattle.stm_desk.specs.DeskView.{DeskView, state_of, labels_of, is_full, lacks_room}
use Rattle.stm_desk.specs.Settling.{slow_settle, slow_stop, slow_drain, slow_drain_stop, requeued_all}
use Rattle.stm_run.specs.declared.command.Command.{Command}
use Rattle.stm_run.specs.declared.command.Command.TheVariants.{Tvar, Declare, Try, Looks, Submit, Atomically, Take, Deliver, Handback, Eval, Finish, Cancel, Show, Reads, Store, Settle, Drain, History, Ready, Why, Events, Checkpoint, Label, Block as BlockCommand, Board}
use Rattle.stm_source.specs.declared.refusal.Refusal.{Refusal}
use Rattle.stm_lines.specs.NumberArgument.{number_argument}
use Rattle.stm_source.specs.CompiledBlock.{compiled_block}
use Rattle.stm_source.specs.DeclaredVariable.{late_variable_of}
use Rattle.stm_commands.specs.Arguments.{argument_refused}
use Rattle.stm_commands.specs.Atomically.{waits_line, ran_text, atomically_block_step, atomically_text_step, atomically_step}
use Rattle.stm_commands.specs.Blocks.{verdict_line, tried_text, try_answer, reads_line, looked_text, looks_answer, ticket_line, submit_block_step, submit_text_step, submit_step}
use Rattle.stm_commands.specs.Checkpointing.{are_tickets_full, begun_anew, checkpoint_line, bare_checkpoint_step, checkpoint_step}
use Rattle.stm_commands.specs.Contents.{waiter_lines, show_text, show_answer, read_text, waiter_reads_text, reads_answer, stored_lines, store_text, store_answer, history_answer, events_text}
use Rattle.stm_commands.specs.Declaring.{declared_line, declare_variable_step, declare_text_step, declare_step}
use Rattle.stm_commands.specs.Endings.{tickets_text, result_line, finished_line, cancelled_line, settled_line, drained_line, run_text, finish_ticket_step, finish_step, cancel_ticket_step, cancel_step, settle_desk_step, settle_step, drain_desk_step, drain_step, finish_verdict_step, finish_waiter_step}
use Rattle.stm_commands.specs.Evaluation.{evaluated_line, evaluated, evaluation_text, eval_step, eval_desk_step}
use Rattle.stm_commands.specs.Jobs.{max_jobs, taken, job_text, numbered, jobs_line, delivery_refusal, delivered_line, job_at, queued_line, with_jobs, take_jobs_step, take_step, delivery_step, deliver_job_step, deliver_step, handed_back, handback_ticket_step, handback_step}
use Rattle.stm_commands.specs.Labelling.{label_text, labelled_line, label_ticket_step, labelling, labelling_step, label_step, on_one_line, block_text_line, block_answer, board_lines, board_text, board_answer}
use Rattle.stm_commands.specs.OpenDesk.{HandedOut, OpenDesk, known, present, on_desk}
use Rattle.stm_commands.specs.Questions.{ready_tickets, ready_text, ready_answer, reason_text, why_line, why_answer, later_events_text, events_answer}
use Rattle.stm_commands.specs.Refusals.{refused}
use Rattle.stm_run.specs.Console.{desk_step}
use Rattle.stm_run_laws.specs.Laws.{EndsALine}
use Rattle.stm_run.proofs.ArgumentCases.{either_has, number_has, nothing_has}
use Rattle.stm_run_laws.proofs.EndedLines.{refused_ends, refusal_ends, late_declare_error_ends, submit_error_ends, atomic_error_ends, deliver_error_ends, finish_error_ends, cancel_error_ends, label_error_ends, history_ends, counted_end}
use Rattle.stm_run.proofs.DeclaredVariables.{LateOrTold}
use Rattle.stm_run.proofs.TextsJudged.{BlockOrTold}
use Rattle.stm_run.proofs.StandingDesk.{Stands, stands_sound}
use Rattle.stm_run.proofs.DeskMoves.{submit_told, declare_told, cancel_told, label_told, finish_told, may_end}
use Rattle.stm_run.proofs.RunAtOnce.{atomic_told}
use Rattle.stm_run.proofs.DeliveredJobs.{refusal_told, evaluated_told}
use Rattle.stm_queue.specs.Queue.{is_out}

bad_ends : EndsALine argument_refused
bad_ends = refused_ends (codes "Argument")

abbrev Ends : OpenDesk × List ℕ → Type 0
Ends p = EndsALine p.1

-- ---- blocks
verdict_ends : (v : Verdict) (o : Option Verdict) → o ≡ Some v → EndsALine (verdict_line o)
unfolding verdict_line
verdict_ends v (Some w) e = (verdict_text w, refl)
verdict_ends v None e = absurd cc

looked_ends : (names : List Named) (cells : List Cell) (r : Result Block Refusal) → BlockOrTold names r → EndsALine (looked_text cells r)
unfolding reads_line
looked_ends names cells (Ok b) h = (codes "reads " ++ list_text write_text (reads_of (under cells) b.tree), refl)
looked_ends names cells (Err x) h = refusal_ends x h

submitted_ends : (d : DeskView) (block : Block) (o : Option SubmitError) → submit_refusal d block ≡ o → EndsALine (submit_block_step d block o).1
unfolding ticket_line
submitted_ends d block None e = (codes "ticket " ++ decimal (state_of d).next, refl)
submitted_ends d block (Some x) e =
    submit_error_ends x (λ m. submit_told (missing (plains (state_of d).store) block.uses) (nat_le max_waiting (length (state_of d).waiters)) (is_full d) (e ∙ ap Some m))

submit_ends : (d : DeskView) (r : Result Block Refusal) → BlockOrTold (state_of d).names r → EndsALine (submit_text_step d r).1
submit_ends d (Ok b) h = submitted_ends d b (submit_refusal d b) refl
submit_ends d (Err x) h = refusal_ends x h

-- ---- declarations
declared_ends : (d : DeskView) (v : Declared) (o : Option LateDeclareError) → late_declare_refusal d v.name v.kind v.value ≡ o → EndsALine (declare_variable_step d v o).1
unfolding declared_line
declared_ends d v None e = (codes "declared #" ++ decimal (length (state_of d).store) ++ 32 ∷ v.name, refl)
declared_ends d v (Some x) e =
    let s = state_of d in
    late_declare_error_ends x (λ m. declare_told (is_some (number_named v.name s.names)) (may_hold_known s.names v.kind v.value) (is_full d) (nat_lt (length s.store) max_cells) (e ∙ ap Some m))

declare_ends : (d : DeskView) (r : Result Declared Refusal) → LateOrTold r → EndsALine (declare_text_step d r).1
declare_ends d (Ok v) h = declared_ends d v (late_declare_refusal d v.name v.kind v.value) refl
declare_ends d (Err x) h = refusal_ends x h

-- ---- jobs
take_ends : (d : OpenDesk) (n : ℕ) → Ends (take_jobs_step d n)
unfolding jobs_line
take_ends d n =
    either_has Ends (nat_lt max_jobs (n + length d.jobs)) (d, refused (codes "JobsFull")) (with_jobs d (taken d.desk n), jobs_line (length d.jobs + 1) (taken d.desk n)) (refused_ends (codes "JobsFull"))
    (codes "jobs " ++ list_text job_text (numbered (length d.jobs + 1) (taken d.desk n)), refl)

delivery_ends : (d : DeskView) (j : HandedOut) (o : Option DeliverError) → delivery_refusal d j ≡ o → EndsALine (delivery_step d j o).1
unfolding delivered_line
delivery_ends d j None e = (codes "delivered " ++ decimal j.ticket, refl)
delivery_ends d j (Some x) e = deliver_error_ends x (λ m. refusal_told d j (e ∙ ap Some m))

deliver_ends : (d : DeskView) (o : Option HandedOut) → EndsALine (deliver_job_step d o).1
deliver_ends d None = refused_ends (codes "NoJob")
deliver_ends d (Some j) = delivery_ends d j (delivery_refusal d j) refl

handback_ends : (d : DeskView) (t : ℕ) → EndsALine (handback_ticket_step d t).1
unfolding queued_line
handback_ends d t =
    either_has (λ (p : DeskView × List ℕ). EndsALine p.1) (is_out t d.pending) (handed_back d t, queued_line t) (d, refused (codes "NotOut")) (codes "queued " ++ decimal t, refl) (refused_ends (codes "NotOut"))

eval_ends : (d : DeskView) (n : ℕ) (o : Option DeliverError) → (evaluated d).stop ≡ o → EndsALine (evaluation_text n o)
unfolding evaluated_line
eval_ends d n None e = (codes "evaluated " ++ decimal n, refl)
eval_ends d n (Some x) e = deliver_error_ends x (λ m. evaluated_told d (e ∙ ap Some m))

-- ---- effects
effect_ends : (t n : ℕ) (v : Verdict) (stale : List ℕ) → is_blocks v ≡ false → EndsALine (finished_line t n v stale)
unfolding result_line
effect_ends t n (Commits writes news result) stale h =
    (codes "finished " ++ decimal t ++ codes " result " ++ value_text (renumbered n result) ++ codes " stale " ++ tickets_text stale, refl)
effect_ends t n (Throws fault) stale h = (codes "finished " ++ decimal t ++ 32 ∷ verdict_text (Throws fault), refl)
effect_ends t n Blocks stale h = absurd cc

waits_ends : (t : ℕ) → EndsALine (waits_line t)
unfolding waits_line
waits_ends t = (codes "waits " ++ decimal t, refl)

-- a block that was run at once
ran_ends : (s : Slow) (block : Block) (v : Verdict) → IsPossible s → verdict_on s.store block ≡ Some v → EndsALine (ran_text (atomically s block))
ran_ends s block v p e = by (is_blocks v) refl
  where
    by : (b : Bool) → is_blocks v ≡ b → EndsALine (ran_text (atomically s block))
    by true q = subst (λ (xs : List What). EndsALine (ran_text xs)) (sym (whats_waiting s block v p e q)) (waits_ends s.next)
    by false q =
        let stale = stale_after (waking s.rule s.store v) s.waiters in
        subst (λ (xs : List What). EndsALine (ran_text xs)) (sym (whats_ending s block v p stale e q refl)) (effect_ends s.next (length s.store) v stale q)

run_ends : (d : DeskView) (block : Block) (o : Option AtomicError) → atomic_refusal d block ≡ o → EndsALine (ran_text (atomically (state_of d) block)) → EndsALine (atomically_block_step d block o).1
run_ends d block None e h = h
run_ends d block (Some x) e h =
    let s = state_of d in
    let v = verdict_on s.store block in
    atomic_error_ends x (λ m. atomic_told (missing (plains s.store) block.uses) (nat_le max_waiting (length s.waiters)) (lacks_room d (events_needed v)) (overflows s.store v) (e ∙ ap Some m))

cancel_ends : (d : DeskView) (t : ℕ) (o : Option CancelError) → cancel_refusal d t ≡ o → EndsALine (cancel_ticket_step d t o).1
unfolding cancelled_line
cancel_ends d t None e = (codes "cancelled " ++ decimal t, refl)
cancel_ends d t (Some x) e = cancel_error_ends x (λ m. cancel_told (find_waiter t (state_of d).waiters) (is_full d) (e ∙ ap Some m))

settle_ends : (whats : List What) (o : Option Stop) → EndsALine (run_text settled_line whats o)
unfolding settled_line
settle_ends whats None = (codes "settled " ++ decimal (finishes whats) ++ codes " evaluations " ++ decimal (installs whats), refl)
settle_ends whats (Some NoRoom) = (codes "stopped HistoryFull settled " ++ decimal (finishes whats) ++ codes " evaluations " ++ decimal (installs whats), refl)
settle_ends whats (Some NoCells) = (codes "stopped CellsFull settled " ++ decimal (finishes whats) ++ codes " evaluations " ++ decimal (installs whats), refl)

drain_ends : (whats : List What) (o : Option Stop) → EndsALine (run_text drained_line whats o)
unfolding drained_line
drain_ends whats None = (codes "drained " ++ decimal (finishes whats) ++ codes " evaluations " ++ decimal (installs whats), refl)
drain_ends whats (Some NoRoom) = (codes "stopped HistoryFull drained " ++ decimal (finishes whats) ++ codes " evaluations " ++ decimal (installs whats), refl)
drain_ends whats (Some NoCells) = (codes "stopped CellsFull drained " ++ decimal (finishes whats) ++ codes " evaluations " ++ decimal (installs whats), refl)

-- ---- labels
label_ends : (d : DeskView) (t : ℕ) (text : List ℕ) (o : Option LabelError) → label_refusal d t ≡ o → EndsALine (label_ticket_step d t text o).1
unfolding labelled_line
label_ends d t text None e = (codes "labelled " ++ decimal t ++ 32 ∷ label_text text, refl)
label_ends d t text (Some x) e = label_error_ends x (λ m. label_told (find_waiter t (state_of d).waiters) (is_full d) (e ∙ ap Some m))

labelling_ends : (d : OpenDesk) (o : Option (ℕ × List ℕ)) → Ends (labelling_step d o)
labelling_ends d (Some l) = label_ends d.desk l.0 l.1 (label_refusal d.desk l.0) refl
labelling_ends d None = bad_ends

-- ---- what there is
show_ends : (s : Slow) → EndsALine (show_text s)
unfolding show_text
show_ends s = (waiter_lines s.store s.waiters ++ codes "waiting " ++ decimal (length s.waiters), refl)

board_ends : (d : DeskView) → EndsALine (board_text d)
unfolding board_text
board_ends d = (board_lines (labels_of d) (state_of d).store (state_of d).waiters ++ codes "waiting " ++ decimal (length (state_of d).waiters), refl)

block_ends : (t : ℕ) (o : Option Block) → EndsALine (block_text_line t o)
unfolding block_text_line
block_ends t (Some b) = (codes "block " ++ decimal t ++ 32 ∷ on_one_line b.text, refl)
block_ends t None = refused_ends (codes "NoTicket")

read_ends : (block : Block) (o : Option Since) → EndsALine (read_text block o)
unfolding reads_line
read_ends block (Some s) = (codes "reads " ++ list_text write_text (reads_of (under s.store_then) block.tree), refl)
read_ends block None = refused_ends (codes "NotEvaluated")

waiter_ends : (o : Option Waiter) → EndsALine (waiter_reads_text o)
waiter_ends (Some w) = read_ends w.block w.since
waiter_ends None = refused_ends (codes "NoTicket")

cells_end : (names : List Named) (cells : List Cell) → EndsALine (store_text names cells)
unfolding store_text
cells_end names cells = (stored_lines names 0 cells ++ codes "cells " ++ decimal (length cells), refl)

-- ---- questions
ready_ends : (s : Slow) → EndsALine (ready_text s)
unfolding ready_text
ready_ends s = (codes "ready " ++ tickets_text (ready_tickets s), refl)

why_ends : (t : ℕ) (o : Option WaitReason) → EndsALine (why_line t o)
why_ends t (Some r) = (codes "why " ++ decimal t ++ codes " " ++ reason_text r, refl)
why_ends t None = refused_ends (codes "NoTicket")

later_events_end : (d : OpenDesk) (n : ℕ) → EndsALine (later_events_text d n)
later_events_end d n = counted_end (drop (n - 1) d.desk.history) (codes "events " ++ decimal (length d.desk.history))

-- ---- checkpoints
checkpoint_ends : (d : OpenDesk) → Ends (bare_checkpoint_step d)
unfolding checkpoint_line
checkpoint_ends d =
    either_has Ends (are_tickets_full d) (d, refused (codes "TicketsFull")) (begun_anew d, checkpoint_line (length d.desk.history)) (refused_ends (codes "TicketsFull"))
    (codes "checkpoint " ++ decimal (length d.desk.history), refl)

module _ (judged : (names : List Named) (text : List ℕ) → BlockOrTold names (compiled_block names text)) (late : (names : List Named) (text : List ℕ) → LateOrTold (late_variable_of names text)) (fits : VerdictFits) where
  -- a well typed block over the names has a verdict on the present store
  tried_ends : (d : OpenDesk) → Stands d.desk d.jobs → (r : Result Block Refusal) → BlockOrTold (known d) r → EndsALine (tried_text (present d) r)
  tried_ends d k (Ok b) h =
      let sound = stands_sound d.desk d.jobs k in
      let v = fits (plains (present d)) b.uses b.tree h.0.0 sound.typed.store (h.1 (plains (present d)) sound.possible.named) h.0.1 in
      verdict_ends v.0 (verdict_on (present d) b) v.1
  tried_ends d k (Err x) h = refusal_ends x h

  atomically_ends : (d : OpenDesk) → Stands d.desk d.jobs → (r : Result Block Refusal) → BlockOrTold (known d) r → EndsALine (atomically_text_step d.desk r).1
  atomically_ends d k (Ok b) h =
      let sound = stands_sound d.desk d.jobs k in
      let v = fits (plains (present d)) b.uses b.tree h.0.0 sound.typed.store (h.1 (plains (present d)) sound.possible.named) h.0.1 in
      run_ends d.desk b (atomic_refusal d.desk b) refl (ran_ends (state_of d.desk) b v.0 sound.possible v.1)
  atomically_ends d k (Err x) h = refusal_ends x h

  -- and so has a block that waits
  ending_ends : (d : DeskView) (t : ℕ) (w : Waiter) (v : Verdict) (o : Option Verdict) → o ≡ Some v → blocks_there o ≡ false → EndsALine (finish_verdict_step d t o).1
  ending_ends d t w v None e h = absurd cc
  ending_ends d t w v (Some x) e h = let s = state_of d in effect_ends t (length s.store) x (stale_after (changed_by s.store x) (without_waiter t s.waiters)) h

  finishing_ends : (d : DeskView) (jobs : List HandedOut) (t : ℕ) (o : Option Waiter) → find_waiter t (state_of d).waiters ≡ o → finish_first (state_of d).store (is_full d) o ≡ None → Stands d jobs → EndsALine (finish_waiter_step d t o).1
  finishing_ends d jobs t None f e k = absurd cc
  finishing_ends d jobs t (Some w) f e k =
      let o = verdict_on (state_of d).store w.block in
      let sound = stands_sound d jobs k in
      let v = typed_verdict (state_of d) t w sound.possible sound.typed f in
      let may = may_end (is_new w) (is_current w) (blocks_there o) (is_full d) (overflows (state_of d).store o) e in
      ending_ends d t w v.0 o v.1 may.ends

  finish_ends : (d : DeskView) (jobs : List HandedOut) (t : ℕ) (o : Option FinishError) → finish_refusal d t ≡ o → Stands d jobs → EndsALine (finish_ticket_step d t o).1
  finish_ends d jobs t None e k = finishing_ends d jobs t (find_waiter t (state_of d).waiters) refl e k
  finish_ends d jobs t (Some x) e k = finish_error_ends x (λ m. finish_told (state_of d).store (is_full d) (find_waiter t (state_of d).waiters) (e ∙ ap Some m))

  pub desk_ends : (d : OpenDesk) → Stands d.desk d.jobs → (c : Command) (argument : List ℕ) → Ends (desk_step d c argument)
  unfolding declare_step try_answer looks_answer submit_step atomically_step checkpoint_step take_step deliver_step handback_step eval_step finish_step cancel_step show_answer reads_answer store_answer settle_step drain_step history_answer ready_answer why_answer events_answer label_step block_answer board_answer
  desk_ends d k Tvar argument = refused_ends (codes "Late")
  desk_ends d k Declare argument = declare_ends d.desk (late_variable_of (known d) argument) (late (known d) argument)
  desk_ends d k Try argument = tried_ends d k (compiled_block (known d) argument) (judged (known d) argument)
  desk_ends d k Looks argument = looked_ends (known d) (present d) (compiled_block (known d) argument) (judged (known d) argument)
  desk_ends d k Submit argument = submit_ends d.desk (compiled_block (known d) argument) (judged (known d) argument)
  desk_ends d k Atomically argument = atomically_ends d k (compiled_block (known d) argument) (judged (known d) argument)
  desk_ends d k Take argument = number_has Ends (take_jobs_step d) (d, argument_refused) (number_argument argument) (take_ends d) bad_ends
  desk_ends d k Deliver argument = number_has Ends (λ n. on_desk d (deliver_job_step d.desk (job_at n d.jobs))) (d, argument_refused) (number_argument argument) (λ n. deliver_ends d.desk (job_at n d.jobs)) bad_ends
  desk_ends d k Handback argument = number_has Ends (λ t. on_desk d (handback_ticket_step d.desk t)) (d, argument_refused) (number_argument argument) (handback_ends d.desk) bad_ends
  desk_ends d k Eval argument =
      nothing_has Ends (on_desk d (eval_desk_step d.desk)) (d, argument_refused) argument
      (eval_ends d.desk (evaluated d.desk).count (evaluated d.desk).stop refl) bad_ends
  desk_ends d k Finish argument =
      number_has Ends (λ t. on_desk d (finish_ticket_step d.desk t (finish_refusal d.desk t))) (d, argument_refused) (number_argument argument)
      (λ t. finish_ends d.desk d.jobs t (finish_refusal d.desk t) refl k) bad_ends
  desk_ends d k Cancel argument =
      number_has Ends (λ t. on_desk d (cancel_ticket_step d.desk t (cancel_refusal d.desk t))) (d, argument_refused) (number_argument argument) (λ t. cancel_ends d.desk t (cancel_refusal d.desk t) refl) bad_ends
  desk_ends d k Show argument = nothing_has EndsALine (show_text (state_of d.desk)) argument_refused argument (show_ends (state_of d.desk)) bad_ends
  desk_ends d k Reads argument =
      number_has EndsALine (λ t. waiter_reads_text (find_waiter t (state_of d.desk).waiters)) argument_refused (number_argument argument) (λ t. waiter_ends (find_waiter t (state_of d.desk).waiters)) bad_ends
  desk_ends d k Store argument = nothing_has EndsALine (store_text (known d) (present d)) argument_refused argument (cells_end (known d) (present d)) bad_ends
  desk_ends d k Settle argument =
      let e = requeued_all d.desk in
      nothing_has Ends (on_desk d (settle_desk_step e)) (d, argument_refused) argument (settle_ends (slow_settle e) (slow_stop e)) bad_ends
  desk_ends d k Drain argument =
      let e = requeued_all d.desk in
      nothing_has Ends (on_desk d (drain_desk_step e)) (d, argument_refused) argument (drain_ends (slow_drain e) (slow_drain_stop e)) bad_ends
  desk_ends d k History argument = nothing_has EndsALine (events_text d) argument_refused argument (history_ends (written_start d.desk.table d.desk.checkpoint d.desk.history) d.desk.history) bad_ends
  desk_ends d k Ready argument = nothing_has EndsALine (ready_text (state_of d.desk)) argument_refused argument (ready_ends (state_of d.desk)) bad_ends
  desk_ends d k Why argument = number_has EndsALine (λ t. why_line t (reason_of d.desk t)) argument_refused (number_argument argument) (λ t. why_ends t (reason_of d.desk t)) bad_ends
  desk_ends d k Events argument = number_has EndsALine (later_events_text d) argument_refused (number_argument argument) (later_events_end d) bad_ends
  desk_ends d k Checkpoint argument = nothing_has Ends (bare_checkpoint_step d) (d, argument_refused) argument (checkpoint_ends d) bad_ends
  desk_ends d k Label argument = labelling_ends d (labelling argument)
  desk_ends d k BlockCommand argument =
      number_has EndsALine (λ t. block_text_line t (block_at (state_of d.desk) t)) argument_refused (number_argument argument) (λ t. block_ends t (block_at (state_of d.desk) t)) bad_ends
  desk_ends d k Board argument = nothing_has EndsALine (board_text d.desk) argument_refused argument (board_ends d.desk) bad_ends
