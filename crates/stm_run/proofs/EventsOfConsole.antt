-- Each event of a console's desk is of client 0, each block that was submitted or waits is what its text checks to, and the declared
-- variables can be in lines.
use Rattle.std.proofs.Common.{◌≡◌, ◌≢◌, ℕ, zero, suc, ◌+◌, ◌-◌, Bool, true, false, cond, not, List, [], ◌∷◌, ◌++◌, length, Option, Some, None, IfSome, Result, Ok, Err, refl, ap, sym, ◌∙◌, subst, arith, length-append, append_assoc, append-nil}
use Rattle.std.specs.Prelude.{nat_lt, ◌==◌, IsTrue, MatchBool, map}
use Rattle.stm_store.specs.declared.cell.Cell.{Cell}
use Rattle.stm_terms.specs.Ast.{Act}
use Rattle.stm_terms.specs.ParsedAst as raw
use Rattle.stm_terms.specs.Changes.{cell_value}
use Rattle.stm_terms.specs.Typing.{ActionType, uses_of}
use Rattle.stm_terms.specs.Verdict.{verdict}
use Rattle.stm_terms.specs.declared.verdicts.Verdict.{Verdict}
use Rattle.stm_parse.specs.declared.fault.ParseFault.{ParseFault}
use Rattle.stm_parse.specs.ParseFunction.{parsed_block}
use Rattle.stm_check.specs.CheckFunction.{checked}
use Rattle.stm_check.specs.CheckedBlock.{given_type}
use Rattle.stm_check.specs.TypedBlock.{Block}
use Rattle.stm_check.specs.declared.fault.TypeFault.{TypeFault}
use Rattle.stm_store.specs.Naming.{Named, known_kinds}
use Rattle.stm_store.specs.Tables.{Declared}
use Rattle.stm_queue.specs.Queue.{is_out}
use Rattle.stm_events.specs.declared.errors.CancelError.{CancelError}
use Rattle.stm_events.specs.declared.errors.DeliverError.{DeliverError}
use Rattle.stm_events.specs.declared.errors.FinishError.{FinishError}
use Rattle.stm_events.specs.declared.errors.LateDeclareError.{LateDeclareError}
use Rattle.stm_events.specs.declared.errors.LabelError.{LabelError}
use Rattle.stm_events.specs.declared.errors.SubmitError.{SubmitError}
use Rattle.stm_events.specs.declared.event.Event.{Event}
use Rattle.stm_events.specs.declared.event.What.{What}
use Rattle.stm_events.specs.declared.event.What.TheVariants.{Submitted, Installed, Finished, Cancelled, Declared as DeclaredLate, Labelled}
use Rattle.stm_events.specs.declared.kept_cause.KeptCause.{KeptCause}
use Rattle.stm_events.specs.Labels.{Labels, is_label}
use Rattle.stm_events.specs.SlowDesk.{Waiter, Slow, verdict_on, is_blocks, find_waiter, without_waiter, delivered as delivered_to, after_writes, with_delivery, after, state_from, waking}
use Rattle.std.specs.Prelude.{nat_eq}
use Rattle.stm_events.proofs.Folds.{state-append}
use Rattle.stm_events.specs.SlowSettle.{lowest, is_due, can_end, installing, ending, next_of, Order, next_what, has_cells, settle_on, running}
use Rattle.stm_events.specs.SlowDrain.{is_next, drain_of, next_drain}
use Rattle.stm_machine.specs.Machine.{event}
use Rattle.stm_machine.specs.Checkpoints.{CheckpointView, waiter_of, block_of_waiter, checkpoint_of, labelled_block, caused_block, start_of}
use Rattle.stm_machine.specs.declared.checkpoint.CheckpointBlock.{CheckpointBlock}
use Rattle.stm_machine.specs.JobsHandedOut.{sent}
use Rattle.stm_source.proofs.LaterNames.{checked_blocks_stay}
use Rattle.stm_source.specs.CompiledBlock.{block_if_typed, block_if_parsed, compiled_block}
use Rattle.stm_events.specs.SlowAtomically.{install_at_once}
use Rattle.stm_desk.specs.declared.errors.AtomicError.{AtomicError}
use Rattle.stm_desk.specs.Refusals.{submit_refusal, late_declare_refusal, atomic_refusal, finish_refusal, cancel_refusal, label_refusal}
use Rattle.stm_desk.specs.DeskView.{DeskView, start_state, state_of, labels_of, with_event}
use Rattle.stm_desk.specs.Checkpointed.{causes_of}
use Rattle.stm_desk.specs.Settling.{slow_run, requeued_all, with_whats}
use Rattle.stm_source.specs.declared.refusal.Refusal.{Refusal}
use Rattle.stm_source.specs.DeclaredVariable.{variable_of, late_variable_of}
use Rattle.stm_lines.specs.NumberArgument.{number_argument}
use Rattle.stm_lines.specs.LineClass.{LineClass, TooLong, Silent, NotAscii, Words, line_class}
use Rattle.stm_commands.specs.Arguments.{argument_refused}
use Rattle.stm_commands.specs.Atomically.{atomically_block_step, atomically_text_step, atomically_step}
use Rattle.stm_commands.specs.Blocks.{submit_block_step, submit_text_step, submit_step}
use Rattle.stm_commands.specs.Checkpointing.{are_tickets_full, begun_anew, checkpoint_line, bare_checkpoint_step, checkpoint_step, makes_checkpoint}
use Rattle.stm_commands.specs.Declaring.{declare_variable_step, declare_text_step, declare_step}
use Rattle.stm_commands.specs.Endings.{finish_verdict_step, finish_waiter_step, finish_ticket_step, finish_step, cancel_ticket_step, cancel_step, settled_line, drained_line, run_desk_step, settle_desk_step, settle_step, drain_desk_step, drain_step}
use Rattle.stm_commands.specs.Evaluation.{DeliveredSoFar, delivered_by, delivered_next, delivered_all, all_queued, eval_desk_step, eval_step}
use Rattle.stm_commands.specs.Jobs.{max_jobs, taken, with_jobs, jobs_of, jobs_line, take_jobs_step, take_step, delivery_refusal, installed, delivery_step, job_at, deliver_job_step, deliver_step, queued_line, handed_back, handback_ticket_step, handback_step}
use Rattle.stm_commands.specs.Labelling.{label_ticket_step, labelling, labelling_step, label_step}
use Rattle.stm_commands.specs.OpenDesk.{HandedOut, OpenDesk, known, on_desk}
use Rattle.stm_commands.specs.Refusals.{refused}
use Rattle.stm_run.specs.declared.command.Command.{Command}
use Rattle.stm_run.specs.declared.command.Command.TheVariants.{Tvar, Declare, Submit, Atomically, Take, Deliver, Handback, Eval, Finish, Cancel, Settle, Drain, Checkpoint, Label}
use Rattle.stm_run.specs.declared.console.Console.{Console}
use Rattle.stm_run.specs.declared.console.Console.TheVariants.{Declaring, Open}
use Rattle.stm_run.specs.Console.{command_named, state_after, initial_console, desk_step, on_console, command_step, word_step, class_step, step}
use Rattle.stm_run.specs.ConsoleState.{present_desk, table_of, checkpoint_of_console, events_of, with_checkpoint}
use Rattle.stm_run.specs.Declaring.{tvar_text_step, tvar_step}
use Rattle.stm_run.specs.Fitting.{IsOfText, AreOfTexts, IsOfTexts, EventsAreOfConsole, AreOfTheirTexts, WaitersAreOfText, WaitAsTheirTexts, WaitingStayOfText, VariablesFit, VariablesFitLines, VariablesStayFit}
use Rattle.stm_run.specs.Growing.{Grows, ConsolesGrow}
use Rattle.stm_run.specs.AfterLines.{state_after_lines}
use Rattle.stm_run.specs.LineCheckpoints.{command_checkpoints, word_checkpoints, class_checkpoints, line_checkpoints}
use Rattle.stm_run.proofs.DeclaredVariables.{MayBeNext, may_be_next}
use Rattle.stm_parse.specs.ParseFunction.{DeclarationAnswersAreRight}
use Rattle.stm_history.specs.Judgement.{MayDeclare, AreVariablesFrom}
use Rattle.stm_history_text.specs.Starts.{AreOfText, BlocksAreOfText}
use Rattle.stm_run.proofs.ArgumentCases.{either_has, number_has, nothing_has}
use Rattle.stm_run.proofs.GivenLabels.{GivesLabel, gives_label}
use Rattle.std.specs.Prelude.{codes}

-- ---- the block of a text has that text
typed_text : (known : List Named) (text : List ℕ) (block : Block) (o : Result (Act × ActionType) TypeFault) → block_if_typed known text o ≡ Ok block → block.text ≡ text
typed_text known text block (Err f) e = cc
typed_text known text block (Ok p) e =
    let made : Block = record { tree = p.0; text = text; result_type = given_type p.1; uses = uses_of (known_kinds known) p.0 } in
    let q : made ≡ block = cc in
    ap (λ (b : Block). b.text) (sym q)

parsed_text : (known : List Named) (text : List ℕ) (block : Block) (o : Result raw.RawAct ParseFault) → block_if_parsed known text o ≡ Ok block → block.text ≡ text
parsed_text known text block (Err f) e = cc
parsed_text known text block (Ok tree) e = typed_text known text block (checked known text [] tree) e

checked_text : (known : List Named) (text : List ℕ) (block : Block) → compiled_block known text ≡ Ok block → block.text ≡ text
unfolding compiled_block
checked_text known text block e = parsed_text known text block (parsed_block text) e

of_text : (known : List Named) (text : List ℕ) (block : Block) → compiled_block known text ≡ Ok block → compiled_block known block.text ≡ Ok block
of_text known text block e =
    subst (λ (t : List ℕ). compiled_block known t ≡ Ok block) (sym (checked_text known text block e)) e

-- and stays its block if more names are known
later_text : (few more : List Named) (block : Block) → compiled_block few block.text ≡ Ok block → compiled_block (few ++ more) block.text ≡ Ok block
later_text few more block e = checked_blocks_stay few more block.text block e

-- ---- one event more
event_more : (s : Slow) (es : List Event) (what : What) → AreOfTexts s es → IsOfText (state_from s es).names what → AreOfTexts s (es ++ event 0 what ∷ [])
event_more s [] what h k = (refl, k, tt)
event_more s (e ∷ es) what h k = (h.0, h.1, event_more (after s e.what) es what h.2 k)

-- The table is this one, the history begins from this checkpoint, and the events came after these, each of the console.
pub record Added
    (table : List Declared) (checkpoint : Option CheckpointView) (before : List Event) (same : List Declared) (start : Option CheckpointView) (history : List Event)
    : Type 0 where
  pub same_table : same ≡ table
  pub same_start : start ≡ checkpoint
  pub added : List Event
  pub events : history ≡ before ++ added
  pub of_console : AreOfTexts (state_from (start_of table checkpoint) before) added

-- ---- settling
-- nothing is submitted, declared or labelled
abbrev IsQuiet : What → Type 0
IsQuiet (Submitted ticket block) = ⊥
IsQuiet (Installed ticket v) = Unit {0}
IsQuiet (Finished ticket v first_new stale) = Unit {0}
IsQuiet (Cancelled ticket) = Unit {0}
IsQuiet (DeclaredLate name kind value) = ⊥
IsQuiet (Labelled ticket label) = ⊥

abbrev AreQuiet : List What → Type 0
AreQuiet [] = Unit {0}
AreQuiet (x ∷ xs) = IsQuiet x × AreQuiet xs

quiet_text : (known : List Named) (what : What) → IsQuiet what → IsOfText known what
quiet_text known (Submitted ticket block) q = absurd q
quiet_text known (Installed ticket v) q = tt
quiet_text known (Finished ticket v first_new stale) q = tt
quiet_text known (Cancelled ticket) q = tt
quiet_text known (DeclaredLate name kind value) q = absurd q
quiet_text known (Labelled ticket label) q = absurd q

installing_quiet : (t : ℕ) (o : Option Verdict) → IfSome (installing t o) IsQuiet
installing_quiet t None = tt
installing_quiet t (Some v) = tt

ending_quiet : (s : Slow) (t : ℕ) (o : Option Verdict) → IfSome (ending s t o) IsQuiet
ending_quiet s t None = tt
ending_quiet s t (Some v) = tt

next_quiet : (s : Slow) (o e : Option Waiter) → IfSome (next_of s o e) IsQuiet
next_quiet s (Some w) e = installing_quiet w.ticket (verdict_on s.store w.block)
next_quiet s None (Some w) = ending_quiet s w.ticket (verdict_on s.store w.block)
next_quiet s None None = tt

either_quiet : (s : Slow) (w : Waiter) (b : Bool) → IfSome (cond b (installing w.ticket (verdict_on s.store w.block)) (ending s w.ticket (verdict_on s.store w.block))) IsQuiet
either_quiet s w true = installing_quiet w.ticket (verdict_on s.store w.block)
either_quiet s w false = ending_quiet s w.ticket (verdict_on s.store w.block)

drain_quiet : (s : Slow) (o : Option Waiter) → IfSome (drain_of s o) IsQuiet
drain_quiet s None = tt
drain_quiet s (Some w) = either_quiet s w (is_due w)

abbrev IsQuietOrder : Order → Type 0
IsQuietOrder next = (s : Slow) → IfSome (next s) IsQuiet

settle_is_quiet : IsQuietOrder next_what
settle_is_quiet s = next_quiet s (lowest is_due s.waiters) (lowest (can_end s.store) s.waiters)

drain_is_quiet : IsQuietOrder next_drain
drain_is_quiet s = drain_quiet s (lowest (is_next s.store) s.waiters)

runs_quiet : (next : Order) (room : ℕ) (s : Slow) (o : Option What) → ((x : Slow) → AreQuiet (running next room x)) → IfSome o IsQuiet → AreQuiet (settle_on (running next room) s o)
runs_quiet next room s None more q = tt
runs_quiet next room s (Some what) more q = either_has AreQuiet (has_cells s what) (what ∷ running next room (after s what)) [] (q, more (after s what)) tt

running_quiet : (next : Order) → IsQuietOrder next → (room : ℕ) (s : Slow) → AreQuiet (running next room s)
running_quiet next quiet zero s = tt
running_quiet next quiet (suc room) s = runs_quiet next room s (next s) (running_quiet next quiet room) (quiet s)

-- ---- running a block at once: it is submitted, and nothing else is
finish_quiet : (b : Bool) (t n : ℕ) (v : Verdict) (stale : List ℕ) → AreQuiet (cond b [] (Finished t v n stale ∷ []))
finish_quiet true t n v stale = tt
finish_quiet false t n v stale = (tt, tt)

install_quiet : (s : Slow) (t : ℕ) (o : Option Verdict) → AreQuiet (install_at_once s t o)
install_quiet s t None = tt
install_quiet s t (Some v) = (tt, finish_quiet (is_blocks v) t _ v _)

module _ (table : List Declared) (checkpoint : Option CheckpointView) (before : List Event) where
  abbrev Holds : DeskView → Type 0
  Holds d = Added table checkpoint before d.table d.checkpoint d.history

  -- the state after the events before
  abbrev first : Slow
  first = state_from (start_of table checkpoint) before

  here : (d : DeskView) (k : Holds d) → state_of d ≡ state_from first k.added
  here d k =
      ap (λ (t : List Declared). state_from (start_of t d.checkpoint) d.history) k.same_table
      ∙ ap (λ (o : Option CheckpointView). state_from (start_of table o) d.history) k.same_start
      ∙ ap (state_from (start_of table checkpoint)) k.events
      ∙ state-append (start_of table checkpoint) before k.added

  more : (d : DeskView) (what : What) → Holds d → IsOfText (state_of d).names what → Holds (with_event d 0 what)
  more d what k f = record {
    same_table = k.same_table;
    same_start = k.same_start;
    added = k.added ++ event 0 what ∷ [];
    events = ap (λ (es : List Event). es ++ event 0 what ∷ []) k.events ∙ append_assoc before k.added (event 0 what ∷ []);
    of_console = event_more first k.added what k.of_console (subst (λ (s : Slow). IsOfText s.names what) (here d k) f);
  }

  declared : (d : DeskView) (v : Declared) (o : Option LateDeclareError) → IsOfText (state_of d).names (DeclaredLate v.name v.kind v.value) → Holds d → Holds (declare_variable_step d v o).0
  declared d v None f k = more d (DeclaredLate v.name v.kind v.value) k f
  declared d v (Some e) f k = k

  declares : (d : DeskView) (text : List ℕ) (r : Result Declared Refusal) → late_variable_of (state_of d).names text ≡ r → Holds d → Holds (declare_text_step d r).0
  declares d text (Ok v) e k = declared d v (late_declare_refusal d v.name v.kind v.value) (text, e) k
  declares d text (Err x) e k = k

  submitted : (d : DeskView) (block : Block) (o : Option SubmitError) → compiled_block (state_of d).names block.text ≡ Ok block → Holds d → Holds (submit_block_step d block o).0
  submitted d block None f k = more d (Submitted (state_of d).next block) k f
  submitted d block (Some e) f k = k

  submits : (d : DeskView) (r : Result Block Refusal) → ((b : Block) → r ≡ Ok b → compiled_block (state_of d).names b.text ≡ Ok b) → Holds d → Holds (submit_text_step d r).0
  submits d (Ok b) h k = submitted d b (submit_refusal d b) (h b refl) k
  submits d (Err e) h k = k

  installs : (d : DeskView) (t : ℕ) (o : Option Verdict) → Holds d → Holds (installed d t o)
  installs d t None k = k
  installs d t (Some v) k = more d (Installed t v) k tt

  delivered : (d : DeskView) (j : HandedOut) (o : Option DeliverError) → Holds d → Holds (delivery_step d j o).0
  delivered d j None k = installs d j.ticket (verdict (cell_value j.store) j.block.tree) k
  delivered d j (Some e) k = k

  delivers : (d : DeskView) (o : Option HandedOut) → Holds d → Holds (deliver_job_step d o).0
  delivers d None k = k
  delivers d (Some j) k = delivered d j (delivery_refusal d j) k

  hands_back : (d : DeskView) (t : ℕ) → Holds d → Holds (handback_ticket_step d t).0
  hands_back d t k =
      either_has (λ (p : DeskView × List ℕ). Holds p.0) (is_out t d.pending) (handed_back d t, queued_line t) (d, refused (codes "NotOut")) k k

  takes : (d : OpenDesk) (n : ℕ) → Holds d.desk → Holds (take_jobs_step d n).0.desk
  takes d n k =
      either_has (λ (p : OpenDesk × List ℕ). Holds p.0.desk) (nat_lt max_jobs (n + length d.jobs)) (d, refused (codes "JobsFull"))
      (with_jobs d (taken d.desk n), jobs_line (length d.jobs + 1) (taken d.desk n)) k k

  evaluates_one : (d : DeliveredSoFar) (j : HandedOut) (o : Option DeliverError) → Holds d.desk → Holds (delivered_by d j o).desk
  evaluates_one d j None k = installs d.desk j.ticket (verdict (cell_value j.store) j.block.tree) k
  evaluates_one d j (Some e) k = k

  evaluates_next : (d : DeliveredSoFar) (j : HandedOut) (o : Option DeliverError) → Holds d.desk → Holds (delivered_next d j o).desk
  evaluates_next d j None k = evaluates_one d j (delivery_refusal d.desk j) k
  evaluates_next d j (Some e) k = k

  evaluates_all : (d : DeliveredSoFar) (js : List HandedOut) → Holds d.desk → Holds (delivered_all d js).desk
  evaluates_all d [] k = k
  evaluates_all d (j ∷ js) k = evaluates_all (delivered_next d j d.stop) js (evaluates_next d j d.stop k)

  evaluates : (d : DeskView) → Holds d → Holds (eval_desk_step d).0
  evaluates d k =
      evaluates_all (record { desk = record d { pending = sent (length (all_queued d)) d.pending }; count = 0; stop = None }) (jobs_of (state_of d) (all_queued d)) k

  finished_by : (d : DeskView) (t : ℕ) (o : Option Verdict) → Holds d → Holds (finish_verdict_step d t o).0
  finished_by d t None k = k
  finished_by d t (Some v) k = more d _ k tt

  finished_of : (d : DeskView) (t : ℕ) (o : Option Waiter) → Holds d → Holds (finish_waiter_step d t o).0
  finished_of d t None k = k
  finished_of d t (Some w) k = finished_by d t (verdict_on (state_of d).store w.block) k

  finishes : (d : DeskView) (t : ℕ) (o : Option FinishError) → Holds d → Holds (finish_ticket_step d t o).0
  finishes d t None k = finished_of d t (find_waiter t (state_of d).waiters) k
  finishes d t (Some e) k = k

  cancels : (d : DeskView) (t : ℕ) (o : Option CancelError) → Holds d → Holds (cancel_ticket_step d t o).0
  cancels d t None k = more d (Cancelled t) k tt
  cancels d t (Some e) k = k

  labels : (d : DeskView) (t : ℕ) (text : List ℕ) → IsTrue (is_label text) → (o : Option LabelError) → Holds d → Holds (label_ticket_step d t text o).0
  labels d t text h None k = more d (Labelled t text) k h
  labels d t text h (Some e) k = k

  whats_more : (d : DeskView) (xs : List What) → AreQuiet xs → Holds d → Holds (with_whats d 0 xs)
  whats_more d [] q k = k
  whats_more d (x ∷ xs) q k = whats_more (with_event d 0 x) xs q.1 (more d x k (quiet_text (state_of d).names x q.0))

  ran : (d : DeskView) (block : Block) (o : Option AtomicError) → compiled_block (state_of d).names block.text ≡ Ok block → Holds d → Holds (atomically_block_step d block o).0
  ran d block None f k =
      let s = state_of d in
      let what = Submitted s.next block in
      whats_more (with_event d 0 what) (install_at_once (after s what) s.next (verdict_on s.store block)) (install_quiet (after s what) s.next (verdict_on s.store block)) (more d what k f)
  ran d block (Some e) f k = k

  atomically_runs : (d : DeskView) (r : Result Block Refusal) → ((b : Block) → r ≡ Ok b → compiled_block (state_of d).names b.text ≡ Ok b) → Holds d → Holds (atomically_text_step d r).0
  atomically_runs d (Ok b) h k = ran d b (atomic_refusal d b) (h b refl) k
  atomically_runs d (Err e) h k = k

  runs : (next : Order) → IsQuietOrder next → (line : ℕ → ℕ → List ℕ) (d : DeskView) → Holds d → Holds (run_desk_step next line d).0
  runs next quiet line d k = whats_more d (slow_run next d) (running_quiet next quiet (d.limit - length d.history) (state_of d)) k

  -- ---- commands and lines
  abbrev After : OpenDesk × List ℕ → Type 0
  After p = Holds p.0.desk

  labelling_after : (d : OpenDesk) (o : Option (ℕ × List ℕ)) → GivesLabel o → Holds d.desk → After (labelling_step d o)
  labelling_after d (Some l) h k = labels d.desk l.0 l.1 h (label_refusal d.desk l.0) k
  labelling_after d None h k = k

  desk_after : (d : OpenDesk) → Holds d.desk → (c : Command) → c ≢ Checkpoint → (argument : List ℕ) → After (desk_step d c argument)
  unfolding submit_step declare_step atomically_step take_step deliver_step handback_step eval_step finish_step cancel_step settle_step drain_step label_step
  desk_after d k Submit n argument = submits d.desk (compiled_block (known d) argument) (λ b e. of_text (known d) argument b e) k
  desk_after d k Declare n argument = declares d.desk argument (late_variable_of (known d) argument) refl k
  desk_after d k Atomically n argument = atomically_runs d.desk (compiled_block (known d) argument) (λ b e. of_text (known d) argument b e) k
  desk_after d k Take n argument = number_has After (take_jobs_step d) (d, argument_refused) (number_argument argument) (λ n. takes d n k) k
  desk_after d k Deliver n argument =
      number_has After (λ n. on_desk d (deliver_job_step d.desk (job_at n d.jobs))) (d, argument_refused) (number_argument argument) (λ n. delivers d.desk (job_at n d.jobs) k) k
  desk_after d k Handback n argument =
      number_has After (λ t. on_desk d (handback_ticket_step d.desk t)) (d, argument_refused) (number_argument argument) (λ t. hands_back d.desk t k) k
  desk_after d k Eval n argument = nothing_has After (on_desk d (eval_desk_step d.desk)) (d, argument_refused) argument (evaluates d.desk k) k
  desk_after d k Finish n argument =
      number_has After (λ t. on_desk d (finish_ticket_step d.desk t (finish_refusal d.desk t))) (d, argument_refused) (number_argument argument) (λ t. finishes d.desk t (finish_refusal d.desk t) k) k
  desk_after d k Cancel n argument =
      number_has After (λ t. on_desk d (cancel_ticket_step d.desk t (cancel_refusal d.desk t))) (d, argument_refused) (number_argument argument) (λ t. cancels d.desk t (cancel_refusal d.desk t) k) k
  desk_after d k Settle n argument =
      nothing_has After (on_desk d (settle_desk_step (requeued_all d.desk))) (d, argument_refused) argument (runs next_what settle_is_quiet settled_line (requeued_all d.desk) k) k
  desk_after d k Drain n argument =
      nothing_has After (on_desk d (drain_desk_step (requeued_all d.desk))) (d, argument_refused) argument (runs next_drain drain_is_quiet drained_line (requeued_all d.desk) k) k
  desk_after d k Checkpoint n argument = absurd (n refl)
  desk_after d k Label n argument = labelling_after d (labelling argument) (gives_label argument) k
  desk_after d k c n argument = k

-- ---- a console only adds events
kept_here : (d : DeskView) → Added d.table d.checkpoint d.history d.table d.checkpoint d.history
kept_here d = record { same_table = refl; same_start = refl; added = []; events = sym (append-nil d.history); of_console = tt }

pub grows_not : (s : Console) → Grows s s
grows_not s = record { added = []; events = sym (append-nil (events_of s)); of_console = tt; same_start = refl; opened = λ e. (e, refl) }

opens : (s : Console) (d : OpenDesk) → Added (table_of s) (checkpoint_of_console s) (events_of s) d.desk.table d.desk.checkpoint d.desk.history → Grows s (Open d)
opens s d a = record {
  added = a.added;
  events = a.events;
  of_console =
      subst (λ (o : Option CheckpointView). AreOfTexts (state_from (start_of d.desk.table o) (events_of s)) a.added) (sym a.same_start)
      (subst (λ (t : List Declared). AreOfTexts (state_from (start_of t (checkpoint_of_console s)) (events_of s)) a.added) (sym a.same_table) a.of_console);
  same_start = a.same_start;
  opened = λ e. (refl, a.same_table);
}

of_append : (s : Slow) (xs ys : List Event) → AreOfTexts s xs → AreOfTexts (state_from s xs) ys → AreOfTexts s (xs ++ ys)
of_append s [] ys h k = k
of_append s (x ∷ xs) ys h k = (h.0, h.1, of_append (after s x.what) xs ys h.2 k)

of_none : (s : Slow) (xs ys : List Event) → [] ≡ xs ++ ys → AreOfTexts s ys
of_none s [] [] e = tt
of_none s [] (y ∷ ys) e = absurd (cc e)
of_none s (x ∷ xs) ys e = absurd (cc e)

-- the state that a console's history begins from
abbrev first_of : Console → Slow
first_of s = start_state (present_desk s).desk

-- it stays once the desk is open
same_first : (d : OpenDesk) (t : Console) → Grows (Open d) t → first_of t ≡ start_state d.desk
same_first d t g =
    ap (λ (x : List Declared). start_of x (checkpoint_of_console t)) (g.opened refl).1 ∙ ap (start_of d.desk.table) g.same_start

-- what was added first is of the console over the last table, too: before the desk is open there is no event
added_first : (s t u : Console) (g : Grows s t) → Grows t u → AreOfTexts (state_from (first_of u) (events_of s)) g.added
added_first s (Open d) u g h = subst (λ (x : Slow). AreOfTexts (state_from x (events_of s)) g.added) (sym (same_first d u h)) g.of_console
added_first s (Declaring table limit) u g h = of_none (state_from (first_of u) (events_of s)) (events_of s) g.added g.events

-- and what came after it goes on from there
added_then : (s t u : Console) (g : Grows s t) (h : Grows t u) → AreOfTexts (state_from (state_from (first_of u) (events_of s)) g.added) h.added
added_then s t u g h =
    subst (λ (x : Slow). AreOfTexts x h.added) (ap (state_from (first_of u)) g.events ∙ state-append (first_of u) (events_of s) g.added) h.of_console

pub grows_trans : (s t u : Console) → Grows s t → Grows t u → Grows s u
grows_trans s t u g h = record {
  added = g.added ++ h.added;
  events = h.events ∙ ap (λ (es : List Event). es ++ h.added) g.events ∙ append_assoc (events_of s) g.added h.added;
  of_console = of_append (state_from (first_of u) (events_of s)) g.added h.added (added_first s t u g h) (added_then s t u g h);
  same_start = h.same_start ∙ g.same_start;
  opened = λ e. let a = g.opened e in let b = h.opened a.0 in (b.0, b.1 ∙ a.1);
}

tvar_text_grows : (table : List Declared) (limit : ℕ) (r : Result Declared Refusal) → Grows (Declaring table limit) (tvar_text_step table limit r).0
tvar_text_grows table limit (Ok d) = record { added = []; events = refl; of_console = tt; same_start = refl; opened = λ e. absurd (cc e) }
tvar_text_grows table limit (Err e) = grows_not (Declaring table limit)

tvar_grows : (s : Console) (argument : List ℕ) → Grows s (tvar_step s argument).0
tvar_grows (Declaring table limit) argument = tvar_text_grows table limit (variable_of table argument)
tvar_grows (Open d) argument = grows_not (Open d)

-- ---- or makes a checkpoint
-- each line makes one, or lets the console grow
abbrev MovesTo : Bool → Console → Console → Type 0
MovesTo b s t = MatchBool b (t ≡ with_checkpoint s) (Grows s t)

opens_not : (s : Console) → Grows s (Open (present_desk s))
opens_not s = opens s (present_desk s) (kept_here (present_desk s).desk)

step_by : Console → Bool → Bool → OpenDesk × List ℕ
step_by s full empty =
    cond {A = OpenDesk × List ℕ} empty
    (cond {A = OpenDesk × List ℕ} full (present_desk s, refused (codes "TicketsFull")) (begun_anew (present_desk s), checkpoint_line (length (present_desk s).desk.history)))
    (present_desk s, argument_refused)

checkpoint_by : (s : Console) (full empty : Bool) → MovesTo (cond empty (not full) false) s (Open (step_by s full empty).0)
unfolding step_by
checkpoint_by s true true = opens_not s
checkpoint_by s false true = refl
checkpoint_by s true false = opens_not s
checkpoint_by s false false = opens_not s

checkpoint_moves : (s : Console) (argument : List ℕ) → MovesTo (makes_checkpoint (present_desk s) argument) s (command_step s Checkpoint argument).0
unfolding checkpoint_step step_by
checkpoint_moves s argument = checkpoint_by s (are_tickets_full (present_desk s)) (length argument == 0)

desk_added : (s : Console) (c : Command) → c ≢ Checkpoint → (argument : List ℕ)
    → Added (table_of s) (checkpoint_of_console s) (events_of s) (desk_step (present_desk s) c argument).0.desk.table (desk_step (present_desk s) c argument).0.desk.checkpoint
    (desk_step (present_desk s) c argument).0.desk.history
desk_added s c n argument = desk_after (table_of s) (checkpoint_of_console s) (events_of s) (present_desk s) (kept_here (present_desk s).desk) c n argument

command_grows : (s : Console) (c : Command) → c ≢ Checkpoint → (argument : List ℕ) → Grows s (on_console (desk_step (present_desk s) c argument)).0
command_grows s c n argument = opens s (desk_step (present_desk s) c argument).0 (desk_added s c n argument)

command_moves : (s : Console) (c : Command) (argument : List ℕ) → MovesTo (command_checkpoints s c argument) s (command_step s c argument).0
command_moves s Tvar argument = tvar_grows s argument
command_moves s Checkpoint argument = checkpoint_moves s argument
command_moves s c argument = command_grows s c (λ e. cc e) argument

word_moves : (s : Console) (o : Option Command) (argument : List ℕ) → MovesTo (word_checkpoints s o argument) s (word_step s o argument).0
word_moves s (Some c) argument = command_moves s c argument
word_moves s None argument = grows_not s

class_moves : (s : Console) (j : LineClass) → MovesTo (class_checkpoints s j) s (class_step s j).0
class_moves s TooLong = grows_not s
class_moves s Silent = grows_not s
class_moves s NotAscii = grows_not s
class_moves s (Words word argument) = word_moves s (command_named word) argument

pub consoles_grow : ConsolesGrow
unfolding step line_checkpoints
consoles_grow s line = class_moves s (line_class line)

-- ---- what waits is of its text
texts_push : (known : List Named) (ws : List Waiter) (w : Waiter) → AreOfTheirTexts known ws → compiled_block known w.block.text ≡ Ok w.block → AreOfTheirTexts known (ws ++ w ∷ [])
texts_push known [] w h e = (e, tt)
texts_push known (x ∷ ws) w h e = (h.0, texts_push known ws w h.1 e)

texts_delivered : (known : List Named) (t : ℕ) (store : List Cell) (ws : List Waiter) → AreOfTheirTexts known ws → AreOfTheirTexts known (delivered_to t store ws)
texts_delivered known t store [] h = tt
texts_delivered known t store (w ∷ ws) h =
    either_has (AreOfTheirTexts known) (nat_eq t w.ticket) (with_delivery store w ∷ ws) (w ∷ delivered_to t store ws) h (h.0, texts_delivered known t store ws h.1)

texts_without : (known : List Named) (t : ℕ) (ws : List Waiter) → AreOfTheirTexts known ws → AreOfTheirTexts known (without_waiter t ws)
texts_without known t [] h = tt
texts_without known t (w ∷ ws) h = either_has (AreOfTheirTexts known) (nat_eq t w.ticket) ws (w ∷ without_waiter t ws) h.1 (h.0, texts_without known t ws h.1)

texts_marked : (known : List Named) (woken : List ℕ) (ws : List Waiter) → AreOfTheirTexts known ws → AreOfTheirTexts known (map (after_writes woken) ws)
texts_marked known woken [] h = tt
texts_marked known woken (w ∷ ws) h = (h.0, texts_marked known woken ws h.1)

texts_later : (few more : List Named) (ws : List Waiter) → AreOfTheirTexts few ws → AreOfTheirTexts (few ++ more) ws
texts_later few more [] h = tt
texts_later few more (w ∷ ws) h = (later_text few more w.block h.0, texts_later few more ws h.1)

pub texts_after : (s : Slow) (what : What) → IsOfText s.names what → WaitersAreOfText s → WaitersAreOfText (after s what)
texts_after s (Submitted t b) o h = texts_push s.names s.waiters (record { ticket = t; block = b; since = None }) h o
texts_after s (Installed t v) o h = texts_delivered s.names t s.store s.waiters h
texts_after s (Finished t v n stale) o h = texts_marked s.names (waking s.rule s.store v) (without_waiter t s.waiters) (texts_without s.names t s.waiters h)
texts_after s (Cancelled t) o h = texts_without s.names t s.waiters h
texts_after s (DeclaredLate name kind value) o h = texts_later s.names _ s.waiters h
texts_after s (Labelled t label) o h = h

pub texts_from : (s : Slow) (es : List Event) → AreOfTexts s es → WaitersAreOfText s → WaitersAreOfText (state_from s es)
texts_from s [] o h = h
texts_from s (e ∷ es) o h = texts_from (after s e.what) es o.2 (texts_after s e.what o.1 h)

blocks_of_text : (ls : Labels) (causes : ℕ → Option KeptCause) (known : List Named) (ws : List Waiter) → AreOfTheirTexts known ws → AreOfText known (map (caused_block causes) (map (labelled_block ls) (map block_of_waiter ws)))
blocks_of_text ls causes known [] h = tt
blocks_of_text ls causes known (w ∷ ws) h = (h.0, blocks_of_text ls causes known ws h.1)

waiters_of_text : (known : List Named) (store : List Cell) (bs : List CheckpointBlock) → AreOfText known bs → AreOfTheirTexts known (map (waiter_of store) bs)
waiters_of_text known store [] h = tt
waiters_of_text known store (b ∷ bs) h = (h.0, waiters_of_text known store bs h.1)

-- a checkpoint has the blocks that wait
pub checkpoint_texts : (s : Console) → WaitAsTheirTexts s → IfSome (checkpoint_of_console (with_checkpoint s)) BlocksAreOfText
unfolding checkpoint_of
checkpoint_texts s h = let d = (present_desk s).desk in let x = state_of d in blocks_of_text (labels_of d) (causes_of d) x.names x.waiters h

pub start_texts : (table : List Declared) (o : Option CheckpointView) → IfSome o BlocksAreOfText → WaitersAreOfText (start_of table o)
start_texts table None h = tt
start_texts table (Some c) h = waiters_of_text c.names c.store c.blocks h

pub with_checkpoint_texts : (s : Console) → WaitAsTheirTexts s → WaitAsTheirTexts (with_checkpoint s)
with_checkpoint_texts s h = start_texts (table_of s) (checkpoint_of_console (with_checkpoint s)) (checkpoint_texts s h)

-- ---- so it is after every line
-- what a console's desk has is of its names; while variables are declared it has nothing
grown_texts : (s t : Console) → Grows s t → WaitAsTheirTexts s → WaitAsTheirTexts t
grown_texts s t g h =
    subst (λ (es : List Event). WaitersAreOfText (state_from (first_of t) es)) (sym g.events)
    (subst WaitersAreOfText (sym (state-append (first_of t) (events_of s) g.added))
    (texts_from (state_from (first_of t) (events_of s)) g.added g.of_console (before s g h)))
  where
    before : (s : Console) (g : Grows s t) → WaitAsTheirTexts s → WaitersAreOfText (state_from (first_of t) (events_of s))
    before (Declaring table limit) g h = subst (λ (o : Option CheckpointView). WaitersAreOfText (start_of (table_of t) o)) (sym g.same_start) tt
    before (Open d) g h = subst (λ (x : Slow). WaitersAreOfText (state_from x d.desk.history)) (sym (same_first d t g)) h

pub moved_texts : (b : Bool) (s t : Console) → MovesTo b s t → WaitAsTheirTexts s → WaitAsTheirTexts t
moved_texts true s t m h = subst WaitAsTheirTexts (sym m) (with_checkpoint_texts s h)
moved_texts false s t m h = grown_texts s t m h

pub waiting_stay_of_text : WaitingStayOfText
waiting_stay_of_text = record {
  line = λ s line. moved_texts (line_checkpoints s line) s (state_after s line) (consoles_grow s line);
  checkpoint = checkpoint_texts;
}

-- the events and the checkpoint of a console are its own
abbrev pub IsOwn : Console → Type 0
IsOwn s = IsOfTexts (present_desk s).desk

own_waits : (s : Console) → IsOwn s → WaitAsTheirTexts s
own_waits s h = texts_from (first_of s) (events_of s) h.events (start_texts (table_of s) (checkpoint_of_console s) h.blocks)

grown_own : (s t : Console) → Grows s t → IsOwn s → IsOwn t
grown_own s t g h = record {
  events = subst (AreOfTexts (first_of t)) (sym g.events) (of_append (first_of t) (events_of s) g.added (earlier s g h) g.of_console);
  blocks = subst (λ (o : Option CheckpointView). IfSome o BlocksAreOfText) (sym g.same_start) h.blocks;
}
  where
    earlier : (s : Console) → Grows s t → IsOwn s → AreOfTexts (first_of t) (events_of s)
    earlier (Declaring table limit) g h = tt
    earlier (Open d) g h = subst (λ (x : Slow). AreOfTexts x d.desk.history) (sym (same_first d t g)) h.events

moved_own : (b : Bool) (s t : Console) → MovesTo b s t → IsOwn s → IsOwn t
moved_own true s t m h =
    let begun : IsOwn (with_checkpoint s) = record { events = tt; blocks = checkpoint_texts s (own_waits s h) } in
    subst IsOwn (sym m) begun
moved_own false s t m h = grown_own s t m h

pub line_own : (s : Console) (line : List ℕ) → IsOwn s → IsOwn (state_after s line)
line_own s line h = moved_own (line_checkpoints s line) s (state_after s line) (consoles_grow s line) h

lines_own : (s : Console) (lines : List (List ℕ)) → IsOwn s → IsOwn (state_after_lines s lines)
lines_own s [] h = h
lines_own s (line ∷ rest) h = lines_own (state_after s line) rest (line_own s line h)

pub events_are_of_console : EventsAreOfConsole
unfolding initial_console
events_are_of_console max_events before = lines_own (initial_console max_events) before (record { events = tt; blocks = tt })

-- ---- the declared variables
variables_push : (prior ds : List Declared) (d : Declared) → AreVariablesFrom prior ds → MayDeclare (prior ++ ds) d → AreVariablesFrom prior (ds ++ d ∷ [])
variables_push prior [] d a m = (subst (λ (x : List Declared). MayDeclare x d) (append-nil prior) m, tt)
variables_push prior (c ∷ ds) d a m =
    (a.0, variables_push (prior ++ c ∷ []) ds d a.1 (subst (λ (x : List Declared). MayDeclare x d) (sym (append_assoc prior (c ∷ []) ds)) m))

pub fits_more : (table : List Declared) (d : Declared) → VariablesFit table → MayBeNext table d → VariablesFit (table ++ d ∷ [])
fits_more table d v n = let low = n.room in (omega (arith, low, length-append table (d ∷ [])), variables_push [] table d v.1 n.may)

-- a checkpoint keeps the table
checkpoint_fits : (d : OpenDesk) (argument : List ℕ) → VariablesFit d.desk.table → VariablesFit (checkpoint_step d argument).0.desk.table
unfolding checkpoint_step
checkpoint_fits d argument h =
    nothing_has (λ (p : OpenDesk × List ℕ). VariablesFit p.0.desk.table) (bare_checkpoint_step d) (d, argument_refused) argument
    (either_has (λ (p : OpenDesk × List ℕ). VariablesFit p.0.desk.table) (are_tickets_full d) (d, refused (codes "TicketsFull")) (begun_anew d, checkpoint_line (length d.desk.history)) h h) h

module _ (declarations : DeclarationAnswersAreRight) where
  tvar_text_fits : (table : List Declared) (limit : ℕ) (r : Result Declared Refusal) → VariablesFit table → ((d : Declared) → r ≡ Ok d → MayBeNext table d)
      → VariablesFit (table_of (tvar_text_step table limit r).0)
  tvar_text_fits table limit (Ok d) v next = fits_more table d v (next d refl)
  tvar_text_fits table limit (Err e) v next = v

  tvar_fits : (s : Console) (argument : List ℕ) → VariablesFit (table_of s) → VariablesFit (table_of (tvar_step s argument).0)
  tvar_fits (Declaring table limit) argument h = tvar_text_fits table limit (variable_of table argument) h (λ d e. may_be_next declarations table argument d h.0 e)
  tvar_fits (Open d) argument h = h

  command_fits : (s : Console) (c : Command) (argument : List ℕ) → VariablesFit (table_of s) → VariablesFit (table_of (command_step s c argument).0)
  command_fits s Tvar argument h = tvar_fits s argument h
  command_fits s Checkpoint argument h = checkpoint_fits (present_desk s) argument h
  command_fits s c argument h = subst VariablesFit (sym (desk_added s c (λ e. cc e) argument).same_table) h

  word_fits : (s : Console) (o : Option Command) (argument : List ℕ) → VariablesFit (table_of s) → VariablesFit (table_of (word_step s o argument).0)
  word_fits s (Some c) argument h = command_fits s c argument h
  word_fits s None argument h = h

  class_fits : (s : Console) (j : LineClass) → VariablesFit (table_of s) → VariablesFit (table_of (class_step s j).0)
  class_fits s TooLong h = h
  class_fits s Silent h = h
  class_fits s NotAscii h = h
  class_fits s (Words word argument) h = word_fits s (command_named word) argument h

  line_fits : (s : Console) (line : List ℕ) → VariablesFit (table_of s) → VariablesFit (table_of (state_after s line))
  unfolding step
  line_fits s line h = class_fits s (line_class line) h

  pub variables_stay_fit : VariablesStayFit
  variables_stay_fit s [] h = h
  variables_stay_fit s (line ∷ rest) h = variables_stay_fit (state_after s line) rest (line_fits s line h)

  pub variables_fit : VariablesFitLines
  unfolding initial_console
  variables_fit max_events before = variables_stay_fit (initial_console max_events) before (omega arith, tt)
