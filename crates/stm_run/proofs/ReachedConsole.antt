-- What a console that has taken some lines stands on: declared variables that can be in lines, and a desk that stands once it is open.
use Rattle.std.proofs.Common.{◌≡◌, ℕ, ◌≤◌, Bool, true, false, cond, List, [], ◌∷◌, length, Option, Some, None, Result, Ok, Err, refl, arith}
use Rattle.std.specs.Prelude.{◌-◌, ◌&&◌, nat_lt, nat_le, codes}
use Rattle.std.proofs.lemmas.Bool.Decides.{nat_tests}
use Rattle.stm_check.specs.Laws.{CheckNeverSaysNoMemory}
use Rattle.stm_check.specs.TypedBlock.{Block}
use Rattle.stm_eval.specs.Laws.{VerdictIsStable}
use Rattle.stm_parse.specs.ParseFunction.{BlockAnswersAreRight, DeclarationAnswersAreRight}
use Rattle.stm_queue.specs.Queue.{is_out, marked, recalled}
use Rattle.stm_store.specs.Naming.{Named}
use Rattle.stm_store.specs.Tables.{Declared}
use Rattle.stm_event_lines.specs.CheckedBlocks.{CheckedAreWellTyped}
use Rattle.stm_terms.specs.Limits as limits
use Rattle.stm_desk.specs.Refusals.{submit_refusal, late_declare_refusal, atomic_refusal, finish_refusal, cancel_refusal, label_refusal}
use Rattle.stm_machine.specs.Checkpoints.{max_next}
use Rattle.stm_desk.specs.DeskView.{DeskView, state_of}
use Rattle.stm_desk.specs.Settling.{requeued_all}
use Rattle.stm_run.specs.declared.command.Command.{Command}
use Rattle.stm_run.specs.declared.command.Command.TheVariants.{Tvar, Declare, Submit, Atomically, Take, Deliver, Handback, Eval, Finish, Cancel, Settle, Drain, Checkpoint, Label}
use Rattle.stm_run.specs.declared.console.Console.{Console}
use Rattle.stm_run.specs.declared.console.Console.TheVariants.{Declaring, Open}
use Rattle.stm_source.specs.declared.refusal.Refusal.{Refusal}
use Rattle.stm_lines.specs.NumberArgument.{number_argument}
use Rattle.stm_source.specs.CompiledBlock.{compiled_block}
use Rattle.stm_source.specs.DeclaredVariable.{variable_of, late_variable_of}
use Rattle.stm_lines.specs.LineClass.{LineClass, TooLong, Silent, NotAscii, Words, line_class}
use Rattle.stm_commands.specs.Arguments.{argument_refused}
use Rattle.stm_commands.specs.Atomically.{atomically_text_step, atomically_step}
use Rattle.stm_commands.specs.Blocks.{submit_text_step, submit_step}
use Rattle.stm_commands.specs.Declaring.{declare_text_step, declare_step}
use Rattle.stm_commands.specs.Checkpointing.{begun_anew, checkpoint_line, bare_checkpoint_step, checkpoint_step}
use Rattle.stm_events.specs.SlowSettle.{next_what}
use Rattle.stm_events.specs.SlowDrain.{next_drain}
use Rattle.stm_commands.specs.Endings.{finish_ticket_step, finish_step, cancel_ticket_step, cancel_step, settle_desk_step, settle_step, drain_desk_step, drain_step}
use Rattle.stm_commands.specs.Evaluation.{eval_step, eval_desk_step}
use Rattle.stm_commands.specs.Jobs.{take_jobs_step, take_step, job_at, deliver_job_step, deliver_step, queued_line, handed_back, handback_ticket_step, handback_step}
use Rattle.stm_commands.specs.Labelling.{labelling, labelling_step, label_step}
use Rattle.stm_commands.specs.OpenDesk.{HandedOut, OpenDesk, known, on_desk}
use Rattle.stm_commands.specs.Refusals.{refused}
use Rattle.stm_run.specs.Console.{command_named, state_after, initial_console, desk_step, command_step, word_step, class_step, step}
use Rattle.stm_run.specs.ConsoleState.{present_desk}
use Rattle.stm_run.specs.Declaring.{tvar_text_step, tvar_step}
use Rattle.stm_run.specs.Fitting.{VariablesFit}
use Rattle.stm_run.specs.AfterLines.{state_after_lines}
use Rattle.stm_run.specs.LineCheckpoints.{auto_checkpoint}
use Rattle.stm_run.proofs.ArgumentCases.{either_has, number_has, nothing_has}
use Rattle.stm_run.proofs.DeliveredJobs.{take_stands, delivered_stands, evaluated_stands}
use Rattle.stm_run.proofs.DeskMoves.{submitted_stands, declared_stands, finished_stands, cancelled_stands, labelled_stands}
use Rattle.stm_run.proofs.DeclaredVariables.{MayBeNext, may_be_next, LateOrTold, late_judged}
use Rattle.stm_run.proofs.EventsOfConsole.{fits_more}
use Rattle.stm_run.proofs.FitTables.{table_sound}
use Rattle.stm_run.proofs.GivenLabels.{GivesLabel, gives_label}
use Rattle.stm_run.proofs.RunAtOnce.{ran_stands}
use Rattle.stm_run.proofs.LegalSettling.{next_allowed, drain_allowed, run_stands}
use Rattle.stm_commands.proofs.KeptQueue.{tickets_marked, tickets_recalled}
use Rattle.stm_run.proofs.StandingDesk.{Stands, stands_marked, stands_checkpointed}
use Rattle.stm_run.proofs.TextsJudged.{BlockOrTold, compiled}

-- what holds of a console that has taken some lines
abbrev pub IsReached : Console → Type 0
IsReached (Declaring table limit) = VariablesFit table × (limit ≤ limits.max_events)
IsReached (Open d) = Stands d.desk d.jobs

pub present_stands : (s : Console) → IsReached s → Stands (present_desk s).desk (present_desk s).jobs
present_stands (Declaring table limit) h = record {
  start = table_sound table h.0;
  begins = tt;
  legal = record { each = tt; few = omega arith };
  typed = tt;
  limit_low = h.1;
  taken = tt;
  queue = record { rising = tt; right = λ t. refl };
}
present_stands (Open d) h = h

-- ---- declarations
tvar_text_reached : (table : List Declared) (limit : ℕ) (r : Result Declared Refusal) → VariablesFit table → limit ≤ limits.max_events → ((d : Declared) → r ≡ Ok d → MayBeNext table d) → IsReached (tvar_text_step table limit r).0
tvar_text_reached table limit (Ok d) v low next = (fits_more table d v (next d refl), low)
tvar_text_reached table limit (Err e) v low next = (v, low)

-- ---- commands
abbrev StandsAfter : OpenDesk × List ℕ → Type 0
StandsAfter p = Stands p.0.desk p.0.jobs

submit_stands : (d : DeskView) (jobs : List HandedOut) (r : Result Block Refusal) → BlockOrTold (state_of d).names r → Stands d jobs → Stands (submit_text_step d r).0 jobs
submit_stands d jobs (Ok b) h k = submitted_stands d jobs b h.0 (submit_refusal d b) refl k
submit_stands d jobs (Err e) h k = k

declare_stands : (d : DeskView) (jobs : List HandedOut) (r : Result Declared Refusal) → LateOrTold r → Stands d jobs → Stands (declare_text_step d r).0 jobs
declare_stands d jobs (Ok v) h k = declared_stands d jobs v h.0 (late_declare_refusal d v.name v.kind v.value) refl k
declare_stands d jobs (Err e) h k = k

atomically_stands : (d : DeskView) (jobs : List HandedOut) (r : Result Block Refusal) → BlockOrTold (state_of d).names r → Stands d jobs → Stands (atomically_text_step d r).0 jobs
atomically_stands d jobs (Ok b) h k = ran_stands d jobs b h.0 (atomic_refusal d b) refl k
atomically_stands d jobs (Err e) h k = k

handback_stands : (d : DeskView) (jobs : List HandedOut) (t : ℕ) → Stands d jobs → Stands (handback_ticket_step d t).0 jobs
handback_stands d jobs t k =
    either_has (λ (p : DeskView × List ℕ). Stands p.0 jobs) (is_out t d.pending) (handed_back d t, queued_line t) (d, refused (codes "NotOut"))
    (stands_marked d (marked t false d.pending) jobs (tickets_marked t false d.pending) k) k

labelling_stands : (d : OpenDesk) (o : Option (ℕ × List ℕ)) → GivesLabel o → Stands d.desk d.jobs → StandsAfter (labelling_step d o)
labelling_stands d (Some l) h k = labelled_stands d.desk d.jobs l.0 l.1 h (label_refusal d.desk l.0) refl k
labelling_stands d None h k = k

-- ---- checkpoints
low_by : (n : ℕ) → nat_lt max_next n ≡ false → n ≤ max_next
low_by n e = grind (arith, nat_tests)

checkpoint_stands : (d : OpenDesk) → Stands d.desk d.jobs → StandsAfter (bare_checkpoint_step d)
checkpoint_stands d k = by (nat_lt max_next (state_of d.desk).next) refl
  where
    by : (b : Bool) → nat_lt max_next (state_of d.desk).next ≡ b
        → StandsAfter (cond b (d, refused (codes "TicketsFull")) (begun_anew d, checkpoint_line (length d.desk.history)))
    by true e = k
    by false e = stands_checkpointed d.desk d.jobs (low_by (state_of d.desk).next e) k

due_stands : (d : OpenDesk) (a b : Bool) → nat_le (state_of d.desk).next max_next ≡ b → Stands d.desk d.jobs
    → Stands (cond (a && b) (begun_anew d) d).desk (cond (a && b) (begun_anew d) d).jobs
due_stands d false b e k = k
due_stands d true false e k = k
due_stands d true true e k = stands_checkpointed d.desk d.jobs (grind (arith, nat_tests)) k

pub auto_reached : (every : ℕ) (s : Console) → IsReached s → IsReached (auto_checkpoint every s)
auto_reached every (Declaring table limit) h = h
auto_reached every (Open d) h = due_stands d (nat_le every (length d.desk.history)) (nat_le (state_of d.desk).next max_next) refl h

module _ (blocks : BlockAnswersAreRight) (declarations : DeclarationAnswersAreRight) (faults : CheckNeverSaysNoMemory) (stable : VerdictIsStable) (checked : CheckedAreWellTyped) where
  judged : (names : List Named) (text : List ℕ) → BlockOrTold names (compiled_block names text)
  judged = compiled blocks declarations faults checked

  desk_stands : (d : OpenDesk) → Stands d.desk d.jobs → (c : Command) (argument : List ℕ) → StandsAfter (desk_step d c argument)
  unfolding submit_step declare_step atomically_step take_step deliver_step handback_step eval_step finish_step cancel_step settle_step drain_step checkpoint_step label_step
  desk_stands d k Submit argument = submit_stands d.desk d.jobs (compiled_block (known d) argument) (judged (known d) argument) k
  desk_stands d k Declare argument = declare_stands d.desk d.jobs (late_variable_of (known d) argument) (late_judged declarations (known d) argument) k
  desk_stands d k Atomically argument = atomically_stands d.desk d.jobs (compiled_block (known d) argument) (judged (known d) argument) k
  desk_stands d k Take argument = number_has StandsAfter (take_jobs_step d) (d, argument_refused) (number_argument argument) (λ n. take_stands d n k) k
  desk_stands d k Deliver argument =
      number_has StandsAfter (λ n. on_desk d (deliver_job_step d.desk (job_at n d.jobs))) (d, argument_refused) (number_argument argument) (λ n. delivered_stands stable d.desk d.jobs n k) k
  desk_stands d k Handback argument =
      number_has StandsAfter (λ t. on_desk d (handback_ticket_step d.desk t)) (d, argument_refused) (number_argument argument) (λ t. handback_stands d.desk d.jobs t k) k
  desk_stands d k Eval argument =
      nothing_has StandsAfter (on_desk d (eval_desk_step d.desk)) (d, argument_refused) argument (evaluated_stands stable d.desk d.jobs k) k
  desk_stands d k Finish argument =
      number_has StandsAfter (λ t. on_desk d (finish_ticket_step d.desk t (finish_refusal d.desk t))) (d, argument_refused) (number_argument argument) (λ t. finished_stands d.desk d.jobs t (finish_refusal d.desk t) refl k) k
  desk_stands d k Cancel argument =
      number_has StandsAfter (λ t. on_desk d (cancel_ticket_step d.desk t (cancel_refusal d.desk t))) (d, argument_refused) (number_argument argument) (λ t. cancelled_stands d.desk d.jobs t (cancel_refusal d.desk t) refl k) k
  desk_stands d k Settle argument =
      nothing_has StandsAfter (on_desk d (settle_desk_step (requeued_all d.desk))) (d, argument_refused) argument (run_stands next_what next_allowed (d.desk.limit - length d.desk.history) d.jobs (requeued_all d.desk) (omega arith)
      (stands_marked d.desk (recalled d.desk.pending) d.jobs (tickets_recalled d.desk.pending) k)) k
  desk_stands d k Drain argument =
      nothing_has StandsAfter (on_desk d (drain_desk_step (requeued_all d.desk))) (d, argument_refused) argument (run_stands next_drain drain_allowed (d.desk.limit - length d.desk.history) d.jobs (requeued_all d.desk) (omega arith)
      (stands_marked d.desk (recalled d.desk.pending) d.jobs (tickets_recalled d.desk.pending) k)) k
  desk_stands d k Checkpoint argument = nothing_has StandsAfter (bare_checkpoint_step d) (d, argument_refused) argument (checkpoint_stands d k) k
  desk_stands d k Label argument = labelling_stands d (labelling argument) (gives_label argument) k
  desk_stands d k c argument = k

  tvar_reached : (s : Console) → IsReached s → (argument : List ℕ) → IsReached (tvar_step s argument).0
  tvar_reached (Declaring table limit) h argument = tvar_text_reached table limit (variable_of table argument) h.0 h.1 (λ d e. may_be_next declarations table argument d h.0.0 e)
  tvar_reached (Open d) h argument = h

  command_reached : (s : Console) → IsReached s → (c : Command) (argument : List ℕ) → IsReached (command_step s c argument).0
  command_reached s h Tvar argument = tvar_reached s h argument
  command_reached s h c argument = desk_stands (present_desk s) (present_stands s h) c argument

  word_reached : (s : Console) → IsReached s → (o : Option Command) (argument : List ℕ) → IsReached (word_step s o argument).0
  word_reached s h (Some c) argument = command_reached s h c argument
  word_reached s h None argument = h

  class_reached : (s : Console) → IsReached s → (j : LineClass) → IsReached (class_step s j).0
  class_reached s h TooLong = h
  class_reached s h Silent = h
  class_reached s h NotAscii = h
  class_reached s h (Words word argument) = word_reached s h (command_named word) argument

  pub line_reached : (s : Console) → IsReached s → (line : List ℕ) → IsReached (state_after s line)
  unfolding step
  line_reached s h line = class_reached s h (line_class line)

  lines_reached : (s : Console) → IsReached s → (lines : List (List ℕ)) → IsReached (state_after_lines s lines)
  lines_reached s h [] = h
  lines_reached s h (line ∷ rest) = lines_reached (state_after s line) (line_reached s h line) rest

  pub start_reached : (max_events : ℕ) → max_events ≤ limits.max_events → IsReached (initial_console max_events)
  unfolding initial_console
  start_reached max_events low = ((omega arith, tt), low)

  pub reached : (max_events : ℕ) → max_events ≤ limits.max_events → (lines : List (List ℕ)) → IsReached (state_after_lines (initial_console max_events) lines)
  reached max_events low lines = lines_reached (initial_console max_events) (start_reached max_events low) lines
