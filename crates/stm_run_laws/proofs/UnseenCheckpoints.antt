-- Consoles that look alike answer alike, and a console looks like itself with a checkpoint.
use Rattle.std.proofs.Common.{◌≡◌, ℕ, ◌+◌, ◌≤◌, Bool, true, false, cond, List, [], ◌∷◌, ◌++◌, length, Option, Some, None, Result, refl, sym, ap, ap₂, ◌∙◌, subst, arith}
use Rattle.std.specs.Prelude.{◌==◌, ◌&&◌, nat_lt, nat_le, codes}
use Rattle.std.proofs.lemmas.Bool.Decides.{nat_tests}
use Rattle.stm_check.specs.Laws.{CheckNeverSaysNoMemory}
use Rattle.stm_check.specs.TypedBlock.{Block}
use Rattle.stm_eval.specs.Laws.{VerdictIsStable}
use Rattle.stm_parse.specs.ParseFunction.{BlockAnswersAreRight, DeclarationAnswersAreRight}
use Rattle.stm_store.specs.declared.cell.Cell.{Cell}
use Rattle.stm_store.specs.Naming.{Named}
use Rattle.stm_store.specs.Tables.{Declared}
use Rattle.stm_queue.specs.Queue.{Entry, recalled}
use Rattle.stm_events.specs.SlowDesk.{find_waiter}
use Rattle.stm_event_lines.specs.CheckedBlocks.{CheckedAreWellTyped}
use Rattle.stm_machine.specs.Checkpoints.{max_next}
use Rattle.stm_machine.specs.JobsHandedOut.{sent, block_at}
use Rattle.stm_desk.specs.DeskView.{DeskView, state_of, labels_of}
use Rattle.stm_desk.specs.Checkpointed.{causes_of, checkpointed}
use Rattle.stm_desk.specs.Reasons.{reason_of}
use Rattle.stm_desk.specs.Refusals.{finish_refusal, cancel_refusal}
use Rattle.stm_desk.specs.Settling.{requeued_all}
use Rattle.stm_desk.proofs.ReasonsStay.{reasons_stay}
use Rattle.stm_lines.specs.LineClass.{LineClass, TooLong, Silent, NotAscii, Words, line_class}
use Rattle.stm_lines.specs.NumberArgument.{number_argument}
use Rattle.stm_source.specs.declared.refusal.Refusal.{Refusal}
use Rattle.stm_source.specs.CompiledBlock.{compiled_block}
use Rattle.stm_source.specs.DeclaredVariable.{late_variable_of}
use Rattle.stm_commands.specs.Arguments.{with_number, with_nothing, argument_refused}
use Rattle.stm_commands.specs.Atomically.{atomically_text_step, atomically_step}
use Rattle.stm_commands.specs.Blocks.{tried_text, try_answer, looked_text, looks_answer, submit_text_step, submit_step}
use Rattle.stm_commands.specs.Checkpointing.{are_tickets_full, begun_anew}
use Rattle.stm_commands.specs.Contents.{show_answer, waiter_reads_text, reads_answer, store_text, store_answer}
use Rattle.stm_commands.specs.Declaring.{declare_text_step, declare_step}
use Rattle.stm_events.specs.SlowSettle.{next_what}
use Rattle.stm_events.specs.SlowDrain.{next_drain}
use Rattle.stm_commands.specs.Endings.{finish_ticket_step, finish_step, cancel_ticket_step, cancel_step, settled_line, drained_line, settle_desk_step, settle_step, drain_desk_step, drain_step}
use Rattle.stm_commands.specs.Evaluation.{eval_desk_step, eval_step}
use Rattle.stm_commands.specs.Jobs.{max_jobs, taken, with_jobs, jobs_line, take_jobs_step, take_step, job_at, deliver_job_step, deliver_step, handback_ticket_step, handback_step}
use Rattle.stm_commands.specs.Labelling.{labelling, labelling_step, label_step, block_text_line, block_answer, board_answer}
use Rattle.stm_commands.specs.OpenDesk.{HandedOut, OpenDesk, on_desk}
use Rattle.stm_commands.specs.Questions.{ready_answer, why_line, why_answer}
use Rattle.stm_commands.specs.Refusals.{refused}
use Rattle.stm_run.specs.declared.command.Command.{Command}
use Rattle.stm_run.specs.declared.command.Command.TheVariants.{Tvar, Declare, Try, Looks, Submit, Atomically, Take, Deliver, Handback, Eval, Finish, Cancel, Show, Reads, Store, Settle, Drain, History, Ready, Why, Events, Checkpoint, Label, Block as BlockCommand, Board}
use Rattle.stm_run.specs.declared.console.Console.{Console}
use Rattle.stm_run.specs.declared.console.Console.TheVariants.{Declaring, Open}
use Rattle.stm_run.specs.Console.{command_named, answer_to, answers_to, state_after, initial_console, desk_step, command_step, word_step, class_step, step}
use Rattle.stm_run.specs.ConsoleState.{present_desk, is_open, events_of, with_checkpoint}
use Rattle.stm_run.specs.AfterLines.{state_after_lines}
use Rattle.stm_run.specs.LineCheckpoints.{auto_checkpoint, answers_by, command_checkpoints, word_checkpoints, class_checkpoints, line_checkpoints, Turn, turn_lines, refused_step, line_step}
use Rattle.stm_run_laws.specs.Unseen.{LookAlike, is_of_history, word_is_of_history, class_is_of_history, line_is_of_history, HaveRoom, CheckpointsAreUnseenByCommands}
use Rattle.stm_run_laws.proofs.AlikeSteps.{AlikeSteps, NotFull, submit_alike, declare_alike, atomically_alike, cancel_alike, label_alike, finish_alike, handback_alike, deliver_alike, eval_alike, settle_order, drain_order, run_alike}
use Rattle.stm_run_laws.proofs.AlikeLabels.{labels_stay}
use Rattle.stm_run_laws.proofs.AlikeReasons.{stands_reasons}
use Rattle.stm_run.proofs.DeclaredVariables.{LateOrTold, late_judged}
use Rattle.stm_run.proofs.GivenLabels.{GivesLabel, gives_label}
use Rattle.stm_run.proofs.DeliveredJobs.{delivered_stands}
use Rattle.stm_run_laws.proofs.LookingAlike.{AlikeDesks, same_store, same_names, same_found, alike_pending, show_alike, board_alike, text_alike, reads_alike, ready_alike, jobs_alike}
use Rattle.stm_run.proofs.ReachedConsole.{IsReached, auto_reached, line_reached, start_reached, reached}
use Rattle.stm_run.proofs.SoundStates.{unseen}
use Rattle.stm_run.proofs.StandingDesk.{Stands, stands_sound, stands_typed, checkpoint_is, stands_checkpointed}
use Rattle.stm_run.proofs.TextsJudged.{BlockOrTold, compiled}

-- ---- open desks
pub record AlikeOpen (b : Bool) (d d' : OpenDesk) : Type 0 where
  pub desks : AlikeDesks b d.desk d'.desk
  pub jobs : d.jobs ≡ d'.jobs

pub record AlikeResults (b : Bool) (p p' : OpenDesk × List ℕ) : Type 0 where
  pub after : AlikeOpen b p.0 p'.0
  pub text : p.1 ≡ p'.1

-- consoles whose desks are open and alike
abbrev pub AlikeConsoles : Bool → Console → Console → Type 0
AlikeConsoles b (Open d) (Open d') = AlikeOpen b d d'
AlikeConsoles b (Declaring table limit) s' = ⊥
AlikeConsoles b (Open d) (Declaring table limit) = ⊥

-- what follows if neither answer reports that its history is full
abbrev Follows : Bool → OpenDesk × List ℕ → OpenDesk × List ℕ → Type 0
Follows b p p' = NotFull b p.1 p'.1 → AlikeResults b p p'

by_number : (b : Bool) (f f' : ℕ → OpenDesk × List ℕ) (x x' : OpenDesk × List ℕ) (o : Option ℕ) → ((n : ℕ) → Follows b (f n) (f' n)) → Follows b x x' → Follows b (with_number f x o) (with_number f' x' o)
by_number b f f' x x' (Some n) h k = h n
by_number b f f' x x' None h k = k

by_empty : (b c : Bool) (p p' x x' : OpenDesk × List ℕ) → Follows b p p' → Follows b x x' → Follows b (cond {A = OpenDesk × List ℕ} c p x) (cond {A = OpenDesk × List ℕ} c p' x')
by_empty b true p p' x x' h k = h
by_empty b false p p' x x' h k = k

by_nothing : (b : Bool) (p p' x x' : OpenDesk × List ℕ) (argument : List ℕ) → Follows b p p' → Follows b x x' → Follows b (with_nothing p x argument) (with_nothing p' x' argument)
by_nothing b p p' x x' argument h k = by_empty b (length argument == 0) p p' x x' h k

-- an answer alone
abbrev said : (b : Bool) (d d' : OpenDesk) (x x' : List ℕ) → AlikeOpen b d d' → x ≡ x' → Follows b (d, x) (d', x')
said b d d' x x' k e = λ n. record { after = k; text = e }

-- a step of the desk
stepped : (b : Bool) (d d' : OpenDesk) (p p' : DeskView × List ℕ) → AlikeOpen b d d' → AlikeSteps b p p' → AlikeResults b (on_desk d p) (on_desk d' p')
stepped b d d' p p' k s = record { after = record { desks = s.desks; jobs = k.jobs }; text = s.text }

number_text : (f f' : ℕ → List ℕ) (o : Option ℕ) → ((n : ℕ) → f n ≡ f' n) → with_number f argument_refused o ≡ with_number f' argument_refused o
number_text f f' (Some n) h = h n
number_text f f' None h = refl

taken_alike : (b c : Bool) (d d' : DeskView) (jobs : List HandedOut) (ts : List ℕ) → AlikeDesks b d d' → (x : List ℕ)
    → AlikeResults b (cond {A = OpenDesk × List ℕ} c (record { desk = d; jobs = jobs }, refused (codes "JobsFull")) (with_jobs (record { desk = d; jobs = jobs }) ts, x))
    (cond {A = OpenDesk × List ℕ} c (record { desk = d'; jobs = jobs }, refused (codes "JobsFull")) (with_jobs (record { desk = d'; jobs = jobs }) ts, x))
taken_alike b true d d' jobs ts k x = record { after = record { desks = k; jobs = refl }; text = refl }
taken_alike b false d d' jobs ts k x = record {
  after = record {
    desks = alike_pending b d d' (sent (length ts) d.pending) (sent (length ts) d'.pending) (ap (sent (length ts)) k.pending) k;
    jobs = ap (λ (js : List HandedOut). jobs ++ js) (jobs_alike b d d' ts k);
  };
  text = refl;
}

take_alike : (b : Bool) (d d' : DeskView) (jobs : List HandedOut) (n : ℕ) → AlikeDesks b d d' → AlikeResults b (take_jobs_step (record { desk = d; jobs = jobs }) n) (take_jobs_step (record { desk = d'; jobs = jobs }) n)
take_alike b d d' jobs n k =
    let c = nat_lt max_jobs (n + length jobs) in
    let tickets : taken d n ≡ taken d' n = ap (λ (es : List Entry). taken (record d { pending = es }) n) k.pending in
    subst (λ (ts : List ℕ). AlikeResults b (take_jobs_step (record { desk = d; jobs = jobs }) n)
    (cond {A = OpenDesk × List ℕ} c (record { desk = d'; jobs = jobs }, refused (codes "JobsFull")) (with_jobs (record { desk = d'; jobs = jobs }) ts, jobs_line (length jobs + 1) ts))) tickets
    (taken_alike b c d d' jobs (taken d n) k (jobs_line (length jobs + 1) (taken d n)))

labelling_alike : (b : Bool) (d d' : DeskView) (jobs : List HandedOut) (o : Option (ℕ × List ℕ)) → GivesLabel o → Stands d jobs → AlikeDesks b d d'
    → Follows b (labelling_step (record { desk = d; jobs = jobs }) o) (labelling_step (record { desk = d'; jobs = jobs }) o)
labelling_alike b d d' jobs (Some l) h st k = λ n. stepped b _ _ _ _ (record { desks = k; jobs = refl }) (label_alike b d d' jobs l.0 l.1 h st k n)
labelling_alike b d d' jobs None h st k = said b _ _ _ _ (record { desks = k; jobs = refl }) refl

module _ (judged : (names : List Named) (text : List ℕ) → BlockOrTold names (compiled_block names text)) (late : (names : List Named) (text : List ℕ) → LateOrTold (late_variable_of names text)) (stable : VerdictIsStable) where
  -- with the same jobs
  desk_alike : (b : Bool) (d d' : DeskView) (jobs : List HandedOut) → Stands d jobs → AlikeDesks b d d' → (c : Command) → is_of_history c ≡ false → (argument : List ℕ)
      → Follows b (desk_step (record { desk = d; jobs = jobs }) c argument) (desk_step (record { desk = d'; jobs = jobs }) c argument)
  unfolding declare_step try_answer looks_answer submit_step atomically_step take_step deliver_step handback_step eval_step finish_step cancel_step show_answer reads_answer store_answer settle_step drain_step ready_answer why_answer label_step block_answer board_answer
  desk_alike b d d' jobs st k Tvar h argument = said b _ _ _ _ (record { desks = k; jobs = refl }) refl
  desk_alike b d d' jobs st k Declare h argument = λ n.
      subst (λ (r : Result Declared Refusal). NotFull b (declare_text_step d (late_variable_of (state_of d).names argument)).1 (declare_text_step d' r).1
      → AlikeResults b (on_desk (record { desk = d; jobs = jobs }) (declare_text_step d (late_variable_of (state_of d).names argument))) (on_desk (record { desk = d'; jobs = jobs }) (declare_text_step d' r)))
      (ap (λ (ns : List Named). late_variable_of ns argument) (same_names b d d' k))
      (λ m. stepped b _ _ _ _ (record { desks = k; jobs = refl }) (declare_alike b d d' jobs (late_variable_of (state_of d).names argument) (late (state_of d).names argument) st k m)) n
  desk_alike b d d' jobs st k Try h argument =
      said b _ _ _ _ (record { desks = k; jobs = refl }) (ap₂ (λ (cells : List Cell) (ns : List Named). tried_text cells (compiled_block ns argument)) (same_store b d d' k) (same_names b d d' k))
  desk_alike b d d' jobs st k Looks h argument =
      said b _ _ _ _ (record { desks = k; jobs = refl }) (ap₂ (λ (cells : List Cell) (ns : List Named). looked_text cells (compiled_block ns argument)) (same_store b d d' k) (same_names b d d' k))
  desk_alike b d d' jobs st k Submit h argument = λ n.
      subst (λ (r : Result Block Refusal). NotFull b (submit_text_step d (compiled_block (state_of d).names argument)).1 (submit_text_step d' r).1
      → AlikeResults b (on_desk (record { desk = d; jobs = jobs }) (submit_text_step d (compiled_block (state_of d).names argument))) (on_desk (record { desk = d'; jobs = jobs }) (submit_text_step d' r)))
      (ap (λ (ns : List Named). compiled_block ns argument) (same_names b d d' k))
      (λ m. stepped b _ _ _ _ (record { desks = k; jobs = refl }) (submit_alike b d d' jobs (compiled_block (state_of d).names argument) (judged (state_of d).names argument) st k m)) n
  desk_alike b d d' jobs st k Atomically h argument = λ n.
      subst (λ (r : Result Block Refusal). NotFull b (atomically_text_step d (compiled_block (state_of d).names argument)).1 (atomically_text_step d' r).1
      → AlikeResults b (on_desk (record { desk = d; jobs = jobs }) (atomically_text_step d (compiled_block (state_of d).names argument))) (on_desk (record { desk = d'; jobs = jobs }) (atomically_text_step d' r)))
      (ap (λ (ns : List Named). compiled_block ns argument) (same_names b d d' k))
      (λ m. stepped b _ _ _ _ (record { desks = k; jobs = refl }) (atomically_alike b d d' jobs (compiled_block (state_of d).names argument) (judged (state_of d).names argument) st k m)) n
  desk_alike b d d' jobs st k Take h argument =
      by_number b (take_jobs_step (record { desk = d; jobs = jobs })) (take_jobs_step (record { desk = d'; jobs = jobs })) _ _ (number_argument argument)
      (λ n m. take_alike b d d' jobs n k) (said b _ _ _ _ (record { desks = k; jobs = refl }) refl)
  desk_alike b d d' jobs st k Deliver h argument =
      by_number b (λ n. on_desk (record { desk = d; jobs = jobs }) (deliver_job_step d (job_at n jobs))) (λ n. on_desk (record { desk = d'; jobs = jobs }) (deliver_job_step d' (job_at n jobs))) _ _ (number_argument argument)
      (λ n m. stepped b _ _ _ _ (record { desks = k; jobs = refl }) (deliver_alike b d d' jobs (job_at n jobs) (delivered_stands stable d jobs n st) k m)) (said b _ _ _ _ (record { desks = k; jobs = refl }) refl)
  desk_alike b d d' jobs st k Handback h argument =
      by_number b (λ t. on_desk (record { desk = d; jobs = jobs }) (handback_ticket_step d t)) (λ t. on_desk (record { desk = d'; jobs = jobs }) (handback_ticket_step d' t)) _ _ (number_argument argument)
      (λ t m. stepped b _ _ _ _ (record { desks = k; jobs = refl }) (handback_alike b d d' t k)) (said b _ _ _ _ (record { desks = k; jobs = refl }) refl)
  desk_alike b d d' jobs st k Eval h argument =
      by_nothing b (on_desk (record { desk = d; jobs = jobs }) (eval_desk_step d)) (on_desk (record { desk = d'; jobs = jobs }) (eval_desk_step d')) _ _ argument
      (λ m. stepped b _ _ _ _ (record { desks = k; jobs = refl }) (eval_alike stable b d d' jobs st k m)) (said b _ _ _ _ (record { desks = k; jobs = refl }) refl)
  desk_alike b d d' jobs st k Finish h argument =
      by_number b (λ t. on_desk (record { desk = d; jobs = jobs }) (finish_ticket_step d t (finish_refusal d t))) (λ t. on_desk (record { desk = d'; jobs = jobs }) (finish_ticket_step d' t (finish_refusal d' t))) _ _
      (number_argument argument) (λ t m. stepped b _ _ _ _ (record { desks = k; jobs = refl }) (finish_alike b d d' jobs t st k m)) (said b _ _ _ _ (record { desks = k; jobs = refl }) refl)
  desk_alike b d d' jobs st k Cancel h argument =
      by_number b (λ t. on_desk (record { desk = d; jobs = jobs }) (cancel_ticket_step d t (cancel_refusal d t))) (λ t. on_desk (record { desk = d'; jobs = jobs }) (cancel_ticket_step d' t (cancel_refusal d' t))) _ _
      (number_argument argument) (λ t m. stepped b _ _ _ _ (record { desks = k; jobs = refl }) (cancel_alike b d d' jobs t st k m)) (said b _ _ _ _ (record { desks = k; jobs = refl }) refl)
  desk_alike b d d' jobs st k Show h argument =
      said b _ _ _ _ (record { desks = k; jobs = refl }) (ap (λ (t : List ℕ). with_nothing t argument_refused argument) (show_alike b d d' k))
  desk_alike b d d' jobs st k Reads h argument =
      said b _ _ _ _ (record { desks = k; jobs = refl })
      (number_text (λ t. waiter_reads_text (find_waiter t (state_of d).waiters)) (λ t. waiter_reads_text (find_waiter t (state_of d').waiters)) (number_argument argument)
      (λ t. reads_alike (find_waiter t (state_of d).waiters) (find_waiter t (state_of d').waiters) (same_found b d d' t k)))
  desk_alike b d d' jobs st k Store h argument =
      said b _ _ _ _ (record { desks = k; jobs = refl })
      (ap₂ (λ (ns : List Named) (cells : List Cell). with_nothing (store_text ns cells) argument_refused argument) (same_names b d d' k) (same_store b d d' k))
  desk_alike b d d' jobs st k Settle h argument =
      by_nothing b (on_desk (record { desk = d; jobs = jobs }) (settle_desk_step (requeued_all d))) (on_desk (record { desk = d'; jobs = jobs }) (settle_desk_step (requeued_all d'))) _ _ argument
      (λ m. stepped b _ _ _ _ (record { desks = k; jobs = refl })
      (run_alike next_what settle_order settled_line b (requeued_all d) (requeued_all d') (alike_pending b d d' (recalled d.pending) (recalled d'.pending) (ap recalled k.pending) k) m)) (said b _ _ _ _ (record { desks = k; jobs = refl }) refl)
  desk_alike b d d' jobs st k Drain h argument =
      by_nothing b (on_desk (record { desk = d; jobs = jobs }) (drain_desk_step (requeued_all d))) (on_desk (record { desk = d'; jobs = jobs }) (drain_desk_step (requeued_all d'))) _ _ argument
      (λ m. stepped b _ _ _ _ (record { desks = k; jobs = refl })
      (run_alike next_drain drain_order drained_line b (requeued_all d) (requeued_all d') (alike_pending b d d' (recalled d.pending) (recalled d'.pending) (ap recalled k.pending) k) m)) (said b _ _ _ _ (record { desks = k; jobs = refl }) refl)
  desk_alike b d d' jobs st k Ready h argument =
      said b _ _ _ _ (record { desks = k; jobs = refl }) (ap (λ (t : List ℕ). with_nothing t argument_refused argument) (ready_alike b d d' k))
  desk_alike b d d' jobs st k Why h argument =
      said b _ _ _ _ (record { desks = k; jobs = refl })
      (number_text (λ t. why_line t (reason_of d t)) (λ t. why_line t (reason_of d' t)) (number_argument argument) (λ t. ap (why_line t) (k.reasons.each t)))
  desk_alike b d d' jobs st k Label h argument = labelling_alike b d d' jobs (labelling argument) (gives_label argument) st k
  desk_alike b d d' jobs st k BlockCommand h argument =
      said b _ _ _ _ (record { desks = k; jobs = refl })
      (number_text (λ t. block_text_line t (block_at (state_of d) t)) (λ t. block_text_line t (block_at (state_of d') t)) (number_argument argument) (λ t. text_alike b d d' t k))
  desk_alike b d d' jobs st k Board h argument =
      said b _ _ _ _ (record { desks = k; jobs = refl }) (ap (λ (t : List ℕ). with_nothing t argument_refused argument) (board_alike b d d' k))
  desk_alike b d d' jobs st k History h argument = absurd (cc h)
  desk_alike b d d' jobs st k Events h argument = absurd (cc h)
  desk_alike b d d' jobs st k Checkpoint h argument = absurd (cc h)

  open_alike : (b : Bool) (d d' : OpenDesk) → Stands d.desk d.jobs → AlikeOpen b d d' → (c : Command) → is_of_history c ≡ false → (argument : List ℕ) → Follows b (desk_step d c argument) (desk_step d' c argument)
  open_alike b d d' st k c h argument =
      subst (λ (js : List HandedOut). Follows b (desk_step d c argument) (desk_step (record { desk = d'.desk; jobs = js }) c argument)) k.jobs (desk_alike b d.desk d'.desk d.jobs st k.desks c h argument)

  -- ---- lines
  -- what two open consoles come to
  abbrev LineFollows : Bool → Console × List ℕ → Console × List ℕ → Type 0
  LineFollows b p p' = NotFull b p.1 p'.1 → AlikeConsoles b p.0 p'.0 × (p.1 ≡ p'.1)

  command_alike : (b : Bool) (d d' : OpenDesk) → Stands d.desk d.jobs → AlikeOpen b d d' → (c : Command) → is_of_history c ≡ false → (argument : List ℕ) → LineFollows b (command_step (Open d) c argument) (command_step (Open d') c argument)
  command_alike b d d' st k Tvar h argument = λ n. (k, refl)
  command_alike b d d' st k c h argument = λ n. let r = open_alike b d d' st k c h argument n in (r.after, r.text)

  word_alike : (b : Bool) (d d' : OpenDesk) → Stands d.desk d.jobs → AlikeOpen b d d' → (o : Option Command) → word_is_of_history o ≡ false → (argument : List ℕ) → LineFollows b (word_step (Open d) o argument) (word_step (Open d') o argument)
  word_alike b d d' st k (Some c) h argument = command_alike b d d' st k c h argument
  word_alike b d d' st k None h argument = λ n. (k, refl)

  class_alike : (b : Bool) (d d' : OpenDesk) → Stands d.desk d.jobs → AlikeOpen b d d' → (j : LineClass) → class_is_of_history j ≡ false → LineFollows b (class_step (Open d) j) (class_step (Open d') j)
  class_alike b d d' st k TooLong h = λ n. (k, refl)
  class_alike b d d' st k Silent h = λ n. (k, refl)
  class_alike b d d' st k NotAscii h = λ n. (k, refl)
  class_alike b d d' st k (Words word argument) h = word_alike b d d' st k (command_named word) h argument

  pub line_alike : (b : Bool) (d d' : OpenDesk) → Stands d.desk d.jobs → AlikeOpen b d d' → (line : List ℕ) → line_is_of_history line ≡ false → LineFollows b (step (Open d) line) (step (Open d') line)
  unfolding step
  line_alike b d d' st k line h = class_alike b d d' st k (line_class line) h

-- ---- a line that isn't of the history makes no checkpoint, so nothing can keep it from that
no_checkpoint_by : (s : Console) (c : Command) (argument : List ℕ) → is_of_history c ≡ false → command_checkpoints s c argument ≡ false
no_checkpoint_by s Tvar argument h = refl
no_checkpoint_by s Declare argument h = refl
no_checkpoint_by s Try argument h = refl
no_checkpoint_by s Looks argument h = refl
no_checkpoint_by s Submit argument h = refl
no_checkpoint_by s Atomically argument h = refl
no_checkpoint_by s Take argument h = refl
no_checkpoint_by s Deliver argument h = refl
no_checkpoint_by s Handback argument h = refl
no_checkpoint_by s Eval argument h = refl
no_checkpoint_by s Finish argument h = refl
no_checkpoint_by s Cancel argument h = refl
no_checkpoint_by s Show argument h = refl
no_checkpoint_by s Reads argument h = refl
no_checkpoint_by s Store argument h = refl
no_checkpoint_by s Settle argument h = refl
no_checkpoint_by s Drain argument h = refl
no_checkpoint_by s History argument h = refl
no_checkpoint_by s Ready argument h = refl
no_checkpoint_by s Why argument h = refl
no_checkpoint_by s Events argument h = refl
no_checkpoint_by s Checkpoint argument h = absurd (cc h)
no_checkpoint_by s Label argument h = refl
no_checkpoint_by s BlockCommand argument h = refl
no_checkpoint_by s Board argument h = refl

no_checkpoint_word : (s : Console) (o : Option Command) (argument : List ℕ) → word_is_of_history o ≡ false → word_checkpoints s o argument ≡ false
no_checkpoint_word s None argument h = refl
no_checkpoint_word s (Some c) argument h = no_checkpoint_by s c argument h

no_checkpoint_class : (s : Console) (c : LineClass) → class_is_of_history c ≡ false → class_checkpoints s c ≡ false
no_checkpoint_class s TooLong h = refl
no_checkpoint_class s Silent h = refl
no_checkpoint_class s NotAscii h = refl
no_checkpoint_class s (Words word argument) h = no_checkpoint_word s (command_named word) argument h

no_checkpoint : (s : Console) (line : List ℕ) → line_is_of_history line ≡ false → line_checkpoints s line ≡ false
unfolding line_checkpoints
no_checkpoint s line h = no_checkpoint_class s (line_class line) h

refused_as_step : (s : Console) (line : List ℕ) → line_is_of_history line ≡ false → refused_step s line ≡ step s line
refused_as_step s line h =
    ap (λ (b : Bool). cond {A = Console × List ℕ} b (Open (present_desk s), refused (codes "NoCheckpoint")) (step s line)) (no_checkpoint s line h)

-- ---- checkpoints
low_next : (d : OpenDesk) → are_tickets_full d ≡ false → (state_of d.desk).next ≤ max_next
low_next d e = grind (arith, nat_tests)

-- a desk that looks like another one looks like it after a checkpoint, too
checkpoint_alike : (b : Bool) (d d' : DeskView) (jobs : List HandedOut) → Stands d' jobs → (state_of d').next ≤ max_next → AlikeDesks b d d' → AlikeDesks true d (checkpointed d')
checkpoint_alike b d d' jobs st low k = record {
  table = k.table;
  limit = k.limit;
  pending = k.pending;
  possible = k.possible;
  possible_too = (stands_sound (checkpointed d') jobs (stands_checkpointed d' jobs low st)).possible;
  same = k.same ∙ sym (unseen (labels_of d') (causes_of d') (state_of d') (stands_sound d' jobs st) low);
  labels = λ t. k.labels t ∙ sym (labels_stay d' jobs st t);
  reasons = record {
    first = k.reasons.first;
    second = stands_reasons (checkpointed d') jobs (stands_checkpointed d' jobs low st);
    each = λ t. k.reasons.each t ∙ sym (reasons_stay d' st.begins (stands_typed d' jobs st) (checkpoint_is d' jobs low st) t);
  };
  fewer = λ e. omega arith;
}

itself_alike : (b : Bool) (d : DeskView) (jobs : List HandedOut) → Stands d jobs → AlikeDesks b d d
itself_alike b d jobs st =
    let p = (stands_sound d jobs st).possible in
    let r = stands_reasons d jobs st in
    record {
      table = refl;
      limit = refl;
      pending = refl;
      possible = p;
      possible_too = p;
      same = refl;
      labels = λ t. refl;
      reasons = record { first = r; second = r; each = λ t. refl };
      fewer = λ e. omega arith;
    }

-- ---- consoles that look alike
from_look : (s s' : Console) → IsReached s → IsReached s' → LookAlike s s' → AlikeConsoles false s s'
from_look (Declaring table limit) s' r r' k = absurd (cc k.opened)
from_look (Open d) (Declaring table limit) r r' k = absurd (cc k.opened_too)
from_look (Open d) (Open d') r r' k = record {
  desks = record {
    table = k.table;
    limit = k.limit;
    pending = k.pending;
    possible = (stands_sound d.desk d.jobs r).possible;
    possible_too = (stands_sound d'.desk d'.jobs r').possible;
    same = k.observed_is;
    labels = k.labels;
    reasons = record { first = stands_reasons d.desk d.jobs r; second = stands_reasons d'.desk d'.jobs r'; each = k.reasons };
    fewer = λ e. absurd (cc e);
  };
  jobs = k.jobs;
}

to_look : (b : Bool) (s s' : Console) → AlikeConsoles b s s' → LookAlike s s'
to_look b (Declaring table limit) s' k = absurd k
to_look b (Open d) (Declaring table limit) k = absurd k
to_look b (Open d) (Open d') k = record {
  opened = refl;
  opened_too = refl;
  table = k.desks.table;
  limit = k.desks.limit;
  pending = k.desks.pending;
  jobs = k.jobs;
  observed_is = k.desks.same;
  labels = k.desks.labels;
  reasons = k.desks.reasons.each;
}

module _ (blocks : BlockAnswersAreRight) (declarations : DeclarationAnswersAreRight) (faults : CheckNeverSaysNoMemory) (stable : VerdictIsStable) (checked : CheckedAreWellTyped) where
  judged : (names : List Named) (text : List ℕ) → BlockOrTold names (compiled_block names text)
  judged = compiled blocks declarations faults checked

  after_line : (s : Console) → IsReached s → (line : List ℕ) → IsReached (state_after s line)
  after_line = line_reached blocks declarations faults stable checked

  -- a line on consoles that are alike
  one_line : (b : Bool) (s s' : Console) → IsReached s → AlikeConsoles b s s' → (line : List ℕ) → line_is_of_history line ≡ false → NotFull b (answer_to s line) (answer_to s' line)
      → AlikeConsoles b (state_after s line) (state_after s' line) × (answer_to s line ≡ answer_to s' line)
  one_line b (Declaring table limit) s' r k line h n = absurd k
  one_line b (Open d) (Declaring table limit) r k line h n = absurd k
  one_line b (Open d) (Open d') r k line h n = line_alike judged (late_judged declarations) stable b d d' r k line h n

  checkpoint_seen : (s : Console) → IsReached s → is_open s ≡ true → are_tickets_full (present_desk s) ≡ false → LookAlike s (with_checkpoint s)
  checkpoint_seen (Declaring table limit) r o e = absurd (cc o)
  checkpoint_seen (Open d) r o e =
      to_look true (Open d) (with_checkpoint (Open d))
      (record { desks = checkpoint_alike false d.desk d.desk d.jobs r (low_next d e) (itself_alike false d.desk d.jobs r); jobs = refl })

  -- ---- a run that makes checkpoints by itself
  -- both are open and alike, or both declare the same
  abbrev Related : Console → Console → Type 0
  Related (Declaring table limit) s = s ≡ Declaring table limit
  Related (Open d) s = AlikeConsoles true (Open d) s

  due_related : (d d' : OpenDesk) (x y : Bool) → nat_le (state_of d'.desk).next max_next ≡ y → Stands d'.desk d'.jobs → AlikeOpen true d d' → AlikeOpen true d (cond (x && y) (begun_anew d') d')
  due_related d d' false y e st k = k
  due_related d d' true false e st k = k
  due_related d d' true true e st k = record { desks = checkpoint_alike true d.desk d'.desk d'.jobs st (grind (arith, nat_tests)) k.desks; jobs = k.jobs }

  auto_related : (every : ℕ) (t s : Console) → IsReached s → AlikeConsoles true t s → AlikeConsoles true t (auto_checkpoint every s)
  auto_related every (Declaring table limit) s r k = absurd k
  auto_related every (Open d) (Declaring table limit) r k = absurd k
  auto_related every (Open d) (Open d') r k = due_related d d' (nat_le every (length d'.desk.history)) (nat_le (state_of d'.desk).next max_next) refl r k

  step_related : (every : ℕ) (c : Bool) (t s : Console) → IsReached s → AlikeConsoles true t s → AlikeConsoles true t (cond c (auto_checkpoint every s) s)
  step_related every true t s r k = auto_related every t s r k
  step_related every false t s r k = k

  step_reached : (every : ℕ) (c : Bool) (s : Console) → IsReached s → IsReached (cond c (auto_checkpoint every s) s)
  step_reached every true s r = auto_reached every s r
  step_reached every false s r = r

  -- after the first line on the same console
  opened_related : (every : ℕ) (c : Bool) (x : Console) → IsReached x → Related x (cond c (auto_checkpoint every x) x)
  opened_related every true (Declaring table limit) r = refl
  opened_related every false (Declaring table limit) r = refl
  opened_related every c (Open d) r = step_related every c (Open d) (Open d) r (record { desks = itself_alike true d.desk d.jobs r; jobs = refl })

  to_related : (t s : Console) → AlikeConsoles true t s → Related t s
  to_related (Declaring table limit) s k = absurd k
  to_related (Open d) s k = k

  -- whether a checkpoint comes after a line, if it can be made
  abbrev comes_after : Console → List ℕ → Option (Unit {0}) → Bool
  comes_after s line None = nat_lt (length (events_of s)) (length (events_of (state_after s line)))
  comes_after s line (Some cause) = false

  turn_state : (every : ℕ) (s : Console) (line : List ℕ) (r : Option (Unit {0})) → line_is_of_history line ≡ false
      → (line_step every s line r).0 ≡ cond (comes_after s line r) (auto_checkpoint every (state_after s line)) (state_after s line)
  turn_state every s line None h = refl
  turn_state every s line (Some cause) h = ap (λ (p : Console × List ℕ). p.0) (refused_as_step s line h)

  turn_text : (every : ℕ) (s : Console) (line : List ℕ) (r : Option (Unit {0})) → line_is_of_history line ≡ false → (line_step every s line r).1 ≡ answer_to s line
  turn_text every s line None h = refl
  turn_text every s line (Some cause) h = ap (λ (p : Console × List ℕ). p.1) (refused_as_step s line h)

  answers_alike : (every : ℕ) (turns : List (Turn (Unit {0}))) (t s : Console) → IsReached t → IsReached s → Related t s → HaveRoom t (turn_lines turns) → answers_by every s turns ≡ answers_to t (turn_lines turns)
  answers_alike every [] t s r r' k room = refl
  answers_alike every (turn ∷ rest) (Declaring table limit) s r r' k room =
      let t : Console = Declaring table limit in
      let line = turn.line in
      let c = comes_after t line turn.refused in
      let after = after_line t r line in
      subst (λ (x : Console). answers_by every x (turn ∷ rest) ≡ answers_to t (turn_lines (turn ∷ rest))) (sym k)
      (ap₂ (λ (x y : List ℕ). x ++ y) (turn_text every t line turn.refused room.0)
      (ap (λ (x : Console). answers_by every x rest) (turn_state every t line turn.refused room.0)
      ∙ answers_alike every rest (state_after t line) (cond c (auto_checkpoint every (state_after t line)) (state_after t line)) after (step_reached every c (state_after t line) after) (opened_related every c (state_after t line) after) room.2))
  answers_alike every (turn ∷ rest) (Open d) s r r' k room =
      let t : Console = Open d in
      let line = turn.line in
      let next = one_line true t s r k line room.0 (room.1, λ e. absurd (cc e)) in
      let c = comes_after s line turn.refused in
      let after = after_line s r' line in
      ap₂ (λ (x y : List ℕ). x ++ y) (turn_text every s line turn.refused room.0 ∙ sym next.1)
      (ap (λ (x : Console). answers_by every x rest) (turn_state every s line turn.refused room.0)
      ∙ answers_alike every rest (state_after t line) (cond c (auto_checkpoint every (state_after s line)) (state_after s line)) (after_line t r line) (step_reached every c (state_after s line) after)
      (to_related (state_after t line) _ (step_related every c (state_after t line) (state_after s line) after next.0)) room.2)

  pub unseen_by_commands : CheckpointsAreUnseenByCommands
  unfolding initial_console
  unseen_by_commands = record {
    checkpoint = λ m low before. checkpoint_seen (state_after_lines (initial_console m) before) (reached blocks declarations faults stable checked m low before);
    line = λ m low before before' line k h n n'.
        let s = state_after_lines (initial_console m) before in
        let s' = state_after_lines (initial_console m) before' in
        let r = reached blocks declarations faults stable checked m low before in
        let next = one_line false s s' r (from_look s s' r (reached blocks declarations faults stable checked m low before') k) line h (n, λ e. n') in
        record { answer = next.1; after = to_look false (state_after s line) (state_after s' line) next.0 };
    automatic = λ m low every turns room.
        let first = start_reached blocks declarations faults stable checked m low in
        answers_alike every turns (initial_console m) (initial_console m) first first refl room;
  }
