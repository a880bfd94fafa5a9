-- What happens by a call, as its event says it.
use Rattle.std.specs.Prelude.{◌≡◌, ℕ, List, [], ◌∷◌, Option, Some, None}
use Rattle.stm_terms.specs.declared.verdicts.Verdict.TheVariants.{Blocks}
use Rattle.stm_store.specs.Cells.{applied_answer}
use Rattle.stm_check.specs.TypedBlock.{Block}
use Rattle.stm_events.specs.declared.event.What.{What}
use Rattle.stm_events.specs.declared.event.What.TheVariants.{Submitted, Installed, Finished}
use Rattle.stm_machine.specs.Plans.{IsPlan}
use Rattle.stm_desk.specs.declared.atomic.Ran.{Ran}
use Rattle.stm_desk.specs.declared.finish.Finish.{Finish}
use Rattle.stm_desk.specs.DeskView.{DeskView, state_of, with_event}

-- the finish of the block under a ticket, by what the call returns
abbrev pub finish_of : ℕ → Finish → What
finish_of t finish = Finished t finish.verdict finish.applied.first_new finish.stale

-- the block under a ticket was finished for a client, with what the call returns
pub record HasFinishedBlock (client t : ℕ) (old new : DeskView) (finish : Finish) : Type 0 where
  -- one event more, the finish of the ticket
  pub grown : new ≡ with_event old client (finish_of t finish)
  -- the verdict, the first new variable and the stale tickets are those that the slow desk allows
  pub plan : IsPlan (state_of old) t finish.verdict finish.applied.first_new finish.stale
  -- what applying the verdict did
  pub applied : finish.applied ≡ applied_answer (state_of old).store finish.verdict

-- a ticket was evaluated, and finished or not
abbrev pub evaluated_and_finished : ℕ → Option Finish → List What
evaluated_and_finished t None = Installed t Blocks ∷ []
evaluated_and_finished t (Some finish) = Installed t finish.verdict ∷ finish_of t finish ∷ []

-- a block was run atomically, by what the call returns
abbrev pub whats_ran : Block → Ran → List What
whats_ran block ran = Submitted ran.ticket block ∷ evaluated_and_finished ran.ticket ran.finish
