-- What running a block at once does.
use Rattle.std.specs.Prelude.{◌≡◌, ℕ, None, IfSome}
use Rattle.stm_store.specs.Cells.{applied_answer}
use Rattle.stm_check.specs.TypedBlock.{Block}
use Rattle.stm_events.specs.SlowAtomically.{atomically}
use Rattle.stm_desk.specs.declared.atomic.Ran.{Ran}
use Rattle.stm_desk.specs.DeskView.{DeskView, state_of}
use Rattle.stm_desk.specs.Events.{whats_ran}
use Rattle.stm_desk.specs.Refusals.{atomic_refusal}
use Rattle.stm_desk.specs.Settling.{with_whats}

-- a client's block was run at once, with what the call returns
pub record HasRunAtOnce (client : ℕ) (block : Block) (old new : DeskView) (ran : Ran) : Type 0 where
  -- nothing refuses it
  pub allowed : atomic_refusal old block ≡ None
  -- the submission, the evaluation and, unless the block blocks, the finish are events of the client
  pub grown : new ≡ with_whats old client (atomically (state_of old) block)
  -- they are as the result says
  pub events : atomically (state_of old) block ≡ whats_ran block ran
  -- the block got the next ticket
  pub ticket : ran.ticket ≡ (state_of old).next
  -- if it finished: what applying its verdict did
  pub applied : IfSome ran.finish (λ f. f.applied ≡ applied_answer (state_of old).store f.verdict)
