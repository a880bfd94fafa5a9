-- What a worker finds to do.
use Rattle.stm_store.specs.Cells.{Covers}
use Rattle.stm_pool.specs.declared.calls.Next.{Next}
use Rattle.stm_pool.specs.declared.calls.Next.TheVariants.{Stopped, Idle, Job}

-- a job that was found has its variables in the store that comes with it
abbrev pub CanBeEvaluated : Next → Type 0
CanBeEvaluated Stopped = Unit {0}
CanBeEvaluated Idle = Unit {0}
CanBeEvaluated (Job store job) = Covers store job.block.uses
