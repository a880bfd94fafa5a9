-- What is left of an action once its first part has ended, in a frame of its own.
use Rattle.std.specs.Prelude.{◌≡◌, List, [], ◌∷◌, ◌++◌, drop}
use Rattle.stm_terms.specs.declared.values.Value.{Value}
use Rattle.stm_terms.specs.declared.values.Value.TheVariants.{Int}
use Rattle.stm_terms.specs.declared.values.Fault.TheVariants.{Thrown, Overflow}
use Rattle.stm_terms.specs.Ast.{Act, act_of}
use Rattle.stm_log.specs.LogModel.{Logged}
use Rattle.stm_eval.specs.declared.outcome.Outcome.{Outcome}
use Rattle.stm_eval.specs.declared.outcome.Outcome.TheVariants.{Returned, Threw, Retried}
use Rattle.stm_eval.specs.declared.outcome.Step.{Step}
use Rattle.stm_eval.specs.declared.outcome.Step.TheVariants.{On, Ended}

-- the top frame replaces the one below it
abbrev pub IsFrameKept : Logged → Logged → Type 0
IsFrameKept old new = new ≡ record old { below = drop 1 old.below }

-- the top frame is gone, and what was read stays
abbrev pub IsFrameDiscarded : Logged → Logged → Type 0
IsFrameDiscarded old new = (old.below ≡ new.top ∷ new.below) × (new.reads ≡ old.reads)

-- this action is left to be run
abbrev pub GoesOn : Act → Step → Type 0
GoesOn a (On rest) = act_of rest.now ≡ a
GoesOn a (Ended e) = ⊥

-- how an `orElse` whose left branch ended so goes on, with this right branch
abbrev pub AfterLeft : Outcome → Act → Logged → Step → Logged → Type 0
AfterLeft (Returned v) right old s new = (s ≡ Ended (Returned v)) × IsFrameKept old new
AfterLeft (Threw f) right old s new = (s ≡ Ended (Threw f)) × IsFrameDiscarded old new
AfterLeft Retried right old s new = GoesOn right s × IsFrameDiscarded old new

-- how a `catch` whose action ended so goes on, with this handler, from these locals to those
abbrev pub AfterAction : Outcome → Act → List Value → Logged → Step → List Value → Logged → Type 0
AfterAction (Returned v) handler locals old s after new =
    (s ≡ Ended (Returned v)) × (after ≡ locals) × IsFrameKept old new
AfterAction (Threw (Thrown n)) handler locals old s after new =
    GoesOn handler s × (after ≡ locals ++ Int n ∷ []) × IsFrameDiscarded old new
AfterAction (Threw Overflow) handler locals old s after new =
    (s ≡ Ended (Threw Overflow)) × (after ≡ locals) × IsFrameDiscarded old new
AfterAction Retried handler locals old s after new =
    (s ≡ Ended Retried) × (after ≡ locals) × IsFrameDiscarded old new
