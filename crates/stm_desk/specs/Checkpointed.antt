-- The checkpoint of a desk, and the desk after it.
use Rattle.std.specs.Prelude.{◌≡◌, ℕ, [], map, length, Option, Some, None}
use Rattle.stm_events.specs.declared.kept_cause.KeptCause.{KeptCause}
use Rattle.stm_events.specs.Labels.{label_of}
use Rattle.stm_events.specs.States.{observed}
use Rattle.stm_machine.specs.declared.checkpoint.CheckpointError.{CheckpointError}
use Rattle.stm_machine.specs.Checkpoints.{CheckpointView, checkpoint_of, checkpoint_refused, with_causes, with_labels}
use Rattle.stm_desk.specs.DeskView.{DeskView, state_of, labels_of}
use Rattle.stm_desk.specs.Reasons.{Cause, WaitReason, NotEvaluated, IsStale, WasStale, Waits, CanFinish, reason_of}

-- a cause as a checkpoint keeps it: the values that were read it has with the block's last delivery
abbrev pub kept_cause : Cause → KeptCause
kept_cause c = record { finish = c.finish; left = map (λ x. (x.variable, x.left)) c.changes }

-- of a block that is stale the cause, if it is known
abbrev pub cause_kept : Option WaitReason → Option KeptCause
cause_kept None = None
cause_kept (Some NotEvaluated) = None
cause_kept (Some (IsStale c)) = Some (kept_cause c)
cause_kept (Some WasStale) = None
cause_kept (Some (Waits reads)) = None
cause_kept (Some CanFinish) = None

-- the causes of the stale blocks, by their tickets
unfoldable pub causes_of : DeskView → ℕ → Option KeptCause
causes_of d t = cause_kept (reason_of d t)

-- the checkpoint of the present state, whose blocks have their causes and labels
abbrev pub checkpoint_now : DeskView → CheckpointView
checkpoint_now d = with_causes (causes_of d) (with_labels (labels_of d) (checkpoint_of (state_of d)))

-- the desk after a checkpoint: its history is empty, and begins from the present state
abbrev pub checkpointed : DeskView → DeskView
checkpointed d = record d { checkpoint = Some (checkpoint_now d); history = [] }

-- why no checkpoint can be made, if none can: tickets could run out in a history from here
abbrev pub checkpoint_refusal : DeskView → Option CheckpointError
checkpoint_refusal d = checkpoint_refused (state_of d).next

-- the history begins from the present state, and had n events
pub record HasBegunFrom (old new : DeskView) (n : ℕ) : Type 0 where
  -- the old history had n events
  pub events : n ≡ length old.history
  -- the new one is empty, and begins from the checkpoint
  pub taken : new ≡ checkpointed old
  -- the same is observed of the state before and of the state after, so no later event or question tells them apart
  pub unseen : observed (state_of new) ≡ observed (state_of old)
  -- each block has the label that it had
  pub labels : (t : ℕ) → label_of t (labels_of new) ≡ label_of t (labels_of old)
  -- each block waits for what it waited for, for the same cause
  pub reasons : (t : ℕ) → reason_of new t ≡ reason_of old t

-- a checkpoint leaves each block what it waits for, and why
abbrev pub ReasonsStay : DeskView → Type 0
ReasonsStay d = (t : ℕ) → reason_of (checkpointed d) t ≡ reason_of d t
