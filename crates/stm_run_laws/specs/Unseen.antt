-- No answer shows whether a checkpoint was made. The commands `history` and `events`, which speak of the events, and
-- `checkpoint` are left aside, and so is the room that a history has for events.
use Rattle.std.specs.Prelude.{◌≡◌, ◌⊎◌, ⊤, ℕ, ◌≤◌, Bool, true, false, List, [], ◌∷◌, ◌++◌, Option, Some, None, codes}
use Rattle.stm_events.specs.Labels.{label_of}
use Rattle.stm_terms.specs.Limits as limits
use Rattle.stm_events.specs.States.{observed}
use Rattle.stm_desk.specs.DeskView.{state_of, labels_of}
use Rattle.stm_desk.specs.Reasons.{reason_of}
use Rattle.stm_lines.specs.LineClass.{LineClass, TooLong, Silent, NotAscii, Words, line_class}
use Rattle.stm_commands.specs.Checkpointing.{are_tickets_full}
use Rattle.stm_commands.specs.Refusals.{refused}
use Rattle.stm_run.specs.declared.command.Command.{Command}
use Rattle.stm_run.specs.declared.command.Command.TheVariants.{History, Events, Checkpoint}
use Rattle.stm_run.specs.declared.console.Console.{Console}
use Rattle.stm_run.specs.Console.{command_named, answer_to, answers_to, state_after, initial_console}
use Rattle.stm_run.specs.ConsoleState.{present_desk, is_open, table_of, with_checkpoint}
use Rattle.stm_run.specs.AfterLines.{console_reached}
use Rattle.stm_run.specs.LineCheckpoints.{Turn, turn_lines, answers_by}

-- ---- consoles that look alike
-- Both desks are open on the same table, take as many events, have the same tickets queued and out and the same jobs, and the same is
-- observed of their states, whose blocks have the same labels and wait for the same, stale ones because of the same finish. Of the
-- histories and of the checkpoints that they begin from nothing is said.
pub record LookAlike (s s' : Console) : Type 0 where
  pub opened : is_open s ≡ true
  pub opened_too : is_open s' ≡ true
  pub table : table_of s ≡ table_of s'
  pub limit : (present_desk s).desk.limit ≡ (present_desk s').desk.limit
  pub pending : (present_desk s).desk.pending ≡ (present_desk s').desk.pending
  pub jobs : (present_desk s).jobs ≡ (present_desk s').jobs
  pub observed_is : observed (state_of (present_desk s).desk) ≡ observed (state_of (present_desk s').desk)
  pub labels : (t : ℕ) → label_of t (labels_of (present_desk s).desk) ≡ label_of t (labels_of (present_desk s').desk)
  pub reasons : (t : ℕ) → reason_of (present_desk s).desk t ≡ reason_of (present_desk s').desk t

-- ---- lines
-- the command speaks of the events, or makes a checkpoint
abbrev pub is_of_history : Command → Bool
is_of_history History = true
is_of_history Events = true
is_of_history Checkpoint = true
is_of_history command = false

-- the command of a word speaks of the events, or makes a checkpoint
abbrev pub word_is_of_history : Option Command → Bool
word_is_of_history (Some command) = is_of_history command
word_is_of_history None = false

-- a line speaks of the events, or makes a checkpoint, by its judgement
abbrev pub class_is_of_history : LineClass → Bool
class_is_of_history TooLong = false
class_is_of_history Silent = false
class_is_of_history NotAscii = false
class_is_of_history (Words word argument) = word_is_of_history (command_named word)

-- a line speaks of the events, or makes a checkpoint
abbrev pub line_is_of_history : List ℕ → Bool
line_is_of_history line = class_is_of_history (line_class line)

-- the answer says that the history has no room
abbrev pub SaysFull : List ℕ → Type 0
SaysFull answer = (answer ≡ refused (codes "HistoryFull")) ⊎ ((counts : List ℕ) × (answer ≡ codes "stopped HistoryFull " ++ counts))

-- no line is of the history, and no answer says that
abbrev pub HaveRoom : Console → List (List ℕ) → Type 0
HaveRoom s [] = ⊤
HaveRoom s (line ∷ rest) =
    (line_is_of_history line ≡ false) × ¬ SaysFull (answer_to s line) × HaveRoom (state_after s line) rest

-- ---- the laws
-- the answer to a line is the same, and the consoles after it look alike
pub record AnswersTheSame (s s' : Console) (line : List ℕ) : Type 0 where
  pub answer : answer_to s line ≡ answer_to s' line
  pub after : LookAlike (state_after s line) (state_after s' line)

-- the consoles answer the line alike, unless it is of the history or one of them has no room for its events
abbrev pub AnswerAlike : Console → Console → List ℕ → Type 0
AnswerAlike s s' line =
    line_is_of_history line ≡ false → ¬ SaysFull (answer_to s line) → ¬ SaysFull (answer_to s' line) → AnswersTheSame s s' line

-- the console looks like the one that it is after a checkpoint, unless that is refused
abbrev pub CheckpointIsUnseen : Console → Type 0
CheckpointIsUnseen s = is_open s ≡ true → are_tickets_full (present_desk s) ≡ false → LookAlike s (with_checkpoint s)

-- what holds whatever lines came before, with whatever checkpoints among them
pub record CheckpointsAreUnseenByCommands : Type 0 where
  -- a console looks like the one that it is after a checkpoint
  pub checkpoint :
      (max_events : ℕ) → max_events ≤ limits.max_events → (before : List (List ℕ)) → CheckpointIsUnseen (console_reached max_events before)
  -- consoles that look alike answer each line alike
  pub line :
      (max_events : ℕ) → max_events ≤ limits.max_events → (before before' : List (List ℕ)) (line : List ℕ)
      → LookAlike (console_reached max_events before) (console_reached max_events before')
      → AnswerAlike (console_reached max_events before) (console_reached max_events before') line
  -- so a run that makes checkpoints by itself, whichever of them can't be made, answers as one that makes none
  pub automatic :
      (max_events : ℕ) → max_events ≤ limits.max_events → (every : ℕ) (turns : List (Turn (Unit {0})))
      → HaveRoom (initial_console max_events) (turn_lines turns)
      → answers_by every (initial_console max_events) turns ≡ answers_to (initial_console max_events) (turn_lines turns)
