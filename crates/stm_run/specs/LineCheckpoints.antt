-- Which lines make a checkpoint, the checkpoints that a run makes by itself after a line, and those that can't be made.
use Rattle.std.specs.Prelude.{◌≡◌, ℕ, Bool, true, false, not, nat_lt, if◌then◌else◌, List, [], ◌∷◌, ◌++◌, length, Option, Some, None, codes}
use Rattle.stm_lines.specs.LineClass.{LineClass, TooLong, Silent, NotAscii, Words, line_class}
use Rattle.stm_commands.specs.Checkpointing.{are_tickets_full, bare_checkpoint_step, makes_checkpoint, checkpoint_if}
use Rattle.stm_commands.specs.OpenDesk.{OpenDesk}
use Rattle.stm_commands.specs.Refusals.{refused}
use Rattle.stm_run.specs.declared.command.Command.{Command}
use Rattle.stm_run.specs.declared.command.Command.TheVariants.{Checkpoint}
use Rattle.stm_run.specs.declared.console.Console.{Console}
use Rattle.stm_run.specs.declared.console.Console.TheVariants.{Declaring, Open}
use Rattle.stm_run.specs.declared.reply.Reply.{Reply}
use Rattle.stm_run.specs.declared.reply.Reply.TheVariants as reply
use Rattle.stm_run.specs.Console.{command_named, on_console, step, answer_to, state_after}
use Rattle.stm_run.specs.ConsoleState.{present_desk, events_of}

-- ---- lines
-- whether a command makes a checkpoint: `checkpoint` does, unless it is refused
abbrev pub command_checkpoints : Console → Command → List ℕ → Bool
command_checkpoints s Checkpoint argument = makes_checkpoint (present_desk s) argument
command_checkpoints s command argument = false

-- whether the command of a word makes a checkpoint
abbrev pub word_checkpoints : Console → Option Command → List ℕ → Bool
word_checkpoints s (Some command) argument = command_checkpoints s command argument
word_checkpoints s None argument = false

-- whether a line makes a checkpoint, by its judgement
abbrev pub class_checkpoints : Console → LineClass → Bool
class_checkpoints s TooLong = false
class_checkpoints s Silent = false
class_checkpoints s NotAscii = false
class_checkpoints s (Words word argument) = word_checkpoints s (command_named word) argument

-- whether a line makes a checkpoint
unfoldable pub line_checkpoints : Console → List ℕ → Bool
line_checkpoints s line = class_checkpoints s (line_class line)

-- whether a reply says that a checkpoint is to be made
abbrev pub asks_checkpoint : Reply → Bool
asks_checkpoint reply.Checkpoint = true
asks_checkpoint reply.Text = false
asks_checkpoint reply.History = false
asks_checkpoint (reply.Events n) = false

-- whether a checkpoint is made then, on this desk
abbrev pub reply_checkpoints : OpenDesk → Reply → Bool
reply_checkpoints d reply.Checkpoint = not (are_tickets_full d)
reply_checkpoints d reply.Text = false
reply_checkpoints d reply.History = false
reply_checkpoints d (reply.Events n) = false

-- whether a reply is still to be written, from the events
abbrev pub is_streamed : Reply → Bool
is_streamed reply.Text = false
is_streamed reply.History = true
is_streamed (reply.Events n) = true
is_streamed reply.Checkpoint = false

-- the step of a checkpoint that the open desk was asked for: it is made, or refused if tickets could run out after it
abbrev pub asked_checkpoint_step : Console → Console × List ℕ
asked_checkpoint_step s = on_console (bare_checkpoint_step (present_desk s))

-- ---- checkpoints without a command
-- a checkpoint is made if the desk is open, its history has this many events, and tickets can't run out
abbrev pub auto_checkpoint : ℕ → Console → Console
auto_checkpoint every (Declaring table limit) = Declaring table limit
auto_checkpoint every (Open d) = Open (checkpoint_if every d)

-- such a checkpoint is made after a line that adds an event: the earlier console is the one before the line
abbrev pub auto_step : ℕ → Console → Console → Console
auto_step every earlier later =
    if nat_lt (length (events_of earlier)) (length (events_of later)) then auto_checkpoint every later else later

-- ---- checkpoints that can't be made
-- a line, and why the checkpoint can't be made that it would make, by its command or after it, if that is so
pub record Turn (Cause : Type 0) : Type 0 where
  pub line : List ℕ
  pub refused : Option Cause

abbrev pub turn_of : {Cause : Type 0} → List ℕ → Option Cause → Turn Cause
turn_of line refused = record { line = line; refused = refused }

-- a line whose checkpoint can be made
abbrev pub made_turn : {Cause : Type 0} → List ℕ → Turn Cause
made_turn line = turn_of line None

-- the lines
abbrev pub turn_lines : {Cause : Type 0} → List (Turn Cause) → List (List ℕ)
turn_lines [] = []
turn_lines (turn ∷ turns) = turn.line ∷ turn_lines turns

-- What a line does whose checkpoint can't be made: the command is refused on the open desk, and no checkpoint comes after the line.
abbrev pub refused_step : Console → List ℕ → Console × List ℕ
refused_step s line = if line_checkpoints s line then (Open (present_desk s), refused (codes "NoCheckpoint")) else step s line

-- what a line does whose checkpoint can be made
abbrev pub made_step : ℕ → Console → List ℕ → Console × List ℕ
made_step every s line = (auto_step every s (state_after s line), answer_to s line)

-- what a line does, by whether its checkpoint can be made
abbrev pub line_step : {Cause : Type 0} → ℕ → Console → List ℕ → Option Cause → Console × List ℕ
line_step every s line None = made_step every s line
line_step every s line (Some cause) = refused_step s line

-- the console after it
abbrev pub state_after_turn : {Cause : Type 0} → ℕ → Console → Turn Cause → Console
state_after_turn every s turn = (line_step every s turn.line turn.refused).0

-- what is written for it
abbrev pub answer_by : {Cause : Type 0} → ℕ → Console → Turn Cause → List ℕ
answer_by every s turn = (line_step every s turn.line turn.refused).1

-- the console after some lines, with these checkpoints
abbrev pub states_after : {Cause : Type 0} → ℕ → Console → List (Turn Cause) → Console
states_after every s [] = s
states_after every s (turn ∷ rest) = states_after every (state_after_turn every s turn) rest

-- what is written for them
abbrev pub answers_by : {Cause : Type 0} → ℕ → Console → List (Turn Cause) → List ℕ
answers_by every s [] = []
answers_by every s (turn ∷ rest) = answer_by every s turn ++ answers_by every (state_after_turn every s turn) rest

-- this holds of the lines, if for some of them the checkpoint can't be made
abbrev pub ForTurns : (Cause : Type 0) → List (List ℕ) → (List (Turn Cause) → Type 0) → Type 0
ForTurns Cause lines P = (turns : List (Turn Cause)) × (turn_lines turns ≡ lines) × P turns
