-- What the console writes for an input: it takes a step for each line.
use Rattle.std.specs.Prelude.{ℕ, List, [], ◌∷◌, ◌++◌, Option, Some, None, codes, if◌then◌else◌}
use Rattle.std.specs.Str.{bytes_eq}
use Rattle.stm_lines.specs.LineClass.{LineClass, TooLong, Silent, NotAscii, Words, line_class}
use Rattle.stm_lines.specs.Lines.{lines_of, whole_lines_of}
use Rattle.stm_commands.specs.Atomically.{atomically_step}
use Rattle.stm_commands.specs.Blocks.{try_answer, looks_answer, submit_step}
use Rattle.stm_commands.specs.Checkpointing.{checkpoint_step}
use Rattle.stm_commands.specs.Contents.{show_answer, reads_answer, store_answer, history_answer}
use Rattle.stm_commands.specs.Declaring.{declare_step}
use Rattle.stm_commands.specs.Endings.{finish_step, cancel_step, settle_step, drain_step}
use Rattle.stm_commands.specs.Evaluation.{eval_step}
use Rattle.stm_commands.specs.Jobs.{take_step, deliver_step, handback_step}
use Rattle.stm_commands.specs.Labelling.{label_step, block_answer, board_answer}
use Rattle.stm_commands.specs.OpenDesk.{OpenDesk}
use Rattle.stm_commands.specs.Questions.{ready_answer, why_answer, events_answer}
use Rattle.stm_commands.specs.Refusals.{refused}
use Rattle.stm_run.specs.declared.command.Command.{Command}
use Rattle.stm_run.specs.declared.command.Command.TheVariants.{Tvar, Declare, Try, Looks, Submit, Atomically, Take, Deliver, Handback, Eval, Finish, Cancel, Show, Reads, Store, Settle, Drain, History, Ready, Why, Events, Checkpoint, Label, Block, Board}
use Rattle.stm_run.specs.declared.console.Console.{Console}
use Rattle.stm_run.specs.declared.console.Console.TheVariants.{Declaring, Open}
use Rattle.stm_run.specs.ConsoleState.{present_desk}
use Rattle.stm_run.specs.Declaring.{tvar_step}

-- the commands by their words
abbrev pub command_words : List (List ℕ × Command)
command_words =
    (codes "tvar", Tvar) ∷ (codes "declare", Declare) ∷ (codes "try", Try) ∷ (codes "looks", Looks) ∷ (codes "show", Show)
    ∷ (codes "reads", Reads) ∷ (codes "store", Store) ∷ (codes "history", History) ∷ (codes "ready", Ready) ∷ (codes "why", Why)
    ∷ (codes "events", Events) ∷ (codes "submit", Submit) ∷ (codes "atomically", Atomically) ∷ (codes "take", Take)
    ∷ (codes "deliver", Deliver) ∷ (codes "handback", Handback) ∷ (codes "eval", Eval) ∷ (codes "finish", Finish) ∷ (codes "cancel", Cancel)
    ∷ (codes "settle", Settle) ∷ (codes "drain", Drain) ∷ (codes "checkpoint", Checkpoint)
    ∷ (codes "label", Label) ∷ (codes "block", Block) ∷ (codes "board", Board) ∷ []

-- the command of a word, by some commands with their words
abbrev pub command_in : List (List ℕ × Command) → List ℕ → Option Command
command_in [] word = None
command_in (c ∷ cs) word = if bytes_eq word c.0 then Some c.1 else command_in cs word

-- the command of a word
unfoldable pub command_named : List ℕ → Option Command
command_named word = command_in command_words word

-- what a command does on an open desk, and what it prints; no `tvar` is taken there
abbrev pub desk_step : OpenDesk → Command → List ℕ → OpenDesk × List ℕ
desk_step d Tvar argument = (d, refused (codes "Late"))
desk_step d Declare argument = declare_step d argument
desk_step d Try argument = (d, try_answer d argument)
desk_step d Looks argument = (d, looks_answer d argument)
desk_step d Submit argument = submit_step d argument
desk_step d Atomically argument = atomically_step d argument
desk_step d Take argument = take_step d argument
desk_step d Deliver argument = deliver_step d argument
desk_step d Handback argument = handback_step d argument
desk_step d Eval argument = eval_step d argument
desk_step d Finish argument = finish_step d argument
desk_step d Cancel argument = cancel_step d argument
desk_step d Show argument = (d, show_answer d argument)
desk_step d Reads argument = (d, reads_answer d argument)
desk_step d Store argument = (d, store_answer d argument)
desk_step d Settle argument = settle_step d argument
desk_step d Drain argument = drain_step d argument
desk_step d History argument = (d, history_answer d argument)
desk_step d Ready argument = (d, ready_answer d argument)
desk_step d Why argument = (d, why_answer d argument)
desk_step d Events argument = (d, events_answer d argument)
desk_step d Checkpoint argument = checkpoint_step d argument
desk_step d Label argument = label_step d argument
desk_step d Block argument = (d, block_answer d argument)
desk_step d Board argument = (d, board_answer d argument)

-- a step of the desk, as one of the console: it is open from then on
abbrev pub on_console : OpenDesk × List ℕ → Console × List ℕ
on_console p = (Open p.0, p.1)

-- the first line with a known word other than `tvar` opens the desk, also if the command is then refused
abbrev pub command_step : Console → Command → List ℕ → Console × List ℕ
command_step s Tvar argument = tvar_step s argument
command_step s command argument = on_console (desk_step (present_desk s) command argument)

-- an unknown word is refused
abbrev pub word_step : Console → Option Command → List ℕ → Console × List ℕ
word_step s (Some command) argument = command_step s command argument
word_step s None argument = (s, refused (codes "Command"))

-- what a line does, by its judgement
abbrev pub class_step : Console → LineClass → Console × List ℕ
class_step s TooLong = (s, refused (codes "LineTooLong"))
class_step s Silent = (s, [])
class_step s NotAscii = (s, refused (codes "NotAscii"))
class_step s (Words word argument) = word_step s (command_named word) argument

-- what the console knows after a line, and what is written for it
unfoldable pub step : Console → List ℕ → Console × List ℕ
step s line = class_step s (line_class line)

-- what is written for a line
abbrev pub answer_to : Console → List ℕ → List ℕ
answer_to s line = (step s line).1

-- what the console knows after it
abbrev pub state_after : Console → List ℕ → Console
state_after s line = (step s line).0

-- what is written for lines, one after another
abbrev pub answers_to : Console → List (List ℕ) → List ℕ
answers_to s [] = []
answers_to s (line ∷ rest) = answer_to s line ++ answers_to (state_after s line) rest

-- before the first line no variable is declared and the desk isn't open; its history will hold `max_events` events
unfoldable pub initial_console : ℕ → Console
initial_console max_events = Declaring [] max_events

-- what the console writes for an input, with a desk that takes `max_events` events
unfoldable pub console_text : ℕ → List ℕ → List ℕ
console_text max_events input = answers_to (initial_console max_events) (lines_of input)

-- what the console writes for those lines of an input that a line feed ends
unfoldable pub whole_lines_text : ℕ → List ℕ → List ℕ
whole_lines_text max_events input = answers_to (initial_console max_events) (whole_lines_of input)
