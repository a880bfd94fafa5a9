-- What the code's replies are to the definitions.
use Rattle.std.specs.Prelude.{◌≡◌, ℕ, Bool, true, false, not, List, [], ◌++◌, IfOk, Result, String, string_bytes}
use Rattle.std.specs.Global.{Global}
use Rattle.stm_run.specs.declared.command.Command.{Command}
use Rattle.stm_run.specs.declared.command.Command.TheVariants.{Tvar, Try, Looks, Show, Reads, Store, History, Ready, Why, Events, Checkpoint, Block, Board}
use Rattle.stm_run.specs.declared.console.Console.{Console}
use Rattle.stm_run.specs.declared.console.Console.TheVariants.{Declaring, Open}
use Rattle.stm_run.specs.Console.{answer_to, state_after, step}
use Rattle.stm_run.specs.ConsoleState.{present_desk, is_open, events_of}
use Rattle.stm_run.specs.LineCheckpoints.{asked_checkpoint_step, line_checkpoints}
use Rattle.stm_run.specs.declared.reply.Reply.{Reply}
use Rattle.stm_run.specs.declared.reply.Reply.TheVariants as reply
use Rattle.stm_commands.specs.Checkpointing.{are_tickets_full}
use Rattle.stm_commands.specs.OpenDesk.{Steps}
use Rattle.stm_commands.specs.Questions.{later_events_text}
use Rattle.stm_commands.specs.Contents.{events_text}

-- a command that leaves the open desk as it is, and whose answer is appended
abbrev pub is_question : Command → Bool
is_question Tvar = true
is_question Try = true
is_question Looks = true
is_question Show = true
is_question Reads = true
is_question Store = true
is_question Ready = true
is_question Why = true
is_question Block = true
is_question Board = true
is_question command = false

-- a command that may change the open desk, and whose answer is appended
abbrev pub is_change : Command → Bool
is_change Checkpoint = false
is_change History = false
is_change Events = false
is_change command = not (is_question command)

-- the text of the history, once the desk is open
abbrev pub history_of : Console → List ℕ
history_of (Open d) = events_text d
history_of (Declaring table limit) = []

-- the events from the n-th on and how many there are, once the desk is open
abbrev pub later_events_of : Console → ℕ → List ℕ
later_events_of (Open d) n = later_events_text d n
later_events_of (Declaring table limit) n = []

-- The answer was appended to the text; or it is the history, or a part of it, which is to be written. If a checkpoint is to be made,
-- the answer is not known yet, and nothing was appended.
abbrev pub IsReply : Reply → List ℕ → List ℕ → Console → List ℕ → Type 0
IsReply reply.Text old new c answer = new ≡ old ++ answer
IsReply reply.History old new c answer = (new ≡ old) × (answer ≡ history_of c)
IsReply (reply.Events n) old new c answer = (new ≡ old) × (answer ≡ later_events_of c n)
IsReply reply.Checkpoint old new c answer = new ≡ old

-- what a reply is to write, by the console after the step and what was appended to an empty text
abbrev pub reply_text : Reply → Console → List ℕ → List ℕ
reply_text reply.Text c appended = appended
reply_text reply.History c appended = history_of c
reply_text (reply.Events n) c appended = later_events_of c n
reply_text reply.Checkpoint c appended = appended

-- This is the console after a step; or if a checkpoint is to be made, the open desk before it.
abbrev pub IsAfterReply : Reply → Console → Console × List ℕ → Type 0
IsAfterReply reply.Text c s = c ≡ s.0
IsAfterReply reply.History c s = c ≡ s.0
IsAfterReply (reply.Events n) c s = c ≡ s.0
IsAfterReply reply.Checkpoint c s = (is_open c ≡ true) × (s ≡ asked_checkpoint_step c)

-- this is the console, and the reply is what the step writes
abbrev pub IsStep : Reply → List ℕ → List ℕ → Console → Console × List ℕ → Type 0
IsStep r old new c s = IsAfterReply r c s × IsReply r old new c s.1

-- ---- what came of a line
-- The answer to a line, which only prints something, is still to be written.
pub record IsToWrite (answer : List ℕ) (earlier : Console) (line : List ℕ) (later : Console) (old new : List ℕ) : Type 0 where
  -- the line has done its step
  pub console : later ≡ state_after earlier line
  pub answer_is : answer_to earlier line ≡ answer
  -- it adds no event, and makes no checkpoint
  pub events : events_of later ≡ events_of earlier
  pub no_checkpoint : line_checkpoints earlier line ≡ false
  -- nothing was appended
  pub appended : new ≡ old

-- A checkpoint is still to be made, unless tickets could run out after it; with it the line has done its step.
pub record IsToCheckpoint (earlier : Console) (line : List ℕ) (later : Console) (old new : List ℕ) : Type 0 where
  -- the desk is open, and otherwise as before
  pub opened : later ≡ Open (present_desk earlier)
  pub step_is : step earlier line ≡ asked_checkpoint_step earlier
  -- whether the line makes a checkpoint
  pub made : line_checkpoints earlier line ≡ not (are_tickets_full (present_desk earlier))
  -- nothing was appended
  pub appended : new ≡ old

-- What came of a line, by the reply: the answer was appended to the text, or this is still to be done for it. The console is the
-- earlier one before the line, and the later one after it; the text is the old one before it, and the new one after it.
abbrev pub Replies : Reply → Console → List ℕ → Console → List ℕ → List ℕ → Type 0
-- the line has done its step and its answer was appended; it makes no checkpoint
Replies reply.Text earlier line later old new = Steps later old new (step earlier line) × (line_checkpoints earlier line ≡ false)
-- the answer is the history
Replies reply.History earlier line later old new = IsToWrite (history_of later) earlier line later old new
-- the answer is the events from the n-th on, and how many there are
Replies (reply.Events n) earlier line later old new = IsToWrite (later_events_of later n) earlier line later old new
-- the line asks for a checkpoint
Replies reply.Checkpoint earlier line later old new = IsToCheckpoint earlier line later old new

-- what came of a line, unless memory ran out: the text is that of the string before the call and after it
abbrev pub RepliesTo : {E : Type 0} → Result Reply E → Console → List ℕ → Console → String Global → String Global → Type 0
RepliesTo result earlier line later old new = IfOk result (λ r. Replies r earlier line later (string_bytes old) (string_bytes new))
