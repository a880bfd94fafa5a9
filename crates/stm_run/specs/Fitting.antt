-- Of which texts the events of a console's desk and its checkpoint are. Their numbers and the declared variables can be in lines of a
-- history.
use Rattle.std.specs.Prelude.{◌≡◌, ◌≤◌, ℕ, List, [], ◌∷◌, length, IfSome, IsTrue, Ok, ⊤}
use Rattle.stm_terms.specs.declared.values.Ref.TheVariants.{Old, New}
use Rattle.stm_terms.specs.declared.values.Value.{Value}
use Rattle.stm_terms.specs.declared.values.Value.TheVariants as value
use Rattle.stm_terms.specs.Limits.{most_refs}
use Rattle.stm_store.specs.Naming.{Named}
use Rattle.stm_store.specs.Tables.{Declared}
use Rattle.stm_events.specs.declared.event.Event.{Event}
use Rattle.stm_events.specs.declared.event.What.{What}
use Rattle.stm_events.specs.declared.event.What.TheVariants.{Submitted, Installed, Finished, Cancelled, Declared as DeclaredLate, Labelled}
use Rattle.stm_events.specs.Labels.{is_label}
use Rattle.stm_events.specs.SlowDesk as slow
use Rattle.stm_terms.specs.Limits as limits
use Rattle.stm_event_lines.specs.Fits.{Is32Bit, FitNumbers, FitsVerdict}
use Rattle.stm_history.specs.Judgement.{AreVariables}
use Rattle.stm_history_text.specs.Starts.{BlocksAreOfText}
use Rattle.stm_source.specs.CompiledBlock.{compiled_block}
use Rattle.stm_desk.specs.DeskView.{DeskView, start_state, state_of}
use Rattle.stm_source.specs.DeclaredVariable.{late_variable_of}
use Rattle.stm_run.specs.Console.{state_after}
use Rattle.stm_run.specs.ConsoleState.{present_desk, table_of, checkpoint_of_console, with_checkpoint}
use Rattle.stm_run.specs.declared.console.Console.{Console}
use Rattle.stm_run.specs.AfterLines.{console_reached, state_after_lines}

-- ---- what they are of
-- over the names, a block that is submitted is what its text checks to, and a variable is the one that some text declares; and a block
-- gets only a label
abbrev pub IsOfText : List Named → What → Type 0
IsOfText known (Submitted ticket block) = compiled_block known block.text ≡ Ok block
IsOfText known (Installed ticket v) = ⊤
IsOfText known (Finished ticket v first_new stale) = ⊤
IsOfText known (Cancelled ticket) = ⊤
IsOfText known (DeclaredLate name kind value) =
    (text : List ℕ) × (late_variable_of known text ≡ Ok (record { name = name; kind = kind; value = value }))
IsOfText known (Labelled ticket label) = IsTrue (is_label label)

-- each event, from a state on, is of client 0, and of a text over the names of the state before it
abbrev pub AreOfTexts : slow.Slow → List Event → Type 0
AreOfTexts s [] = ⊤
AreOfTexts s (e ∷ es) = (e.client ≡ 0) × IsOfText s.names e.what × AreOfTexts (slow.after s e.what) es

-- What a desk has is of texts.
pub record IsOfTexts (d : DeskView) : Type 0 where
  -- each of its events since its last checkpoint is of client 0, and of a text
  pub events : AreOfTexts (start_state d) d.history
  -- each waiting block of that checkpoint is what its text checks to
  pub blocks : IfSome d.checkpoint BlocksAreOfText

-- what the desk has is of texts, whatever lines came before, and however many events the history may have
abbrev pub EventsAreOfConsole : Type 0
EventsAreOfConsole =
    (max_events : ℕ) (before : List (List ℕ))
    → IsOfTexts (present_desk (console_reached max_events before)).desk

-- each waiting block is what its text checks to over the names
abbrev pub AreOfTheirTexts : List Named → List slow.Waiter → Type 0
AreOfTheirTexts known [] = ⊤
AreOfTheirTexts known (w ∷ ws) = (compiled_block known w.block.text ≡ Ok w.block) × AreOfTheirTexts known ws

-- so is each that waits in a state, over its names
abbrev pub WaitersAreOfText : slow.Slow → Type 0
WaitersAreOfText s = AreOfTheirTexts s.names s.waiters

-- so is each that waits on the desk of a console
abbrev pub WaitAsTheirTexts : Console → Type 0
WaitAsTheirTexts s = WaitersAreOfText (state_of (present_desk s).desk)

-- and stays so, whatever line comes; so a checkpoint that is made then has blocks of their texts
pub record WaitingStayOfText : Type 0 where
  pub line : (s : Console) (line : List ℕ) → WaitAsTheirTexts s → WaitAsTheirTexts (state_after s line)
  pub checkpoint : (s : Console) → WaitAsTheirTexts s → IfSome (checkpoint_of_console (with_checkpoint s)) BlocksAreOfText

-- ---- their numbers
-- the number of a reference has at most 32 bits
abbrev pub IsReferenceSmall : Value → Type 0
IsReferenceSmall (value.Int n) = ⊤
IsReferenceSmall (value.Bool b) = ⊤
IsReferenceSmall value.Unit = ⊤
IsReferenceSmall (value.Var (Old i)) = Is32Bit i
IsReferenceSmall (value.Var (New k)) = Is32Bit k

-- the ticket, the first new variable and the stale tickets have at most 32 bits; so has a first value that is a reference, and its type
-- at most 8 `TVar`
abbrev pub AreNumbersSmall : What → Type 0
AreNumbersSmall (Submitted ticket block) = Is32Bit ticket
AreNumbersSmall (Installed ticket v) = Is32Bit ticket
AreNumbersSmall (Finished ticket v first_new stale) = Is32Bit ticket × Is32Bit first_new × FitNumbers stale
AreNumbersSmall (Cancelled ticket) = Is32Bit ticket
AreNumbersSmall (DeclaredLate name kind value) = (kind.refs ≤ most_refs) × IsReferenceSmall value
AreNumbersSmall (Labelled ticket label) = Is32Bit ticket

-- so of each event
abbrev pub HaveSmallNumbers : List Event → Type 0
HaveSmallNumbers [] = ⊤
HaveSmallNumbers (e ∷ es) = AreNumbersSmall e.what × HaveSmallNumbers es

-- the numbers of each event since the last checkpoint are small, whatever lines came before
abbrev pub NumbersAreSmall : Type 0
NumbersAreSmall =
    (max_events : ℕ) → max_events ≤ limits.max_events → (before : List (List ℕ))
    → HaveSmallNumbers (present_desk (console_reached max_events before)).desk.history

-- ---- their values
-- the numbers and values of each verdict are in range
abbrev pub IsVerdictInRange : What → Type 0
IsVerdictInRange (Submitted ticket block) = ⊤
IsVerdictInRange (Installed ticket v) = FitsVerdict v
IsVerdictInRange (Finished ticket v first_new stale) = FitsVerdict v
IsVerdictInRange (Cancelled ticket) = ⊤
IsVerdictInRange (DeclaredLate name kind value) = ⊤
IsVerdictInRange (Labelled ticket label) = ⊤

-- so of each event
abbrev pub AreVerdictsInRange : List Event → Type 0
AreVerdictsInRange [] = ⊤
AreVerdictsInRange (e ∷ es) = IsVerdictInRange e.what × AreVerdictsInRange es

-- ---- the declared variables
-- they may be declared in this order, can be in lines, and are no more than a table has
abbrev pub VariablesFit : List Declared → Type 0
VariablesFit table = (length table ≤ slow.max_cells) × AreVariables table

-- so it is of the desk's variables, whatever lines came before
abbrev pub VariablesFitLines : Type 0
VariablesFitLines =
    (max_events : ℕ) (before : List (List ℕ))
    → VariablesFit (present_desk (console_reached max_events before)).desk.table

-- and it stays so, whatever lines come
abbrev pub VariablesStayFit : Type 0
VariablesStayFit =
    (s : Console) (lines : List (List ℕ)) → VariablesFit (table_of s) → VariablesFit (table_of (state_after_lines s lines))
