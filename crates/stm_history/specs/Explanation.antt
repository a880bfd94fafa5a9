-- What is reported of the line at which a checker stopped: the line that would be accepted there for the same call, or why a desk
-- refuses the call.
use Rattle.std.specs.Prelude.{◌≡◌, ◌⊎◌, ℕ, ◌+◌, Bool, nat_le, if◌then◌else◌, List, [], ◌∷◌, ◌++◌, length, Option, Some, None, option_map, option_and_then, string_bytes, Result, Ok, Err}
use Rattle.std.specs.Str.{IsUtf8}
use Rattle.stm_terms.specs.declared.kinds.Ty.{Ty}
use Rattle.stm_terms.specs.declared.values.Value.{Value}
use Rattle.stm_terms.specs.declared.verdicts.Verdict.{Verdict}
use Rattle.stm_store.specs.Naming.{Named}
use Rattle.stm_check.specs.TypedBlock.{Block}
use Rattle.stm_events.specs.declared.errors.DeliverError.{DeliverError}
use Rattle.stm_events.specs.declared.errors.DeliverError.TheVariants.{Gone, Already, HistoryFull}
use Rattle.stm_events.specs.declared.event.Event.{Event}
use Rattle.stm_events.specs.declared.event.What.{What}
use Rattle.stm_events.specs.declared.event.What.TheVariants.{Submitted, Installed, Finished, Cancelled, Declared as DeclaredLate, Labelled}
use Rattle.stm_events.specs.Refusals.{submit_refused, cancel_refused, finish_refused, late_declare_refused, label_refused}
use Rattle.stm_events.specs.SlowDesk.{Waiter, Slow, Allows, find_waiter, is_current, stale_after, verdict_on, waking, without_waiter}
use Rattle.stm_terms.specs.Limits.{max_events}
use Rattle.stm_events.specs.States.{IsLegalFrom}
use Rattle.stm_machine.specs.Machine.{event}
use Rattle.stm_history.specs.declared.explanation.CallRefusal.{CallRefusal}
use Rattle.stm_history.specs.declared.explanation.CallRefusal.TheVariants.{Submission, Delivery, Finish, Cancellation, Declaration, Labelling}
use Rattle.stm_history.specs.declared.explanation.Explanation.{Explanation}
use Rattle.stm_history.specs.declared.explanation.Explanation.TheVariants.{Expected, Refused, Unreadable}
use Rattle.stm_history.specs.declared.explanation.Reason.{Reason}
use Rattle.stm_history.specs.declared.fault.HistoryFault.{HistoryFault}
use Rattle.stm_history.specs.declared.fault.Legal.{Legal}
use Rattle.stm_history.specs.Progress.{CheckerState, at_header, at_variables, at_cells, at_blocks, at_events, Forbids, LeadsTo, LinesUpTo, NoFeed, NoNext, strange}
use Rattle.stm_event_lines.specs.Fits.{FitsNames, FitsFormat}
use Rattle.stm_history.specs.Judgement.{IsHistory, IsIllegalFrom, IsShort, ReportsFault, next_line}
use Rattle.stm_history_text.specs.Starts.{Start, first_state, names_after, state_after_start}
use Rattle.stm_event_lines.specs.Lines.{event_line}
use Rattle.stm_event_lines.specs.ReadLines.{event_in_line}

-- ---- calls
-- What a client asks for: an event without what the desk adds, which is the ticket of a submission, the verdict of a delivery, and of a
-- finish the verdict, the first new number and the stale tickets.
pub data Call : Type 0 where
  submission : Block → Call
  delivery : ℕ → Call
  finish : ℕ → Call
  cancellation : ℕ → Call
  declaration : List ℕ → Ty → Value → Call
  labelling : ℕ → List ℕ → Call

-- the call of an event
abbrev pub call_of : What → Call
call_of (Submitted t b) = submission b
call_of (Installed t v) = delivery t
call_of (Finished t v n stale) = finish t
call_of (Cancelled t) = cancellation t
call_of (DeclaredLate name kind value) = declaration name kind value
call_of (Labelled t label) = labelling t label

-- the two are of one call
abbrev pub IsSameCall : What → What → Type 0
IsSameCall a b = call_of a ≡ call_of b

-- the verdict on the present store of the block that waits under a ticket
abbrev pub present_verdict : Slow → Option Waiter → Option Verdict
present_verdict s o = option_and_then (λ w. verdict_on s.store w.block) o

-- the finish of a ticket by this verdict, with the tickets that it makes stale
abbrev pub finish_with : Slow → ℕ → Verdict → What
finish_with s t v = Finished t v (length s.store) (stale_after (waking s.rule s.store v) (without_waiter t s.waiters))

-- what a call has to be on this state, if there is a verdict for it
abbrev pub expected_call : Slow → Call → Option What
expected_call s (submission b) = Some (Submitted s.next b)
expected_call s (delivery t) = option_map (Installed t) (present_verdict s (find_waiter t s.waiters))
expected_call s (finish t) = option_map (finish_with s t) (present_verdict s (find_waiter t s.waiters))
expected_call s (cancellation t) = Some (Cancelled t)
expected_call s (declaration name kind value) = Some (DeclaredLate name kind value)
expected_call s (labelling t label) = Some (Labelled t label)

-- what the call of an event has to be
abbrev pub expected_what : Slow → What → Option What
expected_what s a = expected_call s (call_of a)

-- the first that holds: no block waits under the ticket, it is current, the history is full. A delivery of what a block does on
-- the present store is never overtaken.
abbrev pub deliver_first : Bool → Option Waiter → Option DeliverError
deliver_first full None = Some Gone
deliver_first full (Some w) = if is_current w then Some Already else if full then Some HistoryFull else None

-- why nothing can be delivered to a ticket, if nothing can
abbrev pub deliver_refused : Slow → Bool → ℕ → Option DeliverError
deliver_refused s full t = deliver_first full (find_waiter t s.waiters)

-- why a desk refuses the call, if it does; `full` says that the history has no room for an event
abbrev pub refusal_of_call : Slow → Bool → Call → Option CallRefusal
refusal_of_call s full (submission b) = option_map Submission (submit_refused s full b)
refusal_of_call s full (delivery t) = option_map Delivery (deliver_refused s full t)
refusal_of_call s full (finish t) = option_map Finish (finish_refused s full t)
refusal_of_call s full (cancellation t) = option_map Cancellation (cancel_refused s full t)
refusal_of_call s full (declaration name kind value) = option_map Declaration (late_declare_refused s full name kind value)
refusal_of_call s full (labelling t label) = option_map Labelling (label_refused s full t)

-- why a desk refuses the call of an event
abbrev pub call_refusal : Slow → Bool → What → Option CallRefusal
call_refusal s full a = refusal_of_call s full (call_of a)

-- the history has no room for an event
abbrev pub is_history_full : List Event → Bool
is_history_full history = nat_le max_events (length history)

-- ---- explanations
-- the event can stand in a line of a history in the format
abbrev pub CanStand : ℕ → List Named → Event → Type 0
CanStand format names e = FitsNames names e × FitsFormat format e × IsShort (event_line e)

-- this is what the call of the event has to be after the history, and then it is legal
pub record IsCallDue (start : Start) (history : List Event) (e : Event) (what : What) : Type 0 where
  pub same : IsSameCall e.what what
  pub expected : expected_what (state_after_start start history) e.what ≡ Some what
  pub legal : IsLegalFrom (first_state start) (history ++ event e.client what ∷ [])

-- what is reported of a line that was read as this event: the line of what is due; why a desk refuses the call; nothing if what
-- is due has no line in the format
abbrev pub ExplainsEvent : Start → List Event → Event → Explanation → Type 0
ExplainsEvent start history e (Expected text) =
    (what : What) × IsCallDue start history e what × CanStand start.format (names_after start history) (event e.client what)
    × (string_bytes text ≡ event_line (event e.client what))
ExplainsEvent start history e (Refused r) = call_refusal (state_after_start start history) (is_history_full history) e.what ≡ Some r
ExplainsEvent start history e Unreadable =
    (what : What) × IsCallDue start history e what × (CanStand start.format (names_after start history) (event e.client what) → ⊥)

-- the line was read as this event: the one that its JSON stands for, however it is written; and the line of an event is read as that event
abbrev pub IsReadAs : List Named → List ℕ → Event → Type 0
IsReadAs names line e =
    FitsNames names e × ((d : Event) → FitsNames names d → event_line d ≡ line → d ≡ e) × (event_in_line names line ≡ Some e)

-- the line is of no event, and its JSON stands for none, if it is UTF-8
abbrev pub IsOfNoEvent : List Named → List ℕ → Type 0
IsOfNoEvent names line =
    ((d : Event) → FitsNames names d → event_line d ≡ line → ⊥) × (IsUtf8 line → event_in_line names line ≡ None)

-- what is reported of a line that wasn't read as an event: that it can't be read; and then it is the line of no event
abbrev pub IsUnread : List Named → List ℕ → Explanation → Type 0
IsUnread names line (Expected text) = ⊥
IsUnread names line (Refused r) = ⊥
IsUnread names line Unreadable = IsOfNoEvent names line

-- what is reported of a line before the events: some line that leads on from here; or that it can't be read, of which nothing more is said;
-- no desk refuses one
abbrev pub ExplainsHead : CheckerState → Explanation → Type 0
ExplainsHead p (Expected text) = ((q : CheckerState) × LeadsTo p (string_bytes text) q) × IsShort (string_bytes text)
ExplainsHead p (Refused r) = ⊥
ExplainsHead p Unreadable = Unit {0}

-- what is reported of the line that is not accepted here
abbrev pub Explains : CheckerState → List ℕ → Explanation → Type 0
Explains at_header line x = ExplainsHead at_header x
Explains (at_variables format n table) line x = ExplainsHead (at_variables format n table) x
Explains (at_cells format next vars waiting names cells) line x = ExplainsHead (at_cells format next vars waiting names cells) x
Explains (at_blocks format waiting c) line x = ExplainsHead (at_blocks format waiting c) x
Explains (at_events start history) line x =
    ((e : Event) × IsReadAs (names_after start history) line e × ExplainsEvent start history e x)
    ⊎ IsUnread (names_after start history) line x

-- the number of the line that comes next, the first line being number 1
abbrev pub line_after : CheckerState → ℕ
line_after at_header = 1
line_after (at_variables format n table) = length table + 2
line_after (at_cells format next vars waiting names cells) = length cells + 2
line_after (at_blocks format waiting c) = length c.store + length c.blocks + 2
line_after (at_events start history) = next_line start history

-- the rest is empty, or begins with a line feed
abbrev pub IsAfterLine : List ℕ → Type 0
IsAfterLine rest = (rest ≡ []) ⊎ ((more : List ℕ) × (rest ≡ 10 ∷ more))

-- Why the bytes are no legal history: whole lines of them were accepted, and the line after those is the first that has a fault.
pub record ReportsWhy (bytes : List ℕ) (f : HistoryFault) (number : ℕ) (x : Explanation) : Type 0 where
  -- the progress to which the whole lines before the line led
  pub progress : CheckerState
  -- those lines, the line, without its line feed, and the bytes after it
  pub accepted : List ℕ
  pub line : List ℕ
  pub rest : List ℕ
  -- all bytes are these
  pub text : bytes ≡ accepted ++ (line ++ rest)
  -- the lines before the line led to this progress
  pub lines : LinesUpTo progress accepted
  -- the line has no line feed in it, and ends with one or with the bytes
  pub one_line : NoFeed line
  pub ends : IsAfterLine rest
  -- no line that may stand there begins so, or it is the line of an event that can't follow; that is the fault
  pub fault : ((f ≡ strange progress) × NoNext progress (line ++ rest)) ⊎ Forbids progress line f
  -- it is the line of this number
  pub counted : number ≡ line_after progress
  -- this is what is reported of it
  pub why : Explains progress line x

-- What is judged of bytes: they are the text of a legal history, and the numbers are its own; otherwise the first fault is reported, and what is
-- reported of its line is right.
abbrev pub JudgesWithReason : List ℕ → Result Legal Reason → Type 0
JudgesWithReason bytes (Ok n) = IsHistory bytes n
JudgesWithReason bytes (Err r) = ReportsFault r.fault bytes × ReportsWhy bytes r.fault r.line r.explanation

-- ---- laws
-- two allowed events of the same call are equal, and the allowed one is what is expected
abbrev pub OneEventOfACall : Type 0
OneEventOfACall =
    (s : Slow) (a b : What) → Allows s b → IsSameCall a b → (expected_what s a ≡ Some b) × (Allows s a → a ≡ b)

-- a call that a desk refuses is no event that may follow
abbrev pub RefusedAreIllegal : Type 0
RefusedAreIllegal =
    (start : Start) (history : List Event) (client : ℕ) (a b : What) (r : CallRefusal) →
    call_refusal (state_after_start start history) (is_history_full history) a ≡ Some r → IsSameCall a b →
    IsIllegalFrom start history (event client b)

-- the line is expected
abbrev pub IsExpectedText : Explanation → List ℕ → Type 0
IsExpectedText (Expected s) text = string_bytes s ≡ text
IsExpectedText (Refused r) text = ⊥
IsExpectedText Unreadable text = ⊥

-- with the line that is expected, the bytes up to it are the beginning of a legal history
abbrev pub ExpectedLeadsOn : Type 0
ExpectedLeadsOn =
    (p : CheckerState) (line text : List ℕ) (x : Explanation) → Explains p line x → IsExpectedText x text →
    (accepted : List ℕ) → LinesUpTo p accepted → (q : CheckerState) × LinesUpTo q (accepted ++ (text ++ 10 ∷ []))
