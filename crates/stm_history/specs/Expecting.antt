-- What a machine expects in place of an event.
use Rattle.std.specs.Prelude.{◌≡◌, ℕ, Bool, false, List, Some, Ok, IsTrue, string_bytes}
use Rattle.stm_terms.specs.Names.{is_name_text}
use Rattle.stm_store.specs.Naming.{Named}
use Rattle.stm_events.specs.declared.event.Event.{Event}
use Rattle.stm_events.specs.declared.event.What.{What}
use Rattle.stm_events.specs.declared.event.What.TheVariants.{Submitted, Installed, Finished, Cancelled, Declared as DeclaredLate, Labelled}
use Rattle.stm_events.specs.Labels.{is_label}
use Rattle.stm_events.specs.SlowDesk.{Slow, Allows}
use Rattle.stm_history.specs.declared.expecting.Expectation.{Expectation}
use Rattle.stm_history.specs.declared.expecting.Expectation.TheVariants.{Due, Refuses}
use Rattle.stm_history.specs.declared.explanation.Explanation.{Explanation}
use Rattle.stm_history.specs.declared.explanation.Explanation.TheVariants.{Expected, Refused, Unreadable}
use Rattle.stm_history.specs.Explanation.{CanStand, IsCallDue, IsSameCall, is_history_full, call_refusal}
use Rattle.stm_history.specs.Judgement.{IsShort}
use Rattle.stm_history_text.specs.Starts.{Start, state_after_start}
use Rattle.stm_event_lines.specs.Lines.{event_line}
use Rattle.stm_source.specs.CompiledBlock.{compiled_block}

-- on a state and with a history that is full or not: the same call as it has to be, which is allowed, or why a desk refuses it
abbrev pub IsDueOn : Slow → Bool → What → Expectation → Type 0
IsDueOn s full call (Due what) = (full ≡ false) × IsSameCall call what × Allows s what
IsDueOn s full call (Refuses r) = call_refusal s full call ≡ Some r

-- after a history: the same call as it has to be, or why a desk refuses it
abbrev pub IsDueAfter : Start → List Event → Event → Expectation → Type 0
IsDueAfter start history e (Due what) = IsCallDue start history e what
IsDueAfter start history e (Refuses r) = call_refusal (state_after_start start history) (is_history_full history) e.what ≡ Some r

-- a block that is submitted is what its text checks to over the names
abbrev pub HasCheckedBlock : List Named → What → Type 0
HasCheckedBlock names (Submitted t b) = compiled_block names b.text ≡ Ok b
HasCheckedBlock names (Installed t v) = Unit {0}
HasCheckedBlock names (Finished t v n stale) = Unit {0}
HasCheckedBlock names (Cancelled t) = Unit {0}
HasCheckedBlock names (DeclaredLate name kind value) = Unit {0}
HasCheckedBlock names (Labelled t label) = Unit {0}

-- a variable that is declared late has a name of the language, and a label is one
abbrev pub HasName : What → Type 0
HasName (Submitted t b) = Unit {0}
HasName (Installed t v) = Unit {0}
HasName (Finished t v n stale) = Unit {0}
HasName (Cancelled t) = Unit {0}
HasName (DeclaredLate name kind value) = IsTrue (is_name_text name)
HasName (Labelled t label) = IsTrue (is_label label)

-- a line of these bytes is reported, or nothing if it is too long
abbrev pub IsShortOr : List ℕ → Explanation → Type 0
IsShortOr bytes (Expected text) = (string_bytes text ≡ bytes) × IsShort bytes
IsShortOr bytes (Refused r) = ⊥
IsShortOr bytes Unreadable = IsShort bytes → ⊥

-- the line of the event is reported, or nothing if it can't stand in the format
abbrev pub IsLineOf : ℕ → List Named → Event → Explanation → Type 0
IsLineOf format names e (Expected text) = CanStand format names e × (string_bytes text ≡ event_line e)
IsLineOf format names e (Refused r) = ⊥
IsLineOf format names e Unreadable = CanStand format names e → ⊥
