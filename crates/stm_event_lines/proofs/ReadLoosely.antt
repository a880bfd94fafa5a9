-- A line is read as what it is the line of, however loosely lines are read.
use Rattle.std.proofs.Common.{◌≡◌, ℕ, Bool, true, false, List, Option, Some, None, sym, ◌∙◌, ap}
use Rattle.std.specs.Prelude.{◌&&◌, IfOk, IfSome, Result, Ok, Err, option_and_then, option_map, string_bytes}
use Rattle.std.specs.Str.{IsUtf8}
use Rattle.serde_json.specs.Data.{Data}
use Rattle.serde_json.specs.Read.{read}
use Rattle.stm_store.specs.declared.cell.Cell.{Cell}
use Rattle.stm_store.specs.Naming.{Named}
use Rattle.stm_store.specs.Tables.{Declared}
use Rattle.stm_events.specs.declared.event.Event.{Event}
use Rattle.stm_event_lines.specs.declared.checkpoint.NamedCell.{NamedCell}
use Rattle.stm_event_lines.specs.declared.checkpoint.WaitingBlock.{WaitingBlock}
use Rattle.stm_event_lines.specs.declared.variable.Variable.{Variable}
use Rattle.stm_event_lines.specs.CheckpointFields.{cell_of, waiting_of}
use Rattle.stm_event_lines.specs.CheckpointLines.{FitsCell, FitsNamedCell, FitsWaitingBlock, line_of_cell, line_of_waiting}
use Rattle.stm_event_lines.specs.Fields.{declared_from_json, event_of}
use Rattle.stm_event_lines.specs.Fits.{FitsNames, FitsVariable}
use Rattle.stm_event_lines.specs.Lines.{event_line, variable_line}
use Rattle.stm_event_lines.specs.ReadLines.{CanBeReadAs, IsEventOfJson, cell_parts, declared, event_in_line}
use Rattle.stm_event_lines.proofs.Checkpoints.{cell_is, waiting_is}
use Rattle.stm_event_lines.proofs.ReadsBack.{event_is, event_unread, variable_is}

pub loose_same : {E : Type 0} (r : Result (Option Event) E) (known : List Named) (line : List ℕ) (json : Data) → read line ≡ Some json → IfOk r (λ o. IfSome o (λ e. FitsNames known e)) → IfOk r (λ o. o ≡ event_of known json)
    → IfOk r (CanBeReadAs (FitsNames known) event_line line)
loose_same (Ok o) known line json ok fits h = (fits, λ d f l. h ∙ event_is known line d json f l ok)
loose_same (Err e) known line json ok fits h = tt

pub loose_none : (known : List Named) (line : List ℕ) (d : Event) (o : Option Event) → (IsUtf8 line → read line ≡ None) → FitsNames known d → event_line d ≡ line → o ≡ Some d
loose_none known line d o bad f l = absurd (event_unread known line d f l bad)

-- what is read of a line is what its JSON stands for
json_event : (known : List Named) (line : List ℕ) (json : Data) (o : Option Event) → read line ≡ Some json → o ≡ event_of known json → IsEventOfJson known line o
unfolding event_in_line
json_event known line json (Some e) ok h = ap (λ (d : Option Data). option_and_then (event_of known) d) ok ∙ sym h
json_event known line json None ok h = λ utf8. ap (λ (d : Option Data). option_and_then (event_of known) d) ok ∙ sym h

pub loose_meant : {E : Type 0} (r : Result (Option Event) E) (known : List Named) (line : List ℕ) (json : Data) → read line ≡ Some json → IfOk r (λ o. o ≡ event_of known json) → IfOk r (IsEventOfJson known line)
loose_meant (Ok o) known line json ok h = json_event known line json o ok h
loose_meant (Err e) known line json ok h = tt

-- a line that is no JSON stands for no event
pub none_meant : (known : List Named) (line : List ℕ) → (IsUtf8 line → read line ≡ None) → IsEventOfJson known line None
unfolding event_in_line
none_meant known line bad = λ utf8. ap (λ (d : Option Data). option_and_then (event_of known) d) (bad utf8)

-- the parts of a variable that fits
parts_fit : (o : Option NamedCell) → IfSome o (λ c. FitsCell (option_map string_bytes c.name) c.cell) → IfSome (option_map cell_parts o) FitsNamedCell
parts_fit (Some c) h = h
parts_fit None h = tt

pub loose_cell_same : {E : Type 0} (r : Result (Option NamedCell) E) (line : List ℕ) (json : Data) → read line ≡ Some json
    → IfOk r (λ o. IfSome o (λ c. FitsCell (option_map string_bytes c.name) c.cell))
    → IfOk r (λ o. (name : Option (List ℕ)) (c : Cell) → FitsCell name c → cell_of json ≡ Some (name, c) → option_map cell_parts o ≡ Some (name, c))
    → IfOk r (λ o. CanBeReadAs FitsNamedCell line_of_cell line (option_map cell_parts o))
loose_cell_same (Ok o) line json ok fits h = (parts_fit o fits, λ y f l. h y.0 y.1 f (cell_is line y.0 y.1 json f l ok))
loose_cell_same (Err e) line json ok fits h = tt

pub loose_waiting_same : {E : Type 0} (r : Result (Option WaitingBlock) E) (known : List Named) (line : List ℕ) (json : Data) → read line ≡ Some json → IfOk r (λ o. IfSome o (FitsWaitingBlock known)) → IfOk r (λ o. o ≡ waiting_of known json)
    → IfOk r (CanBeReadAs (FitsWaitingBlock known) line_of_waiting line)
loose_waiting_same (Ok o) known line json ok fits h = (fits, λ w f l. h ∙ waiting_is known line w.ticket w.block w.cause w.label w.delivery json f l ok)
loose_waiting_same (Err e) known line json ok fits h = tt

-- two tests, of which one doesn't hold
pub not_both : (a b : Bool) → b ≡ false → (a && b) ≡ true → ⊥
not_both true b unset both = cc (unset, both)
not_both false b unset both = cc both

-- a variable that fits, as tables have it
declared_fits : (o : Option Variable) → IfSome o (λ v. FitsVariable (declared v)) → IfSome (option_map declared o) FitsVariable
declared_fits (Some v) h = h
declared_fits None h = tt

pub loose_variable_same : {E : Type 0} (r : Result (Option Variable) E) (line : List ℕ) (json : Data) → read line ≡ Some json → IfOk r (λ o. IfSome o (λ v. FitsVariable (declared v)))
    → IfOk r (λ o. (d : Declared) → FitsVariable d → declared_from_json json ≡ Some d → option_map declared o ≡ Some d)
    → IfOk r (λ o. CanBeReadAs FitsVariable variable_line line (option_map declared o))
loose_variable_same (Ok o) line json ok fits h = (declared_fits o fits, λ d f l. h d f (variable_is line d json f l ok))
loose_variable_same (Err e) line json ok fits h = tt
