-- Each line of a history begins with `{`.
use Rattle.std.proofs.Common.{ℕ, refl}
use Rattle.stm_store.specs.Tables.{Declared}
use Rattle.stm_events.specs.declared.event.Event.{Event}
use Rattle.stm_events.specs.declared.event.What.{What}
use Rattle.stm_events.specs.declared.event.What.TheVariants.{Submitted, Installed, Finished, Cancelled, Declared as DeclaredLate, Labelled}
use Rattle.serde_json.specs.Written.{compact_text}
use Rattle.stm_event_lines.proofs.Checkpoints.{cell_brace, cell_one_line, checkpoint_header_brace, checkpoint_header_one_line, waiting_brace, waiting_one_line}
use Rattle.stm_history.specs.FileLaws.{CheckpointsAreLines, CheckpointsBeginWithBraces, LinesBeginWithBraces}
use Rattle.stm_event_lines.specs.Fits.{BeginsWithBrace}
use Rattle.stm_event_lines.specs.Lines.{event_line, header_line, variable_line, what_data}

what_brace : (client : ℕ) (what : What) → BeginsWithBrace (compact_text (what_data client what))
what_brace client (Submitted ticket block) = (_, refl)
what_brace client (Installed ticket verdict) = (_, refl)
what_brace client (Finished ticket verdict first_new stale) = (_, refl)
what_brace client (Cancelled ticket) = (_, refl)
what_brace client (DeclaredLate name kind value) = (_, refl)
what_brace client (Labelled ticket label) = (_, refl)

pub event_brace : (e : Event) → BeginsWithBrace (event_line e)
unfolding event_line
event_brace e = what_brace e.client e.what

pub header_brace : (format n : ℕ) → BeginsWithBrace (header_line format n)
unfolding header_line
header_brace format n = (_, refl)

pub variable_brace : (d : Declared) → BeginsWithBrace (variable_line d)
unfolding variable_line
variable_brace d = (_, refl)

pub lines_begin_with_braces : LinesBeginWithBraces
lines_begin_with_braces = (header_brace, variable_brace, event_brace)

pub checkpoints_begin_with_braces : CheckpointsBeginWithBraces
checkpoints_begin_with_braces = (
  λ h. checkpoint_header_brace h.format h.next h.vars h.waiting,
  λ c. cell_brace c.0 c.1,
  λ w. waiting_brace w.ticket w.block.text w.cause w.label w.delivery,
)

pub checkpoints_are_lines : CheckpointsAreLines
checkpoints_are_lines = record {
  headers = λ h f. checkpoint_header_one_line h.format h.next h.vars h.waiting f.0 f.1 f.2 f.3;
  cells = λ c f. cell_one_line c.0 c.1 f;
  blocks = λ names w f. waiting_one_line names w.ticket w.block w.cause w.label w.delivery f;
}
