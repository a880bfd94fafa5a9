-- The text of a history is whole lines that begin with `{`.
use Rattle.std.proofs.Common.{◌≡◌, ℕ, zero, suc, ◌+◌, ◌≤◌, List, [], ◌∷◌, ◌++◌, length, take, Bool, true, false, Option, Some, None, refl, sym, ◌∙◌, ap, subst, arith, length-append, append_assoc}
use Rattle.std.specs.Prelude.{slice_get, nat_eq, if◌then◌else◌, IsTrue}
use Rattle.std.proofs.lemmas.List.{length-map}
use Rattle.json.specs.Print.{escape_byte}
use Rattle.stm_store.specs.declared.cell.Cell.{Cell}
use Rattle.stm_store.specs.Cells.{plain}
use Rattle.stm_terms.specs.Names.{is_name_text}
use Rattle.stm_store.specs.Naming.{AreKnown, Named, name_numbered}
use Rattle.stm_store.specs.Tables.{Declared}
use Rattle.stm_events.specs.declared.event.Event.{Event}
use Rattle.stm_events.specs.SlowDesk.{Slow, after}
use Rattle.stm_machine.specs.declared.checkpoint.CheckpointBlock.{CheckpointBlock}
use Rattle.stm_machine.specs.Checkpoints.{CheckpointView}
use Rattle.stm_event_lines.specs.Fits.{Is32Bit, IsOneLine, BeginsWithBrace}
use Rattle.stm_history_text.specs.HistoryText.{variable_lines, event_lines, head_text, cell_lines, cell_lines_from, cells_text, block_line, block_lines, checkpoint_text, history_text, start_text, text_before}
use Rattle.stm_history.specs.Judgement.{AreVariables, AreVariablesFrom, AreEvents, FitCells, FitBlocks, CheckpointFits, FitsBefore, FormatFits}
use Rattle.stm_history_text.specs.Starts.{Start, delivery_of_block}
use Rattle.stm_event_lines.specs.Lines.{IsFormat, event_line, header_line, variable_line}
use Rattle.stm_event_lines.specs.CheckpointLines.{FitsCell, FitsName, IsCheckpointFormat, cell_line, checkpoint_header_line}
use Rattle.stm_history.proofs.Braces.{event_brace, header_brace, variable_brace}
use Rattle.stm_history.proofs.WrittenIsTaken.{few_variables}
use Rattle.stm_event_lines.proofs.Checkpoints.{cell_brace, cell_one_line, checkpoint_header_brace, checkpoint_header_one_line, waiting_brace, waiting_one_line}
use Rattle.stm_event_lines.proofs.ReadsBack.{event_one_line, header_one_line, variable_one_line}
use Rattle.stm_journal.specs.Journal.{most_batch}
use Rattle.stm_journal.specs.Text.{whole_count, IsWhole}
use Rattle.stm_journal.proofs.Wholes.{whole_open, whole_feed, whole_on, IsWhole-append}
use Rattle.stm_history_file.specs.Durable.{history_front, file_text, batch_text, AreFit, FitLines}

-- a line that has begun ends at its line feed
pub to_feed : (n : ℕ) (xs more : List ℕ) → IsOneLine xs → whole_count (suc n) (xs ++ 10 ∷ more) ≡ suc n + length xs + 1 + whole_count 0 more
to_feed n [] more plain = omega (arith, whole_feed n 10 more refl)
to_feed n (x ∷ xs) more plain =
    omega (arith, whole_on n x (xs ++ 10 ∷ more) (λ e. omega (arith, e, plain.0)) (λ e. omega (arith, e, plain.0)), to_feed (suc n) xs more plain.2)

-- a whole line counts
pub count_line : (line more : List ℕ) → BeginsWithBrace line → IsOneLine line → whole_count 0 (line ++ 10 ∷ more) ≡ length line + 1 + whole_count 0 more
count_line line more opens plain =
    let rest = opens.0 in
    let plain_rest : IsOneLine (123 ∷ rest) = subst IsOneLine opens.1 plain in
    let all : whole_count 0 ((123 ∷ rest) ++ 10 ∷ more) ≡ length (123 ∷ rest) + 1 + whole_count 0 more =
    omega (arith, whole_open 123 (rest ++ 10 ∷ more) refl, to_feed 0 rest more plain_rest.2) in
    subst (λ (l : List ℕ). whole_count 0 (l ++ 10 ∷ more) ≡ length l + 1 + whole_count 0 more) (sym opens.1) all

-- a line before whole lines
IsWhole-line : (line more : List ℕ) → BeginsWithBrace line → IsOneLine line → IsWhole more → IsWhole (line ++ 10 ∷ more)
IsWhole-line line more opens plain is = omega (arith, count_line line more opens plain, is, length-append line (10 ∷ more))

pub IsWhole-events : (format : ℕ) (s : Slow) (events : List Event) → AreFit format s events → IsWhole (event_lines events)
IsWhole-events format s [] fit = refl
IsWhole-events format s (e ∷ es) fit =
    IsWhole-line (event_line e) (event_lines es) (event_brace e) (event_one_line s.names e fit.0) (IsWhole-events format (after s e.what) es fit.2)

-- ---- the lines before the events
IsWhole-variables : (prior table : List Declared) → AreVariablesFrom prior table → IsWhole (variable_lines table)
IsWhole-variables prior [] are = refl
IsWhole-variables prior (d ∷ ds) are =
    IsWhole-line (variable_line d) (variable_lines ds) (variable_brace d) (variable_one_line d (are.0).fits) (IsWhole-variables (prior ++ d ∷ []) ds are.1)

IsWhole-head : (format : ℕ) (table : List Declared) → IsFormat format → AreVariables table → IsWhole (head_text format (length table) table)
IsWhole-head format table known are =
    let few = few_variables table are in
    IsWhole-line (header_line format (length table)) (variable_lines table) (header_brace format (length table))
    (header_one_line format (length table) known (omega (arith, few))) (IsWhole-variables [] table are)

-- each name that a number has is a name
name_by : (b : Bool) (d : Named) (o : Option (List ℕ)) → IsTrue (is_name_text d.name) → FitsName o → FitsName (if b then Some d.name else o)
name_by true d o name more = name
name_by false d o name more = more

name_fits : (i : ℕ) (names : List Named) → ((j : ℕ) (d : Named) → slice_get names j ≡ Some d → IsTrue (is_name_text d.name)) → FitsName (name_numbered i names)
name_fits i [] named = tt
name_fits i (d ∷ names) named = name_by (nat_eq d.number i) d (name_numbered i names) (named zero d refl) (name_fits i names (λ j x e. named (suc j) x e))

IsWhole-cells : (i : ℕ) (names : List Named) (cells : List Cell) → AreKnown names → FitCells cells → IsWhole (cell_lines_from i names cells)
IsWhole-cells i names [] known fit = refl
IsWhole-cells i names (c ∷ cs) known fit =
    let f = fit.0 in
    let named : FitsCell (name_numbered i names) c = (name_fits i names known.named, f.1, f.2, f.3) in
    IsWhole-line (cell_line (name_numbered i names) c) (cell_lines_from (i + 1) names cs) (cell_brace (name_numbered i names) c)
    (cell_one_line (name_numbered i names) c named) (IsWhole-cells (i + 1) names cs known fit.1)

IsWhole-blocks : (names : List Named) (blocks : List CheckpointBlock) → FitBlocks names blocks → IsWhole (block_lines blocks)
IsWhole-blocks names [] fit = refl
IsWhole-blocks names (b ∷ bs) fit =
    IsWhole-line (block_line b) (block_lines bs) (waiting_brace b.ticket b.waiting.block.text b.cause b.label (delivery_of_block b)) (waiting_one_line names b.ticket b.waiting.block b.cause b.label (delivery_of_block b) fit.0)
    (IsWhole-blocks names bs fit.1)

IsWhole-checkpoint : (format : ℕ) (c : CheckpointView) → IsCheckpointFormat format → CheckpointFits c → IsWhole (checkpoint_text format (length c.blocks) c)
IsWhole-checkpoint format c known fits =
    let is = fits.checkpoint in
    let cells : Is32Bit (length c.store) = omega (arith, (is.store).small, length-map c.store plain) in
    let header = checkpoint_header_one_line format c.next (length c.store) (length c.blocks) known (omega (arith, is.tickets)) cells (omega (arith, is.few)) in
    IsWhole-append (cells_text format c.next (length c.store) (length c.blocks) c.names c.store) (block_lines c.blocks)
    (IsWhole-line (checkpoint_header_line format c.next (length c.store) (length c.blocks)) (cell_lines c.names c.store)
    (checkpoint_header_brace format c.next (length c.store) (length c.blocks)) header (IsWhole-cells 0 c.names c.store fits.known fits.cells))
    (IsWhole-blocks c.names c.blocks fits.blocks)

pub IsWhole-start : (format : ℕ) (table : List Declared) (o : Option CheckpointView) → FormatFits format o → FitsBefore table o → IsWhole (text_before format table o)
IsWhole-start format table None known fits = IsWhole-head format table known fits
IsWhole-start format table (Some c) known fits = IsWhole-checkpoint format c known.0 fits

pub IsWhole-history : (start : Start) (s : Slow) (events : List Event) → FitLines start s events → IsWhole (history_text start events)
IsWhole-history start s events fit =
    IsWhole-append (start_text start) (event_lines events) (IsWhole-start start.format start.table start.checkpoint fit.format_fits fit.start_fits)
    (IsWhole-events start.format s events fit.fit)

-- ---- batches
pub IsWhole-batch : (begun : Bool) (start : Start) (s : Slow) (events : List Event) → FitLines start s events → IsWhole (batch_text begun start events)
IsWhole-batch true start s events fit = IsWhole-events start.format s events fit.fit
IsWhole-batch false start s events fit = IsWhole-history start s events fit

pub event_lines-append : (xs ys : List Event) → event_lines (xs ++ ys) ≡ event_lines xs ++ event_lines ys
event_lines-append [] ys = refl
event_lines-append (x ∷ xs) ys =
    ap (λ (l : List ℕ). event_line x ++ 10 ∷ l) (event_lines-append xs ys) ∙ sym (append_assoc (event_line x) (10 ∷ event_lines xs) (event_lines ys))

-- more events after a history
pub longer_text : (start : Start) (history events : List Event) → history_text start history ++ event_lines events ≡ history_text start (history ++ events)
longer_text start history events =
    append_assoc (start_text start) (event_lines history) (event_lines events)
    ∙ ap (λ (l : List ℕ). start_text start ++ l) (sym (event_lines-append history events))

-- the batch after what the file has is the text of the longer history
pub file_text-batch : (begun : Bool) (start : Start) (history events : List Event) → (begun ≡ false → history ≡ [])
    → file_text begun start history ++ batch_text begun start events ≡ history_text start (history ++ events)
file_text-batch true start history events none = longer_text start history events
file_text-batch false start history events none = ap (λ (h : List Event). history_text start (h ++ events)) (sym (none refl))

-- the lines of a batch are short
events_short : (format : ℕ) (s : Slow) (events : List Event) → AreFit format s events → length (event_lines events) ≤ most_batch → AreEvents format s events
events_short format s [] fit small = tt
events_short format s (e ∷ es) fit small =
    let l = length-append (event_line e) (10 ∷ event_lines es) in
    (fit.0, fit.1, omega (arith, l, small), events_short format (after s e.what) es fit.2 (omega (arith, l, small)))

batch_no_shorter : (begun : Bool) (start : Start) (events : List Event) → length (event_lines events) ≤ length (batch_text begun start events)
batch_no_shorter true start events = omega arith
batch_no_shorter false start events = omega (arith, length-append (start_text start) (event_lines events))

pub batch_short : (begun : Bool) (start : Start) (s : Slow) (events : List Event) → FitLines start s events → length (batch_text begun start events) ≤ most_batch
    → AreEvents start.format s events
batch_short begun start s events fit small = events_short start.format s events fit.fit (omega (arith, small, batch_no_shorter begun start events))

-- ---- how a history begins: with `{"format":`
abbrev pub BeginsHistory : List ℕ → Type 0
BeginsHistory text = (more : List ℕ) × (text ≡ 123 ∷ 34 ∷ 102 ∷ 111 ∷ 114 ∷ 109 ∷ 97 ∷ 116 ∷ 34 ∷ 58 ∷ more)

header_begins : (format n : ℕ) → BeginsHistory (header_line format n)
unfolding header_line escape_byte
header_begins format n = (_, refl)

checkpoint_header_begins : (format next vars waiting : ℕ) → BeginsHistory (checkpoint_header_line format next vars waiting)
unfolding checkpoint_header_line escape_byte
checkpoint_header_begins format next vars waiting = (_, refl)

begins-append : (text more : List ℕ) → BeginsHistory text → BeginsHistory (text ++ more)
begins-append text more begins = (begins.0 ++ more, ap (λ (l : List ℕ). l ++ more) begins.1)

before_begins : (format : ℕ) (table : List Declared) (o : Option CheckpointView) → BeginsHistory (text_before format table o)
before_begins format table None = begins-append (header_line format (length table)) (10 ∷ variable_lines table) (header_begins format (length table))
before_begins format table (Some c) =
    begins-append (cells_text format c.next (length c.store) (length c.blocks) c.names c.store) (block_lines c.blocks)
    (begins-append (checkpoint_header_line format c.next (length c.store) (length c.blocks)) (10 ∷ cell_lines c.names c.store)
    (checkpoint_header_begins format c.next (length c.store) (length c.blocks)))

history_begins : (start : Start) (events : List Event) → BeginsHistory (history_text start events)
history_begins start events = begins-append (start_text start) (event_lines events) (before_begins start.format start.table start.checkpoint)

pub front_of : (start : Start) (events : List Event) → take 10 (history_text start events) ≡ history_front
front_of start events = ap (λ (l : List ℕ). take 10 l) (history_begins start events).1

-- it has some bytes
pub not_empty : (start : Start) (events : List Event) (more : List ℕ) → history_text start events ++ more ≡ [] → ⊥
not_empty start events more none = cc (none, ap (λ (l : List ℕ). l ++ more) (history_begins start events).1)
