-- What is reported of the bytes where a line is refused.
use Rattle.std.proofs.Common.{Bool, ◌≡◌, ℕ, ◌+◌, ◌≤◌, ◌<◌, ◌^◌, List, [], ◌∷◌, ◌++◌, length, Option, Some, None, refl, sym, ap, ◌∙◌, subst, arith, append_assoc, append-nil, length-append, take, drop, ◌⊎◌, inl, inr}
use Rattle.std.specs.Global.{Vec}
use Rattle.std.proofs.lemmas.List.{take_at, drop_at, length-map}
use Rattle.stm_store.specs.declared.cell.Cell.{Cell}
use Rattle.stm_store.specs.Cells.{plain}
use Rattle.stm_store.specs.Naming.{Named}
use Rattle.stm_store.specs.Tables.{Declared}
use Rattle.stm_events.specs.declared.event.Event.{Event}
use Rattle.stm_events.specs.SlowDesk.{max_cells}
use Rattle.stm_terms.specs.Limits.{max_waiting}
use Rattle.stm_machine.specs.declared.checkpoint.CheckpointBlock.{CheckpointBlock}
use Rattle.stm_machine.specs.Checkpoints.{CheckpointView}
use Rattle.stm_event_lines.specs.declared.checkpoint.CheckpointHeader.{CheckpointHeader}
use Rattle.stm_event_lines.specs.CheckpointLines.{FitsCell, FitsWaiting, IsCheckpointFormat, cell_line, checkpoint_header_line}
use Rattle.stm_event_lines.specs.Fits.{FitsNames, FitsFormat, FitsVariable}
use Rattle.stm_event_lines.specs.Lines.{IsFormat, event_line, header_line, variable_line}
use Rattle.stm_event_lines.proofs.Checkpoints.{cell_one_line, checkpoint_header_new, checkpoint_header_one_line, checkpoint_header_same, waiting_one_line}
use Rattle.stm_event_lines.proofs.ReadsBack.{event_one_line, header_one_line, variable_one_line, event_same, header_same, variable_same}
use Rattle.stm_history_text.specs.HistoryText.{block_line, block_lines, cell_lines, cells_text, checkpoint_text, history_text, start_text, text_before, variable_lines}
use Rattle.stm_history.specs.Judgement.{IsShort, max_line, MayDeclare, AreVariablesFrom, IsBefore, IsReadable, IsStart, ReportsFault}
use Rattle.stm_history.specs.declared.fault.HistoryFault.{HistoryFault}
use Rattle.stm_history.specs.declared.fault.HistoryFault.TheVariants.{ReadFault, BadHeader, NoMemory}
use Rattle.stm_history.specs.declared.check.Stage.{Stage}
use Rattle.stm_history.specs.declared.check.Stage.TheVariants.{Before, Declaring, AtCells, AtBlocks}
use Rattle.stm_history.specs.Checking.{LeadsNowhere, IsStrange, MayRefuse, HasTaken, IsFaultAt, StopsAt}
use Rattle.stm_history.specs.Progress.{CheckerState, at_header, at_variables, at_cells, at_blocks, at_events, with_table, with_cells, with_blocks, with_name_of, IsCheckpointHead, LeadsTo, LinesUpTo, MayTakeCell, NoLineNext, NoNext, NoFeed, strange}
use Rattle.stm_history.specs.Stages.{IsStage, Reached, LeadsToStage}
use Rattle.stm_history_text.specs.Starts.{Start, delivery_of_block, names_after}
use Rattle.stm_history.proofs.CommonLines.{next_block, next_cell}
use Rattle.stm_history.proofs.CutsAtLineFeeds.{IsCut, cut_unique, no_cut, no_feed_at_end, nofeed-append, no_feed}
use Rattle.stm_history.proofs.OneLineMore.{LinesUpTo-line}
use Rattle.stm_history.proofs.CellNames.{cells as one_cells}
use Rattle.stm_history.proofs.OneReading.{cells_of}
use Rattle.stm_history.proofs.Shortness.{cell_short, checkpoint_header_short, header_short, variable_short}

-- ---- no line has a line feed
pub header_no_feed : (format n : ℕ) → IsFormat format → n ≤ max_cells → NoFeed (header_line format n)
header_no_feed format n k h = no_feed (header_line format n) (header_one_line format n k (omega (arith, h)))

variable_no_feed : (d : Declared) → FitsVariable d → NoFeed (variable_line d)
variable_no_feed d f = no_feed (variable_line d) (variable_one_line d f)

pub event_no_feed : (names : List Named) (e : Event) → FitsNames names e → NoFeed (event_line e)
event_no_feed names e f = no_feed (event_line e) (event_one_line names e f)

pub checkpoint_header_no_feed : (format next vars waiting : ℕ) → IsCheckpointFormat format → IsCheckpointHead next vars waiting → NoFeed (checkpoint_header_line format next vars waiting)
checkpoint_header_no_feed format next vars waiting i h =
    no_feed (checkpoint_header_line format next vars waiting) (checkpoint_header_one_line format next vars waiting i (omega (arith, h.tickets)) (omega (arith, h.vars)) (omega (arith, h.waiting)))

cell_no_feed : (name : Option (List ℕ)) (c : Cell) → FitsCell name c → NoFeed (cell_line name c)
cell_no_feed name c f = no_feed (cell_line name c) (cell_one_line name c f)

block_no_feed : (names : List Named) (b : CheckpointBlock) → FitsWaiting names b.ticket b.waiting.block b.cause b.label (delivery_of_block b) → NoFeed (block_line b)
block_no_feed names b f = no_feed (block_line b) (waiting_one_line names b.ticket b.waiting.block b.cause b.label (delivery_of_block b) f)

header_leads_no_feed : (line : List ℕ) (q : CheckerState) → LeadsTo at_header line q → NoFeed line
header_leads_no_feed line q (inl k) = subst NoFeed k.3 (header_no_feed k.0 k.1 k.2 k.4)
header_leads_no_feed line q (inr k) = subst NoFeed k.6 (checkpoint_header_no_feed k.0 k.1 k.2 k.3 k.4 k.5)

pub leads_no_feed : (p : CheckerState) (line : List ℕ) (q : CheckerState) → LeadsTo p line q → NoFeed line
leads_no_feed at_header line q k = header_leads_no_feed line q k
leads_no_feed (at_variables format n table) line q k = subst NoFeed k.1 (variable_no_feed k.0 (k.2).fits)
leads_no_feed (at_cells format next vars waiting names cells) line q k = subst NoFeed k.2 (cell_no_feed k.0 k.1 (k.3).fits)
leads_no_feed (at_blocks format waiting c) line q k = subst NoFeed k.1 (block_no_feed c.names k.0 (k.2).0)
leads_no_feed (at_events start history) line q k = subst NoFeed k.1 (event_no_feed (names_after start history) k.0 k.2)

-- where some variables' lines are the beginning of more, a variable's line comes next
pub record Following (prior : List Declared) (a : List ℕ) : Type 0 where
  pub variable : Declared
  pub may : MayDeclare prior variable
  pub short : IsShort (variable_line variable)
  pub more : List ℕ
  pub rest : a ≡ variable_line variable ++ 10 ∷ more

pub following : (prior xs ys : List Declared) (a b : List ℕ) → AreVariablesFrom prior xs → AreVariablesFrom prior ys → length xs < length ys → variable_lines xs ++ a ≡ variable_lines ys ++ b → Following (prior ++ xs) a
following prior [] [] a b h k l e = absurd (omega arith)
following prior [] (y ∷ ys) a b h k l e = record {
  variable = y;
  may = subst (λ (x : List Declared). MayDeclare x y) (sym (append-nil prior)) k.0;
  short = variable_short y (k.0).fits;
  more = variable_lines ys ++ b;
  rest = e ∙ append_assoc (variable_line y) (10 ∷ variable_lines ys) b;
}
following prior (x ∷ xs) [] a b h k l e = absurd (omega arith)
following prior (x ∷ xs) (y ∷ ys) a b h k l e =
    let c : IsCut (variable_line x) (variable_lines xs ++ a) (variable_line y) (variable_lines ys ++ b) =
    cut_unique (variable_line x) _ (variable_line y) _ (variable_no_feed x (h.0).fits) (variable_no_feed y (k.0).fits)
    (sym (append_assoc (variable_line x) (10 ∷ variable_lines xs) a) ∙ e ∙ append_assoc (variable_line y) (10 ∷ variable_lines ys) b) in
    let same : y ≡ x = variable_same y x (k.0).fits (h.0).fits (sym c.line) in
    subst (λ (z : List Declared). Following z a) (append_assoc prior (x ∷ []) xs)
    (following (prior ++ x ∷ []) xs ys a b h.1 (subst (λ (z : Declared). AreVariablesFrom (prior ++ z ∷ []) ys) same k.1) (omega arith) c.rest)

-- ---- where the lines of a start go on
-- a short line that leads on comes next
pub record GoesOn (p : CheckerState) (rest : List ℕ) : Type 0 where
  pub line : List ℕ
  pub next : CheckerState
  pub leads : LeadsTo p line next
  pub short : IsShort line
  pub more : List ℕ
  pub text : rest ≡ line ++ 10 ∷ more

-- a checkpoint is as its first line may say
pub head_of : (format : ℕ) (c : CheckpointView) (waiting : ℕ) → IsReadable format c → waiting ≤ max_waiting → IsCheckpointHead c.next (length c.store) waiting
head_of format c waiting r w =
    let k = (r.fits).checkpoint in
    let l = length-map c.store plain in
    let small = (k.store).small in
    record { begun = k.begun; tickets = k.tickets; vars = omega (arith, small, l); waiting = w }

head_short : (format next vars waiting : ℕ) → IsCheckpointFormat format → IsCheckpointHead next vars waiting → IsShort (checkpoint_header_line format next vars waiting)
head_short format next vars waiting i h = checkpoint_header_short format next vars waiting i (omega (arith, h.tickets)) (omega (arith, h.vars)) (omega (arith, h.waiting))

pub flat_checkpoint : (format w : ℕ) (c : CheckpointView) (a : List ℕ)
    → checkpoint_text format w c ++ a ≡ checkpoint_header_line format c.next (length c.store) w ++ 10 ∷ (cell_lines c.names c.store ++ (block_lines c.blocks ++ a))
flat_checkpoint format w c a =
    append_assoc (cells_text format c.next (length c.store) w c.names c.store) (block_lines c.blocks) a
    ∙ append_assoc (checkpoint_header_line format c.next (length c.store) w) (10 ∷ cell_lines c.names c.store) (block_lines c.blocks ++ a)

-- the first lines of two checkpoints
pub record IsSameHead (p q k k' m m' n n' : ℕ) (a b : List ℕ) : Type 0 where
  pub formats : p ≡ q
  pub next : k ≡ k'
  pub vars : m ≡ m'
  pub waiting : n ≡ n'
  pub rest : a ≡ b

pub same_checkpoint_head : (p q next next' vars vars' waiting waiting' : ℕ) (a b : List ℕ) → IsCheckpointFormat p → IsCheckpointFormat q → IsCheckpointHead next vars waiting → IsCheckpointHead next' vars' waiting'
    → checkpoint_header_line p next vars waiting ++ 10 ∷ a ≡ checkpoint_header_line q next' vars' waiting' ++ 10 ∷ b → IsSameHead p q next next' vars vars' waiting waiting' a b
same_checkpoint_head p q next next' vars vars' waiting waiting' a b i j h k e =
    let cut = cut_unique (checkpoint_header_line p next vars waiting) a (checkpoint_header_line q next' vars' waiting') b (checkpoint_header_no_feed p next vars waiting i h) (checkpoint_header_no_feed q next' vars' waiting' j k) e in
    let s = checkpoint_header_same p q next next' vars vars' waiting waiting' i j (omega (arith, h.tickets)) (omega (arith, h.vars)) (omega (arith, h.waiting)) (omega (arith, k.tickets)) (omega (arith, k.vars)) (omega (arith, k.waiting)) cut.line in
    record { formats = s.0; next = s.1; vars = s.2; waiting = s.3; rest = cut.rest }

-- the first line of a checkpoint is none of a table
pub other_head : (format n other next vars waiting : ℕ) (a b : List ℕ) → IsFormat format → n ≤ max_cells → IsCheckpointFormat other → IsCheckpointHead next vars waiting
    → header_line format n ++ 10 ∷ a ≡ checkpoint_header_line other next vars waiting ++ 10 ∷ b → ⊥
other_head format n other next vars waiting a b f small i h e =
    let cut = cut_unique (header_line format n) a (checkpoint_header_line other next vars waiting) b (header_no_feed format n f small) (checkpoint_header_no_feed other next vars waiting i h) e in
    checkpoint_header_new other next vars waiting format n i (omega (arith, h.tickets)) (omega (arith, h.vars)) (omega (arith, h.waiting)) f (omega (arith, small)) (sym cut.line)

-- before the first line
header_on : (format : ℕ) (table : List Declared) (o : Option CheckpointView) (rest more : List ℕ) → IsBefore format table o → rest ≡ text_before format table o ++ more → GoesOn at_header rest
header_on format table None rest more b e = record {
  line = header_line format (length table);
  next = with_table format (length table) [];
  leads = inl (format, length table, b.0, refl, b.1, refl);
  short = header_short format (length table) b.0 b.1;
  more = variable_lines table ++ more;
  text = e ∙ append_assoc (header_line format (length table)) (10 ∷ variable_lines table) more;
}
header_on format table (Some c) rest more b e =
    let few = ((b.1).fits).checkpoint in
    let i = (b.1).format_fits.0 in
    let h = head_of format c (length c.blocks) b.1 few.few in
    record {
      line = checkpoint_header_line format c.next (length c.store) (length c.blocks);
      next = with_cells format c.next (length c.store) (length c.blocks) [] [];
      leads = inr (format, c.next, length c.store, length c.blocks, i, h, refl, refl);
      short = head_short format c.next (length c.store) (length c.blocks) i h;
      more = cell_lines c.names c.store ++ (block_lines c.blocks ++ more);
      text = e ∙ flat_checkpoint format (length c.blocks) c more;
    }

-- among the variables
variables_on : (format n : ℕ) (table : List Declared) (other : ℕ) (names : List Declared) (o : Option CheckpointView) (whole rest more : List ℕ) → LinesUpTo (at_variables format n table) whole → IsBefore other names o
    → whole ++ rest ≡ text_before other names o ++ more → GoesOn (at_variables format n table) rest
variables_on format n table other names None whole rest more s b e =
    let c : IsCut (header_line format n) (variable_lines table ++ rest) (header_line other (length names)) (variable_lines names ++ more) =
    cut_unique (header_line format n) _ (header_line other (length names)) _ (header_no_feed format n s.0 s.4) (header_no_feed other (length names) b.0 b.1)
    (sym (append_assoc (header_line format n) (10 ∷ variable_lines table) rest) ∙ ap (λ w. w ++ rest) (sym s.1) ∙ e ∙ append_assoc (header_line other (length names)) (10 ∷ variable_lines names) more) in
    let same : n ≡ length names = (header_same format other n (length names) s.0 b.0 (omega (arith, s.4)) (omega (arith, b.1)) c.line).1 in
    let f : Following table rest = following [] table names rest more s.2 b.2 (omega (arith, same, s.3)) c.rest in
    record {
      line = variable_line f.variable;
      next = with_table format n (table ++ f.variable ∷ []);
      leads = (f.variable, refl, f.may, refl);
      short = f.short;
      more = f.more;
      text = f.rest;
    }
variables_on format n table other names (Some c) whole rest more s b e =
    let few = ((b.1).fits).checkpoint in
    absurd (other_head format n other c.next (length c.store) (length c.blocks) (variable_lines table ++ rest) (cell_lines c.names c.store ++ (block_lines c.blocks ++ more)) s.0 s.4 (b.1).format_fits.0 (head_of other c (length c.blocks) b.1 few.few)
    (sym (append_assoc (header_line format n) (10 ∷ variable_lines table) rest) ∙ ap (λ w. w ++ rest) (sym s.1) ∙ e ∙ flat_checkpoint other (length c.blocks) c more))

-- among the variables of a checkpoint
cells_on : (format next vars waiting : ℕ) (names : List Named) (cells : List Cell) (other : ℕ) (table : List Declared) (o : Option CheckpointView) (whole rest more : List ℕ) → LinesUpTo (at_cells format next vars waiting names cells) whole
    → IsBefore other table o → whole ++ rest ≡ text_before other table o ++ more → GoesOn (at_cells format next vars waiting names cells) rest
cells_on format next vars waiting names cells other table None whole rest more s b e =
    absurd (other_head other (length table) format next vars waiting (variable_lines table ++ more) (cell_lines names cells ++ rest) b.0 b.1 s.4 s.0
    (sym (append_assoc (header_line other (length table)) (10 ∷ variable_lines table) more) ∙ sym e ∙ ap (λ w. w ++ rest) s.1 ∙ append_assoc (checkpoint_header_line format next vars waiting) (10 ∷ cell_lines names cells) rest))
cells_on format next vars waiting names cells other table (Some c) whole rest more s b e =
    let few = ((b.1).fits).checkpoint in
    let h = same_checkpoint_head format other next c.next vars (length c.store) waiting (length c.blocks) (cell_lines names cells ++ rest) (cell_lines c.names c.store ++ (block_lines c.blocks ++ more)) s.4 (b.1).format_fits.0 s.0
    (head_of other c (length c.blocks) b.1 few.few)
    (sym (append_assoc (checkpoint_header_line format next vars waiting) (10 ∷ cell_lines names cells) rest) ∙ ap (λ w. w ++ rest) (sym s.1) ∙ e ∙ flat_checkpoint other (length c.blocks) c more) in
    let same : vars ≡ length c.store = h.vars in
    let f = next_cell format names cells c rest (block_lines c.blocks ++ more) s.2 (subst (λ (k : ℕ). IsReadable k c) (sym h.formats) b.1) (omega (arith, same, s.3)) h.rest in
    record {
      line = cell_line f.name f.cell;
      next = with_cells format next vars waiting (with_name_of names (length cells) f.name (f.cell).kind) (cells ++ f.cell ∷ []);
      leads = (f.name, f.cell, refl, subst (λ (v : ℕ). MayTakeCell format v names cells f.name f.cell) (sym same) f.may, refl);
      short = cell_short f.name f.cell (f.may).fits;
      more = f.more;
      text = f.rest;
    }

-- the names and the stores of two checkpoints with lines that begin alike
pub record IsSameStore (c d : CheckpointView) (a b : List ℕ) : Type 0 where
  pub names : c.names ≡ d.names
  pub stores : c.store ≡ d.store
  pub rest : a ≡ b

pub same_store : (p q : ℕ) (c d : CheckpointView) (a b : List ℕ) → IsReadable p c → IsReadable q d → length c.store ≡ length d.store → cell_lines c.names c.store ++ a ≡ cell_lines d.names d.store ++ b → IsSameStore c d a b
same_store p q c d a b r s l e =
    let k = one_cells p q c.names d.names c.store d.store a b (cells_of p c r) (cells_of q d s) l e in
    record { names = k.names; stores = k.cells; rest = k.rest }

-- among the waiting blocks
blocks_on : (format waiting : ℕ) (c : CheckpointView) (other : ℕ) (table : List Declared) (o : Option CheckpointView) (whole rest more : List ℕ) → LinesUpTo (at_blocks format waiting c) whole → IsBefore other table o
    → whole ++ rest ≡ text_before other table o ++ more → GoesOn (at_blocks format waiting c) rest
blocks_on format waiting c other table None whole rest more s b e =
    absurd (other_head other (length table) format c.next (length c.store) waiting (variable_lines table ++ more) (cell_lines c.names c.store ++ (block_lines c.blocks ++ rest)) b.0 b.1 (s.1).format_fits.0 (head_of format c waiting s.1 s.3)
    (sym (append_assoc (header_line other (length table)) (10 ∷ variable_lines table) more) ∙ sym e ∙ ap (λ w. w ++ rest) s.0 ∙ flat_checkpoint format waiting c rest))
blocks_on format waiting c other table (Some d) whole rest more s b e =
    let few = ((b.1).fits).checkpoint in
    let h = same_checkpoint_head format other c.next d.next (length c.store) (length d.store) waiting (length d.blocks) (cell_lines c.names c.store ++ (block_lines c.blocks ++ rest)) (cell_lines d.names d.store ++ (block_lines d.blocks ++ more))
    (s.1).format_fits.0 (b.1).format_fits.0 (head_of format c waiting s.1 s.3) (head_of other d (length d.blocks) b.1 few.few)
    (sym (flat_checkpoint format waiting c rest) ∙ ap (λ w. w ++ rest) (sym s.0) ∙ e ∙ flat_checkpoint other (length d.blocks) d more) in
    let k = same_store format other c d (block_lines c.blocks ++ rest) (block_lines d.blocks ++ more) s.1 b.1 h.vars h.rest in
    let same : waiting ≡ length d.blocks = h.waiting in
    let f = next_block format c d rest more s.1 (subst (λ (p : ℕ). IsReadable p d) (sym h.formats) b.1) k.stores k.names h.next (omega (arith, same, s.2)) k.rest in
    record {
      line = block_line f.block;
      next = with_blocks format waiting (record c { blocks = c.blocks ++ f.block ∷ [] });
      leads = (f.block, refl, f.may, refl);
      short = f.short;
      more = f.more;
      text = f.rest;
    }

-- the progress is before the events
abbrev pub IsHead : CheckerState → Type 0
IsHead at_header = Unit {0}
IsHead (at_variables format n table) = Unit {0}
IsHead (at_cells format next vars waiting names cells) = Unit {0}
IsHead (at_blocks format waiting c) = Unit {0}
IsHead (at_events start history) = ⊥

pub goes_on : (p : CheckerState) (s : Start) (whole rest more : List ℕ) → IsHead p → LinesUpTo p whole → IsStart s → whole ++ rest ≡ start_text s ++ more → GoesOn p rest
goes_on at_header s whole rest more h l b e = header_on s.format s.table s.checkpoint rest more b (ap (λ w. w ++ rest) (sym l) ∙ e)
goes_on (at_variables format n table) s whole rest more h l b e = variables_on format n table s.format s.table s.checkpoint whole rest more l b e
goes_on (at_cells format next vars waiting names cells) s whole rest more h l b e = cells_on format next vars waiting names cells s.format s.table s.checkpoint whole rest more l b e
goes_on (at_blocks format waiting c) s whole rest more h l b e = blocks_on format waiting c s.format s.table s.checkpoint whole rest more l b e
goes_on (at_events start history) s whole rest more h l b e = absurd h

-- ---- a refusal by what comes next
head_never : (p : CheckerState) (whole rest : List ℕ) → IsHead p → LinesUpTo p whole → NoLineNext p rest → ReportsFault BadHeader (whole ++ rest)
head_never p whole rest h l never = λ s b more e.
    let g = goes_on p s whole rest more h l b e in
    never g.line g.next g.leads g.short g.more g.text

pub ReportsFault-strange : (r : CheckerState) (whole rest : List ℕ) → LinesUpTo r whole → NoNext r rest → (0 < length rest ⊎ (strange r ≡ BadHeader)) → ReportsFault (strange r) (whole ++ rest)
ReportsFault-strange at_header whole rest s never some = head_never at_header whole rest tt s never
ReportsFault-strange (at_variables format n table) whole rest s never some = head_never (at_variables format n table) whole rest tt s never
ReportsFault-strange (at_cells format next vars waiting names cells) whole rest s never some = head_never (at_cells format next vars waiting names cells) whole rest tt s never
ReportsFault-strange (at_blocks format waiting c) whole rest s never some = head_never (at_blocks format waiting c) whole rest tt s never
ReportsFault-strange (at_events start history) whole rest s never (inl some) =
    (start, history, rest, record { text = ap (λ w. w ++ rest) s.0; start = s.1; events = s.2; legal = s.3 }, refl, some, never)
ReportsFault-strange (at_events start history) whole rest s never (inr e) = absurd (cc)

-- ---- when no line comes next
no_line_line : (p : CheckerState) (line more : List ℕ) → NoFeed line → LeadsNowhere p line → NoLineNext p (line ++ 10 ∷ more)
no_line_line p line more h never = λ other q k short after e.
    let same : line ≡ other = (cut_unique line more other after h (leads_no_feed p other q k) e).line in
    never q (subst (λ (x : List ℕ). LeadsTo p x q) (sym same) k)

no_line_long : (p : CheckerState) (line more : List ℕ) → NoFeed line → max_line < length line → NoLineNext p (line ++ more)
no_line_long p line more h long = λ other q k short after e. no_cut line more other after h (omega arith) e

no_line_end : (p : CheckerState) (line : List ℕ) → NoFeed line → NoLineNext p line
no_line_end p line h = λ other q k short after e. no_feed_at_end line other after h e

pub NoNext-line : (r : CheckerState) (line more : List ℕ) → NoFeed line → IsStrange r line → NoNext r (line ++ 10 ∷ more)
NoNext-line at_header line more h never = no_line_line at_header line more h never
NoNext-line (at_variables format m table) line more h never = no_line_line (at_variables format m table) line more h never
NoNext-line (at_cells format next vars waiting names cells) line more h never = no_line_line (at_cells format next vars waiting names cells) line more h never
NoNext-line (at_blocks format waiting c) line more h never = no_line_line (at_blocks format waiting c) line more h never
NoNext-line (at_events start history) line more h never = λ g fits may short after e. never g fits may (sym (cut_unique line more (event_line g) after h (event_no_feed (names_after start history) g fits) e).line)

pub NoNext-long : (r : CheckerState) (line more : List ℕ) → NoFeed line → max_line < length line → NoNext r (line ++ more)
NoNext-long at_header line more h long = no_line_long at_header line more h long
NoNext-long (at_variables format m table) line more h long = no_line_long (at_variables format m table) line more h long
NoNext-long (at_cells format next vars waiting names cells) line more h long = no_line_long (at_cells format next vars waiting names cells) line more h long
NoNext-long (at_blocks format waiting c) line more h long = no_line_long (at_blocks format waiting c) line more h long
NoNext-long (at_events start history) line more h long = λ g fits may short after e. no_cut line more (event_line g) after h (omega arith) e

pub NoNext-end : (r : CheckerState) (line : List ℕ) → NoFeed line → NoNext r line
NoNext-end at_header line h = no_line_end at_header line h
NoNext-end (at_variables format m table) line h = no_line_end (at_variables format m table) line h
NoNext-end (at_cells format next vars waiting names cells) line h = no_line_end (at_cells format next vars waiting names cells) line h
NoNext-end (at_blocks format waiting c) line h = no_line_end (at_blocks format waiting c) line h
NoNext-end (at_events start history) line h = λ g fits may short after e. no_feed_at_end line (event_line g) after h e

-- ---- a byte more

pub HasTaken-feed : (r t : CheckerState) (line taken : List ℕ) → HasTaken r line taken → LeadsTo r line t → HasTaken t [] (taken ++ 10 ∷ [])
HasTaken-feed r t line taken h k = record {
  whole = h.whole ++ (line ++ 10 ∷ []);
  taken_is = ap (λ x. x ++ 10 ∷ []) h.taken_is ∙ append_assoc h.whole line (10 ∷ []) ∙ sym (append-nil _);
  lines = LinesUpTo-line r t h.whole line h.lines k h.short;
  one_line = tt;
  short = omega arith;
}

pub HasTaken-part : (r : CheckerState) (line taken part : List ℕ) → HasTaken r line taken → NoFeed part → length line + length part ≤ max_line → HasTaken r (line ++ part) (taken ++ part)
HasTaken-part r line taken part h k l = record {
  whole = h.whole;
  taken_is = ap (λ x. x ++ part) h.taken_is ∙ append_assoc h.whole line part;
  lines = h.lines;
  one_line = nofeed-append line part h.one_line k;
  short = omega (arith, length-append line part);
}

some_more : (line more : List ℕ) (b : ℕ) → 0 < length (line ++ b ∷ more)
some_more line more b = omega (arith, length-append line (b ∷ more))

tells_at : (e : HistoryFault) (r : CheckerState) (line taken rest : List ℕ) (h : HasTaken r line taken) → e ≡ strange r → ReportsFault (strange r) (h.whole ++ (line ++ rest)) → ReportsFault e (taken ++ rest)
tells_at e r line taken rest h k t =
    subst (λ (x : HistoryFault). ReportsFault x (taken ++ rest)) (sym k)
    (subst (ReportsFault (strange r)) (sym (ap (λ x. x ++ rest) h.taken_is ∙ append_assoc h.whole line rest)) t)

-- a line that its feed ended
pub ReportsFault-refused : (r : CheckerState) (line taken more : List ℕ) (e : HistoryFault) → HasTaken r line taken → MayRefuse r line e → ReportsFault e (taken ++ 10 ∷ more)
ReportsFault-refused r line taken more e h (inl none) = subst (λ (x : HistoryFault). ReportsFault x (taken ++ 10 ∷ more)) (sym none) tt
ReportsFault-refused r line taken more e h (inr (inl k)) =
    tells_at e r line taken (10 ∷ more) h k.0 (ReportsFault-strange r h.whole (line ++ 10 ∷ more) h.lines (NoNext-line r line more h.one_line k.1) (inl (some_more line more 10)))
ReportsFault-refused at_header line taken more e h (inr (inr k)) = absurd k
ReportsFault-refused (at_variables format n table) line taken more e h (inr (inr k)) = absurd k
ReportsFault-refused (at_cells format next vars waiting names cells) line taken more e h (inr (inr k)) = absurd k
ReportsFault-refused (at_blocks format waiting c) line taken more e h (inr (inr k)) = absurd k
ReportsFault-refused (at_events start history) line taken more e h (inr (inr k)) =
    let s = h.lines in
    subst (λ (x : HistoryFault). ReportsFault x (taken ++ 10 ∷ more)) (sym k.5) (
      start,
      history,
      k.0,
      more,
      record { text = ap (λ x. x ++ 10 ∷ more) h.taken_is ∙ append_assoc h.whole line (10 ∷ more) ∙ ap (λ x. x ++ (line ++ 10 ∷ more)) s.0 ∙ ap (λ x. history_text start history ++ (x ++ 10 ∷ more)) (sym k.1); start = s.1; events = s.2; legal = s.3 },
      refl,
      k.2,
      k.3,
      subst IsShort (sym k.1) h.short,
      k.4,
    )

-- a line too long
pub ReportsFault-long : (r : CheckerState) (line taken part more : List ℕ) → HasTaken r line taken → NoFeed part → max_line < length line + length part → ReportsFault (strange r) (taken ++ (part ++ more))
ReportsFault-long r line taken part more h k l =
    let never : NoNext r (line ++ (part ++ more)) = subst (NoNext r) (append_assoc line part more) (NoNext-long r (line ++ part) more (nofeed-append line part h.one_line k) (omega (arith, length-append line part))) in
    let some : 0 < length (line ++ (part ++ more)) = omega (arith, length-append line (part ++ more), length-append part more) in
    tells_at (strange r) r line taken (part ++ more) h refl (ReportsFault-strange r h.whole (line ++ (part ++ more)) h.lines never (inl some))

-- the end of the bytes
pub ReportsFault-end : (r : CheckerState) (line taken : List ℕ) → HasTaken r line taken → (0 < length line ⊎ (strange r ≡ BadHeader)) → ReportsFault (strange r) taken
ReportsFault-end r line taken h some = subst (ReportsFault (strange r)) (sym h.taken_is) (ReportsFault-strange r h.whole line h.lines (NoNext-end r line h.one_line) some)

-- ---- where a check stops

-- the bytes after what was taken go on with the line that has begun, and the fault is at this line
stops_at : (r : CheckerState) (whole : ℕ) (line taken rest : List ℕ) (e : HistoryFault) (h : HasTaken r line taken) → whole ≡ length h.whole → IsFaultAt r (line ++ rest) e → StopsAt e whole (taken ++ rest)
stops_at r whole line taken rest e h n f =
    let parts : taken ++ rest ≡ h.whole ++ (line ++ rest) = ap (λ x. x ++ rest) h.taken_is ∙ append_assoc h.whole line rest in
    let front : take whole (taken ++ rest) ≡ h.whole = ap (take whole) parts ∙ take_at h.whole (line ++ rest) whole (sym n) in
    let next : drop whole (taken ++ rest) ≡ line ++ rest = ap (drop whole) parts ∙ drop_at h.whole (line ++ rest) whole (sym n) in
    let long = ap length parts ∙ length-append h.whole (line ++ rest) in
    record {
      progress = r;
      within = omega (arith, n, long);
      lines = subst (LinesUpTo r) (sym front) h.lines;
      fault = subst (λ (x : List ℕ). IsFaultAt r x e) (sym next) f;
    }

refused_at : (r : CheckerState) (line more : List ℕ) (e : HistoryFault) → NoFeed line → IsShort line → MayRefuse r line e → IsFaultAt r (line ++ 10 ∷ more) e
refused_at r line more e plain short (inl none) = inr (inl none)
refused_at r line more e plain short (inr (inl k)) = inr (inr (inl (k.0, NoNext-line r line more plain k.1)))
refused_at at_header line more e plain short (inr (inr k)) = absurd k
refused_at (at_variables format n table) line more e plain short (inr (inr k)) = absurd k
refused_at (at_cells format next vars waiting names cells) line more e plain short (inr (inr k)) = absurd k
refused_at (at_blocks format waiting c) line more e plain short (inr (inr k)) = absurd k
refused_at (at_events start history) line more e plain short (inr (inr k)) =
    inr (inr (inr (k.0, more, ap (λ x. x ++ 10 ∷ more) (sym k.1), k.2, k.3, subst IsShort (sym k.1) short, k.4, k.5)))

-- a first line that promises too much
header_strange : (format m : ℕ) (line : List ℕ) (q : CheckerState) → IsFormat format → header_line format m ≡ line → m < 2 ^ 32 → max_cells < m → LeadsTo at_header line q → ⊥
header_strange format m line q read e small many (inl k) =
    let same : m ≡ k.1 = (header_same format k.0 m k.1 read k.2 small (omega (arith, k.4)) (e ∙ sym k.3)).1 in omega (arith, same, k.4)
header_strange format m line q read e small many (inr k) =
    let h = k.5 in
    checkpoint_header_new k.0 k.1 k.2 k.3 format m k.4 (omega (arith, h.tickets)) (omega (arith, h.vars)) (omega (arith, h.waiting)) read small (k.6 ∙ sym e)

pub too_many : (format m : ℕ) (line : List ℕ) → IsFormat format → header_line format m ≡ line → m < 2 ^ 32 → max_cells < m → IsStrange at_header line
too_many format m line read e small many = λ q k. header_strange format m line q read e small many k

-- a line of an event that the format lacks
pub unfit : (start : Start) (history : List Event) (e : Event) → FitsNames (names_after start history) e → (FitsFormat start.format e → ⊥) → IsStrange (at_events start history) (event_line e)
unfit start history e f none = λ d fits may k. none (subst (FitsFormat start.format) (event_same (names_after start history) d e fits f k) may)

-- ---- refused lines, as the code has them

pub refused_byte : (s s' : Stage) (whole : ℕ) (line line' taken more : List ℕ) (b : ℕ) (e : HistoryFault) → b ≡ 10 → s' ≡ s → line' ≡ line
    → ((p : CheckerState) → IsStage s' p → MayRefuse p line' e) → Reached s whole line taken → ReportsFault e (taken ++ b ∷ more)
refused_byte s s' whole line line' taken more b e b10 es el h r =
    let stage : IsStage s' r.progress = subst (λ (x : Stage). IsStage x r.progress) (sym es) r.stage in
    rw b10 (ReportsFault-refused r.progress line taken more e r.held (subst (λ (l : List ℕ). MayRefuse r.progress l e) el (h r.progress stage)))

-- and so it stops there
pub refused_stops : (s s' : Stage) (whole : ℕ) (line line' taken more : List ℕ) (e : HistoryFault) → s' ≡ s → line' ≡ line
    → ((p : CheckerState) → IsStage s' p → MayRefuse p line' e) → Reached s whole line taken → StopsAt e whole (taken ++ 10 ∷ more)
refused_stops s s' whole line line' taken more e es el h r =
    let stage : IsStage s' r.progress = subst (λ (x : Stage). IsStage x r.progress) (sym es) r.stage in
    let held = r.held in
    stops_at r.progress whole line taken (10 ∷ more) e held r.counts
    (refused_at r.progress line more e held.one_line held.short (subst (λ (l : List ℕ). MayRefuse r.progress l e) el (h r.progress stage)))

pub fed_byte : (s s' t : Stage) (whole whole' : ℕ) (line line' left taken : List ℕ) (b : ℕ) → b ≡ 10 → s' ≡ s → line' ≡ line → left ≡ [] → whole' ≡ whole + (length line + 1)
    → ((p : CheckerState) → IsStage s' p → LeadsToStage p line' t) → Reached s whole line taken → Reached t whole' left (taken ++ b ∷ [])
unfolding HasTaken-feed
fed_byte s s' t whole whole' line line' left taken b b10 es el e n h r =
    let stage : IsStage s' r.progress = subst (λ (x : Stage). IsStage x r.progress) (sym es) r.stage in
    let k = h r.progress stage in
    let led : LeadsTo r.progress line k.0 = subst (λ (l : List ℕ). LeadsTo r.progress l k.0) el k.1 in
    let held = r.held in
    let longer : length (held.whole ++ (line ++ 10 ∷ [])) ≡ length held.whole + (length line + 1) = length-append held.whole (line ++ 10 ∷ []) ∙ ap (λ (k : ℕ). length held.whole + k) (length-append line (10 ∷ [])) in
    rw (b10, e) (record { progress = k.0; stage = k.2; held = HasTaken-feed r.progress k.0 line taken r.held led; counts = omega (arith, n, r.counts, longer) })

pub part_more : (s : Stage) (whole : ℕ) (line taken part : List ℕ) → Reached s whole line taken → NoFeed part → length line + length part ≤ max_line → Reached s whole (line ++ part) (taken ++ part)
unfolding HasTaken-part
part_more s whole line taken part r k l = record { progress = r.progress; stage = r.stage; held = HasTaken-part r.progress line taken part r.held k l; counts = r.counts }

pub ends_early : (s : Stage) (whole : ℕ) (line taken : List ℕ) (e : HistoryFault) → ((p : CheckerState) → IsStage s p → e ≡ strange p) → Reached s whole line taken → (0 < length line ⊎ (e ≡ BadHeader)) → ReportsFault e taken
ends_early s whole line taken e k r (inl some) = let same = k r.progress r.stage in subst (λ (x : HistoryFault). ReportsFault x taken) (sym same) (ReportsFault-end r.progress line taken r.held (inl some))
ends_early s whole line taken e k r (inr bad) = let same = k r.progress r.stage in subst (λ (x : HistoryFault). ReportsFault x taken) (sym same) (ReportsFault-end r.progress line taken r.held (inr (sym same ∙ bad)))

-- a check stops at the end of the bytes
pub early_stops : (s : Stage) (whole : ℕ) (line taken : List ℕ) (e : HistoryFault) → ((p : CheckerState) → IsStage s p → e ≡ strange p) → Reached s whole line taken → StopsAt e whole taken
early_stops s whole line taken e k r =
    let held = r.held in
    let never : NoNext r.progress (line ++ []) = subst (NoNext r.progress) (sym (append-nil line)) (NoNext-end r.progress line held.one_line) in
    subst (StopsAt e whole) (append-nil taken) (stops_at r.progress whole line taken [] e held r.counts (inr (inr (inl (k r.progress r.stage, never)))))

pub too_long : (s : Stage) (whole : ℕ) (line taken part more : List ℕ) (e : HistoryFault) → ((p : CheckerState) → IsStage s p → e ≡ strange p) → Reached s whole line taken → NoFeed part → max_line < length line + length part → ReportsFault e (taken ++ (part ++ more))
too_long s whole line taken part more e k r n l = subst (λ (x : HistoryFault). ReportsFault x (taken ++ (part ++ more))) (sym (k r.progress r.stage)) (ReportsFault-long r.progress line taken part more r.held n l)

-- a check stops at a line that is too long
pub long_stops : (s : Stage) (whole : ℕ) (line taken part more : List ℕ) (e : HistoryFault) → ((p : CheckerState) → IsStage s p → e ≡ strange p) → Reached s whole line taken → NoFeed part → max_line < length line + length part → StopsAt e whole (taken ++ (part ++ more))
long_stops s whole line taken part more e k r n l =
    let held = r.held in
    let never : NoNext r.progress (line ++ (part ++ more)) =
    subst (NoNext r.progress) (append_assoc line part more) (NoNext-long r.progress (line ++ part) more (nofeed-append line part held.one_line n) (omega (arith, length-append line part))) in
    stops_at r.progress whole line taken (part ++ more) e held r.counts (inr (inr (inl (k r.progress r.stage, never))))

-- or where memory runs out
pub memory_stops : (s : Stage) (whole : ℕ) (line taken rest : List ℕ) → Reached s whole line taken → StopsAt NoMemory whole (taken ++ rest)
memory_stops s whole line taken rest r = stops_at r.progress whole line taken rest NoMemory r.held r.counts (inr (inl refl))

-- or where the reader fails
pub reader_stops : (s : Stage) (whole : ℕ) (line taken rest : List ℕ) → Reached s whole line taken → StopsAt ReadFault whole (taken ++ rest)
reader_stops s whole line taken rest r = stops_at r.progress whole line taken rest ReadFault r.held r.counts (inl refl)

-- before the first line the fault is in the head
pub before_strange : (s : Stage) (keep : Bool) (p : CheckerState) → s ≡ Before keep → IsStage s p → BadHeader ≡ strange p
before_strange s keep p e i =
    let at : p ≡ at_header = subst (λ (x : Stage). IsStage x p) e i in
    ap strange (sym at)

-- among the variables too
pub declaring_strange : (s : Stage) (keep : Bool) (format vars : ℕ) (table : List Declared) (p : CheckerState) → s ≡ Declaring keep format vars table → IsStage s p → BadHeader ≡ strange p
declaring_strange s keep format vars table p e i =
    let at : p ≡ at_variables format vars table = subst (λ (x : Stage). IsStage x p) e i in
    ap strange (sym at)

-- among the variables of a checkpoint
pub cells_strange : (s : Stage) (keep : Bool) (h : CheckpointHeader) (names : List Named) (cells : Vec Cell) (p : CheckerState) → s ≡ AtCells keep h names cells → IsStage s p → BadHeader ≡ strange p
cells_strange s keep h names cells p e i =
    let at : p ≡ at_cells h.format h.next h.vars h.waiting names cells.items = subst (λ (x : Stage). IsStage x p) e i in
    ap strange (sym at)

-- and among its waiting blocks
pub blocks_strange : (s : Stage) (keep : Bool) (format waiting : ℕ) (c : CheckpointView) (p : CheckerState) → s ≡ AtBlocks keep format waiting c → IsStage s p → BadHeader ≡ strange p
blocks_strange s keep format waiting c p e i =
    let at : p ≡ at_blocks format waiting c = subst (λ (x : Stage). IsStage x p) e i in
    ap strange (sym at)
