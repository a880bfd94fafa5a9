-- One line more.
use Rattle.std.proofs.Common.{◌≡◌, ℕ, ◌+◌, ◌≤◌, ◌<◌, Bool, true, false, cond, List, [], ◌∷◌, ◌++◌, length, Some, None, refl, sym, ap, ◌∙◌, subst, arith, append_assoc, append-nil, length-append, inl, inr}
use Rattle.std.specs.Prelude.{◌&&◌, nat_lt}
use Rattle.std.proofs.lemmas.Bool.Decides.{nat_tests}
use Rattle.std.proofs.lemmas.Bool.{and_from}
use Rattle.stm_store.specs.declared.cell.Cell.{Cell}
use Rattle.stm_store.specs.Cells.{IsStore, plains}
use Rattle.stm_store.specs.Naming.{Named}
use Rattle.stm_store.specs.Tables.{Declared}
use Rattle.stm_events.specs.declared.event.Event.{Event}
use Rattle.stm_events.specs.SlowDesk.{Slow, after, max_cells, state_from}
use Rattle.stm_terms.specs.Limits.{max_waiting}
use Rattle.stm_machine.specs.declared.checkpoint.CheckpointBlock.{CheckpointBlock}
use Rattle.stm_machine.specs.Checkpoints.{CheckpointView}
use Rattle.stm_event_lines.specs.CheckpointLines.{FitsWaiting, IsCheckpointFormat, cell_line, checkpoint_header_line}
use Rattle.stm_event_lines.specs.Fits.{FitsNames, FitsFormat}
use Rattle.stm_event_lines.specs.Lines.{IsFormat, event_line, header_line, variable_line}
use Rattle.stm_history_text.specs.HistoryText.{block_line, block_lines, cell_lines, cells_text, checkpoint_text, head_text, history_text, start_text, variable_lines, event_lines}
use Rattle.stm_history.specs.Judgement.{IsShort, MayDeclare, AreVariables, AreVariablesFrom, AreEvents, FitBlocks, HaveShortLines, IsReadable}
use Rattle.stm_history.specs.Progress.{CheckerState, at_header, at_variables, at_cells, at_blocks, at_events, with_table, with_blocks, with_cells, with_name_of, AreCells, IsCheckpointHead, LeadsTo, LinesUpTo}
use Rattle.stm_history_text.specs.Starts.{are_plain_blocks, delivery_of_block, first_state, is_plain_block}
use Rattle.stm_history.proofs.CellNames.{cells_push, lines_push}

pub variable_lines-push : (ds : List Declared) (d : Declared) → variable_lines (ds ++ d ∷ []) ≡ variable_lines ds ++ (variable_line d ++ 10 ∷ [])
variable_lines-push [] d = refl
variable_lines-push (c ∷ ds) d = ap (λ l. variable_line c ++ 10 ∷ l) (variable_lines-push ds d) ∙ sym (append_assoc (variable_line c) (10 ∷ variable_lines ds) (variable_line d ++ 10 ∷ []))

pub event_lines-push : (es : List Event) (e : Event) → event_lines (es ++ e ∷ []) ≡ event_lines es ++ (event_line e ++ 10 ∷ [])
event_lines-push [] e = refl
event_lines-push (d ∷ es) e = ap (λ l. event_line d ++ 10 ∷ l) (event_lines-push es e) ∙ sym (append_assoc (event_line d) (10 ∷ event_lines es) (event_line e ++ 10 ∷ []))

pub block_lines-push : (bs : List CheckpointBlock) (b : CheckpointBlock) → block_lines (bs ++ b ∷ []) ≡ block_lines bs ++ (block_line b ++ 10 ∷ [])
block_lines-push [] b = refl
block_lines-push (c ∷ bs) b = ap (λ l. block_line c ++ 10 ∷ l) (block_lines-push bs b) ∙ sym (append_assoc (block_line c) (10 ∷ block_lines bs) (block_line b ++ 10 ∷ []))

variables_push : (prior ds : List Declared) (d : Declared) → AreVariablesFrom prior ds → MayDeclare (prior ++ ds) d → AreVariablesFrom prior (ds ++ d ∷ [])
variables_push prior [] d a m = (subst (λ (x : List Declared). MayDeclare x d) (append-nil prior) m, tt)
variables_push prior (c ∷ ds) d a m =
    (a.0, variables_push (prior ++ c ∷ []) ds d a.1 (subst (λ (x : List Declared). MayDeclare x d) (sym (append_assoc prior (c ∷ []) ds)) m))

events_push : (format : ℕ) (s : Slow) (es : List Event) (e : Event) → AreEvents format s es → FitsNames (state_from s es).names e → FitsFormat format e → IsShort (event_line e) → AreEvents format s (es ++ e ∷ [])
events_push format s [] e a f g h = (f, g, h, tt)
events_push format s (d ∷ es) e a f g h = (a.0, a.1, a.2, events_push format (after s d.what) es e a.3 f g h)

-- ---- the variables of a checkpoint
pub no_cells : IsStore []
no_cells = record { small = omega arith; typed = λ i c e. absurd cc; low = λ i c e. absurd cc }

pub no_cells_yet : (format : ℕ) → AreCells format [] []
no_cells_yet format = record {
  known = record { named = λ i d e. absurd cc; ascending = λ i j d e f g l. absurd cc; distinct = λ i d e. absurd cc; typed = λ i d e. absurd cc; held = λ i d e. absurd cc };
  named = tt;
  gapless = λ e. refl;
  fit = tt;
}

-- ---- the waiting blocks of a checkpoint
blocks_push : (names : List Named) (bs : List CheckpointBlock) (b : CheckpointBlock) → FitBlocks names bs → FitsWaiting names b.ticket b.waiting.block b.cause b.label (delivery_of_block b) → FitBlocks names (bs ++ b ∷ [])
blocks_push names [] b a f = (f, tt)
blocks_push names (c ∷ bs) b a f = (a.0, blocks_push names bs b a.1 f)

pub plain_push : (bs : List CheckpointBlock) (b : CheckpointBlock) → are_plain_blocks bs ≡ true → is_plain_block b.cause b.label ≡ true → are_plain_blocks (bs ++ b ∷ []) ≡ true
plain_push [] b e f = and_from (is_plain_block b.cause b.label) true f refl
plain_push (c ∷ bs) b e f = by (is_plain_block c.cause c.label) (are_plain_blocks bs) e (λ h. plain_push bs b h f) where
  by : (x y : Bool) → (x && y) ≡ true → (y ≡ true → are_plain_blocks (bs ++ b ∷ []) ≡ true) → (x && are_plain_blocks (bs ++ b ∷ [])) ≡ true
  by true y g k = k g
  by false y g k = cc

short_push : (bs : List CheckpointBlock) (b : CheckpointBlock) → HaveShortLines bs → IsShort (block_line b) → HaveShortLines (bs ++ b ∷ [])
short_push [] b a s = (s, tt)
short_push (c ∷ bs) b a s = (a.0, short_push bs b a.1 s)

-- ---- whether it was the last one
-- the variables so far, complete or not
lines_cases : (format n : ℕ) (text : List ℕ) (table : List Declared) → IsFormat format → text ≡ head_text format n table → AreVariables table → length table ≤ n → n ≤ max_cells
    → (b : Bool) → (b ≡ true → length table < n) → (b ≡ false → n ≤ length table)
    → LinesUpTo (cond b (at_variables format n table) (at_events (record { format = format; table = table; checkpoint = None }) [])) text
lines_cases format n text table f e vs few small true h k = (f, e, vs, h refl, small)
lines_cases format n text table f e vs few small false h k =
    let more : n ≤ length table = k refl in
    let all : n ≡ length table = omega arith in
    (e ∙ ap (λ m. head_text format m table) all ∙ sym (append-nil (head_text format (length table) table)), (f, omega arith, vs), tt, record { each = tt; few = omega arith })

with_table-lines : (format n : ℕ) (text : List ℕ) (table : List Declared) → IsFormat format → text ≡ head_text format n table → AreVariables table → length table ≤ n → n ≤ max_cells
    → LinesUpTo (with_table format n table) text
with_table-lines format n text table f e vs few small =
    lines_cases format n text table f e vs few small (nat_lt (length table) n) (λ h. grind (arith, nat_tests)) (λ h. grind (arith, nat_tests))

-- the waiting blocks so far, complete or not
blocks_cases : (format waiting : ℕ) (c : CheckpointView) (text : List ℕ) → text ≡ checkpoint_text format waiting c → IsReadable format c → length c.blocks ≤ waiting → waiting ≤ max_waiting
    → (b : Bool) → (b ≡ true → length c.blocks < waiting) → (b ≡ false → waiting ≤ length c.blocks)
    → LinesUpTo (cond b (at_blocks format waiting c) (at_events (record { format = format; table = []; checkpoint = Some c }) [])) text
blocks_cases format waiting c text e r few small true h k = (e, r, h refl, small)
blocks_cases format waiting c text e r few small false h k =
    let more : waiting ≤ length c.blocks = k refl in
    let all : waiting ≡ length c.blocks = omega arith in
    (e ∙ ap (λ m. checkpoint_text format m c) all ∙ sym (append-nil (checkpoint_text format (length c.blocks) c)), (refl, r), tt, record { each = tt; few = omega arith })

with_blocks-lines : (format waiting : ℕ) (c : CheckpointView) (text : List ℕ) → text ≡ checkpoint_text format waiting c → IsReadable format c → length c.blocks ≤ waiting → waiting ≤ max_waiting
    → LinesUpTo (with_blocks format waiting c) text
with_blocks-lines format waiting c text e r few small =
    blocks_cases format waiting c text e r few small (nat_lt (length c.blocks) waiting) (λ h. grind (arith, nat_tests)) (λ h. grind (arith, nat_tests))

-- the variables of a checkpoint that were read are a store: it begins without waiting blocks
pub no_blocks_yet : (format next vars waiting : ℕ) (names : List Named) (cells : List Cell) → IsCheckpointFormat format → IsCheckpointHead next vars waiting → AreCells format names cells → IsStore (plains cells)
    → IsReadable format (record { store = cells; names = names; next = next; blocks = [] })
no_blocks_yet format next vars waiting names cells i h a s = record {
  format_fits = (i, a.gapless, λ is. refl);
  fits = record {
    checkpoint = record { begun = h.begun; tickets = h.tickets; store = s; named = a.named; few = omega arith; blocks = tt };
    known = a.known;
    cells = a.fit;
    blocks = tt;
  };
  short = tt;
}

-- the variables of a checkpoint so far, complete or not
cells_cases : (format next vars waiting : ℕ) (names : List Named) (cells : List Cell) (text : List ℕ) → IsCheckpointFormat format → IsCheckpointHead next vars waiting → text ≡ cells_text format next vars waiting names cells → AreCells format names cells
    → length cells ≤ vars → (length cells ≡ vars → IsStore (plains cells)) → (b : Bool) → (b ≡ true → length cells < vars) → (b ≡ false → vars ≤ length cells)
    → LinesUpTo (cond b (at_cells format next vars waiting names cells) (with_blocks format waiting (record { store = cells; names = names; next = next; blocks = [] }))) text
cells_cases format next vars waiting names cells text i h e a few s true k l = (h, e, a, k refl, i)
cells_cases format next vars waiting names cells text i h e a few s false k l =
    let more : vars ≤ length cells = l refl in
    let all : vars ≡ length cells = omega arith in
    with_blocks-lines format waiting (record { store = cells; names = names; next = next; blocks = [] }) text
    (e ∙ ap (λ m. cells_text format next m waiting names cells) all ∙ sym (append-nil (cells_text format next (length cells) waiting names cells)))
    (no_blocks_yet format next vars waiting names cells i h a (s (sym all))) (omega arith) h.waiting

with_cells-lines : (format next vars waiting : ℕ) (names : List Named) (cells : List Cell) (text : List ℕ) → IsCheckpointFormat format → IsCheckpointHead next vars waiting → text ≡ cells_text format next vars waiting names cells
    → AreCells format names cells → length cells ≤ vars → (length cells ≡ vars → IsStore (plains cells)) → LinesUpTo (with_cells format next vars waiting names cells) text
with_cells-lines format next vars waiting names cells text i h e a few s =
    cells_cases format next vars waiting names cells text i h e a few s (nat_lt (length cells) vars) (λ k. grind (arith, nat_tests)) (λ k. grind (arith, nat_tests))

-- ---- one line more
header_led : (t : CheckerState) (text line : List ℕ) → text ≡ [] → LeadsTo at_header line t → LinesUpTo t (text ++ (line ++ 10 ∷ []))
header_led t text line s (inl k) =
    subst (λ (r : CheckerState). LinesUpTo r (text ++ (line ++ 10 ∷ []))) (sym k.5)
    (with_table-lines k.0 k.1 (text ++ (line ++ 10 ∷ [])) [] k.2 (ap (λ x. x ++ (line ++ 10 ∷ [])) s ∙ ap (λ x. x ++ 10 ∷ []) (sym k.3)) tt (omega arith) k.4)
header_led t text line s (inr k) =
    subst (λ (r : CheckerState). LinesUpTo r (text ++ (line ++ 10 ∷ []))) (sym k.7)
    (with_cells-lines k.0 k.1 k.2 k.3 [] [] (text ++ (line ++ 10 ∷ [])) k.4 k.5 (ap (λ x. x ++ (line ++ 10 ∷ [])) s ∙ ap (λ x. x ++ 10 ∷ []) (sym k.6)) (no_cells_yet k.0) (omega arith) (λ e. no_cells))

cell_led : (format next vars waiting : ℕ) (names : List Named) (cells : List Cell) (t : CheckerState) (text line : List ℕ) → LinesUpTo (at_cells format next vars waiting names cells) text
    → LeadsTo (at_cells format next vars waiting names cells) line t → LinesUpTo t (text ++ (line ++ 10 ∷ []))
cell_led format next vars waiting names cells t text line s k =
    let name = k.0 in
    let c = k.1 in
    let may = k.3 in
    let l : length (cells ++ c ∷ []) ≡ length cells + 1 = length-append cells (c ∷ []) in
    subst (λ (r : CheckerState). LinesUpTo r (text ++ (line ++ 10 ∷ []))) (sym k.4)
    (with_cells-lines format next vars waiting (with_name_of names (length cells) name c.kind) (cells ++ c ∷ []) (text ++ (line ++ 10 ∷ [])) s.4 s.0
    (ap (λ x. x ++ (line ++ 10 ∷ [])) s.1 ∙ ap (λ x. cells_text format next vars waiting names cells ++ (x ++ 10 ∷ [])) (sym k.2)
    ∙ append_assoc (checkpoint_header_line format next vars waiting) (10 ∷ cell_lines names cells) (cell_line name c ++ 10 ∷ [])
    ∙ ap (λ x. checkpoint_header_line format next vars waiting ++ 10 ∷ x) (sym (lines_push format names cells name c s.2)))
    (cells_push format names cells name c s.2 may.fits may.named) (omega (arith, l, s.3)) (λ e. may.store (sym l ∙ e)))

block_led : (format waiting : ℕ) (c : CheckpointView) (t : CheckerState) (text line : List ℕ) → LinesUpTo (at_blocks format waiting c) text → LeadsTo (at_blocks format waiting c) line t → IsShort line
    → LinesUpTo t (text ++ (line ++ 10 ∷ []))
block_led format waiting c t text line s k short =
    let b = k.0 in
    let r = s.1 in
    let f = r.fits in
    let l : length (c.blocks ++ b ∷ []) ≡ length c.blocks + 1 = length-append c.blocks (b ∷ []) in
    subst (λ (r : CheckerState). LinesUpTo r (text ++ (line ++ 10 ∷ []))) (sym k.3)
    (with_blocks-lines format waiting (record c { blocks = c.blocks ++ b ∷ [] }) (text ++ (line ++ 10 ∷ []))
    (ap (λ x. x ++ (line ++ 10 ∷ [])) s.0 ∙ ap (λ x. checkpoint_text format waiting c ++ (x ++ 10 ∷ [])) (sym k.1)
    ∙ append_assoc (cells_text format c.next (length c.store) waiting c.names c.store) (block_lines c.blocks) (block_line b ++ 10 ∷ [])
    ∙ ap (λ x. cells_text format c.next (length c.store) waiting c.names c.store ++ x) (sym (block_lines-push c.blocks b)))
    (record {
      format_fits = (r.format_fits.0, r.format_fits.1, λ is. plain_push c.blocks b (r.format_fits.2 is) ((k.2).2 is));
      fits = record { checkpoint = (k.2).1; known = f.known; cells = f.cells; blocks = blocks_push c.names c.blocks b f.blocks (k.2).0 };
      short = short_push c.blocks b r.short (subst IsShort (sym k.1) short);
    })
    (omega (arith, l, s.2)) s.3)

pub LinesUpTo-line : (r t : CheckerState) (text line : List ℕ) → LinesUpTo r text → LeadsTo r line t → IsShort line → LinesUpTo t (text ++ (line ++ 10 ∷ []))
LinesUpTo-line at_header t text line s k short = header_led t text line s k
LinesUpTo-line (at_variables format n table) t text line s k short =
    subst (λ (r : CheckerState). LinesUpTo r (text ++ (line ++ 10 ∷ []))) (sym k.3)
    (with_table-lines format n (text ++ (line ++ 10 ∷ [])) (table ++ k.0 ∷ []) s.0
    (ap (λ x. x ++ (line ++ 10 ∷ [])) s.1 ∙ ap (λ x. head_text format n table ++ (x ++ 10 ∷ [])) (sym k.1) ∙ append_assoc (header_line format n) (10 ∷ variable_lines table) (variable_line k.0 ++ 10 ∷ [])
    ∙ ap (λ x. header_line format n ++ 10 ∷ x) (sym (variable_lines-push table k.0)))
    (variables_push [] table k.0 s.2 k.2)
    (let l : length (table ++ k.0 ∷ []) ≡ length table + 1 = length-append table (k.0 ∷ []) in omega (arith, l, s.3)) s.4)
LinesUpTo-line (at_cells format next vars waiting names cells) t text line s k short = cell_led format next vars waiting names cells t text line s k
LinesUpTo-line (at_blocks format waiting c) t text line s k short = block_led format waiting c t text line s k short
LinesUpTo-line (at_events start history) t text line s k short =
    subst (λ (r : CheckerState). LinesUpTo r (text ++ (line ++ 10 ∷ []))) (sym k.5) (
      ap (λ x. x ++ (line ++ 10 ∷ [])) s.0 ∙ ap (λ x. history_text start history ++ (x ++ 10 ∷ [])) (sym k.1) ∙ append_assoc (start_text start) (event_lines history) (event_line k.0 ++ 10 ∷ [])
          ∙ ap (λ x. start_text start ++ x) (sym (event_lines-push history k.0)),
      s.1,
      events_push start.format (first_state start) history k.0 s.2 k.2 k.3 (subst IsShort (sym k.1) short),
      k.4,
    )
