-- The whole lines of a text lead to one progress.
use Rattle.std.proofs.Common.{◌≡◌, ℕ, ◌+◌, ◌≤◌, ◌<◌, List, [], ◌∷◌, ◌++◌, length, refl, sym, ap, ◌∙◌, subst, arith, append_assoc, append-nil, length-append, ◌⊎◌, inl, inr}
use Rattle.stm_store.specs.declared.cell.Cell.{Cell}
use Rattle.stm_store.specs.Naming.{Named, name_numbered}
use Rattle.stm_store.specs.Tables.{Declared}
use Rattle.stm_events.specs.declared.event.Event.{Event}
use Rattle.stm_events.specs.SlowDesk.{max_cells}
use Rattle.stm_machine.specs.Checkpoints.{CheckpointView}
use Rattle.stm_event_lines.specs.CheckpointLines.{cell_line, checkpoint_header_line}
use Rattle.stm_event_lines.specs.Lines.{IsFormat, header_line, variable_line}
use Rattle.stm_event_lines.proofs.ReadsBack.{header_same}
use Rattle.stm_history_text.specs.HistoryText.{block_line, block_lines, cell_lines, cell_lines_from, checkpoint_text, event_lines, variable_lines}
use Rattle.stm_history.specs.Judgement.{AreVariables, FitBlocks, IsReadable}
use Rattle.stm_history.specs.Progress.{CheckerState, at_header, at_variables, at_cells, at_blocks, at_events, AreCells, LinesUpTo}
use Rattle.stm_history_text.specs.Starts.{Start}
use Rattle.stm_history.proofs.CellNames.{cells as one_cells, common_cells}
use Rattle.stm_history.proofs.CommonLines.{next_block, next_cell}
use Rattle.stm_history.proofs.CutsAtLineFeeds.{IsCut, cut_unique}
use Rattle.stm_history.proofs.OneReading.{blocks as one_blocks, marked_from, tables, texts_are_of_one_history}
use Rattle.stm_history.proofs.RefusedLines.{IsHead, following, goes_on, head_of, header_no_feed, other_head, same_checkpoint_head, same_store}

-- no text is empty that has a line
pub line_there : (line rest : List ℕ) → line ++ 10 ∷ rest ≡ [] → ⊥
line_there line rest e =
    let l : length (line ++ 10 ∷ rest) ≡ 0 = ap length e in
    let m = length-append line (10 ∷ rest) in
    omega (arith, l, m)

-- ---- two tables
-- two headers at the front of one text
pub record IsSameTableHead (p q m n : ℕ) (a b : List ℕ) : Type 0 where
  pub formats : p ≡ q
  pub numbers : m ≡ n
  pub rest : a ≡ b

same_head : (p q m n : ℕ) (a b : List ℕ) → IsFormat p → IsFormat q → m ≤ max_cells → n ≤ max_cells → header_line p m ++ 10 ∷ a ≡ header_line q n ++ 10 ∷ b → IsSameTableHead p q m n a b
same_head p q m n a b i j h k e =
    let c : IsCut (header_line p m) a (header_line q n) b = cut_unique (header_line p m) a (header_line q n) b (header_no_feed p m i h) (header_no_feed q n j k) e in
    let s : (p ≡ q) × (m ≡ n) = header_same p q m n i j (omega (arith, h)) (omega (arith, k)) c.line in
    record { formats = s.0; numbers = s.1; rest = c.rest }

-- fewer variables have fewer lines
no_fewer : (xs ys : List Declared) (b : List ℕ) → AreVariables xs → AreVariables ys → length xs < length ys → variable_lines xs ≡ variable_lines ys ++ b → ⊥
no_fewer xs ys b h k l e =
    let f = following [] xs ys [] b h k l (append-nil (variable_lines xs) ∙ e) in
    line_there (variable_line f.variable) f.more (sym f.rest)

same_table : (T U : List Declared) → AreVariables T → AreVariables U → variable_lines T ≡ variable_lines U → length T ≡ length U → T ≡ U
same_table T U h k e l = (tables [] T U [] [] h k l (ap (λ (x : List ℕ). x ++ []) e)).tables

same_length : (T U : List Declared) → AreVariables T → AreVariables U → variable_lines T ≡ variable_lines U → (length T < length U) ⊎ ((length U < length T) ⊎ (length T ≡ length U)) → T ≡ U
same_length T U h k e (inl l) = absurd (no_fewer T U [] h k l (e ∙ sym (append-nil (variable_lines U))))
same_length T U h k e (inr (inl l)) = absurd (no_fewer U T [] k h l (sym e ∙ sym (append-nil (variable_lines T))))
same_length T U h k e (inr (inr l)) = same_table T U h k e l

by_length : (m n : ℕ) → (m < n) ⊎ ((n < m) ⊎ (m ≡ n))
by_length m n = grind arith

same_variables : (p q m n : ℕ) (T U : List Declared) (text : List ℕ) → LinesUpTo (at_variables p m T) text → LinesUpTo (at_variables q n U) text → at_variables p m T ≡ at_variables q n U
same_variables p q m n T U text h k =
    let c = same_head p q m n (variable_lines T) (variable_lines U) h.0 k.0 h.4 k.4 (sym h.1 ∙ k.1) in
    let same : T ≡ U = same_length T U h.2 k.2 c.rest (by_length (length T) (length U)) in
    ap (λ (x : ℕ). at_variables x m T) c.formats ∙ ap (λ (x : ℕ). at_variables q x T) c.numbers ∙ ap (at_variables q n) same

-- ---- before the events, and among them
-- a start has lines where a progress before the events ends
pub early : (p : CheckerState) (start : Start) (history : List Event) (text : List ℕ) → IsHead p → LinesUpTo p text → LinesUpTo (at_events start history) text → ⊥
early p start history text h l k =
    let g = goes_on p start text [] (event_lines history) h l k.1 (append-nil text ∙ k.0) in
    line_there g.line g.more (sym g.text)

-- ---- a table and a checkpoint
variables_or_cells : (format n other next vars waiting : ℕ) (T : List Declared) (U : List Named) (cs : List Cell) (text : List ℕ) → LinesUpTo (at_variables format n T) text → LinesUpTo (at_cells other next vars waiting U cs) text → ⊥
variables_or_cells format n other next vars waiting T U cs text h k = other_head format n other next vars waiting (variable_lines T) (cell_lines U cs) h.0 h.4 k.4 k.0 (sym h.1 ∙ k.1)

-- the lines of a checkpoint so far
blocks_flat : (format w : ℕ) (c : CheckpointView) → checkpoint_text format w c ≡ checkpoint_header_line format c.next (length c.store) w ++ 10 ∷ (cell_lines c.names c.store ++ block_lines c.blocks)
blocks_flat format w c = append_assoc (checkpoint_header_line format c.next (length c.store) w) (10 ∷ cell_lines c.names c.store) (block_lines c.blocks)

variables_or_blocks : (format n other waiting : ℕ) (T : List Declared) (c : CheckpointView) (text : List ℕ) → LinesUpTo (at_variables format n T) text → LinesUpTo (at_blocks other waiting c) text → ⊥
variables_or_blocks format n other waiting T c text h k =
    other_head format n other c.next (length c.store) waiting (variable_lines T) (cell_lines c.names c.store ++ block_lines c.blocks) h.0 h.4 (k.1).format_fits.0 (head_of other c waiting k.1 k.3) (sym h.1 ∙ k.0 ∙ blocks_flat other waiting c)

-- ---- two checkpoints
-- fewer variables have fewer lines
no_fewer_cells : (p q : ℕ) (T U : List Named) (cs ds : List Cell) → AreCells p T cs → AreCells q U ds → length cs < length ds → cell_lines T cs ≡ cell_lines U ds → ⊥
no_fewer_cells p q T U cs ds s r l e =
    let g = common_cells p q T U cs ds [] [] s r (omega (arith, l)) (ap (λ (x : List ℕ). x ++ []) e) in
    let long = ap (λ (z : List Cell). length z) g.stores ∙ length-append cs g.cells in
    some_lines (length cs) U g.cells (omega (arith, l, long)) (sym (g.rest ∙ append-nil (cell_lines_from (length cs) U g.cells)))
  where
    some_lines : (i : ℕ) (names : List Named) (cells : List Cell) → 0 < length cells → cell_lines_from i names cells ≡ [] → ⊥
    some_lines i names [] l e = omega (arith, l)
    some_lines i names (c ∷ cells) l e = line_there (cell_line (name_numbered i names) c) (cell_lines_from (i + 1) names cells) e

-- two checkpoints have the same variables
record AreSameCells (T U : List Named) (cs ds : List Cell) : Type 0 where
  pub names : T ≡ U
  pub cells : cs ≡ ds

even_cells : (p q : ℕ) (T U : List Named) (cs ds : List Cell) → AreCells p T cs → AreCells q U ds → length cs ≡ length ds → cell_lines T cs ≡ cell_lines U ds → AreSameCells T U cs ds
even_cells p q T U cs ds s r l e =
    let k = one_cells p q T U cs ds [] [] s r l (ap (λ (x : List ℕ). x ++ []) e) in
    record { names = k.names; cells = k.cells }

same_cells : (p q : ℕ) (T U : List Named) (cs ds : List Cell) → AreCells p T cs → AreCells q U ds → cell_lines T cs ≡ cell_lines U ds → (length cs < length ds) ⊎ ((length ds < length cs) ⊎ (length cs ≡ length ds)) → AreSameCells T U cs ds
same_cells p q T U cs ds s r e (inl l) = absurd (no_fewer_cells p q T U cs ds s r l e)
same_cells p q T U cs ds s r e (inr (inl l)) = absurd (no_fewer_cells q p U T ds cs r s l (sym e))
same_cells p q T U cs ds s r e (inr (inr l)) = even_cells p q T U cs ds s r l e

same_at_cells : (p q next next' vars vars' waiting waiting' : ℕ) (T U : List Named) (cs ds : List Cell) (text : List ℕ) → LinesUpTo (at_cells p next vars waiting T cs) text → LinesUpTo (at_cells q next' vars' waiting' U ds) text
    → at_cells p next vars waiting T cs ≡ at_cells q next' vars' waiting' U ds
same_at_cells p q next next' vars vars' waiting waiting' T U cs ds text h k =
    let c = same_checkpoint_head p q next next' vars vars' waiting waiting' (cell_lines T cs) (cell_lines U ds) h.4 k.4 h.0 k.0 (sym h.1 ∙ k.1) in
    let s = same_cells p q T U cs ds h.2 k.2 c.rest (by_length (length cs) (length ds)) in
    let formats : p ≡ q = c.formats in
    let nexts : next ≡ next' = c.next in
    let vars_are : vars ≡ vars' = c.vars in
    let waiting_is : waiting ≡ waiting' = c.waiting in
    let names : T ≡ U = s.names in
    let cells : cs ≡ ds = s.cells in
    λ i. at_cells (formats i) (nexts i) (vars_are i) (waiting_is i) (names i) (cells i)

cells_or_blocks : (p q next vars waiting waiting' : ℕ) (T : List Named) (cs : List Cell) (c : CheckpointView) (text : List ℕ) → LinesUpTo (at_cells p next vars waiting T cs) text → LinesUpTo (at_blocks q waiting' c) text → ⊥
cells_or_blocks p q next vars waiting waiting' T cs c text h k =
    let s = same_checkpoint_head p q next c.next vars (length c.store) waiting waiting' (cell_lines T cs) (cell_lines c.names c.store ++ block_lines c.blocks) h.4 (k.1).format_fits.0 h.0 (head_of q c waiting' k.1 k.3) (sym h.1 ∙ k.0 ∙ blocks_flat q waiting' c) in
    let same : vars ≡ length c.store = s.vars in
    let g = next_cell p T cs c [] (block_lines c.blocks) h.2 (subst (λ (f : ℕ). IsReadable f c) (sym s.formats) k.1) (omega (arith, same, h.3)) (append-nil (cell_lines T cs) ∙ s.rest) in
    line_there (cell_line g.name g.cell) g.more (sym g.rest)

-- two checkpoints have the same waiting blocks
even_blocks : (format : ℕ) (c d : CheckpointView) → IsReadable format c → IsReadable format d → c.names ≡ d.names → length c.blocks ≡ length d.blocks → block_lines c.blocks ≡ block_lines d.blocks → c.blocks ≡ d.blocks
even_blocks format c d r s names l e =
    let h = (r.fits).checkpoint in
    let k = (s.fits).checkpoint in
    let fits : FitBlocks c.names d.blocks = subst (λ (z : List Named). FitBlocks z d.blocks) (sym names) (s.fits).blocks in
    (one_blocks c.names c.blocks d.blocks [] [] (r.fits).blocks fits (marked_from c.store c.next 0 c.blocks h.blocks) (marked_from d.store d.next 0 d.blocks k.blocks) l (ap (λ (x : List ℕ). x ++ []) e)).blocks

no_fewer_blocks : (format : ℕ) (c d : CheckpointView) → IsReadable format c → IsReadable format d → c.store ≡ d.store → c.names ≡ d.names → c.next ≡ d.next → length c.blocks < length d.blocks → block_lines c.blocks ≡ block_lines d.blocks → ⊥
no_fewer_blocks format c d r s stores names nexts l e =
    let g = next_block format c d [] [] r s stores names nexts l (ap (λ (x : List ℕ). x ++ []) e) in
    line_there (block_line g.block) g.more (sym g.rest)

same_blocks : (format : ℕ) (c d : CheckpointView) → IsReadable format c → IsReadable format d → c.store ≡ d.store → c.names ≡ d.names → c.next ≡ d.next → block_lines c.blocks ≡ block_lines d.blocks
    → (length c.blocks < length d.blocks) ⊎ ((length d.blocks < length c.blocks) ⊎ (length c.blocks ≡ length d.blocks)) → c.blocks ≡ d.blocks
same_blocks format c d r s stores names nexts e (inl l) = absurd (no_fewer_blocks format c d r s stores names nexts l e)
same_blocks format c d r s stores names nexts e (inr (inl l)) = absurd (no_fewer_blocks format d c s r (sym stores) (sym names) (sym nexts) l (sym e))
same_blocks format c d r s stores names nexts e (inr (inr l)) = even_blocks format c d r s names l e

same_at_blocks : (p q waiting waiting' : ℕ) (c d : CheckpointView) (text : List ℕ) → LinesUpTo (at_blocks p waiting c) text → LinesUpTo (at_blocks q waiting' d) text → at_blocks p waiting c ≡ at_blocks q waiting' d
same_at_blocks p q waiting waiting' c d text h k =
    let s = same_checkpoint_head p q c.next d.next (length c.store) (length d.store) waiting waiting' (cell_lines c.names c.store ++ block_lines c.blocks) (cell_lines d.names d.store ++ block_lines d.blocks)
    (h.1).format_fits.0 (k.1).format_fits.0 (head_of p c waiting h.1 h.3) (head_of q d waiting' k.1 k.3) (sym (blocks_flat p waiting c) ∙ sym h.0 ∙ k.0 ∙ blocks_flat q waiting' d) in
    let r = same_store p q c d (block_lines c.blocks) (block_lines d.blocks) h.1 k.1 s.vars s.rest in
    let formats : p ≡ q = s.formats in
    let nexts : c.next ≡ d.next = s.next in
    let stores : c.store ≡ d.store = r.stores in
    let names : c.names ≡ d.names = r.names in
    let waiting_is : waiting ≡ waiting' = s.waiting in
    let all : c.blocks ≡ d.blocks = same_blocks p c d h.1 (subst (λ (f : ℕ). IsReadable f d) (sym formats) k.1) stores names nexts r.rest (by_length (length c.blocks) (length d.blocks)) in
    λ i. at_blocks (formats i) (waiting_is i) (record { store = stores i; names = names i; next = nexts i; blocks = all i })

-- ---- any two
-- after a line the text isn't empty
some_text : (p : CheckerState) (text : List ℕ) → LinesUpTo p text → text ≡ [] → p ≡ at_header
some_text at_header text h e = refl
some_text (at_variables format n T) text h e = absurd (line_there (header_line format n) (variable_lines T) (sym h.1 ∙ e))
some_text (at_cells format next vars waiting T cs) text h e = absurd (line_there (checkpoint_header_line format next vars waiting) (cell_lines T cs) (sym h.1 ∙ e))
some_text (at_blocks format waiting c) text h e =
    absurd (line_there (checkpoint_header_line format c.next (length c.store) waiting) (cell_lines c.names c.store ++ block_lines c.blocks) (sym (blocks_flat format waiting c) ∙ sym h.0 ∙ e))
some_text (at_events start history) text h e = absurd (early at_header start history text tt e h)

pub one_progress : (p q : CheckerState) (text : List ℕ) → LinesUpTo p text → LinesUpTo q text → p ≡ q
one_progress at_header q text h k = sym (some_text q text k h)
one_progress (at_variables format n T) at_header text h k = some_text (at_variables format n T) text h k
one_progress (at_cells format next vars waiting T cs) at_header text h k = some_text (at_cells format next vars waiting T cs) text h k
one_progress (at_blocks format waiting c) at_header text h k = some_text (at_blocks format waiting c) text h k
one_progress (at_events start history) at_header text h k = some_text (at_events start history) text h k
one_progress (at_variables p m T) (at_variables q n U) text h k = same_variables p q m n T U text h k
one_progress (at_variables p m T) (at_cells q next vars waiting U ds) text h k = absurd (variables_or_cells p m q next vars waiting T U ds text h k)
one_progress (at_variables p m T) (at_blocks q waiting d) text h k = absurd (variables_or_blocks p m q waiting T d text h k)
one_progress (at_variables p m T) (at_events start history) text h k = absurd (early (at_variables p m T) start history text tt h k)
one_progress (at_cells p next vars waiting T cs) (at_variables q n U) text h k = absurd (variables_or_cells q n p next vars waiting U T cs text k h)
one_progress (at_cells p next vars waiting T cs) (at_cells q next' vars' waiting' U ds) text h k = same_at_cells p q next next' vars vars' waiting waiting' T U cs ds text h k
one_progress (at_cells p next vars waiting T cs) (at_blocks q waiting' d) text h k = absurd (cells_or_blocks p q next vars waiting waiting' T cs d text h k)
one_progress (at_cells p next vars waiting T cs) (at_events start history) text h k = absurd (early (at_cells p next vars waiting T cs) start history text tt h k)
one_progress (at_blocks p waiting c) (at_variables q n U) text h k = absurd (variables_or_blocks q n p waiting U c text k h)
one_progress (at_blocks p waiting c) (at_cells q next' vars' waiting' U ds) text h k = absurd (cells_or_blocks q p next' vars' waiting' waiting U ds c text k h)
one_progress (at_blocks p waiting c) (at_blocks q waiting' d) text h k = same_at_blocks p q waiting waiting' c d text h k
one_progress (at_blocks p waiting c) (at_events start history) text h k = absurd (early (at_blocks p waiting c) start history text tt h k)
one_progress (at_events start history) (at_variables q n U) text h k = absurd (early (at_variables q n U) start history text tt k h)
one_progress (at_events start history) (at_cells q next' vars' waiting' U ds) text h k = absurd (early (at_cells q next' vars' waiting' U ds) start history text tt k h)
one_progress (at_events start history) (at_blocks q waiting' d) text h k = absurd (early (at_blocks q waiting' d) start history text tt k h)
one_progress (at_events s H) (at_events t K) text h k =
    let r = texts_are_of_one_history s t H K h.1 k.1 h.2 k.2 (sym h.0 ∙ k.0) in
    ap (λ (x : Start). at_events x H) r.0 ∙ ap (at_events t) r.1
