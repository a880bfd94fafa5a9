-- Where the lines of some variables or waiting blocks are the beginning of more, those go on with the others.
use Rattle.std.specs.Prelude.{◌&&◌}
use Rattle.std.proofs.Common.{◌≡◌, ℕ, ◌+◌, ◌≤◌, ◌<◌, Bool, true, false, List, [], ◌∷◌, ◌++◌, length, Option, refl, sym, ap, ◌∙◌, subst, arith, append_assoc, length-append}
use Rattle.stm_store.specs.declared.cell.Cell.{Cell}
use Rattle.stm_store.specs.Cells.{IsStore, plains}
use Rattle.stm_store.specs.Naming.{Named, name_numbered}
use Rattle.stm_machine.specs.declared.checkpoint.CheckpointBlock.{CheckpointBlock}
use Rattle.stm_machine.specs.Checkpoints.{CheckpointView, AreCheckpointBlocks, IsCheckpoint, MayAdd}
use Rattle.stm_event_lines.specs.CheckpointLines.{cell_line, checkpoint_format}
use Rattle.stm_event_lines.proofs.Checkpoints.{waiting_one_line}
use Rattle.stm_history.specs.Progress.{AreCells, MayBeNamed, MayTakeBlock, MayTakeCell}
use Rattle.stm_history_text.specs.HistoryText.{block_line, block_lines, cell_lines, cell_lines_from}
use Rattle.stm_history.specs.Judgement.{FitBlocks, FitCells, HaveShortLines, IsReadable, IsShort}
use Rattle.stm_history_text.specs.Starts.{are_plain_blocks, delivery_of_block, is_plain_block}
use Rattle.stm_history.proofs.CellNames.{Ascend, below, common_cells, fits_name, named_fits, next_named, numbered_after}
use Rattle.stm_history.proofs.CutsAtLineFeeds.{cut_unique, no_feed}
use Rattle.stm_history.proofs.OneReading.{AreMarked, cells_of, marked_from, same_block}

-- ---- the variables of a checkpoint
later_cells : (cs ds : List Cell) → FitCells (cs ++ ds) → FitCells ds
later_cells [] ds f = f
later_cells (c ∷ cs) ds f = later_cells cs ds f.1

-- the next variable's line
pub record NextCell (format vars : ℕ) (T : List Named) (cs : List Cell) (a : List ℕ) : Type 0 where
  pub name : Option (List ℕ)
  pub cell : Cell
  pub may : MayTakeCell format vars T cs name cell
  pub more : List ℕ
  pub rest : a ≡ cell_line name cell ++ 10 ∷ more

no_more : (ds : List Cell) → length ds ≡ 0 → ds ≡ []
no_more [] l = refl
no_more (d ∷ ds) l = absurd (omega (arith, l))

-- the last variable makes a store of those before it
last_cell : (vars : ℕ) (cs ds : List Cell) (c : Cell) → vars ≡ length (cs ++ c ∷ ds) → IsStore (plains (cs ++ c ∷ ds)) → length cs + 1 ≡ vars → IsStore (plains (cs ++ c ∷ []))
last_cell vars cs ds c v s l =
    let long = length-append cs (c ∷ ds) in
    let none : ds ≡ [] = no_more ds (omega (arith, v, l, long)) in
    subst (λ (z : List Cell). IsStore (plains (cs ++ c ∷ z))) none s

next_by : (format vars : ℕ) (T names : List Named) (cs cells : List Cell) (a b : List ℕ) → AreCells format T cs → AreCells format (T ++ names) (cs ++ cells) → Ascend (length cs) names → IsStore (plains (cs ++ cells))
    → vars ≡ length (cs ++ cells) → length cs < vars → a ≡ cell_lines_from (length cs) (T ++ names) cells ++ b → NextCell format vars T cs a
next_by format vars T names cs [] a b r s l store v few e = let long = length-append cs [] in absurd (omega (arith, v, few, long))
next_by format vars T names cs (c ∷ cells) a b r s l store v few e =
    let n = length cs in
    let low = below cs T r.named in
    let known = s.known in
    let name = name_numbered n (T ++ names) in
    let same : name ≡ name_numbered n names = numbered_after n T names (λ k d f p. let small = low k d f in omega (arith, small, p)) in
    record {
      name = name;
      cell = c;
      may = record {
        fits = named_fits name c (fits_name n (T ++ names) known.named) (later_cells cs (c ∷ cells) s.fit).0;
        named = subst (λ (o : Option (List ℕ)). MayBeNamed format T n o c.kind) (sym same) (next_named format T names cs cells c s low l);
        store = last_cell vars cs cells c v store;
      };
      more = cell_lines_from (n + 1) (T ++ names) cells ++ b;
      rest = e ∙ append_assoc (cell_line name c) (10 ∷ cell_lines_from (n + 1) (T ++ names) cells) b;
    }

pub next_cell : (format : ℕ) (T : List Named) (cs : List Cell) (c : CheckpointView) (a b : List ℕ) → AreCells format T cs → IsReadable format c → length cs < length c.store → cell_lines T cs ++ a ≡ cell_lines c.names c.store ++ b
    → NextCell format (length c.store) T cs a
next_cell format T cs c a b s r l e =
    let all = cells_of format c r in
    let g = common_cells format format T c.names cs c.store a b s all (omega (arith, l)) e in
    let stores : c.store ≡ cs ++ g.cells = g.stores in
    let names : c.names ≡ T ++ g.names = g.whole in
    next_by format (length c.store) T g.names cs g.cells a b s
    (subst (λ (z : List Cell). AreCells format (T ++ g.names) z) stores (subst (λ (z : List Named). AreCells format z c.store) names all)) g.later
    (subst (λ (z : List Cell). IsStore (plains z)) stores ((r.fits).checkpoint).store) (ap (λ (z : List Cell). length z) stores) l
    (g.rest ∙ ap (λ (z : List Named). cell_lines_from (length cs) z g.cells ++ b) names)

-- ---- the waiting blocks
pub record BlocksGoOn (bs cs : List CheckpointBlock) (a b : List ℕ) : Type 0 where
  pub blocks : List CheckpointBlock
  pub whole : cs ≡ bs ++ blocks
  pub rest : a ≡ block_lines blocks ++ b

pub common_blocks : (T : List Named) (bs cs : List CheckpointBlock) (a b : List ℕ) → FitBlocks T bs → FitBlocks T cs → AreMarked bs → AreMarked cs → length bs ≤ length cs
    → block_lines bs ++ a ≡ block_lines cs ++ b → BlocksGoOn bs cs a b
common_blocks T [] cs a b f g m n l e = record { blocks = cs; whole = refl; rest = e }
common_blocks T (x ∷ bs) [] a b f g m n l e = absurd (omega (arith, l))
common_blocks T (x ∷ bs) (y ∷ cs) a b f g m n l e =
    let cut = cut_unique (block_line x) (block_lines bs ++ a) (block_line y) (block_lines cs ++ b)
    (no_feed _ (waiting_one_line T x.ticket x.waiting.block x.cause x.label (delivery_of_block x) f.0)) (no_feed _ (waiting_one_line T y.ticket y.waiting.block y.cause y.label (delivery_of_block y) g.0))
    (sym (append_assoc (block_line x) (10 ∷ block_lines bs) a) ∙ e ∙ append_assoc (block_line y) (10 ∷ block_lines cs) b) in
    let first : x ≡ y = same_block T x y f.0 g.0 m.0 n.0 cut.line in
    let r = common_blocks T bs cs a b f.1 g.1 m.1 n.1 (omega (arith, l)) cut.rest in
    let later : cs ≡ bs ++ r.blocks = r.whole in
    record { blocks = r.blocks; whole = λ i. (sym first) i ∷ later i; rest = r.rest }

-- the next waiting block's line
pub record NextBlock (format : ℕ) (c : CheckpointView) (a : List ℕ) : Type 0 where
  pub block : CheckpointBlock
  pub may : MayTakeBlock format c block
  pub short : IsShort (block_line block)
  pub more : List ℕ
  pub rest : a ≡ block_line block ++ 10 ∷ more

first_blocks : (store : List Cell) (n k : ℕ) (bs more : List CheckpointBlock) (b : CheckpointBlock) → AreCheckpointBlocks store n k (bs ++ b ∷ more) → AreCheckpointBlocks store n k (bs ++ b ∷ [])
first_blocks store n k [] more b a = (a.0, a.1, a.2, tt)
first_blocks store n k (x ∷ bs) more b a = (a.0, a.1, a.2, first_blocks store n x.ticket bs more b a.3)

later_blocks : (T : List Named) (bs more : List CheckpointBlock) → FitBlocks T (bs ++ more) → FitBlocks T more
later_blocks T [] more f = f
later_blocks T (b ∷ bs) more f = later_blocks T bs more f.1

-- each of blocks that can stand in format 4 can
both_first : (x y : Bool) → (x && y) ≡ true → x ≡ true
both_first true y e = refl
both_first false y e = e

both_second : (x y : Bool) → (x && y) ≡ true → y ≡ true
both_second true y e = e
both_second false y e = cc

plain_at : (bs more : List CheckpointBlock) (b : CheckpointBlock) → are_plain_blocks (bs ++ b ∷ more) ≡ true → is_plain_block b.cause b.label ≡ true
plain_at [] more b e = both_first (is_plain_block b.cause b.label) (are_plain_blocks more) e
plain_at (x ∷ bs) more b e = plain_at bs more b (both_second (is_plain_block x.cause x.label) (are_plain_blocks (bs ++ b ∷ more)) e)

later_short : (bs more : List CheckpointBlock) → HaveShortLines (bs ++ more) → HaveShortLines more
later_short [] more f = f
later_short (b ∷ bs) more f = later_short bs more f.1

-- with a part of its waiting blocks a checkpoint is one
fewer_blocks : (c : CheckpointView) (more : List CheckpointBlock) (b : CheckpointBlock) → IsCheckpoint (record c { blocks = c.blocks ++ b ∷ more }) → MayAdd c b
fewer_blocks c more b k =
    let few = k.few in
    let l = length-append c.blocks (b ∷ more) in
    let m = length-append c.blocks (b ∷ []) in
    record { begun = k.begun; tickets = k.tickets; store = k.store; named = k.named; few = omega (arith, few, l, m); blocks = first_blocks c.store c.next 0 c.blocks more b k.blocks }

block_by : (format : ℕ) (c : CheckpointView) (blocks : List CheckpointBlock) (a b : List ℕ) → (format ≡ checkpoint_format → are_plain_blocks (c.blocks ++ blocks) ≡ true) → IsCheckpoint (record c { blocks = c.blocks ++ blocks }) → FitBlocks c.names (c.blocks ++ blocks) → HaveShortLines (c.blocks ++ blocks)
    → 0 < length blocks → a ≡ block_lines blocks ++ b → NextBlock format c a
block_by format c [] a b u k f s l e = absurd (omega (arith, l))
block_by format c (x ∷ blocks) a b u k f s l e = record {
  block = x;
  may = ((later_blocks c.names c.blocks (x ∷ blocks) f).0, fewer_blocks c blocks x k, λ is. plain_at c.blocks blocks x (u is));
  short = (later_short c.blocks (x ∷ blocks) s).0;
  more = block_lines blocks ++ b;
  rest = e ∙ append_assoc (block_line x) (10 ∷ block_lines blocks) b;
}

pub next_block : (format : ℕ) (c d : CheckpointView) (a b : List ℕ) → IsReadable format c → IsReadable format d → c.store ≡ d.store → c.names ≡ d.names → c.next ≡ d.next → length c.blocks < length d.blocks
    → block_lines c.blocks ++ a ≡ block_lines d.blocks ++ b → NextBlock format c a
next_block format c d a b r s stores names nexts l e =
    let h = (r.fits).checkpoint in
    let k = (s.fits).checkpoint in
    let fits : FitBlocks c.names d.blocks = subst (λ (z : List Named). FitBlocks z d.blocks) (sym names) (s.fits).blocks in
    let g = common_blocks c.names c.blocks d.blocks a b (r.fits).blocks fits (marked_from c.store c.next 0 c.blocks h.blocks) (marked_from d.store d.next 0 d.blocks k.blocks) (omega (arith, l)) e in
    let whole : d.blocks ≡ c.blocks ++ g.blocks = g.whole in
    let same : d ≡ record c { blocks = c.blocks ++ g.blocks } = λ i. record { store = (sym stores) i; names = (sym names) i; next = (sym nexts) i; blocks = whole i } in
    let long = ap (λ (z : List CheckpointBlock). length z) whole ∙ length-append c.blocks g.blocks in
    block_by format c g.blocks a b (λ is. ap are_plain_blocks (sym whole) ∙ s.format_fits.2 is) (subst IsCheckpoint same k) (subst (FitBlocks c.names) whole fits) (subst HaveShortLines whole s.short) (omega (arith, l, long)) g.rest
