-- The progress of each stage, and what is reported of it.
use Rattle.std.proofs.Common.{◌≡◌, ℕ, ◌≤◌, Bool, true, false, List, [], ◌∷◌, ◌++◌, length, Option, Some, None, refl, sym, ap, ap₂, ◌∙◌, subst, arith, length-append, ◌⊎◌, inl, inr, Result, Ok, Err, IfOk, IfErr, OnOk}
use Rattle.std.specs.Prelude.{◌≢◌, nat_lt, option_map}
use Rattle.std.proofs.lemmas.Bool.Decides.{nat_tests}
use Rattle.std.proofs.lemmas.List.{length-map}
use Rattle.stm_store.specs.declared.cell.Cell.{Cell}
use Rattle.stm_store.specs.Cells.{IsStore, plain, plains}
use Rattle.stm_store.specs.Naming.{Named}
use Rattle.stm_store.specs.Tables.{Declared}
use Rattle.stm_events.specs.declared.event.Event.{Event}
use Rattle.stm_machine.specs.Checkpoints.{CheckpointView, MayAdd, checkpoint_block}
use Rattle.stm_machine.specs.declared.checkpoint.CheckpointBlock.{CheckpointBlock}
use Rattle.stm_check.specs.TypedBlock.{Block}
use Rattle.stm_events.specs.Delivered.{Delivered}
use Rattle.stm_events.specs.declared.kept_cause.KeptCause.{KeptCause}
use Rattle.stm_event_lines.specs.CheckpointLines.{FitsCell, FitsWaiting, IsCheckpointFormat, cell_line, checkpoint_format, checkpoint_header_line, waiting_line}
use Rattle.stm_event_lines.specs.declared.checkpoint.WaitingBlock.{WaitingBlock}
use Rattle.stm_event_lines.specs.declared.read.Header.{Header}
use Rattle.stm_event_lines.specs.declared.read.LineError.{LineError}
use Rattle.stm_event_lines.specs.declared.read.LineError.TheVariants as line_error
use Rattle.stm_event_lines.specs.Fits.{FitsHeader, Is32Bit}
use Rattle.stm_event_lines.specs.Lines.{IsFormat, header_line, line_of_header}
use Rattle.stm_event_lines.specs.ReadLines.{ReadsCell, ReadsCheckpointHeader, ReadsWaiting}
use Rattle.stm_event_lines.proofs.Checkpoints.{cell_same, checkpoint_header_same, waiting_same}
use Rattle.stm_history.specs.declared.check.Stage.{Stage}
use Rattle.stm_history.specs.declared.check.Stage.TheVariants.{Running}
use Rattle.stm_history.specs.declared.fault.HistoryFault.{HistoryFault}
use Rattle.stm_history.specs.declared.fault.HistoryFault.TheVariants.{BadHeader, BadLine, NoMemory}
use Rattle.stm_history.specs.declared.replayer.Replayer.{Replayer}
use Rattle.stm_history.specs.Checking.{MayRefuse}
use Rattle.stm_history.specs.Progress.{CheckerState, at_header, at_variables, at_cells, at_blocks, at_events, with_blocks, with_cells, IsCheckpointHead, LeadsTo, LeadsToCells, LinesUpTo, MayBeNamed, MayTakeBlock, strange}
use Rattle.stm_history.specs.Following.{Follows}
use Rattle.stm_history.specs.Judgement.{IsBefore, next_line}
use Rattle.stm_history.specs.Stages.{CountsWithinLimits, IsSmallStart, IsStage, LeadsToStage}
use Rattle.stm_history_text.specs.Starts.{Start, delivery_of_block, is_plain_block}
use Rattle.stm_waiting.specs.declared.waiting.Held.{Held}
use Rattle.stm_history.proofs.OneReading.{AreMarked, marked_from}

-- ---- the progress with what was read

pub all_blocks : (format waiting : ℕ) (c : CheckpointView) → waiting ≤ length c.blocks → with_blocks format waiting c ≡ at_events (record { format = format; table = []; checkpoint = Some c }) []
all_blocks format waiting c l = let e : nat_lt (length c.blocks) waiting ≡ false = grind (arith, nat_tests) in rw e refl

-- the stage after the last waiting block
pub running_stage : (format waiting : ℕ) (c : CheckpointView) (table : List Declared) (r : Replayer) → table ≡ [] → waiting ≤ length c.blocks
    → ((F : ℕ) (T : List Declared) → Follows (record { format = F; table = T; checkpoint = Some c }) [] r) → IsStage (Running format table (Some c) r) (with_blocks format waiting c)
running_stage format waiting c table r none l f =
    ([], all_blocks format waiting c l ∙ ap (λ (t : List Declared). at_events (record { format = format; table = t; checkpoint = Some c }) []) (sym none), f format table)

-- ---- a stage with one progress
pub leads_at : (o : Result Stage HistoryFault) (stage : Stage) (q : CheckerState) (line : List ℕ) → ((p : CheckerState) → IsStage stage p → p ≡ q) → IfOk o (λ s. LeadsToStage q line s)
    → IfOk o (λ s. (p : CheckerState) → IsStage stage p → LeadsToStage p line s)
leads_at (Ok s) stage q line at led = λ p i. subst (λ (x : CheckerState). LeadsToStage x line s) (sym (at p i)) led
leads_at (Err e) stage q line at led = tt

pub refused_at_stage : (o : Result Stage HistoryFault) (stage : Stage) (q : CheckerState) (line : List ℕ) → ((p : CheckerState) → IsStage stage p → p ≡ q) → IfErr o (λ e. MayRefuse q line e)
    → IfErr o (λ e. (p : CheckerState) → IsStage stage p → MayRefuse p line e)
refused_at_stage (Ok s) stage q line at led = tt
refused_at_stage (Err e) stage q line at led = λ p i. subst (λ (x : CheckerState). MayRefuse x line e) (sym (at p i)) led

pub counts_at : (p q : CheckerState) → p ≡ q → CountsWithinLimits p → CountsWithinLimits q
counts_at p q e c = subst CountsWithinLimits e c

-- ---- the first line
header_by : (line : List ℕ) → ((format n : ℕ) → IsFormat format → Is32Bit n → header_line format n ≢ line) → ((q : CheckerState) → LeadsToCells line q → ⊥) → (q : CheckerState) → LeadsTo at_header line q → ⊥
header_by line never other q (inl k) = never k.0 k.1 k.2 (omega (arith, k.4)) k.3
header_by line never other q (inr k) = other q k

pub header_refused : (line : List ℕ) (e : HistoryFault) → ((format n : ℕ) → IsFormat format → Is32Bit n → header_line format n ≢ line) → (e ≡ NoMemory) ⊎ ((e ≡ BadHeader) × ((q : CheckerState) → LeadsToCells line q → ⊥))
    → MayRefuse at_header line e
header_refused line e never (inl k) = inl k
header_refused line e never (inr k) = inr (inl (k.0, header_by line never k.1))

-- whatever the result is
pub header_fault : (o : Result Stage HistoryFault) (line : List ℕ) → ((h : Header) → FitsHeader h → line_of_header h ≢ line)
    → IfErr o (λ e. (e ≡ NoMemory) ⊎ ((e ≡ BadHeader) × ((q : CheckerState) → LeadsToCells line q → ⊥))) → IfErr o (λ e. MayRefuse at_header line e)
header_fault (Ok s) line never h = tt
header_fault (Err e) line never h = header_refused line e (λ format n k small. never (record { format = format; vars = n }) (k, small)) h

pub header_leads : (o : Result Stage HistoryFault) (format next vars waiting : ℕ) (names : List Named) (cells : List Cell) (line : List ℕ) → IsCheckpointFormat format → IsCheckpointHead next vars waiting
    → checkpoint_header_line format next vars waiting ≡ line → names ≡ [] → cells ≡ [] → IfOk o (λ s. IsStage s (with_cells format next vars waiting names cells)) → IfOk o (λ s. LeadsToStage at_header line s)
header_leads (Ok s) format next vars waiting names cells line i h e none nothing stage = (
  with_cells format next vars waiting [] [],
  inr (format, next, vars, waiting, i, h, e, refl),
  subst (λ (cs : List Cell). IsStage s (with_cells format next vars waiting [] cs)) nothing (subst (λ (t : List Named). IsStage s (with_cells format next vars waiting t cells)) none stage),
)
header_leads (Err f) format next vars waiting names cells line i h e none nothing stage = tt

-- the fault of a line that can't be read as the first of a checkpoint
pub head_unread : (line : List ℕ) (error : LineError) (f : HistoryFault) → (error ≡ line_error.NoMemory → f ≡ NoMemory) × (error ≡ line_error.Bad → f ≡ BadHeader) → ReadsCheckpointHeader line (Err error)
    → (f ≡ NoMemory) ⊎ ((f ≡ BadHeader) × ((q : CheckerState) → LeadsToCells line q → ⊥))
head_unread line line_error.NoMemory f is read = inl (is.0 refl)
head_unread line line_error.Bad f is read = inr (
  is.1 refl,
  λ q k.
      let head = k.5 in
      let next : Is32Bit k.1 = omega (arith, head.tickets) in
      let vars : Is32Bit k.2 = omega (arith, head.vars) in
      let waiting : Is32Bit k.3 = omega (arith, head.waiting) in
      read refl (record { format = k.0; next = k.1; vars = k.2; waiting = k.3 }) (k.4, next, vars, waiting) k.6,
)

-- or as a variable or a waiting block of one
pub cell_unread : (format next vars waiting : ℕ) (names : List Named) (cells : List Cell) (line : List ℕ) (error : LineError) (f : HistoryFault)
    → (error ≡ line_error.NoMemory → f ≡ NoMemory) × (error ≡ line_error.Bad → f ≡ BadHeader) → ReadsCell line (Err error) → MayRefuse (at_cells format next vars waiting names cells) line f
cell_unread format next vars waiting names cells line line_error.NoMemory f is read = inl (is.0 refl)
cell_unread format next vars waiting names cells line line_error.Bad f is read = inr (inl (is.1 refl, λ q k. read refl (k.0, k.1) (k.3).fits k.2))

pub block_unread : (format waiting : ℕ) (c : CheckpointView) (line : List ℕ) (error : LineError) (f : HistoryFault)
    → (error ≡ line_error.NoMemory → f ≡ NoMemory) × (error ≡ line_error.Bad → f ≡ BadHeader) → ReadsWaiting c.names line (Err error) → MayRefuse (at_blocks format waiting c) line f
block_unread format waiting c line line_error.NoMemory f is read = inl (is.0 refl)
block_unread format waiting c line line_error.Bad f is read = inr (inl (
  is.1 refl,
  λ q k.
      let b : CheckpointBlock = k.0 in
      let may : MayTakeBlock format c b = k.2 in
      let w : WaitingBlock = record { ticket = b.ticket; block = b.waiting.block; cause = b.cause; label = b.label; delivery = delivery_of_block b } in
      read refl w may.0 k.1,
))

-- a first line of a checkpoint that there can't be
pub head_refused : (line : List ℕ) (format next vars waiting : ℕ) → IsCheckpointFormat format → checkpoint_header_line format next vars waiting ≡ line → Is32Bit next → Is32Bit vars → Is32Bit waiting
    → (IsCheckpointHead next vars waiting → ⊥) → (q : CheckerState) → LeadsToCells line q → ⊥
head_refused line format next vars waiting f e i j k never q h =
    let head = h.5 in
    let same = checkpoint_header_same format h.0 next h.1 vars h.2 waiting h.3 f h.4 i j k (omega (arith, head.tickets)) (omega (arith, head.vars)) (omega (arith, head.waiting)) (e ∙ sym h.6) in
    never (subst (λ (x : ℕ). IsCheckpointHead x vars waiting) (sym same.1) (subst (λ (x : ℕ). IsCheckpointHead h.1 x waiting) (sym same.2) (subst (λ (x : ℕ). IsCheckpointHead h.1 h.2 x) (sym same.3) head)))

-- ---- a variable of a checkpoint
-- its name is refused
pub cell_refused : (format next vars waiting : ℕ) (names : List Named) (cells : List Cell) (name : Option (List ℕ)) (c : Cell) → FitsCell name c → (MayBeNamed format names (length cells) name c.kind → ⊥)
    → (q : CheckerState) → LeadsTo (at_cells format next vars waiting names cells) (cell_line name c) q → ⊥
cell_refused format next vars waiting names cells name c f never q k =
    let same = cell_same k.0 name k.1 c (k.3).fits f k.2 in
    let names_are : k.0 ≡ name = same.0 in
    let one : k.1 ≡ c = same.1 in
    never (subst (λ (x : Option (List ℕ)). MayBeNamed format names (length cells) x c.kind) names_are (subst (λ (x : Cell). MayBeNamed format names (length cells) k.0 x.kind) one (k.3).named))

pub name_refused : (format next vars waiting : ℕ) (names : List Named) (cells : List Cell) (name : Option (List ℕ)) (c : Cell) → FitsCell name c → (MayBeNamed format names (length cells) name c.kind → ⊥)
    → MayRefuse (at_cells format next vars waiting names cells) (cell_line name c) BadHeader
name_refused format next vars waiting names cells name c f never = inr (inl (refl, cell_refused format next vars waiting names cells name c f never))

no_store : (format next vars waiting : ℕ) (names : List Named) (cells more : List Cell) (name : Option (List ℕ)) (c : Cell) → FitsCell name c → more ≡ cells ++ c ∷ [] → length more ≡ vars
    → (IsStore (plains more) → ⊥) → (q : CheckerState) → LeadsTo (at_cells format next vars waiting names cells) (cell_line name c) q → ⊥
no_store format next vars waiting names cells more name c f e l never q k =
    let one : k.1 ≡ c = (cell_same k.0 name k.1 c (k.3).fits f k.2).1 in
    let long = length-append cells (c ∷ []) in
    let same = ap (λ (x : List Cell). length x) e in
    never (subst (λ (x : List Cell). IsStore (plains x)) (sym e) (subst (λ (x : Cell). IsStore (plains (cells ++ x ∷ []))) one ((k.3).store (omega (arith, long, same, l)))))

store_fault : (format next vars waiting : ℕ) (names : List Named) (cells more : List Cell) (name : Option (List ℕ)) (c : Cell) (f : HistoryFault) → FitsCell name c → more ≡ cells ++ c ∷ []
    → (f ≡ NoMemory) ⊎ ((f ≡ BadHeader) × (length more ≡ vars) × (IsStore (plains more) → ⊥)) → MayRefuse (at_cells format next vars waiting names cells) (cell_line name c) f
store_fault format next vars waiting names cells more name c f fits e (inl k) = inl k
store_fault format next vars waiting names cells more name c f fits e (inr k) = inr (inl (k.0, no_store format next vars waiting names cells more name c fits e k.1 k.2))

-- or all of them are no store
pub store_refused : (o : Result Stage HistoryFault) (format next vars waiting : ℕ) (names : List Named) (cells more : List Cell) (name : Option (List ℕ)) (c : Cell) → FitsCell name c → more ≡ cells ++ c ∷ []
    → IfErr o (λ e. (e ≡ NoMemory) ⊎ ((e ≡ BadHeader) × (length more ≡ vars) × (IsStore (plains more) → ⊥))) → IfErr o (λ e. MayRefuse (at_cells format next vars waiting names cells) (cell_line name c) e)
store_refused (Ok s) format next vars waiting names cells more name c fits e h = tt
store_refused (Err f) format next vars waiting names cells more name c fits e h = store_fault format next vars waiting names cells more name c f fits e h

-- ---- a waiting block

last_marked : (bs : List CheckpointBlock) (b : CheckpointBlock) → AreMarked (bs ++ b ∷ []) → b.waiting.held ≡ None → b.stale ≡ false
last_marked [] b m = m.0
last_marked (x ∷ bs) b m = last_marked bs b m.1

back_by : (ticket : ℕ) (block : Block) (w : Option KeptCause) (label : List ℕ) (held : Option Held) (stale : Bool) → (held ≡ None → stale ≡ false)
    → checkpoint_block ticket block (option_map (λ h. record { reads = h.reads; verdict = h.verdict; stale = stale }) held) w label ≡ record { ticket = ticket; waiting = record { block = block; held = held }; stale = stale; cause = w; label = label }
back_by ticket block w label None stale m = let fresh : stale ≡ false = m refl in λ i. record { ticket = ticket; waiting = record { block = block; held = None }; stale = (sym fresh) i; cause = w; label = label }
back_by ticket block w label (Some h) stale m = refl

block_back : (b : CheckpointBlock) → (b.waiting.held ≡ None → b.stale ≡ false) → checkpoint_block b.ticket b.waiting.block (delivery_of_block b) b.cause b.label ≡ b
block_back b m = back_by b.ticket b.waiting.block b.cause b.label b.waiting.held b.stale m

pub block_refused : (format waiting : ℕ) (c : CheckpointView) (ticket : ℕ) (block : Block) (w : Option KeptCause) (label : List ℕ) (d : Option Delivered) → FitsWaiting c.names ticket block w label d → (MayAdd c (checkpoint_block ticket block d w label) → ⊥)
    → (q : CheckerState) → LeadsTo (at_blocks format waiting c) (waiting_line ticket block.text w label d) q → ⊥
block_refused format waiting c ticket block w label d f never q k =
    let b = k.0 in
    let may : MayAdd c b = (k.2).1 in
    let same = waiting_same c.names b.ticket ticket b.waiting.block block b.cause w b.label label (delivery_of_block b) d (k.2).0 f k.1 in
    let tickets : b.ticket ≡ ticket = same.0 in
    let blocks : b.waiting.block ≡ block = same.1 in
    let causes : b.cause ≡ w = same.2 in
    let labels : b.label ≡ label = same.3 in
    let brought : delivery_of_block b ≡ d = same.4 in
    let marked = last_marked c.blocks b (marked_from c.store c.next 0 (c.blocks ++ b ∷ []) may.blocks) in
    let parts : checkpoint_block b.ticket b.waiting.block (delivery_of_block b) b.cause b.label ≡ checkpoint_block ticket block d w label = λ i. checkpoint_block (tickets i) (blocks i) (brought i) (causes i) (labels i) in
    never (subst (MayAdd c) (sym (block_back b marked) ∙ parts) may)

-- a block with a cause or a label isn't taken in format 4
pub format_refused : (format waiting : ℕ) (c : CheckpointView) (ticket : ℕ) (block : Block) (w : Option KeptCause) (label : List ℕ) (d : Option Delivered) → FitsWaiting c.names ticket block w label d
    → ((format ≡ checkpoint_format → is_plain_block w label ≡ true) → ⊥) → (q : CheckerState) → LeadsTo (at_blocks format waiting c) (waiting_line ticket block.text w label d) q → ⊥
format_refused format waiting c ticket block w label d f never q k =
    let b = k.0 in
    let same = waiting_same c.names b.ticket ticket b.waiting.block block b.cause w b.label label (delivery_of_block b) d (k.2).0 f k.1 in
    let causes : b.cause ≡ w = same.2 in
    let labels : b.label ≡ label = same.3 in
    never (λ is. ap₂ is_plain_block (sym causes) (sym labels) ∙ (k.2).2 is)

pub add_refused : (format waiting : ℕ) (c : CheckpointView) (ticket : ℕ) (block : Block) (w : Option KeptCause) (label : List ℕ) (d : Option Delivered) (f : HistoryFault) → FitsWaiting c.names ticket block w label d
    → (f ≡ NoMemory) ⊎ ((f ≡ BadHeader) × (MayAdd c (checkpoint_block ticket block d w label) → ⊥)) → MayRefuse (at_blocks format waiting c) (waiting_line ticket block.text w label d) f
add_refused format waiting c ticket block w label d f fits (inl k) = inl k
add_refused format waiting c ticket block w label d f fits (inr k) = inr (inl (k.0, block_refused format waiting c ticket block w label d fits k.1))

-- ---- the stage among the events
run_leads : (format : ℕ) (table : List Declared) (c : Option CheckpointView) (r r' : Replayer) (line : List ℕ)
    → ((S : Start) (H : List Event) → S.format ≡ format → S.table ≡ table → S.checkpoint ≡ c → Follows S H r → (e : Event) × LeadsTo (at_events S H) line (at_events S (H ++ e ∷ [])) × Follows S (H ++ e ∷ []) r')
    → (p : CheckerState) → IsStage (Running format table c r) p → LeadsToStage p line (Running format table c r')
run_leads format table c r r' line led p i =
    let start : Start = record { format = format; table = table; checkpoint = c } in
    let k = led start i.0 refl refl refl i.2 in
    subst (λ (x : CheckerState). LeadsToStage x line (Running format table c r')) (sym i.1) (at_events start (i.0 ++ k.0 ∷ []), k.1, (i.0 ++ k.0 ∷ [], refl, k.2))

run_refused : (format : ℕ) (table : List Declared) (c : Option CheckpointView) (r : Replayer) (line : List ℕ) (f : HistoryFault)
    → ((S : Start) (H : List Event) → S.format ≡ format → S.table ≡ table → S.checkpoint ≡ c → Follows S H r → MayRefuse (at_events S H) line f)
    → (p : CheckerState) → IsStage (Running format table c r) p → MayRefuse p line f
run_refused format table c r line f refused p i =
    subst (λ (x : CheckerState). MayRefuse x line f) (sym i.1) (refused (record { format = format; table = table; checkpoint = c }) i.0 refl refl refl i.2)

-- of a stage that is one of events, whatever the result is
pub running_leads : (o : Result (Unit {0}) HistoryFault) (stage : Stage) (format : ℕ) (table : List Declared) (c : Option CheckpointView) (r r' : Replayer) (line : List ℕ) → stage ≡ Running format table c r
    → OnOk o ((S : Start) (H : List Event) → S.format ≡ format → S.table ≡ table → S.checkpoint ≡ c → Follows S H r → (e : Event) × LeadsTo (at_events S H) line (at_events S (H ++ e ∷ [])) × Follows S (H ++ e ∷ []) r')
    → OnOk o ((p : CheckerState) → IsStage stage p → LeadsToStage p line (Running format table c r'))
running_leads (Ok u) stage format table c r r' line is led = λ p i. run_leads format table c r r' line led p (subst (λ (s : Stage). IsStage s p) is i)
running_leads (Err e) stage format table c r r' line is led = tt

pub running_refused : (o : Result (Unit {0}) HistoryFault) (stage : Stage) (format : ℕ) (table : List Declared) (c : Option CheckpointView) (r : Replayer) (line : List ℕ) → stage ≡ Running format table c r
    → IfErr o (λ f. (S : Start) (H : List Event) → S.format ≡ format → S.table ≡ table → S.checkpoint ≡ c → Follows S H r → MayRefuse (at_events S H) line f)
    → IfErr o (λ f. (p : CheckerState) → IsStage stage p → MayRefuse p line f)
running_refused (Ok u) stage format table c r line is refused = tt
running_refused (Err f) stage format table c r line is refused = λ p i. run_refused format table c r line f refused p (subst (λ (s : Stage). IsStage s p) is i)

-- the number of its next line
pub run_line : (format : ℕ) (table : List Declared) (c : Option CheckpointView) (r : Replayer) (n : ℕ) → ((S : Start) (H : List Event) → S.table ≡ table → S.checkpoint ≡ c → Follows S H r → n ≡ next_line S H)
    → (p : CheckerState) → IsStage (Running format table c r) p → BadLine n ≡ strange p
run_line format table c r n number p i = ap BadLine (number (record { format = format; table = table; checkpoint = c }) i.0 refl refl i.2) ∙ ap strange (sym i.1)

-- ---- the numbers of a progress
small_start : (format : ℕ) (table : List Declared) (c : Option CheckpointView) → IsBefore format table c → IsSmallStart table c
small_start format table None b = b.1
small_start format table (Some c) b =
    let k = ((b.1).fits).checkpoint in
    let small = (k.store).small in
    let l = length-map c.store plain in
    (omega (arith, small, l), k.few)

pub counts_of_lines : (p : CheckerState) (text : List ℕ) → LinesUpTo p text → CountsWithinLimits p
counts_of_lines at_header text l = tt
counts_of_lines (at_variables format n table) text l = (l.3, l.4)
counts_of_lines (at_cells format next vars waiting names cells) text l = (l.0, l.3, (l.2).named)
counts_of_lines (at_blocks format waiting c) text l = ((small_start format [] (Some c) (refl, l.1)).0, l.2, l.3)
counts_of_lines (at_events start history) text l = small_start start.format start.table start.checkpoint l.1
