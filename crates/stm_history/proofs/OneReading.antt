-- Two readings of the same bytes are one.
use Rattle.std.proofs.Common.{◌≡◌, ℕ, ◌≤◌, List, [], ◌∷◌, ◌++◌, length, Option, Some, None, refl, sym, ap, ◌∙◌, subst, arith, append_assoc, length-append, Bool, false}
use Rattle.std.proofs.lemmas.List.{length-map}
use Rattle.std.specs.Prelude.{option_map}
use Rattle.stm_store.specs.declared.cell.Cell.{Cell}
use Rattle.stm_store.specs.Cells.{plain}
use Rattle.stm_store.specs.Naming.{Named}
use Rattle.stm_store.specs.Tables.{Declared}
use Rattle.stm_check.specs.TypedBlock.{Block}
use Rattle.stm_events.specs.Delivered.{Delivered}
use Rattle.stm_events.specs.declared.kept_cause.KeptCause.{KeptCause}
use Rattle.stm_events.specs.declared.event.Event.{Event}
use Rattle.stm_events.specs.SlowDesk.{LegalFrom, Slow, max_cells, after, state_from}
use Rattle.stm_terms.specs.Limits.{max_events}
use Rattle.stm_events.specs.States.{IsLegalFrom}
use Rattle.stm_waiting.specs.declared.waiting.Held.{Held}
use Rattle.stm_machine.specs.declared.checkpoint.CheckpointBlock.{CheckpointBlock}
use Rattle.stm_machine.specs.Checkpoints.{CheckpointView, AreCheckpointBlocks, IsCheckpoint, IsRightDelivery}
use Rattle.stm_event_lines.specs.CheckpointLines.{FitsWaiting, checkpoint_header_line}
use Rattle.stm_event_lines.specs.Fits.{FitsNames, FitsFormat, Is32Bit}
use Rattle.stm_event_lines.specs.Lines.{IsFormat, event_line, header_line, variable_line}
use Rattle.stm_event_lines.proofs.Checkpoints.{checkpoint_header_new, checkpoint_header_one_line, checkpoint_header_same, waiting_one_line, waiting_same}
use Rattle.stm_event_lines.proofs.ReadsBack.{event_one_line, header_one_line, variable_one_line, header_same, variable_same, event_same}
use Rattle.stm_history.specs.declared.fault.HistoryFault.TheVariants.{BadHeader}
use Rattle.stm_history.specs.Progress.{AreCells}
use Rattle.stm_history_text.specs.HistoryText.{block_line, block_lines, cell_lines, cells_text, checkpoint_text, event_lines, head_text, history_text, start_text, text_before, variable_lines}
use Rattle.stm_history.specs.Judgement.{IsShort, AreVariables, AreVariablesFrom, AreEvents, BeginsWithHistory, FitBlocks, IsBefore, IsReadable, IsStart, NoEventNext, IsIllegalFrom, ReportsFault, numbers_from}
use Rattle.stm_history.specs.FileLaws.{NumbersAreFixed, TextsAreOfOneHistory}
use Rattle.stm_history_text.specs.Starts.{Start, delivery_of_block, first_state, names_after}
use Rattle.stm_history.proofs.CellNames.{cells}
use Rattle.stm_history.proofs.CutsAtLineFeeds.{IsCut, cut_unique, no_feed}
use Rattle.stm_history.proofs.WrittenIsTaken.{few_variables}

-- ---- the formats and the tables
pub record IsOneTable (xs ys : List Declared) (a b : List ℕ) : Type 0 where
  pub tables : xs ≡ ys
  pub rest : a ≡ b

pub tables : (prior xs ys : List Declared) (a b : List ℕ) → AreVariablesFrom prior xs → AreVariablesFrom prior ys → length xs ≡ length ys → variable_lines xs ++ a ≡ variable_lines ys ++ b → IsOneTable xs ys a b
tables prior [] [] a b h k l e = record { tables = refl; rest = e }
tables prior [] (y ∷ ys) a b h k l e = absurd (omega (arith, l))
tables prior (x ∷ xs) [] a b h k l e = absurd (omega (arith, l))
tables prior (x ∷ xs) (y ∷ ys) a b h k l e =
    let c : IsCut (variable_line x) (variable_lines xs ++ a) (variable_line y) (variable_lines ys ++ b) =
    cut_unique (variable_line x) _ (variable_line y) _ (no_feed _ (variable_one_line x (h.0).fits)) (no_feed _ (variable_one_line y (k.0).fits))
    (sym (append_assoc (variable_line x) (10 ∷ variable_lines xs) a) ∙ e ∙ append_assoc (variable_line y) (10 ∷ variable_lines ys) b) in
    let same : y ≡ x = variable_same y x (k.0).fits (h.0).fits (sym c.line) in
    let r = tables (prior ++ x ∷ []) xs ys a b h.1 (subst (λ (z : Declared). AreVariablesFrom (prior ++ z ∷ []) ys) same k.1) (omega (arith, l)) c.rest in
    record { tables = ap (λ (z : List Declared). x ∷ z) r.tables ∙ ap (λ (z : Declared). z ∷ ys) (sym same); rest = r.rest }

pub record IsOneHead (p q : ℕ) (xs ys : List Declared) (a b : List ℕ) : Type 0 where
  pub formats : p ≡ q
  pub variables : IsOneTable xs ys a b

one_head : (p q : ℕ) (T U : List Declared) (a b : List ℕ) → IsFormat p → IsFormat q → AreVariables T → AreVariables U → head_text p (length T) T ++ a ≡ head_text q (length U) U ++ b
    → IsOneHead p q T U a b
one_head p q T U a b i j f g e =
    let few : length T ≤ max_cells = few_variables T f in
    let many : length U ≤ max_cells = few_variables U g in
    let c = cut_unique (header_line p (length T)) (variable_lines T ++ a) (header_line q (length U)) (variable_lines U ++ b)
    (no_feed _ (header_one_line p (length T) i (omega (arith, few)))) (no_feed _ (header_one_line q (length U) j (omega (arith, many))))
    (sym (append_assoc (header_line p (length T)) (10 ∷ variable_lines T) a) ∙ e ∙ append_assoc (header_line q (length U)) (10 ∷ variable_lines U) b) in
    let same : (p ≡ q) × (length T ≡ length U) = header_same p q (length T) (length U) i j (omega (arith, few)) (omega (arith, many)) c.line in
    record { formats = same.0; variables = tables [] T U a b f g same.1 c.rest }

-- ---- the waiting blocks of a checkpoint
-- new blocks are not stale
abbrev pub AreMarked : List CheckpointBlock → Type 0
AreMarked [] = Unit {0}
AreMarked (b ∷ bs) = (b.waiting.held ≡ None → b.stale ≡ false) × AreMarked bs

marked_by : (store : List Cell) (block : Block) (stale : Bool) (held : Option Held) → IsRightDelivery store block stale held → held ≡ None → stale ≡ false
marked_by store block stale None r e = r
marked_by store block stale (Some h) r e = absurd cc

pub marked_from : (store : List Cell) (n k : ℕ) (bs : List CheckpointBlock) → AreCheckpointBlocks store n k bs → AreMarked bs
marked_from store n k [] h = tt
marked_from store n k (b ∷ bs) h = (marked_by store b.waiting.block b.stale b.waiting.held (h.2).delivery, marked_from store n b.ticket bs h.3)

abbrev brought : Bool → Option Held → Option Delivered
brought stale held = option_map (λ h. record { reads = h.reads; verdict = h.verdict; stale = stale }) held

same_parts : (t t' : ℕ) (block block' : Block) (w w' : Option KeptCause) (label label' : List ℕ) (held held' : Option Held) (stale stale' : Bool) → t ≡ t' → block ≡ block' → w ≡ w' → label ≡ label' → brought stale held ≡ brought stale' held'
    → (held ≡ None → stale ≡ false) → (held' ≡ None → stale' ≡ false)
    → ◌≡◌ {A = CheckpointBlock} (record { ticket = t; waiting = record { block = block; held = held }; stale = stale; cause = w; label = label }) (record { ticket = t'; waiting = record { block = block'; held = held' }; stale = stale'; cause = w'; label = label' })
same_parts t t' block block' w w' label label' None None stale stale' p q v u e m n =
    let z : stale ≡ stale' = m refl ∙ sym (n refl) in
    λ i. record { ticket = p i; waiting = record { block = q i; held = None }; stale = z i; cause = v i; label = u i }
same_parts t t' block block' w w' label label' None (Some h) stale stale' p q v u e m n = absurd cc
same_parts t t' block block' w w' label label' (Some h) None stale stale' p q v u e m n = absurd cc
same_parts t t' block block' w w' label label' (Some h) (Some k) stale stale' p q v u e m n =
    let d : ◌≡◌ {A = Delivered} (record { reads = h.reads; verdict = h.verdict; stale = stale }) (record { reads = k.reads; verdict = k.verdict; stale = stale' }) = cc in
    let r = ap (λ (x : Delivered). x.reads) d in
    let o = ap (λ (x : Delivered). x.verdict) d in
    let z = ap (λ (x : Delivered). x.stale) d in
    λ i. record { ticket = p i; waiting = record { block = q i; held = Some (record { reads = r i; verdict = o i }) }; stale = z i; cause = v i; label = u i }

pub same_block : (T : List Named) (b c : CheckpointBlock) → FitsWaiting T b.ticket b.waiting.block b.cause b.label (delivery_of_block b) → FitsWaiting T c.ticket c.waiting.block c.cause c.label (delivery_of_block c)
    → (b.waiting.held ≡ None → b.stale ≡ false) → (c.waiting.held ≡ None → c.stale ≡ false) → block_line b ≡ block_line c → b ≡ c
same_block T b c f g m n l =
    let s = waiting_same T b.ticket c.ticket b.waiting.block c.waiting.block b.cause c.cause b.label c.label (delivery_of_block b) (delivery_of_block c) f g l in
    same_parts b.ticket c.ticket b.waiting.block c.waiting.block b.cause c.cause b.label c.label b.waiting.held c.waiting.held b.stale c.stale s.0 s.1 s.2 s.3 s.4 m n

pub record AreOneBlocks (bs cs : List CheckpointBlock) (a b : List ℕ) : Type 0 where
  pub blocks : bs ≡ cs
  pub rest : a ≡ b

pub blocks : (T : List Named) (bs cs : List CheckpointBlock) (a b : List ℕ) → FitBlocks T bs → FitBlocks T cs → AreMarked bs → AreMarked cs → length bs ≡ length cs
    → block_lines bs ++ a ≡ block_lines cs ++ b → AreOneBlocks bs cs a b
blocks T [] [] a b f g m n l e = record { blocks = refl; rest = e }
blocks T [] (y ∷ cs) a b f g m n l e = absurd (omega (arith, l))
blocks T (x ∷ bs) [] a b f g m n l e = absurd (omega (arith, l))
blocks T (x ∷ bs) (y ∷ cs) a b f g m n l e =
    let cut = cut_unique (block_line x) (block_lines bs ++ a) (block_line y) (block_lines cs ++ b)
    (no_feed _ (waiting_one_line T x.ticket x.waiting.block x.cause x.label (delivery_of_block x) f.0)) (no_feed _ (waiting_one_line T y.ticket y.waiting.block y.cause y.label (delivery_of_block y) g.0))
    (sym (append_assoc (block_line x) (10 ∷ block_lines bs) a) ∙ e ∙ append_assoc (block_line y) (10 ∷ block_lines cs) b) in
    let first : x ≡ y = same_block T x y f.0 g.0 m.0 n.0 cut.line in
    let r = blocks T bs cs a b f.1 g.1 m.1 n.1 (omega (arith, l)) cut.rest in
    let later : bs ≡ cs = r.blocks in
    record { blocks = λ i. first i ∷ later i; rest = r.rest }

-- ---- checkpoints
-- its numbers are those of a first line
pub record IsHeadOf (c : CheckpointView) : Type 0 where
  pub next : Is32Bit c.next
  pub vars : Is32Bit (length c.store)
  pub waiting : Is32Bit (length c.blocks)

pub head_fits : (c : CheckpointView) → IsCheckpoint c → IsHeadOf c
head_fits c k =
    let small = (k.store).small in
    let l = length-map c.store plain in
    record { next = omega (arith, k.tickets); vars = omega (arith, small, l); waiting = omega (arith, k.few) }

flat : (format w : ℕ) (c : CheckpointView) (a : List ℕ)
    → checkpoint_text format w c ++ a ≡ checkpoint_header_line format c.next (length c.store) w ++ 10 ∷ (cell_lines c.names c.store ++ (block_lines c.blocks ++ a))
flat format w c a =
    append_assoc (cells_text format c.next (length c.store) w c.names c.store) (block_lines c.blocks) a
    ∙ append_assoc (checkpoint_header_line format c.next (length c.store) w) (10 ∷ cell_lines c.names c.store) (block_lines c.blocks ++ a)

-- its variables are those that its lines may have
pub cells_of : (format : ℕ) (c : CheckpointView) → IsReadable format c → AreCells format c.names c.store
cells_of format c r = record { known = (r.fits).known; named = ((r.fits).checkpoint).named; gapless = r.format_fits.1; fit = (r.fits).cells }

pub record IsOneCheckpoint (p q : ℕ) (c d : CheckpointView) (a b : List ℕ) : Type 0 where
  pub formats : p ≡ q
  pub checkpoints : c ≡ d
  pub rest : a ≡ b

pub one_checkpoint : (p q : ℕ) (c d : CheckpointView) (a b : List ℕ) → IsReadable p c → IsReadable q d
    → checkpoint_text p (length c.blocks) c ++ a ≡ checkpoint_text q (length d.blocks) d ++ b → IsOneCheckpoint p q c d a b
one_checkpoint p q c d a b f g e =
    let m = (f.fits).checkpoint in
    let n = (g.fits).checkpoint in
    let h = head_fits c m in
    let k = head_fits d n in
    let cut = cut_unique (checkpoint_header_line p c.next (length c.store) (length c.blocks)) (cell_lines c.names c.store ++ (block_lines c.blocks ++ a))
    (checkpoint_header_line q d.next (length d.store) (length d.blocks)) (cell_lines d.names d.store ++ (block_lines d.blocks ++ b))
    (no_feed _ (checkpoint_header_one_line p c.next (length c.store) (length c.blocks) f.format_fits.0 h.next h.vars h.waiting))
    (no_feed _ (checkpoint_header_one_line q d.next (length d.store) (length d.blocks) g.format_fits.0 k.next k.vars k.waiting))
    (sym (flat p (length c.blocks) c a) ∙ e ∙ flat q (length d.blocks) d b) in
    let same = checkpoint_header_same p q c.next d.next (length c.store) (length d.store) (length c.blocks) (length d.blocks) f.format_fits.0 g.format_fits.0 h.next h.vars h.waiting k.next k.vars k.waiting cut.line in
    let first = cells p q c.names d.names c.store d.store (block_lines c.blocks ++ a) (block_lines d.blocks ++ b) (cells_of p c f) (cells_of q d g) same.2 cut.rest in
    let names : c.names ≡ d.names = first.names in
    let then = blocks d.names c.blocks d.blocks a b (subst (λ (V : List Named). FitBlocks V c.blocks) names (f.fits).blocks) (g.fits).blocks
    (marked_from c.store c.next 0 c.blocks m.blocks) (marked_from d.store d.next 0 d.blocks n.blocks) same.3 first.rest in
    let formats = same.0 in
    let nexts = same.1 in
    let stores = first.cells in
    let waiting = then.blocks in
    record { formats = formats; checkpoints = λ i. record { store = stores i; names = names i; next = nexts i; blocks = waiting i }; rest = then.rest }

-- ---- starts
pub record IsOneStart (s t : Start) (a b : List ℕ) : Type 0 where
  pub starts : s ≡ t
  pub rest : a ≡ b

-- a checkpoint's first line is none of a table
no_checkpoint : (p q : ℕ) (T : List Declared) (d : CheckpointView) (a b : List ℕ) → IsFormat p → AreVariables T → IsReadable q d
    → head_text p (length T) T ++ a ≡ checkpoint_text q (length d.blocks) d ++ b → ⊥
no_checkpoint p q T d a b i f g e =
    let few : length T ≤ max_cells = few_variables T f in
    let n : Is32Bit (length T) = omega (arith, few) in
    let k = head_fits d (g.fits).checkpoint in
    let cut = cut_unique (header_line p (length T)) (variable_lines T ++ a) (checkpoint_header_line q d.next (length d.store) (length d.blocks)) (cell_lines d.names d.store ++ (block_lines d.blocks ++ b))
    (no_feed _ (header_one_line p (length T) i n)) (no_feed _ (checkpoint_header_one_line q d.next (length d.store) (length d.blocks) g.format_fits.0 k.next k.vars k.waiting))
    (sym (append_assoc (header_line p (length T)) (10 ∷ variable_lines T) a) ∙ e ∙ flat q (length d.blocks) d b) in
    checkpoint_header_new q d.next (length d.store) (length d.blocks) p (length T) g.format_fits.0 k.next k.vars k.waiting i n (sym cut.line)

start_by : (p q : ℕ) (T U : List Declared) (o r : Option CheckpointView) (a b : List ℕ) → IsBefore p T o → IsBefore q U r → text_before p T o ++ a ≡ text_before q U r ++ b
    → IsOneStart (record { format = p; table = T; checkpoint = o }) (record { format = q; table = U; checkpoint = r }) a b
start_by p q T U None None a b f g e =
    let h = one_head p q T U a b f.0 g.0 f.2 g.2 e in
    let formats = h.formats in
    let table = (h.variables).tables in
    record { starts = λ i. record { format = formats i; table = table i; checkpoint = None }; rest = (h.variables).rest }
start_by p q T U None (Some d) a b f g e = absurd (no_checkpoint p q T d a b f.0 f.2 g.1 e)
start_by p q T U (Some c) None a b f g e = absurd (no_checkpoint q p U c b a g.0 g.2 f.1 (sym e))
start_by p q T U (Some c) (Some d) a b f g e =
    let h = one_checkpoint p q c d a b f.1 g.1 e in
    let formats = h.formats in
    let table : T ≡ U = f.0 ∙ sym g.0 in
    let checkpoint = h.checkpoints in
    record { starts = λ i. record { format = formats i; table = table i; checkpoint = Some (checkpoint i) }; rest = h.rest }

pub one_start : (s t : Start) (a b : List ℕ) → IsStart s → IsStart t → start_text s ++ a ≡ start_text t ++ b → IsOneStart s t a b
one_start s t a b f g e = start_by s.format t.format s.table t.table s.checkpoint t.checkpoint a b f g e

one_history : (s t : Start) (H K : List Event) (a b : List ℕ) → IsStart s → IsStart t → history_text s H ++ a ≡ history_text t K ++ b → IsOneStart s t (event_lines H ++ a) (event_lines K ++ b)
one_history s t H K a b f g e =
    one_start s t (event_lines H ++ a) (event_lines K ++ b) f g (sym (append_assoc (start_text s) (event_lines H) a) ∙ e ∙ append_assoc (start_text t) (event_lines K) b)

-- ---- the events
-- from a state on: where one reading of the bytes ends, an event of the other comes next
pub record IsNext (p : ℕ) (s : Slow) (H K : List Event) (a b : List ℕ) : Type 0 where
  pub event : Event
  pub later : List Event
  pub whole : H ≡ K ++ event ∷ later
  pub fits : FitsNames (state_from s K).names event
  pub may : FitsFormat p event
  pub short : IsShort (event_line event)
  pub text : b ≡ event_line event ++ 10 ∷ (event_lines later ++ a)

-- two readings have the same events and the same rest, or one of them has an event next where the other ends
pub data Compared (p : ℕ) (s : Slow) (H K : List Event) (a b : List ℕ) : Type 0 where
  same : H ≡ K → a ≡ b → Compared p s H K a b
  more : IsNext p s H K a b → Compared p s H K a b
  fewer : IsNext p s K H b a → Compared p s H K a b

cons_next : (p : ℕ) (s : Slow) (x : Event) (H K : List Event) (a b : List ℕ) → IsNext p (after s x.what) H K a b → IsNext p s (x ∷ H) (x ∷ K) a b
cons_next p s x H K a b n =
    record { event = n.event; later = n.later; whole = ap (λ (z : List Event). x ∷ z) n.whole; fits = n.fits; may = n.may; short = n.short; text = n.text }

cons_compared : (p : ℕ) (s : Slow) (x : Event) (H K : List Event) (a b : List ℕ) → Compared p (after s x.what) H K a b → Compared p s (x ∷ H) (x ∷ K) a b
cons_compared p s x H K a b (same e f) = same (ap (λ (z : List Event). x ∷ z) e) f
cons_compared p s x H K a b (more n) = more (cons_next p s x H K a b n)
cons_compared p s x H K a b (fewer n) = fewer (cons_next p s x K H b a n)

first_next : (p : ℕ) (s : Slow) (x : Event) (H : List Event) (a b : List ℕ) → AreEvents p s (x ∷ H) → event_lines (x ∷ H) ++ a ≡ b → IsNext p s (x ∷ H) [] a b
first_next p s x H a b h e =
    record { event = x; later = H; whole = refl; fits = h.0; may = h.1; short = h.2; text = sym e ∙ append_assoc (event_line x) (10 ∷ event_lines H) a }

compared : (p : ℕ) (s : Slow) (H K : List Event) (a b : List ℕ) → AreEvents p s H → AreEvents p s K → event_lines H ++ a ≡ event_lines K ++ b → Compared p s H K a b
compared p s [] [] a b h k e = same refl e
compared p s (x ∷ H) [] a b h k e = more (first_next p s x H a b h e)
compared p s [] (y ∷ K) a b h k e = fewer (first_next p s y K b a k (sym e))
compared p s (x ∷ H) (y ∷ K) a b h k e =
    let c : IsCut (event_line x) (event_lines H ++ a) (event_line y) (event_lines K ++ b) =
    cut_unique (event_line x) _ (event_line y) _ (no_feed _ (event_one_line s.names x h.0)) (no_feed _ (event_one_line s.names y k.0))
    (sym (append_assoc (event_line x) (10 ∷ event_lines H) a) ∙ e ∙ append_assoc (event_line y) (10 ∷ event_lines K) b) in
    let one : x ≡ y = event_same s.names x y h.0 k.0 c.line in
    let later : AreEvents p (after s x.what) K = subst (λ (z : Event). AreEvents p (after s z.what) K) (sym one) k.3 in
    subst (λ (z : Event). Compared p s (x ∷ H) (z ∷ K) a b) one (cons_compared p s x H K a b (compared p (after s x.what) H K a b h.3 later c.rest))

-- two readings of the same bytes
pub record AreCompared (s t : Start) (H K : List Event) (a b : List ℕ) : Type 0 where
  pub starts : s ≡ t
  pub events : Compared t.format (first_state t) H K a b

pub both : (bytes : List ℕ) (s t : Start) (H K : List Event) (a b : List ℕ) → BeginsWithHistory s bytes H a → BeginsWithHistory t bytes K b → AreCompared s t H K a b
both bytes s t H K a b f g =
    let r = one_history s t H K a b f.start g.start (sym f.text ∙ g.text) in
    let starts : s ≡ t = r.starts in
    record { starts = starts; events = compared t.format (first_state t) H K a b (subst (λ (z : Start). AreEvents z.format (first_state z) H) starts f.events) g.events r.rest }

-- ---- whole texts
-- no event comes next where nothing is left
pub nothing_next : (q : ℕ) (s : Slow) (H K : List Event) (a : List ℕ) → IsNext q s H K a [] → ⊥
nothing_next q s H K a n =
    let l : 0 ≡ length (event_line n.event ++ 10 ∷ (event_lines n.later ++ a)) = ap length n.text in
    let m = length-append (event_line n.event) (10 ∷ (event_lines n.later ++ a)) in
    omega (arith, l, m)

same_events : (q : ℕ) (s : Slow) (H K : List Event) → Compared q s H K [] [] → H ≡ K
same_events q s H K (same e f) = e
same_events q s H K (more n) = absurd (nothing_next q s H K [] n)
same_events q s H K (fewer n) = absurd (nothing_next q s K H [] n)

pub texts_are_of_one_history : TextsAreOfOneHistory
texts_are_of_one_history s t H K f g h k e =
    let r = one_history s t H K [] [] f g (ap (λ (x : List ℕ). x ++ []) e) in
    let starts : s ≡ t = r.starts in
    (starts, same_events t.format (first_state t) H K (compared t.format (first_state t) H K [] [] (subst (λ (z : Start). AreEvents z.format (first_state z) H) starts h) k r.rest))

pub numbers_are_fixed : NumbersAreFixed
numbers_are_fixed bytes m n a c =
    let b = both bytes a.0 c.0 a.1 c.1 [] [] a.2 c.2 in
    a.3 ∙ ap (λ (z : Start). numbers_from z a.1) b.starts ∙ ap (numbers_from c.0) (same_events (c.0).format (first_state c.0) a.1 c.1 b.events) ∙ sym c.3

-- ---- faults
-- a legal history goes on legally: each front of it is legal
front_legal : (s : Slow) (K later : List Event) (e : Event) → LegalFrom s (K ++ e ∷ later) → LegalFrom s (K ++ e ∷ [])
front_legal s [] later e l = (l.0, tt)
front_legal s (x ∷ K) later e l = (l.0, front_legal (after s x.what) K later e l.1)

-- where no line of an event comes next, no other reading has an event next
pub never_next : (q : ℕ) (s : Slow) (H K : List Event) (a b : List ℕ) → NoEventNext q (state_from s K).names b → IsNext q s H K a b → ⊥
never_next q s H K a b never n = never n.event n.fits n.may n.short (event_lines n.later ++ a) n.text

-- an event that comes next in a legal history can follow
pub legal_next : (s : Start) (H K : List Event) (a b text : List ℕ) (e : Event) → b ≡ event_line e ++ 10 ∷ text → FitsNames (names_after s K) e → IsLegalFrom (first_state s) H
    → IsIllegalFrom s K e → IsNext s.format (first_state s) H K a b → ⊥
legal_next s H K a b text e here fits legal illegal n =
    let names = names_after s K in
    let c = cut_unique (event_line e) text (event_line n.event) (event_lines n.later ++ a) (no_feed _ (event_one_line names e fits)) (no_feed _ (event_one_line names n.event n.fits)) (sym here ∙ n.text) in
    let one : e ≡ n.event = event_same names e n.event fits n.fits c.line in
    let whole : H ≡ K ++ e ∷ n.later = n.whole ∙ ap (λ (z : Event). K ++ z ∷ n.later) (sym one) in
    let h : LegalFrom (first_state s) (K ++ e ∷ n.later) = subst (λ (z : List Event). LegalFrom (first_state s) z) whole legal.each in
    let few : length (K ++ e ∷ n.later) ≤ max_events = subst (λ (z : List Event). length z ≤ max_events) whole legal.few in
    let l = length-append K (e ∷ n.later) in
    let m = length-append K (e ∷ []) in
    illegal (record { each = front_legal (first_state s) K n.later e h; few = omega (arith, few, l, m) })

-- the lines before the events of a reading are those of a start
pub header_by : (bytes : List ℕ) (s : Start) (H : List Event) (a : List ℕ) → BeginsWithHistory s bytes H a → ReportsFault BadHeader bytes → ⊥
header_by bytes s H a f t = t s f.start (event_lines H ++ a) (f.text ∙ append_assoc (start_text s) (event_lines H) a)
