-- Whatever lines came before, the start of a console's history can be written: its variables, or its checkpoint.
use Rattle.std.proofs.Common.{◌≡◌, ℕ, suc, ◌≤◌, Bool, true, false, List, [], ◌∷◌, length, Option, Some, None, IfSome, Ok, refl, sym, ◌∙◌, subst, arith}
use Rattle.std.specs.Prelude.{MatchBool, option_map, slice_get}
use Rattle.stm_terms.specs.declared.kinds.Ty.{Ty}
use Rattle.stm_terms.specs.declared.values.Value.{Value}
use Rattle.stm_terms.specs.declared.values.Value.TheVariants as value
use Rattle.stm_terms.specs.declared.verdicts.Verdict.{Verdict}
use Rattle.stm_terms.specs.declared.verdicts.Verdict.TheVariants.{Commits}
use Rattle.stm_terms.specs.Changes.{no_changes}
use Rattle.stm_terms.specs.Limits.{most_refs}
use Rattle.stm_terms.specs.Limits as limits
use Rattle.stm_terms.specs.Typing.{type_of}
use Rattle.stm_parse.specs.ParseFunction.{BlockAnswersAreRight, DeclarationAnswersAreRight}
use Rattle.stm_store.specs.declared.cell.Cell.{Cell}
use Rattle.stm_store.specs.Cells.{most_cells, plains, kinds_of, Covers, Fits, IsStore}
use Rattle.stm_store.specs.Naming.{Named, AreKnown}
use Rattle.stm_store.specs.Tables.{Declared}
use Rattle.stm_store.proofs.ApplyPreservesTyping.{covered_stay, kept_store}
use Rattle.stm_check.specs.Laws.{CheckNeverSaysNoMemory}
use Rattle.stm_check.proofs.TypingLaws.{every_verdict_fits}
use Rattle.stm_eval.specs.Laws.{VerdictIsStable}
use Rattle.stm_events.specs.declared.kept_cause.KeptCause.{KeptCause}
use Rattle.stm_events.specs.Laws.{IsWellTyped}
use Rattle.stm_events.specs.SlowDesk.{under}
use Rattle.stm_machine.specs.declared.checkpoint.CheckpointBlock.{CheckpointBlock}
use Rattle.stm_machine.specs.Checkpoints.{CheckpointView, store_with, IsRightDelivery, MayHaveCause, AreCheckpointBlocks, IsCheckpoint, max_next, checkpoint_of, start_of, MayStart}
use Rattle.stm_waiting.specs.declared.waiting.Held.{Held}
use Rattle.stm_event_lines.specs.CheckedBlocks.{CheckedAreWellTyped}
use Rattle.stm_event_lines.specs.CheckpointLines.{FitsCause, FitsDelivery}
use Rattle.stm_event_lines.specs.Fits.{FitWrites}
use Rattle.stm_history.specs.Judgement.{CheckpointFits, FitBlocks, FitCells, FitsBefore}
use Rattle.stm_history_text.specs.Starts.{AreOfText, BlocksAreOfText}
use Rattle.stm_source.specs.CompiledBlock.{compiled_block}
use Rattle.stm_desk.specs.Checkpointed.{causes_of}
use Rattle.stm_desk.specs.DeskView.{start_state, state_of, labels_of}
use Rattle.stm_desk_laws.specs.IntegerRange.{VerdictsAre64Bit, AreWrites64Bit, AreCells64Bit, HistoriesStay64Bit}
use Rattle.stm_desk_laws.proofs.HistoryRange.{under_fits, applied_fits}
use Rattle.stm_run.specs.declared.console.Console.{Console}
use Rattle.stm_run.specs.Console.{initial_console, state_after}
use Rattle.stm_run.specs.ConsoleState.{present_desk, checkpoint_of_console, with_checkpoint}
use Rattle.stm_run.specs.AfterLines.{state_after_lines}
use Rattle.stm_run.specs.Fitting.{VariablesFit}
use Rattle.stm_run.specs.Growing.{Grows}
use Rattle.stm_run.specs.LineCheckpoints.{line_checkpoints}
use Rattle.stm_run.proofs.EventsOfConsole.{consoles_grow}
use Rattle.stm_run_laws.proofs.FittingVerdicts.{value_fits, verdict_fits}
use Rattle.stm_run_laws.proofs.IntegersOfConsole.{IsRanged, all_given, first_range, line_range, initial_range}
use Rattle.stm_run_laws.proofs.LiteralsInRange.{block_range}
use Rattle.stm_run_laws.proofs.NewVariablesMade.{few_made}
use Rattle.stm_run.proofs.ReachedConsole.{present_stands}
use Rattle.stm_run.proofs.SmallNumbers.{length-plains}
use Rattle.stm_run_laws.specs.ReadBack.{StartsFitLines}
use Rattle.stm_run_laws.proofs.KeptValues.{AreCounted, opened_counted, counted_from, StoresAre64Bit, stores_range, AreSince64Bit, since_from, IsKeptCause64Bit, AreKept64Bit, causes_range, blocks_since, kept_now}
use Rattle.stm_run_laws.proofs.KnownNames.{known_table, known_from}

-- what holds of each checkpoint of a console, besides that its store is in range
record IsKeptInRange (c : CheckpointView) : Type 0 where
  pub counts : AreCounted c.store
  pub kept : AreKept64Bit c.blocks
  pub known : AreKnown c.names

-- what holds of a console that has taken some lines
record IsWritten (s : Console) : Type 0 where
  pub ranged : IsRanged s
  pub checkpoint : IfSome (checkpoint_of_console s) IsKeptInRange

-- ---- variables
cells_fit : (whole : List (Ty × Value)) (cells : List Cell) → length whole ≤ most_cells
    → ((i : ℕ) (c : Ty × Value) → slice_get (plains cells) i ≡ Some c → (type_of (kinds_of whole) no_changes c.1 ≡ Some c.0) × (c.0.refs ≤ most_refs))
    → AreCells64Bit cells → AreCounted cells → FitCells cells
cells_fit whole [] small typed r k = tt
cells_fit whole (c ∷ cs) small typed r k =
    let one = typed 0 (c.kind, c.value) refl in
    ((tt, one.1, value_fits whole no_changes c.value c.kind small (omega arith) one.0 r.0, k.0), cells_fit whole cs small (λ i x e. typed (suc i) x e) r.1 k.1)

store_fits : (cells : List Cell) → IsStore (plains cells) → AreCells64Bit cells → AreCounted cells → FitCells cells
store_fits cells i r k = cells_fit (plains cells) cells i.small (λ n c e. (i.typed n c e, i.low n c e)) r k

-- ---- waiting blocks
reads_fit : (cells : List (Ty × Value)) (ws : List (ℕ × Value)) → length cells ≤ most_cells → Fits cells (Commits ws [] value.Unit) → AreWrites64Bit ws → FitWrites ws
reads_fit cells ws small f r = let fits = verdict_fits cells (Commits ws [] value.Unit) small (omega arith) f (r, tt, tt) in fits.0

cause_fits : (store : List Cell) (n : ℕ) (stale : Bool) (held : Option Held) (o : Option KeptCause) → n ≤ max_next → length (plains store) ≤ most_cells → MayHaveCause store n stale held o
    → IsKeptCause64Bit o → FitsCause o
cause_fits store n stale held None low small m r = tt
cause_fits store n stale None (Some c) low small m r = absurd m
cause_fits store n stale (Some h) (Some c) low small m r = let finished = m.1.finished in (omega (arith, low, finished), reads_fit (plains store) c.left small m.1.fits r)

module _ (blocks : BlockAnswersAreRight) (verdicts : VerdictsAre64Bit) where
  held_fits : (names : List Named) (store : List Cell) (b : CheckpointBlock) (o : Option Held) → IsStore (plains store) → AreCells64Bit store → Covers (plains store) b.waiting.block.uses
      → IsWellTyped b.waiting.block → compiled_block names b.waiting.block.text ≡ Ok b.waiting.block → IsRightDelivery store b.waiting.block b.stale o → IfSome o (λ h. AreWrites64Bit h.reads)
      → FitsDelivery (option_map (λ h. record { reads = h.reads; verdict = h.verdict; stale = b.stale }) o)
  held_fits names store b None i c covered action text right r = tt
  held_fits names store b (Some h) i c covered action text right r =
      let block = b.waiting.block in
      let change : Verdict = Commits h.reads [] value.Unit in
      let then = store_with h.reads store in
      let few = i.small in
      let after : IsStore (plains then) = kept_store store change right.0 i (omega (arith, few, length-plains store)) in
      let has = every_verdict_fits (plains then) block.uses block.tree action.0 after.typed (covered_stay store change block.uses covered) action.1 in
      let is = right.1.verdict_is in
      let one : Some has.0 ≡ Some h.verdict = sym has.1 ∙ is in
      let same : has.0 ≡ h.verdict = cc in
      let small = block_range blocks names block.text block text in
      let made = few_made (under then) block.tree h.verdict is in
      let range = verdicts (under then) block.tree h.verdict (under_fits then (applied_fits store change c (r, tt, tt))) small.0 is in (
        reads_fit (plains store) h.reads i.small right.0 r,
        verdict_fits (plains then) h.verdict after.small (omega (arith, made, small.1)) (subst (Fits (plains then)) same has.2) range,
      )

  blocks_fit : (names : List Named) (store : List Cell) (n k : ℕ) (bs : List CheckpointBlock) → IsStore (plains store) → AreCells64Bit store → n ≤ max_next → AreCheckpointBlocks store n k bs
      → AreOfText names bs → AreKept64Bit bs → FitBlocks names bs
  blocks_fit names store n k [] i c low a t r = tt
  blocks_fit names store n k (b ∷ bs) i c low a t r =
      let ticket = a.1 in (
        (
          omega (arith, low, ticket),
          t.0,
          cause_fits store n b.stale b.waiting.held b.cause low i.small a.2.cause r.0.1,
          held_fits names store b b.waiting.held i c a.2.covered a.2.typed t.0 a.2.delivery r.0.0,
          a.2.label,
        ),
        blocks_fit names store n b.ticket bs i c low a.3 t.1 r.1,
      )

  -- ---- checkpoints
  checkpoint_fits : (c : CheckpointView) → IsCheckpoint c → AreCells64Bit c.store → BlocksAreOfText c → IsKeptInRange c → CheckpointFits c
  checkpoint_fits c is store texts k = record {
    checkpoint = is;
    known = k.known;
    cells = store_fits c.store is.store store k.counts;
    blocks = blocks_fit c.names c.store c.next 0 c.blocks is.store store is.tickets is.blocks texts k.kept;
  }

  start_fits : (table : List Declared) (o : Option CheckpointView) → VariablesFit table → MayStart table o → IfSome o (λ c. AreCells64Bit c.store) → IfSome o BlocksAreOfText → IfSome o IsKeptInRange
      → FitsBefore table o
  start_fits table None v m store texts k = v.1
  start_fits table (Some c) v m store texts k = checkpoint_fits c m.0 store texts k

-- ---- where a history begins
start_counted : (table : List Declared) (o : Option CheckpointView) → IfSome o IsKeptInRange → AreCounted (start_of table o).store
start_counted table None k = opened_counted table
start_counted table (Some c) k = k.counts

start_since : (table : List Declared) (o : Option CheckpointView) → IfSome o (λ c. AreCells64Bit c.store) → IfSome o IsKeptInRange → AreSince64Bit (start_of table o).waiters
start_since table None store k = tt
start_since table (Some c) store k = blocks_since c.store c.blocks store k.kept

start_known : (table : List Declared) (o : Option CheckpointView) → VariablesFit table → IfSome o IsKeptInRange → AreKnown (start_of table o).names
start_known table None v k = known_table table v.1
start_known table (Some c) v k = k.known

start_kept : (o : Option CheckpointView) → IfSome o IsKeptInRange → IfSome o (λ c. AreKept64Bit c.blocks)
start_kept None k = tt
start_kept (Some c) k = k.kept

-- ---- consoles
module _ (blocks : BlockAnswersAreRight) (declarations : DeclarationAnswersAreRight) (faults : CheckNeverSaysNoMemory) (stable : VerdictIsStable) (checked : CheckedAreWellTyped) (laws : HistoriesStay64Bit) where
  -- a checkpoint of the present state
  next_kept : (s : Console) → IsWritten s → IfSome (checkpoint_of_console (with_checkpoint s)) IsKeptInRange
  unfolding checkpoint_of
  next_kept s k =
      let d = (present_desk s).desk in
      let first = start_state d in
      let r = k.ranged in
      let stands = present_stands s r.is_reached in
      let given = all_given blocks declarations first d.history r.is_own.events in
      let begins = first_range blocks declarations faults stable checked laws s r in
      let stores : StoresAre64Bit first d.history = stores_range laws first d.history begins stands.legal.each given in
      let since : AreSince64Bit (state_of d).waiters = since_from first d.history stores (start_since d.table d.checkpoint r.store k.checkpoint) in
      let causes : (t : ℕ) → IsKeptCause64Bit (causes_of d t) = causes_range d stores (start_kept d.checkpoint k.checkpoint) in
      record {
        counts = counted_from first d.history (start_counted d.table d.checkpoint k.checkpoint);
        kept = kept_now (labels_of d) (causes_of d) (state_of d).waiters causes since;
        known = known_from first d.history stands.start.possible stands.legal.each (start_known d.table d.checkpoint r.variables k.checkpoint);
      }

  moved_kept : (b : Bool) (s t : Console) → MatchBool b (t ≡ with_checkpoint s) (Grows s t) → IsWritten s → IfSome (checkpoint_of_console t) IsKeptInRange
  moved_kept true s t m k = subst (λ (x : Console). IfSome (checkpoint_of_console x) IsKeptInRange) (sym m) (next_kept s k)
  moved_kept false s t m k = subst (λ (o : Option CheckpointView). IfSome o IsKeptInRange) (sym m.same_start) k.checkpoint

  line_written : (s : Console) (line : List ℕ) → IsWritten s → IsWritten (state_after s line)
  line_written s line k = record {
    ranged = line_range blocks declarations faults stable checked laws s line k.ranged;
    checkpoint = moved_kept (line_checkpoints s line) s (state_after s line) (consoles_grow s line) k;
  }

  lines_written : (s : Console) (lines : List (List ℕ)) → IsWritten s → IsWritten (state_after_lines s lines)
  lines_written s [] k = k
  lines_written s (line ∷ rest) k = lines_written (state_after s line) rest (line_written s line k)

  initial_written : (max_events : ℕ) → max_events ≤ limits.max_events → IsWritten (initial_console max_events)
  unfolding initial_console
  initial_written max_events low = record { ranged = initial_range blocks declarations faults stable checked laws max_events low; checkpoint = tt }

  pub starts_fit_lines : VerdictsAre64Bit → StartsFitLines
  starts_fit_lines verdicts max_events low before =
      let s = state_after_lines (initial_console max_events) before in
      let k : IsWritten s = lines_written (initial_console max_events) before (initial_written max_events low) in
      let d = (present_desk s).desk in
      let r = k.ranged in
      let stands = present_stands s r.is_reached in
      start_fits blocks verdicts d.table d.checkpoint r.variables stands.begins r.store r.is_own.blocks k.checkpoint
