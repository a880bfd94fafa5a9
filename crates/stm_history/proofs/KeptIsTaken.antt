-- The text of a history as a desk keeps it is read as that history.
use Rattle.std.proofs.Common.{◌≡◌, ℕ, ◌+◌, ◌≤◌, Bool, true, false, cond, List, [], ◌∷◌, ◌++◌, length, Option, Some, None, refl, sym, ap, subst, ◌∙◌, arith, append_assoc, append-nil, inl, inr}
use Rattle.std.specs.Prelude.{◌&&◌, ◌||◌, nat_eq, nat_le}
use Rattle.std.proofs.lemmas.Bool.Decides.{nat_tests}
use Rattle.std.proofs.lemmas.Bool.{and_parts}
use Rattle.stm_store.specs.declared.cell.Cell.{Cell}
use Rattle.stm_store.specs.Naming.{Named, is_gapless, name_numbered}
use Rattle.stm_store.specs.Tables.{Declared}
use Rattle.stm_events.specs.SlowDesk.{Slow}
use Rattle.stm_events.specs.States.{IsLegalFrom}
use Rattle.stm_machine.specs.declared.checkpoint.CheckpointBlock.{CheckpointBlock}
use Rattle.stm_machine.specs.Checkpoints.{CheckpointView, started_by}
use Rattle.stm_event_lines.specs.CheckpointLines.{FitsName, IsCheckpointFormat, cell_line, checkpoint_format, checkpoint_header_line}
use Rattle.stm_event_lines.specs.Lines.{declaring_format, rule_of}
use Rattle.stm_event_lines.proofs.Checkpoints.{cell_one_line, checkpoint_header_one_line, waiting_one_line}
use Rattle.stm_history.specs.Progress.{NoFeed}
use Rattle.stm_history.specs.FileLaws.{WhatIsKeptIsTaken, WrittenFormatsFit}
use Rattle.stm_history_text.specs.HistoryText.{block_line, block_lines, cell_lines, cell_lines_from, checkpoint_text, event_lines, text_before}
use Rattle.stm_history.specs.Judgement.{AreEvents, AreShortLines, CheckpointFits, FitBlocks, FitCells, FitsBefore, FormatFits, HaveShortLines, IsBefore, are_short_after, max_line}
use Rattle.stm_history_text.specs.Starts.{Start, are_plain_blocks, declares, labels_blocks, delivery_of_block, first_state, format_of_start, read_back, table_back}
use Rattle.stm_history.proofs.CellNames.{fits_name, named_fits}
use Rattle.stm_history.proofs.CutsAtLineFeeds.{no_feed}
use Rattle.stm_history.proofs.OneReading.{head_fits}
use Rattle.stm_history.proofs.WrittenIsTaken.{few_variables}

-- ---- the text has nothing of the table if there is a checkpoint
pub text_back : (format : ℕ) (table : List Declared) (o : Option CheckpointView) → text_before format (table_back table o) o ≡ text_before format table o
text_back format table None = refl
text_back format table (Some c) = refl

-- nor has the state
state_back : (format : ℕ) (table : List Declared) (o : Option CheckpointView) → started_by (rule_of format) table o ≡ started_by (rule_of format) (table_back table o) o
state_back format table None = refl
state_back format table (Some c) = refl

pub first_back : (s : Start) → first_state s ≡ first_state (read_back s)
first_back s = state_back s.format s.table s.checkpoint

-- ---- lines that are short
record IsSplit (n : ℕ) (line rest : List ℕ) : Type 0 where
  pub short : n + length line ≤ max_line
  pub after : are_short_after 0 rest ≡ true

split_by : (n x : ℕ) (line rest : List ℕ) (b : Bool) → nat_eq x 10 ≡ b → (x ≡ 10 → ⊥) → (are_short_after (n + 1) (line ++ 10 ∷ rest) ≡ true → IsSplit (n + 1) line rest)
    → cond b (nat_le n max_line && are_short_after 0 (line ++ 10 ∷ rest)) (are_short_after (n + 1) (line ++ 10 ∷ rest)) ≡ true → IsSplit n (x ∷ line) rest
split_by n x line rest true t k h e = let same : x ≡ 10 = grind (arith, nat_tests) in absurd (k same)
split_by n x line rest false t k h e = let r = h e in record { short = omega (arith, r.short); after = r.after }

split : (n : ℕ) (line rest : List ℕ) → NoFeed line → are_short_after n (line ++ 10 ∷ rest) ≡ true → IsSplit n line rest
split n [] rest f e = let p = and_parts (nat_le n max_line) (are_short_after 0 rest) e in let q = p.0 in record { short = grind (arith, nat_tests); after = p.1 }
split n (x ∷ line) rest f e = split_by n x line rest (nat_eq x 10) refl f.0 (split (n + 1) line rest f.1) e

after_cells : (i : ℕ) (names : List Named) (cells : List Cell) (rest : List ℕ) → ((j : ℕ) → FitsName (name_numbered j names)) → FitCells cells → are_short_after 0 (cell_lines_from i names cells ++ rest) ≡ true → are_short_after 0 rest ≡ true
after_cells i names [] rest n f e = e
after_cells i names (c ∷ cells) rest n f e =
    let name = name_numbered i names in
    let line = cell_line name c in
    let more = cell_lines_from (i + 1) names cells in
    let s = split 0 line (more ++ rest) (no_feed line (cell_one_line name c (named_fits name c (n i) f.0))) (ap (are_short_after 0) (sym (append_assoc line (10 ∷ more) rest)) ∙ e) in
    after_cells (i + 1) names cells rest n f.1 s.after

short_blocks : (names : List Named) (bs : List CheckpointBlock) → FitBlocks names bs → are_short_after 0 (block_lines bs) ≡ true → HaveShortLines bs
short_blocks names [] f e = tt
short_blocks names (b ∷ bs) f e =
    let s = split 0 (block_line b) (block_lines bs) (no_feed (block_line b) (waiting_one_line names b.ticket b.waiting.block b.cause b.label (delivery_of_block b) f.0)) e in
    (omega (arith, s.short), short_blocks names bs f.1 s.after)

short_checkpoint : (format : ℕ) (c : CheckpointView) → IsCheckpointFormat format → CheckpointFits c → AreShortLines (checkpoint_text format (length c.blocks) c) → HaveShortLines c.blocks
short_checkpoint format c i f e =
    let h = head_fits c f.checkpoint in
    let known = f.known in
    let line = checkpoint_header_line format c.next (length c.store) (length c.blocks) in
    let s = split 0 line (cell_lines c.names c.store ++ block_lines c.blocks) (no_feed line (checkpoint_header_one_line format c.next (length c.store) (length c.blocks) i h.next h.vars h.waiting))
    (ap (are_short_after 0) (sym (append_assoc line (10 ∷ cell_lines c.names c.store) (block_lines c.blocks))) ∙ e) in
    short_blocks c.names c.blocks f.blocks (after_cells 0 c.names c.store (block_lines c.blocks) (λ j. fits_name j c.names known.named) f.cells s.after)

-- ---- the format
declaring_of : (o : Option CheckpointView) → FormatFits declaring_format o
declaring_of None = inr refl
declaring_of (Some c) = (inr refl, λ e. absurd (omega (arith, e)), λ e. absurd (omega (arith, e)))

checkpoint_of : (c : CheckpointView) (a b : Bool) → is_gapless c.names ≡ a → are_plain_blocks c.blocks ≡ b → FormatFits (cond (a && b) checkpoint_format declaring_format) (Some c)
checkpoint_of c true true d e = (inl refl, λ f. d, λ f. e)
checkpoint_of c true false d e = declaring_of (Some c)
checkpoint_of c false b d e = declaring_of (Some c)

start_of : (o : Option CheckpointView) → FormatFits (format_of_start o) o
start_of None = inl (omega arith, omega arith)
start_of (Some c) = checkpoint_of c (is_gapless c.names) (are_plain_blocks c.blocks) refl refl

format_by : (o : Option CheckpointView) (b : Bool) → FormatFits (cond b declaring_format (format_of_start o)) o
format_by o true = declaring_of o
format_by o false = start_of o

-- a history may be in the format in which it is written
pub written_fits : WrittenFormatsFit
written_fits table o history = format_by o (declares history || labels_blocks history)

-- ---- the history that is read
before_back : (format : ℕ) (table : List Declared) (o : Option CheckpointView) → FormatFits format o → FitsBefore table o → AreShortLines (text_before format table o) → IsBefore format (table_back table o) o
before_back format table None k f e = (k, few_variables table f, f)
before_back format table (Some c) k f e = (refl, record { format_fits = k; fits = f; short = short_checkpoint format c k.0 f e })

pub what_is_kept_is_taken : WhatIsKeptIsTaken
what_is_kept_is_taken s history format fits short events legal =
    let same : text_before s.format (table_back s.table s.checkpoint) s.checkpoint ≡ text_before s.format s.table s.checkpoint = text_back s.format s.table s.checkpoint in
    let state : first_state s ≡ first_state (read_back s) = first_back s in
    record {
      text = ap (λ (x : List ℕ). x ++ event_lines history) (sym same) ∙ sym (append-nil (text_before s.format (table_back s.table s.checkpoint) s.checkpoint ++ event_lines history));
      start = before_back s.format s.table s.checkpoint format fits short;
      events = subst (λ (z : Slow). AreEvents s.format z history) state events;
      legal = subst (λ (z : Slow). IsLegalFrom z history) state legal;
    }
