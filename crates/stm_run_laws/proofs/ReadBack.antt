-- The text of a console's history is read back as that history, if its lines are short.
use Rattle.std.proofs.Common.{◌≡◌, ◌≢◌, ℕ, ◌+◌, ◌≤◌, Bool, true, false, cond, List, [], ◌∷◌, ◌++◌, length, Option, Some, None, refl, sym, subst, arith}
use Rattle.std.specs.Prelude.{⊤, ◌&&◌, ◌||◌, nat_eq, nat_le}
use Rattle.std.proofs.lemmas.Bool.Decides.{nat_tests}
use Rattle.std.proofs.lemmas.Bool.{and_parts}
use Rattle.stm_check.specs.Laws.{CheckNeverSaysNoMemory}
use Rattle.stm_eval.specs.Laws.{VerdictIsStable}
use Rattle.stm_parse.specs.ParseFunction.{BlockAnswersAreRight, DeclarationAnswersAreRight}
use Rattle.stm_store.specs.Naming.{is_gapless}
use Rattle.stm_store.specs.Tables.{Declared}
use Rattle.stm_events.specs.declared.event.Event.{Event}
use Rattle.stm_events.specs.declared.event.What.{What}
use Rattle.stm_events.specs.declared.event.What.TheVariants.{Submitted, Installed, Finished, Cancelled, Declared as DeclaredLate, Labelled}
use Rattle.stm_events.specs.SlowDesk.{Slow, after}
use Rattle.stm_events.specs.States.{IsLegalFrom}
use Rattle.stm_machine.specs.Checkpoints.{CheckpointView, start_of, started_by}
use Rattle.stm_event_lines.specs.CheckedBlocks.{CheckedAreWellTyped}
use Rattle.stm_event_lines.specs.CheckpointLines.{checkpoint_format}
use Rattle.stm_event_lines.specs.Fits.{WhatFitsFormat, IsOneLine}
use Rattle.stm_event_lines.specs.Lines.{declaring_format, rule_of, event_line}
use Rattle.stm_history.specs.FileLaws.{EventsAreLines, WhatIsKeptIsTaken, WrittenFormatsFit}
use Rattle.stm_history.specs.Judgement.{AreEvents, are_short_after, max_line}
use Rattle.stm_history_text.specs.HistoryText.{event_lines, start_text}
use Rattle.stm_history_text.specs.Starts.{Start, are_plain_blocks, declares, is_declaration, is_labelling, labels_blocks, first_state, format_for, format_of_start, written_start}
use Rattle.stm_commands.specs.Contents.{history_answer}
use Rattle.stm_desk.specs.DeskView.{start_state}
use Rattle.stm_run.specs.Console.{initial_console}
use Rattle.stm_run.specs.ConsoleState.{present_desk, start_of_console}
use Rattle.stm_run.specs.AfterLines.{state_after_lines}
use Rattle.stm_run.proofs.ReachedConsole.{present_stands, reached}
use Rattle.stm_run_laws.specs.ReadBack.{EventsFitNames, EventsFitLines, StartsFitLines, HistoriesAreReadBack}

-- ---- formats
abbrev AreInFormat : ℕ → List Event → Type 0
AreInFormat format [] = ⊤
AreInFormat format (e ∷ es) = WhatFitsFormat format e.what × AreInFormat format es

-- that of late declarations and labels has all
any_fits : (what : What) → WhatFitsFormat declaring_format what
any_fits (Submitted t block) = λ one. absurd (omega (arith, one))
any_fits (Installed t v) = tt
any_fits (Finished t v n stale) = tt
any_fits (Cancelled t) = tt
any_fits (DeclaredLate name kind value) = refl
any_fits (Labelled t label) = refl

all_fit : (es : List Event) → AreInFormat declaring_format es
all_fit [] = tt
all_fit (e ∷ es) = (any_fits e.what, all_fit es)

plain_fits : (format : ℕ) (what : What) → format ≢ 1 → is_declaration what ≡ false → is_labelling what ≡ false → WhatFitsFormat format what
plain_fits format (Submitted t block) n d l = λ one. absurd (n one)
plain_fits format (Installed t v) n d l = tt
plain_fits format (Finished t v k stale) n d l = tt
plain_fits format (Cancelled t) n d l = tt
plain_fits format (DeclaredLate name kind value) n d l = absurd (cc d)
plain_fits format (Labelled t label) n d l = absurd (cc l)

none_of : (b rest : Bool) → (b || rest) ≡ false → (b ≡ false) × (rest ≡ false)
none_of true rest e = absurd (cc e)
none_of false rest e = (refl, e)

plains_fit : (format : ℕ) (es : List Event) → format ≢ 1 → declares es ≡ false → labels_blocks es ≡ false → AreInFormat format es
plains_fit format [] n d l = tt
plains_fit format (e ∷ es) n d l =
    let both = none_of (is_declaration e.what) (declares es) d in
    let labels = none_of (is_labelling e.what) (labels_blocks es) l in
    (plain_fits format e.what n both.0 labels.0, plains_fit format es n both.1 labels.1)

start_is_late : (o : Option CheckpointView) → format_of_start o ≢ 1
start_is_late None = λ e. absurd (omega (arith, e))
start_is_late (Some c) = by (is_gapless c.names && are_plain_blocks c.blocks)
  where
    by : (b : Bool) → cond b checkpoint_format declaring_format ≢ 1
    by true = λ e. absurd (omega (arith, e))
    by false = λ e. absurd (omega (arith, e))

format_by : (o : Option CheckpointView) (es : List Event) (b : Bool) → (declares es || labels_blocks es) ≡ b → AreInFormat (cond b declaring_format (format_of_start o)) es
format_by o es true e = all_fit es
format_by o es false e = let both = none_of (declares es) (labels_blocks es) e in plains_fit (format_of_start o) es (start_is_late o) both.0 both.1

in_format : (o : Option CheckpointView) (es : List Event) → AreInFormat (format_for o es) es
in_format o es = format_by o es (declares es || labels_blocks es) refl

-- each format that is written is of the present rule
first_by : (table : List Declared) (o : Option CheckpointView) (b : Bool) → started_by (rule_of (cond b declaring_format (format_of_start o))) table o ≡ start_of table o
first_by table None true = refl
first_by table None false = refl
first_by table (Some c) b = refl

first_is : (table : List Declared) (o : Option CheckpointView) (es : List Event) → first_state (written_start table o es) ≡ start_of table o
first_is table o es = first_by table o (declares es || labels_blocks es)

-- ---- short lines
-- fewer bytes before the text
fewer : (m n : ℕ) (text : List ℕ) → m ≤ n → are_short_after n text ≡ true → are_short_after m text ≡ true
fewer m n [] l e = grind (arith, nat_tests)
fewer m n (x ∷ xs) l e = by (nat_eq x 10) (are_short_after 0 xs) (fewer (m + 1) (n + 1) xs (omega (arith, l))) e
  where
    by : (b rest : Bool) → (are_short_after (n + 1) xs ≡ true → are_short_after (m + 1) xs ≡ true)
        → cond b (nat_le n max_line && rest) (are_short_after (n + 1) xs) ≡ true → cond b (nat_le m max_line && rest) (are_short_after (m + 1) xs) ≡ true
    by true true more q = let p = (and_parts (nat_le n max_line) true q).0 in let r : nat_le m max_line ≡ true = grind (arith, nat_tests) in rw r refl
    by true false more q = let p = (and_parts (nat_le n max_line) false q).1 in absurd (cc p)
    by false rest more q = more q

-- the length so far is short
so_far : (n : ℕ) (text : List ℕ) → are_short_after n text ≡ true → n ≤ max_line
so_far n [] e = grind (arith, nat_tests)
so_far n (x ∷ xs) e = by (nat_eq x 10) (so_far (n + 1) xs) e
  where
    by : (b : Bool) → (are_short_after (n + 1) xs ≡ true → n + 1 ≤ max_line) → cond b (nat_le n max_line && are_short_after 0 xs) (are_short_after (n + 1) xs) ≡ true → n ≤ max_line
    by true more q = let p = (and_parts (nat_le n max_line) (are_short_after 0 xs) q).0 in grind (arith, nat_tests)
    by false more q = let p = more q in omega (arith, p)

-- a front of a text
short_front : (n : ℕ) (xs ys : List ℕ) → are_short_after n (xs ++ ys) ≡ true → are_short_after n xs ≡ true
short_front n [] ys e = let l = so_far n ys e in grind (arith, nat_tests)
short_front n (x ∷ xs) ys e = by (nat_eq x 10) (short_front 0 xs ys) (short_front (n + 1) xs ys) e
  where
    by : (b : Bool) → (are_short_after 0 (xs ++ ys) ≡ true → are_short_after 0 xs ≡ true) → (are_short_after (n + 1) (xs ++ ys) ≡ true → are_short_after (n + 1) xs ≡ true)
        → cond b (nat_le n max_line && are_short_after 0 (xs ++ ys)) (are_short_after (n + 1) (xs ++ ys)) ≡ true
        → cond b (nat_le n max_line && are_short_after 0 xs) (are_short_after (n + 1) xs) ≡ true
    by true next more q = let p = and_parts (nat_le n max_line) (are_short_after 0 (xs ++ ys)) q in rw (p.0, next p.1) refl
    by false next more q = more q

-- and its rest, as a text of its own
short_back : (n : ℕ) (xs ys : List ℕ) → are_short_after n (xs ++ ys) ≡ true → are_short_after 0 ys ≡ true
short_back n [] ys e = fewer 0 n ys (omega arith) e
short_back n (x ∷ xs) ys e = by (nat_eq x 10) (short_back 0 xs ys) (short_back (n + 1) xs ys) e
  where
    by : (b : Bool) → (are_short_after 0 (xs ++ ys) ≡ true → are_short_after 0 ys ≡ true) → (are_short_after (n + 1) (xs ++ ys) ≡ true → are_short_after 0 ys ≡ true)
        → cond b (nat_le n max_line && are_short_after 0 (xs ++ ys)) (are_short_after (n + 1) (xs ++ ys)) ≡ true → are_short_after 0 ys ≡ true
    by true next more q = next (and_parts (nat_le n max_line) (are_short_after 0 (xs ++ ys)) q).1
    by false next more q = more q

-- a line, which has no line feed
short_line : (n : ℕ) (line rest : List ℕ) → IsOneLine line → are_short_after n (line ++ 10 ∷ rest) ≡ true → n + length line ≤ max_line
short_line n [] rest o e = let p = so_far n (10 ∷ rest) e in omega (arith, p)
short_line n (x ∷ line) rest o e = by (nat_eq x 10) refl (short_line (n + 1) line rest o.2) e
  where
    by : (b : Bool) → nat_eq x 10 ≡ b → (are_short_after (n + 1) (line ++ 10 ∷ rest) ≡ true → n + 1 + length line ≤ max_line)
        → cond b (nat_le n max_line && are_short_after 0 (line ++ 10 ∷ rest)) (are_short_after (n + 1) (line ++ 10 ∷ rest)) ≡ true → n + length (x ∷ line) ≤ max_line
    by true t more q = let same : x ≡ 10 = grind (arith, nat_tests) in let low = o.0 in absurd (omega (arith, low, same))
    by false t more q = let p = more q in omega (arith, p)

-- ---- events
module _ (lines : EventsAreLines) where
  events_short : (format : ℕ) (s : Slow) (es : List Event) → EventsFitNames s es → AreInFormat format es → are_short_after 0 (event_lines es) ≡ true → AreEvents format s es
  events_short format s [] f k e = tt
  events_short format s (x ∷ es) f k e =
      let line = event_line x in
      let short = short_line 0 line (event_lines es) (lines s.names x f.0) e in
      (f.0, k.0, omega (arith, short), events_short format (after s x.what) es f.1 k.1 (rest line (event_lines es) e))
    where
      rest : (line more : List ℕ) → are_short_after 0 (line ++ 10 ∷ more) ≡ true → are_short_after 0 more ≡ true
      rest line more q = (and_parts (nat_le 0 max_line) (are_short_after 0 more) (short_back 0 line (10 ∷ more) q)).1

  -- ---- histories
  pub read_back : WhatIsKeptIsTaken → WrittenFormatsFit → EventsFitLines → StartsFitLines
      → BlockAnswersAreRight → DeclarationAnswersAreRight → CheckNeverSaysNoMemory → VerdictIsStable → CheckedAreWellTyped → HistoriesAreReadBack
  unfolding history_answer
  read_back taken formats events starts blocks declarations faults stable checked max_events low before short =
      let s = state_after_lines (initial_console max_events) before in
      let d = (present_desk s).desk in
      let stands = present_stands s (reached blocks declarations faults stable checked max_events low before) in
      let start : Start = start_of_console s in
      let same : start_state d ≡ first_state start = sym (first_is d.table d.checkpoint d.history) in
      let head = start_text start in
      let fit = events_short start.format (start_state d) d.history (events max_events low before) (in_format d.checkpoint d.history) (short_back 0 head (event_lines d.history) short) in
      taken start d.history (formats d.table d.checkpoint d.history) (starts max_events low before) (short_front 0 head (event_lines d.history) short)
      (subst (λ (x : Slow). AreEvents start.format x d.history) same fit) (subst (λ (x : Slow). IsLegalFrom x d.history) same stands.legal)
