-- What was read to the end.
use Rattle.std.proofs.Common.{◌≡◌, ℕ, List, [], ◌∷◌, ◌++◌, Option, Some, None, IfSome, arith, length, refl, sym, ap, subst, ◌∙◌, inl, inr}
use Rattle.stm_terms.specs.declared.kinds.Ty.{Ty}
use Rattle.stm_terms.specs.declared.values.Value.{Value}
use Rattle.stm_store.specs.Cells.{Covers, plains}
use Rattle.stm_store.specs.Naming.{Named}
use Rattle.stm_store.specs.Tables.{Declared, opened}
use Rattle.stm_events.specs.declared.event.Event.{Event}
use Rattle.stm_events.specs.declared.event.What.{What}
use Rattle.stm_events.specs.declared.event.What.TheVariants.{Submitted, Installed, Finished, Cancelled, Declared as DeclaredLate, Labelled}
use Rattle.stm_events.specs.Laws.{SubmitsWellTyped, SubmittedAreWellTyped}
use Rattle.stm_event_lines.specs.Fits.{WhatFitsNames}
use Rattle.stm_events.specs.SlowDesk.{Slow, after, state_from}
use Rattle.stm_machine.specs.declared.checkpoint.CheckpointBlock.{CheckpointBlock}
use Rattle.stm_machine.specs.Checkpoints.{CheckpointView, MayStart, start_of, started_by}
use Rattle.stm_machine.specs.Machine.{Parts, IsAt}
use Rattle.stm_event_lines.specs.Lines.{rule_of}
use Rattle.stm_history.specs.declared.check.Stage.TheVariants.{Running}
use Rattle.stm_history.specs.declared.replayer.Replayer.{Replayer}
use Rattle.stm_history.specs.Progress.{CheckerState, at_events, LinesUpTo}
use Rattle.stm_history.specs.Following.{Follows}
use Rattle.stm_history.specs.Judgement.{AreEvents, FitBlocks, IsStart}
use Rattle.stm_history.specs.Loading.{IsWholeHistory}
use Rattle.stm_history.specs.Stages.{Reached}
use Rattle.stm_history_text.specs.Starts.{AreOfText, BlocksAreOfText, GoesByPresentRule, Start, first_state}
use Rattle.stm_event_lines.proofs.CheckedBlocks.{checked_are_well_typed}

-- what holds of the bytes that were taken holds of the reader's, if those are known
pub at_taken : (known : Option (List ℕ)) (taken : List ℕ) (P : List ℕ → Type 0) → IfSome known (λ bytes. bytes ≡ taken) → P taken → IfSome known P
at_taken None taken P is holds = tt
at_taken (Some bytes) taken P is holds = subst P (sym is) holds

what_typed : (names : List Named) (what : What) → WhatFitsNames names what → SubmitsWellTyped what
what_typed names (Submitted ticket block) f = checked_are_well_typed names block.text block f.1
what_typed names (Installed ticket v) f = tt
what_typed names (Finished ticket v first_new stale) f = tt
what_typed names (Cancelled ticket) f = tt
what_typed names (DeclaredLate name kind value) f = tt
what_typed names (Labelled ticket label) f = tt

-- blocks that are what their texts check to are well typed
pub events_typed : (format : ℕ) (s : Slow) (events : List Event) → AreEvents format s events → SubmittedAreWellTyped events
events_typed format s [] f = tt
events_typed format s (e ∷ es) f = (what_typed s.names e.what (f.0).1, events_typed format (after s e.what) es f.3)

-- ---- the start of what was read
-- the present rule is that of the formats that are written, and of checkpoints
pub first_is : (format : ℕ) (table : List Declared) (c : Option CheckpointView) → GoesByPresentRule format c → first_state (record { format = format; table = table; checkpoint = c }) ≡ start_of table c
first_is format table None (inl l) = ap (λ (f : ℕ). started_by (rule_of f) table None) l
first_is format table None (inr l) = ap (λ (f : ℕ). started_by (rule_of f) table None) l
first_is format table (Some c) l = refl

pub no_bytes : (line : List ℕ) → length line ≡ 0 → line ≡ []
no_bytes [] e = refl
no_bytes (x ∷ line) e = absurd (omega (arith, e))

-- the history of a stage among the events, where no line has begun
pub record IsRead (start : Start) (taken : List ℕ) (r : Replayer) : Type 0 where
  pub history : List Event
  pub whole : IsWholeHistory start taken history
  pub follows : Follows start history r

pub read_history : (format : ℕ) (table : List Declared) (c : Option CheckpointView) (r : Replayer) (whole : ℕ) (line taken : List ℕ) → Reached (Running format table c r) whole line taken → line ≡ []
    → IsRead (record { format = format; table = table; checkpoint = c }) taken r
read_history format table c r whole line taken h none =
    let start : Start = record { format = format; table = table; checkpoint = c } in
    let history = (h.stage).0 in
    let at : h.progress ≡ at_events start history = (h.stage).1 in
    let held = h.held in
    let lines : LinesUpTo (at_events start history) held.whole = subst (λ (p : CheckerState). LinesUpTo p held.whole) at held.lines in
    record {
      history = history;
      whole = record { text = held.taken_is ∙ ap (λ x. held.whole ++ x) none ∙ ap (λ x. x ++ []) lines.0; start = lines.1; events = lines.2; legal = lines.3 };
      follows = (h.stage).2;
    }

-- and the same as it is loaded
pub loaded_history : (format : ℕ) (table : List Declared) (c : Option CheckpointView) (r : Replayer) (whole : ℕ) (line taken : List ℕ) (format' : ℕ) (table' : List Declared) (c' : Option CheckpointView) (events : List Event)
    → Reached (Running format table c r) whole line taken → line ≡ [] → format' ≡ format → table' ≡ table → c' ≡ c
    → ((history : List Event) → IfSome r.kept (λ kept. kept.items ≡ history) → events ≡ history) → IsWholeHistory (record { format = format'; table = table'; checkpoint = c' }) taken events
loaded_history format table c r whole line taken format' table' c' events h none formats tables checkpoints kept =
    let k = read_history format table c r whole line taken h none in
    let follows = k.follows in
    let same : events ≡ k.history = kept k.history follows.kept in
    let start : record { format = format; table = table; checkpoint = c } ≡ record { format = format'; table = table'; checkpoint = c' } =
    λ i. record { format = (sym formats) i; table = (sym tables) i; checkpoint = (sym checkpoints) i } in
    subst (λ (s : Start). IsWholeHistory s taken events) start (subst (IsWholeHistory (record { format = format; table = table; checkpoint = c }) taken) (sym same) k.whole)

-- the machine is at the state of the history
pub loaded_at : (format : ℕ) (table : List Declared) (c : Option CheckpointView) (r : Replayer) (whole : ℕ) (line taken : List ℕ) (m : Parts) (table' : List Declared) (c' : Option CheckpointView) (events : List Event)
    → Reached (Running format table c r) whole line taken → line ≡ [] → GoesByPresentRule format c → m ≡ r.machine → table' ≡ table → c' ≡ c
    → ((history : List Event) → IfSome r.kept (λ kept. kept.items ≡ history) → events ≡ history) → IsAt m (state_from (start_of table' c') events)
loaded_at format table c r whole line taken m table' c' events h none latest machines tables checkpoints kept =
    let k = read_history format table c r whole line taken h none in
    let follows = k.follows in
    let same : events ≡ k.history = kept k.history follows.kept in
    let start : first_state (record { format = format; table = table; checkpoint = c }) ≡ start_of table' c' = first_is format table c latest ∙ (λ i. start_of ((sym tables) i) ((sym checkpoints) i)) in
    subst (λ (x : Parts). IsAt x (state_from (start_of table' c') events)) (sym machines)
    (subst (λ (s : Slow). IsAt r.machine (state_from s events)) start
    (subst (λ (x : List Event). IsAt r.machine (state_from (first_state (record { format = format; table = table; checkpoint = c })) x)) (sym same) follows.at))

-- what holds of a loaded history's start
covers_none : (cells : List (Ty × Value)) (uses : List (ℕ × Ty)) → Covers [] uses → Covers cells uses
covers_none cells [] c = tt
covers_none cells (u ∷ us) c = let some = c.0 in absurd (cc)

start_by : (format : ℕ) (table : List Declared) (c : Option CheckpointView) → IsStart (record { format = format; table = table; checkpoint = c }) → MayStart table c
start_by format table None s = tt
start_by format table (Some c) s =
    (((s.1).fits).checkpoint, λ uses covered. covers_none (plains c.store) uses (subst (λ (t : List Declared). Covers (plains (opened t)) uses) s.0 covered))

pub may_start : (start : Start) → IsStart start → MayStart start.table start.checkpoint
may_start start s = start_by start.format start.table start.checkpoint s

of_text : (names : List Named) (bs : List CheckpointBlock) → FitBlocks names bs → AreOfText names bs
of_text names [] f = tt
of_text names (b ∷ bs) f = ((f.0).1, of_text names bs f.1)

text_by : (format : ℕ) (table : List Declared) (c : Option CheckpointView) → IsStart (record { format = format; table = table; checkpoint = c }) → IfSome c BlocksAreOfText
text_by format table None s = tt
text_by format table (Some c) s = of_text c.names c.blocks ((s.1).fits).blocks

pub blocks_of_text : (start : Start) → IsStart start → IfSome start.checkpoint BlocksAreOfText
blocks_of_text start s = text_by start.format start.table start.checkpoint s
