-- What is reported of a line that is not accepted.
use Rattle.std.proofs.Common.{◌≡◌, ℕ, ◌<◌, true, List, [], ◌∷◌, ◌++◌, length, Option, Some, None, refl, sym, ap, ◌∙◌, subst}
use Rattle.std.specs.Prelude.{IfOk, Result, Ok, Err}
use Rattle.stm_store.specs.declared.cell.Cell.{Cell}
use Rattle.stm_store.specs.Naming.{Named}
use Rattle.stm_store.specs.Tables.{Declared, declare_refusal}
use Rattle.stm_check.specs.TypedBlock.{Block}
use Rattle.stm_events.specs.declared.event.Event.{Event}
use Rattle.stm_events.specs.declared.event.What.{What}
use Rattle.stm_events.specs.declared.event.What.TheVariants.{Submitted, Installed, Finished, Cancelled, Declared as DeclaredLate, Labelled}
use Rattle.stm_events.specs.Delivered.{Delivered}
use Rattle.stm_events.specs.declared.kept_cause.KeptCause.{KeptCause}
use Rattle.stm_terms.specs.Limits.{max_clients}
use Rattle.stm_machine.specs.Checkpoints.{CheckpointView, MayAdd, checkpoint_block}
use Rattle.stm_machine.specs.Machine.{event}
use Rattle.stm_history.specs.declared.check.Stage.TheVariants.{Running}
use Rattle.stm_history.specs.declared.replayer.Replayer.{Replayer}
use Rattle.stm_history.specs.Following.{Follows}
use Rattle.stm_history.specs.Stages.{IsStage}
use Rattle.stm_history_text.specs.Starts.{Start, delivery_of_block, is_plain_block, names_after}
use Rattle.stm_history.specs.declared.expecting.Expectation.{Expectation}
use Rattle.stm_history.specs.declared.expecting.Expectation.TheVariants.{Due}
use Rattle.stm_history.specs.declared.explanation.Explanation.{Explanation}
use Rattle.stm_history.specs.declared.explanation.Explanation.TheVariants.{Expected, Refused, Unreadable}
use Rattle.stm_history.specs.Progress.{CheckerState, at_variables, at_cells, at_blocks, at_events, with_table, with_cells, with_blocks, with_name_of, LeadsTo, MayTakeCell}
use Rattle.stm_history.specs.Expecting.{HasCheckedBlock, IsDueAfter, IsLineOf, IsShortOr}
use Rattle.stm_history.specs.Explanation.{Call, submission, delivery, finish, cancellation, declaration, labelling, Explains, ExplainsEvent, ExplainsHead, IsCallDue, IsSameCall, call_of}
use Rattle.stm_event_lines.specs.Fits.{FitsNames, FitsFormat, FitsVariable, WhatFitsNames}
use Rattle.stm_history.specs.Judgement.{IsShort}
use Rattle.stm_event_lines.specs.CheckpointLines.{FitsWaiting, cell_line, checkpoint_format, waiting_line}
use Rattle.stm_event_lines.specs.Lines.{event_line, variable_line}
use Rattle.stm_source.specs.CompiledBlock.{compiled_block}

-- ---- one line
pub head_line : (p : CheckerState) (bytes : List ℕ) (x : Explanation) → ((q : CheckerState) × LeadsTo p bytes q) → IsShortOr bytes x → ExplainsHead p x
head_line p bytes (Expected text) l h = (subst (λ (b : List ℕ). (q : CheckerState) × LeadsTo p b q) (sym h.0) l, subst IsShort (sym h.0) h.1)
head_line p bytes (Refused r) l h = absurd h
head_line p bytes Unreadable l h = tt

pub line_of : (format : ℕ) (names : List Named) (e : Event) (bytes : List ℕ) (x : Explanation) → FitsNames names e → FitsFormat format e → bytes ≡ event_line e → IsShortOr bytes x → IsLineOf format names e x
line_of format names e bytes (Expected text) f g s h = ((f, g, subst IsShort s h.1), h.0 ∙ s)
line_of format names e bytes (Refused r) f g s h = absurd h
line_of format names e bytes Unreadable f g s h = λ c. h (subst IsShort (sym s) c.2)

-- the line of a variable that may be declared
pub declared_head : {E : Type 0} (r : Result Explanation E) (table : List Declared) (d : Declared) → FitsVariable d → declare_refusal table d.name d.kind d.value ≡ None → IfOk r (λ x. IsShortOr (variable_line d) x)
    → IfOk r (λ x. (format n : ℕ) → ExplainsHead (at_variables format n table) x)
declared_head (Ok x) table d fits may h = λ format n. head_line (at_variables format n table) (variable_line d) x (with_table format n (table ++ d ∷ []), (d, refl, record { fits = fits; may = may }, refl)) h
declared_head (Err e) table d fits may h = tt

-- the line of a checkpoint's variable that may come next
pub cell_head : {E : Type 0} (r : Result Explanation E) (format vars : ℕ) (names : List Named) (cells : List Cell) (name : Option (List ℕ)) (c : Cell) → MayTakeCell format vars names cells name c → IfOk r (λ x. IsShortOr (cell_line name c) x)
    → IfOk r (λ x. (next waiting : ℕ) → ExplainsHead (at_cells format next vars waiting names cells) x)
cell_head (Ok x) format vars names cells name c may h = λ next waiting.
    head_line (at_cells format next vars waiting names cells) (cell_line name c) x
    (with_cells format next vars waiting (with_name_of names (length cells) name c.kind) (cells ++ c ∷ []), (name, c, refl, may, refl)) h
cell_head (Err e) format vars names cells name c may h = tt

-- what was delivered to a block is what its checkpoint has
delivery_kept : (t : ℕ) (b : Block) (w : Option KeptCause) (label : List ℕ) (d : Option Delivered) → delivery_of_block (checkpoint_block t b d w label) ≡ d
delivery_kept t b w label None = refl
delivery_kept t b w label (Some d) = refl

-- the line of a waiting block that may be added
pub block_head : (format waiting : ℕ) (c : CheckpointView) (t : ℕ) (b : Block) (w : Option KeptCause) (label : List ℕ) (d : Option Delivered) (x : Explanation) → FitsWaiting c.names t b w label d → MayAdd c (checkpoint_block t b d w label)
    → (format ≡ checkpoint_format → is_plain_block w label ≡ true) → IsShortOr (waiting_line t b.text w label d) x
    → ExplainsHead (at_blocks format waiting c) x
block_head format waiting c t b w label d x fits may free h =
    let block = checkpoint_block t b d w label in
    let same = delivery_kept t b w label d in
    head_line (at_blocks format waiting c) (waiting_line t b.text w label d) x
    (with_blocks format waiting (record c { blocks = c.blocks ++ block ∷ [] }), (block, ap (waiting_line t b.text w label) same, (subst (FitsWaiting c.names t b w label) (sym same) fits, may, free), refl)) h

-- what is reported at a progress, whatever it is called
pub explained_at : {E : Type 0} (o : Result Explanation E) (P : Explanation → Type 0) (q : CheckerState) (line : List ℕ) → IfOk o P → ((x : Explanation) → P x → Explains q line x) → IfOk o (λ x. (p : CheckerState) → p ≡ q → Explains p line x)
explained_at (Ok x) P q line h f = λ p i. subst (λ (y : CheckerState). Explains y line x) (sym i) (f x h)
explained_at (Err e) P q line h f = tt

-- ---- an event
-- a block that a call submits is what its text checks to over the names
abbrev IsCheckedCall : List Named → Call → Type 0
IsCheckedCall names (submission b) = compiled_block names b.text ≡ Ok b
IsCheckedCall names (delivery t) = Unit {0}
IsCheckedCall names (finish t) = Unit {0}
IsCheckedCall names (cancellation t) = Unit {0}
IsCheckedCall names (declaration name kind value) = Unit {0}
IsCheckedCall names (labelling t label) = Unit {0}

call_fits : (names : List Named) (a : What) → WhatFitsNames names a → IsCheckedCall names (call_of a)
call_fits names (Submitted t b) f = f.1
call_fits names (Installed t v) f = tt
call_fits names (Finished t v n stale) f = tt
call_fits names (Cancelled t) f = tt
call_fits names (DeclaredLate name kind value) f = tt
call_fits names (Labelled t label) f = tt

checked_by_call : (names : List Named) (b : What) → IsCheckedCall names (call_of b) → HasCheckedBlock names b
checked_by_call names (Submitted t b) h = h
checked_by_call names (Installed t v) h = tt
checked_by_call names (Finished t v n stale) h = tt
checked_by_call names (Cancelled t) h = tt
checked_by_call names (DeclaredLate name kind value) h = tt
checked_by_call names (Labelled t label) h = tt

pub checked_same : (names : List Named) (a b : What) → WhatFitsNames names a → IsSameCall a b → HasCheckedBlock names b
checked_same names a b f e =
    let same : call_of a ≡ call_of b = e in
    checked_by_call names b (subst (λ (x : Call). IsCheckedCall names x) same (call_fits names a f))

pub explains_due : (start : Start) (history : List Event) (e : Event) (what : What) (x : Explanation) → IsCallDue start history e what → IsLineOf start.format (names_after start history) (event e.client what) x → ExplainsEvent start history e x
explains_due start history e what (Expected text) d l = (what, d, l.0, l.1)
explains_due start history e what (Refused r) d l = absurd l
explains_due start history e what Unreadable d l = (what, d, l)

pub due_explained : {E : Type 0} (r : Result Explanation E) (format : ℕ) (s : Replayer) (e : Event) (what : What) (y : Expectation) → y ≡ Due what → ((S : Start) (H : List Event) → Follows S H s → IsDueAfter S H e y)
    → IfOk r (λ x. (T : List Named) → e.client < max_clients → HasCheckedBlock T what → IsLineOf format T (event e.client what) x)
    → IfOk r (λ x. (S : Start) (H : List Event) → S.format ≡ format → Follows S H s → FitsNames (names_after S H) e → ExplainsEvent S H e x)
due_explained (Ok x) format s e what y is due h = λ S H n f g.
    let d : IsCallDue S H e what = subst (λ (z : Expectation). IsDueAfter S H e z) is (due S H f) in
    let names = names_after S H in
    let line : IsLineOf format names (event e.client what) x = h names g.0 (checked_same names e.what what g.1 d.same) in
    explains_due S H e what x d (subst (λ (k : ℕ). IsLineOf k names (event e.client what) x) (sym n) line)
due_explained (Err x) format s e what y is due h = tt

-- a line among the events, whatever the progress is called
pub running_explained : {E : Type 0} (o : Result Explanation E) (format : ℕ) (table : List Declared) (c : Option CheckpointView) (r : Replayer) (line : List ℕ)
    → IfOk o (λ x. (S : Start) (H : List Event) → S.format ≡ format → Follows S H r → Explains (at_events S H) line x) → IfOk o (λ x. (p : CheckerState) → IsStage (Running format table c r) p → Explains p line x)
running_explained (Ok x) format table c r line f = λ p i.
    let start : Start = record { format = format; table = table; checkpoint = c } in
    subst (λ (y : CheckerState). Explains y line x) (sym i.1) (f start i.0 refl i.2)
running_explained (Err e) format table c r line f = tt
