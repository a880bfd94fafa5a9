-- New events, and a checkpoint, can be in lines of a history.
use Rattle.std.proofs.Common.{◌≡◌, ◌≢◌, ◌⊎◌, inl, inr, ℕ, suc, ◌≤◌, List, [], ◌∷◌, ◌++◌, length, drop, Bool, true, false, Option, Some, None, IfSome, refl, sym, ap, ap₂, ◌∙◌, subst, arith}
use Rattle.std.specs.Prelude.{slice_get, option_map, IsSomeAnd, ◌&&◌, ◌||◌, if◌then◌else◌}
use Rattle.std.proofs.Math.Seq.{drop-append_seam}
use Rattle.stm_terms.specs.declared.kinds.Ty.{Ty}
use Rattle.stm_terms.specs.declared.values.Value.{Value}
use Rattle.stm_terms.specs.Limits.{most_refs}
use Rattle.stm_store.specs.declared.cell.Cell.{Cell}
use Rattle.stm_store.specs.Cells.{plains, Covers, StoreIsTyped}
use Rattle.stm_store.specs.Naming.{Named, is_gapless}
use Rattle.stm_store.specs.Tables.{Declared}
use Rattle.stm_events.specs.declared.event.Event.{Event}
use Rattle.stm_events.specs.declared.event.What.{What}
use Rattle.stm_events.specs.declared.event.What.TheVariants.{Submitted, Installed, Finished, Cancelled, Declared as DeclaredLate, Labelled}
use Rattle.stm_events.specs.Labels.{is_label}
use Rattle.stm_events.specs.Laws.{IsWellTyped, SubmitsWellTyped, SubmittedAreWellTyped}
use Rattle.stm_events.specs.SlowDesk.{Allows, Slow, Waiter, LegalFrom, after, find_waiter, state_from}
use Rattle.stm_events.specs.States.{IsLegalFrom}
use Rattle.stm_waiting.specs.declared.waiting.Held.{Held}
use Rattle.stm_machine.specs.declared.checkpoint.CheckpointBlock.{CheckpointBlock}
use Rattle.stm_machine.specs.Checkpoints.{CheckpointView, start_of, MayStart, IsRightDelivery, AreCheckpointBlocks, max_next}
use Rattle.stm_machine.proofs.CheckpointStates.{checkpoints_are_possible}
use Rattle.stm_event_lines.specs.CheckpointLines.{FitsDelivery, checkpoint_format}
use Rattle.stm_event_lines.specs.Fits.{WhatFitsFormat, WhatFitsNames}
use Rattle.stm_event_lines.specs.Lines.{declaring_format}
use Rattle.stm_event_lines.specs.CheckedBlocks.{CheckedAreWellTyped}
use Rattle.stm_source.proofs.LaterNames.{checked_blocks_stay}
use Rattle.stm_history.specs.Judgement.{FitCells, FitBlocks, FitsBefore, FormatFits}
use Rattle.stm_history_text.specs.Starts.{AreOfText, BlocksAreOfText, are_plain_blocks, declares, format_of_start, is_declaration, is_labelling, labels_blocks}
use Rattle.stm_history.proofs.KeptIsTaken.{written_fits}
use Rattle.stm_history_file.specs.Durable.{AreFit, IsFormatFor}
use Rattle.stm_desk.specs.DeskView.{start_state}
use Rattle.stm_commands.specs.OpenDesk.{OpenDesk}
use Rattle.stm_run.specs.declared.console.Console.{Console}
use Rattle.stm_run.specs.declared.console.Console.TheVariants.{Declaring, Open}
use Rattle.stm_run.specs.ConsoleState.{table_of, checkpoint_of_console, events_of}
use Rattle.stm_run.specs.Fitting.{IsOfText, AreOfTexts, AreOfTheirTexts, AreNumbersSmall, AreVerdictsInRange, HaveSmallNumbers, IsVerdictInRange, WaitAsTheirTexts, WaitersAreOfText, VariablesFit}
use Rattle.stm_run.specs.Growing.{Grows}
use Rattle.stm_run.proofs.EventsOfConsole.{start_texts, texts_after, checkpoint_texts}
use Rattle.stm_run.proofs.FitTables.{table_sound}
use Rattle.stm_run.proofs.SmallNumbers.{front_is_legal, rest_small}
use Rattle.stm_run.proofs.SoundStates.{IsSound, sound_from}
use Rattle.stm_journaled_run.specs.NewEvents.{AreTexts, IsOfItsText, MayBeginRun, LastEventsFit, CheckpointsFit, first_state_of, needs_declaring_format}
use Rattle.stm_journaled_run.specs.Ranges.{IsEventInRange, AreEventsInRange, IsHeldInRange, AreCellsInRange, AreBlocksInRange}
use Rattle.stm_journaled_run.proofs.VerdictsInRange.{all_in_range, delivery_fits}

-- the events that a console added come after those that it had
pub added_are : (s t : Console) (g : Grows s t) → drop (length (events_of s)) (events_of t) ≡ g.added
added_are s t g = ap (λ (es : List Event). drop (length (events_of s)) es) g.events ∙ drop-append_seam (events_of s) g.added

-- the state that events begin from stays once the desk is open
same_first : (d : OpenDesk) (t : Console) → Grows (Open d) t → first_state_of t ≡ start_state d.desk
same_first d t g =
    ap (λ (x : List Declared). start_of x (checkpoint_of_console t)) (g.opened refl).1 ∙ ap (start_of d.desk.table) g.same_start

-- ---- a run may begin as a console that has grown
texts_append : (s : Slow) (xs ys : List Event) → AreTexts s xs → AreTexts (state_from s xs) ys → AreTexts s (xs ++ ys)
texts_append s [] ys h k = k
texts_append s (x ∷ xs) ys h k = (h.0, texts_append (after s x.what) xs ys h.1 k)

texts_back : (s : Slow) (xs ys : List Event) → AreTexts s (xs ++ ys) → AreTexts (state_from s xs) ys
texts_back s [] ys h = h
texts_back s (x ∷ xs) ys h = texts_back (after s x.what) xs ys h.1

its_text : (known : List Named) (what : What) → IsOfText known what → IsOfItsText known what
its_text known (Submitted t block) h = h
its_text known (Installed t v) h = tt
its_text known (Finished t v n stale) h = tt
its_text known (Cancelled t) h = tt
its_text known (DeclaredLate name kind value) h = tt
its_text known (Labelled t label) h = tt

of_console_texts : (s : Slow) (es : List Event) → AreOfTexts s es → AreTexts s es
of_console_texts s [] h = tt
of_console_texts s (e ∷ es) h = (its_text s.names e.what h.1, of_console_texts (after s e.what) es h.2)

-- the events that it had are of their texts from the later beginning, too: before the desk is open it has none
texts_before : (s t : Console) → Grows s t → MayBeginRun s → AreTexts (first_state_of t) (events_of s)
texts_before (Declaring table limit) t g m = tt
texts_before (Open d) t g m = subst (λ (x : Slow). AreTexts x d.desk.history) (sym (same_first d t g)) m.texts

grown_start : (s t : Console) → Grows s t → MayBeginRun s → VariablesFit (table_of t) → FitsBefore (table_of t) (checkpoint_of_console t)
grown_start (Declaring table limit) t g m v = subst (FitsBefore (table_of t)) (sym g.same_start) v.1
grown_start (Open d) t g m v =
    subst (FitsBefore (table_of t)) (sym g.same_start) (subst (λ (x : List Declared). FitsBefore x d.desk.checkpoint) (sym (g.opened refl).1) m.start)

pub grown_begins : (s t : Console) → MayBeginRun s → Grows s t → VariablesFit (table_of t) → MayBeginRun t
grown_begins s t m g v = record {
  variables = v;
  start = grown_start s t g m v;
  texts = subst (AreTexts (first_state_of t)) (sym g.events)
      (texts_append (first_state_of t) (events_of s) g.added (texts_before s t g m) (of_console_texts (state_from (first_state_of t) (events_of s)) g.added g.of_console));
}

-- ---- what waits is of its text
texts_later : (few more : List Named) (ws : List Waiter) → AreOfTheirTexts few ws → AreOfTheirTexts (few ++ more) ws
texts_later few more [] h = tt
texts_later few more (w ∷ ws) h = (checked_blocks_stay few more w.block.text w.block h.0, texts_later few more ws h.1)

texts_next : (s : Slow) (what : What) → IsOfItsText s.names what → WaitersAreOfText s → WaitersAreOfText (after s what)
texts_next s (Submitted t block) o h = texts_after s (Submitted t block) o h
texts_next s (Installed t v) o h = texts_after s (Installed t v) o h
texts_next s (Finished t v n stale) o h = texts_after s (Finished t v n stale) o h
texts_next s (Cancelled t) o h = texts_after s (Cancelled t) o h
texts_next s (DeclaredLate name kind value) o h = texts_later s.names _ s.waiters h
texts_next s (Labelled t label) o h = h

texts_after_all : (s : Slow) (es : List Event) → AreTexts s es → WaitersAreOfText s → WaitersAreOfText (state_from s es)
texts_after_all s [] o h = h
texts_after_all s (e ∷ es) o h = texts_after_all (after s e.what) es o.1 (texts_next s e.what o.0 h)

blocks_texts : (names : List Named) (bs : List CheckpointBlock) → FitBlocks names bs → AreOfText names bs
blocks_texts names [] f = tt
blocks_texts names (b ∷ bs) f = (f.0.1, blocks_texts names bs f.1)

start_blocks : (table : List Declared) (o : Option CheckpointView) → FitsBefore table o → IfSome o BlocksAreOfText
start_blocks table None f = tt
start_blocks table (Some c) f = blocks_texts c.names c.blocks f.blocks

waits : (s : Console) → MayBeginRun s → WaitAsTheirTexts s
waits s m =
    texts_after_all (first_state_of s) (events_of s) m.texts
    (start_texts (table_of s) (checkpoint_of_console s) (start_blocks (table_of s) (checkpoint_of_console s) m.start))

-- ---- events
start_sound : (table : List Declared) (o : Option CheckpointView) → VariablesFit table → MayStart table o → IsSound (start_of table o)
start_sound table None v m = table_sound table v
start_sound table (Some c) v m =
    let both = checkpoints_are_possible c m.0 in
    record { possible = both.0; typed = both.1; store = m.0.store; rule = refl }

start_low : (table : List Declared) (o : Option CheckpointView) → MayStart table o → (start_of table o).next ≤ max_next
start_low table None m = omega arith
start_low table (Some c) m = m.0.tickets

legal_back : (s : Slow) (xs ys : List Event) → LegalFrom s (xs ++ ys) → LegalFrom (state_from s xs) ys
legal_back s [] ys l = l
legal_back s (x ∷ xs) ys l = legal_back (after s x.what) xs ys l.1

-- what a block that waits may be labelled with is a label
label_fits : (label : List ℕ) (o : Option Waiter) → IsSomeAnd o (λ w. is_label label ≡ true) → is_label label ≡ true
label_fits label None a = absurd a
label_fits label (Some w) a = a

-- the first value of a variable that may be declared is in range if it is read
what_fits : (s : Slow) (what : What) → Allows s what → IsOfItsText s.names what → AreNumbersSmall what → IsVerdictInRange what → IsEventInRange what → WhatFitsNames s.names what
what_fits s (Submitted ticket block) a t n v r = (n, t)
what_fits s (Installed ticket w) a t n v r = (n, v)
what_fits s (Finished ticket w first_new stale) a t n v r = (n.0, v, n.1, n.2)
what_fits s (Cancelled ticket) a t n v r = n
what_fits s (DeclaredLate name kind value) a t n v r = (a.name_is, n.0, r)
what_fits s (Labelled ticket label) a t n v r = (n, label_fits label (find_waiter ticket s.waiters) a)

-- what may be in a format
what_may_be : (format : ℕ) (what : What) → (format ≡ declaring_format) ⊎ ((format ≢ 1) × ((is_declaration what || is_labelling what) ≡ false)) → WhatFitsFormat format what
what_may_be format (Submitted ticket block) (inl is) = λ one. absurd (cc (one, is))
what_may_be format (Submitted ticket block) (inr none) = λ one. absurd (none.0 one)
what_may_be format (Installed ticket w) h = tt
what_may_be format (Finished ticket w first_new stale) h = tt
what_may_be format (Cancelled ticket) h = tt
what_may_be format (DeclaredLate name kind value) (inl is) = is
what_may_be format (DeclaredLate name kind value) (inr none) = absurd (cc none.1)
what_may_be format (Labelled ticket label) (inl is) = is
what_may_be format (Labelled ticket label) (inr none) = absurd (cc none.1)

pub none_of : (b rest : Bool) → (b || rest) ≡ false → (b ≡ false) × (rest ≡ false)
none_of true rest e = absurd (cc e)
none_of false rest e = (refl, e)

pub neither : {a b : Bool} → a ≡ false → b ≡ false → (a || b) ≡ false
neither a b = ap₂ (λ (x y : Bool). x || y) a b

-- if none of the events needs the format of late declarations and labels, neither does the first, nor one of the others
first_and_others : (e : Event) (es : List Event) → needs_declaring_format (e ∷ es) ≡ false → ((is_declaration e.what || is_labelling e.what) ≡ false) × (needs_declaring_format es ≡ false)
first_and_others e es none =
    let both = none_of (declares (e ∷ es)) (labels_blocks (e ∷ es)) none in
    let declared = none_of (is_declaration e.what) (declares es) both.0 in
    let labelled = none_of (is_labelling e.what) (labels_blocks es) both.1 in
    (neither declared.0 labelled.0, neither declared.1 labelled.1)

may_be_next : (format : ℕ) (e : Event) (es : List Event) → (format ≡ declaring_format) ⊎ ((format ≢ 1) × (needs_declaring_format (e ∷ es) ≡ false))
    → ((format ≡ declaring_format) ⊎ ((format ≢ 1) × ((is_declaration e.what || is_labelling e.what) ≡ false))) × ((format ≡ declaring_format) ⊎ ((format ≢ 1) × (needs_declaring_format es ≡ false)))
may_be_next format e es (inl is) = (inl is, inl is)
may_be_next format e es (inr none) = let both = first_and_others e es none.1 in (inr (none.0, both.0), inr (none.0, both.1))

all_fit : (format : ℕ) (s : Slow) (es : List Event) → LegalFrom s es → AreTexts s es → HaveSmallNumbers es → AreVerdictsInRange es → AreEventsInRange es
    → (format ≡ declaring_format) ⊎ ((format ≢ 1) × (needs_declaring_format es ≡ false)) → AreFit format s es
all_fit format s [] l t n v r f = tt
all_fit format s (e ∷ es) l t n v r f =
    let both = may_be_next format e es f in (
      (l.0.client, what_fits s e.what l.0.what t.0 n.0 v.0 r.0),
      what_may_be format e.what both.0,
      all_fit format (after s e.what) es l.1 t.1 n.1 v.1 r.1 both.1,
    )

-- ---- formats
none_back : (xs ys : List Event) → needs_declaring_format (xs ++ ys) ≡ false → needs_declaring_format ys ≡ false
none_back [] ys e = e
none_back (x ∷ xs) ys e = none_back xs ys (first_and_others x (xs ++ ys) e).1

start_format : (o : Option CheckpointView) → format_of_start o ≢ 1
start_format None = λ e. cc e
start_format (Some c) = by (is_gapless c.names && are_plain_blocks c.blocks)
  where
    by : (b : Bool) → (if b then checkpoint_format else declaring_format) ≢ 1
    by true = λ e. cc e
    by false = λ e. cc e

by_need : (o : Option CheckpointView) (format : ℕ) (b : Bool) → format ≡ (if b then declaring_format else format_of_start o) → (format ≡ declaring_format) ⊎ ((format ≢ 1) × (b ≡ false))
by_need o format true is = inl is
by_need o format false is = inr (λ one. start_format o (sym is ∙ one), refl)

format_holds : (o : Option CheckpointView) (format : ℕ) (es : List Event) → IsFormatFor format o es → (format ≡ declaring_format) ⊎ ((format ≢ 1) × (needs_declaring_format es ≡ false))
format_holds o format es (inl is) = by_need o format (needs_declaring_format es) is
format_holds o format es (inr is) = inl is

back_holds : (format : ℕ) (xs ys : List Event) → (format ≡ declaring_format) ⊎ ((format ≢ 1) × (needs_declaring_format (xs ++ ys) ≡ false)) → (format ≡ declaring_format) ⊎ ((format ≢ 1) × (needs_declaring_format ys ≡ false))
back_holds format xs ys (inl is) = inl is
back_holds format xs ys (inr none) = inr (none.0, none_back xs ys none.1)

declaring_fits : (o : Option CheckpointView) (format : ℕ) → format ≡ declaring_format → FormatFits format o
declaring_fits None format is = inr is
declaring_fits (Some c) format is = (inr is, λ four. absurd (cc (four, is)), λ four. absurd (cc (four, is)))

pub format_fits : (table : List Declared) (o : Option CheckpointView) (format : ℕ) (es : List Event) → IsFormatFor format o es → FormatFits format o
format_fits table o format es (inl is) = subst (λ (n : ℕ). FormatFits n o) (sym is) (written_fits table o es)
format_fits table o format es (inr is) = declaring_fits o format is

-- ---- a checkpoint
few_refs : (cells : List Cell) → ((i : ℕ) (c : Ty × Value) → slice_get (plains cells) i ≡ Some c → c.0.refs ≤ most_refs) → AreCellsInRange cells → FitCells cells
few_refs [] few r = tt
few_refs (c ∷ cells) few r = ((tt, few 0 (c.kind, c.value) refl, r.0.0, r.0.1), few_refs cells (λ i x e. few (suc i) x e) r.1)

held_fits : (store : List Cell) (b : CheckpointBlock) (o : Option Held) → StoreIsTyped (plains store) → Covers (plains store) b.waiting.block.uses → IsWellTyped b.waiting.block
    → IsRightDelivery store b.waiting.block b.stale o → IsHeldInRange o → FitsDelivery (option_map (λ h. record { reads = h.reads; verdict = h.verdict; stale = b.stale }) o)
held_fits store b None typed covered action right r = tt
held_fits store b (Some h) typed covered action right r = (r.0, delivery_fits store b.waiting.block b.stale h typed covered action right r.1)

blocks_fit : (names : List Named) (store : List Cell) (n k : ℕ) (bs : List CheckpointBlock) → StoreIsTyped (plains store) → AreCheckpointBlocks store n k bs → AreOfText names bs → AreBlocksInRange bs → FitBlocks names bs
blocks_fit names store n k [] typed a t r = tt
blocks_fit names store n k (b ∷ bs) typed a t r = (
  (r.0.0, t.0, r.0.2, held_fits store b b.waiting.held typed a.2.covered a.2.typed a.2.delivery r.0.1, a.2.label),
  blocks_fit names store n b.ticket bs typed a.3 t.1 r.1,
)

-- a run may begin as a console that has made a checkpoint
pub checkpoints_fit : CheckpointsFit
checkpoints_fit s t c m g v is may known cells blocks =
    let of_text : BlocksAreOfText c =
    subst (λ (o : Option CheckpointView). IfSome o BlocksAreOfText) is (checkpoint_texts t (waits t (grown_begins s t m g v))) in
    let fits : FitsBefore (table_of t) (Some c) = record {
      checkpoint = may.0;
      known = known;
      cells = few_refs c.store may.0.store.low cells;
      blocks = blocks_fit c.names c.store c.next 0 c.blocks may.0.store.typed may.0.blocks of_text blocks;
    } in
    record { variables = v; start = subst (FitsBefore (table_of t)) (sym is) fits; texts = tt }

module _ (checked : CheckedAreWellTyped) where
  what_typed : (known : List Named) (what : What) → IsOfItsText known what → SubmitsWellTyped what
  what_typed known (Submitted t block) h = checked known block.text block h
  what_typed known (Installed t v) h = tt
  what_typed known (Finished t v n stale) h = tt
  what_typed known (Cancelled t) h = tt
  what_typed known (DeclaredLate name kind value) h = tt
  what_typed known (Labelled t label) h = tt

  texts_typed : (s : Slow) (es : List Event) → AreTexts s es → SubmittedAreWellTyped es
  texts_typed s [] h = tt
  texts_typed s (e ∷ es) h = (what_typed s.names e.what h.0, texts_typed (after s e.what) es h.1)

  front_typed : (s : Slow) (xs ys : List Event) → AreTexts s (xs ++ ys) → SubmittedAreWellTyped xs
  front_typed s [] ys h = tt
  front_typed s (x ∷ xs) ys h = (what_typed s.names x.what h.0, front_typed (after s x.what) xs ys h.1)

  pub last_events_fit : LastEventsFit
  last_events_fit t format front back m start legal is parts range =
      let first = first_state_of t in
      let checkpoint = checkpoint_of_console t in
      let sound : IsSound first = start_sound (table_of t) checkpoint m.variables start in
      let whole : IsLegalFrom first (front ++ back) = subst (IsLegalFrom first) parts legal in
      let texts : AreTexts first (front ++ back) = subst (AreTexts first) parts m.texts in
      let before : IsSound (state_from first front) =
      sound_from first front sound (front_is_legal first front back whole).each (front_typed first front back texts) in
      let after_front = texts_back first front back texts in
      let legal_after = legal_back first front back whole.each in
      let verdicts = all_in_range (state_from first front) before back legal_after (texts_typed (state_from first front) back after_front) range in
      let small = rest_small first sound.possible (start_low (table_of t) checkpoint start) front back whole in
      let holds = back_holds format front back (format_holds checkpoint format (front ++ back) (subst (IsFormatFor format checkpoint) parts is)) in
      record {
        format_fits = format_fits (table_of t) checkpoint format (events_of t) is;
        start_fits = m.start;
        fit = all_fit format (state_from first front) back legal_after after_front small verdicts range holds;
      }
