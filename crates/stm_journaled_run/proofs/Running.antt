-- Line after line to the end of the input.
use Rattle.std.proofs.Common.{◌≡◌, ℕ, ◌<◌, List, [], ◌∷◌, ◌++◌, length, Bool, Option, Some, None, IfSome, refl, sym, ap, ◌∙◌, subst, append_assoc, append-nil}
use Rattle.std.specs.Io.KnownBytes.{Appends, Consumes}
use Rattle.std.proofs.KnownBytes.{Appends-nil, Consumes-nil, Consumes-trans}
use Rattle.stm_journal.specs.declared.sync_mode.SyncMode.{SyncMode}
use Rattle.stm_lines.specs.Lines.{drop_return, lines_of, whole_lines_of}
use Rattle.stm_lines.specs.TakenLines.{TakesPartOfLine, TakesWholeLine, TakesLastLine}
use Rattle.stm_lines.proofs.ReadLines.{lines_from-whole, lines_from-last, whole_lines_from-whole, whole_lines_from-last}
use Rattle.stm_run.specs.declared.console.Console.{Console}
use Rattle.stm_run.specs.LineCheckpoints.{Turn, turn_of, turn_lines, answers_by, ForTurns}
use Rattle.stm_run.specs.ConsoleState.{events_of}
use Rattle.stm_run.proofs.EventsOfConsole.{grows_not}
use Rattle.stm_journaled_run.specs.declared.fault.DurableFault.{DurableFault}
use Rattle.stm_journaled_run.specs.declared.fault.DurableFault.TheVariants.{Run, Journal}
use Rattle.stm_journaled_run.specs.DurableRun.{CoversAnswers}
use Rattle.stm_journaled_run.specs.NewEvents.{MayBeginRun}
use Rattle.stm_journaled_run.proofs.Turns.{plains, turn_lines_append, more_lines}
use Rattle.stm_journaled_run.specs.Committing.{IsAfterLines, AreLinesOf, HasCome, HasComeToEnd, HasFinished, HasFailed, LeavesRun, WholeLinesAnswered}

-- ---- the lines of bytes
none_taken : AreLinesOf [] []
none_taken = record { all = λ more. refl; whole = λ more. refl }

line_taken : (lines : List (List ℕ)) (taken bytes : List ℕ) (a b : Option (List ℕ)) → AreLinesOf lines taken → TakesWholeLine a b bytes → AreLinesOf (lines ++ drop_return bytes ∷ []) (taken ++ (bytes ++ 10 ∷ []))
line_taken lines taken bytes a b l w = record {
  all = λ more. ap lines_of (append_assoc taken (bytes ++ 10 ∷ []) more) ∙ l.all ((bytes ++ 10 ∷ []) ++ more) ∙ ap (λ (ls : List (List ℕ)). lines ++ ls) (lines_from-whole bytes more w.plain)
      ∙ sym (append_assoc lines (drop_return bytes ∷ []) (lines_of more));
  whole = λ more. ap whole_lines_of (append_assoc taken (bytes ++ 10 ∷ []) more) ∙ l.whole ((bytes ++ 10 ∷ []) ++ more) ∙ ap (λ (ls : List (List ℕ)). lines ++ ls) (whole_lines_from-whole bytes more w.plain)
      ∙ sym (append_assoc lines (drop_return bytes ∷ []) (whole_lines_of more));
}

-- the lines of the input begin with these
abbrev pub BeginsWith : List (List ℕ) → Option (List ℕ) → Type 0
BeginsWith lines input = IfSome input (λ bytes. (more : List (List ℕ)) × (lines_of bytes ≡ lines ++ more))

begins : (lines : List (List ℕ)) (taken : List ℕ) (input rest : Option (List ℕ)) → AreLinesOf lines taken → Consumes input rest taken → BeginsWith lines input
begins lines taken None rest l c = tt
begins lines taken (Some i) None l c = absurd c
begins lines taken (Some i) (Some r) l c = (lines_of r, ap lines_of c ∙ l.all r)

last_is : (lines : List (List ℕ)) (taken bytes : List ℕ) (input rest next : Option (List ℕ)) → AreLinesOf lines taken → Consumes input rest taken → TakesLastLine rest next bytes → 0 < length bytes
    → IfSome input (λ all. lines_of all ≡ lines ++ bytes ∷ [])
last_is lines taken bytes None rest next l c w k = tt
last_is lines taken bytes (Some i) None next l c w k = absurd c
last_is lines taken bytes (Some i) (Some r) None l c w k = absurd w.taken
last_is lines taken bytes (Some i) (Some r) (Some n) l c w k =
    ap lines_of c ∙ l.all r ∙ ap (λ (x : List ℕ). lines ++ lines_of x) (w.taken ∙ ap (λ (x : List ℕ). bytes ++ x) w.at_end ∙ append-nil bytes)
    ∙ ap (λ (ls : List (List ℕ)). lines ++ ls) (lines_from-last bytes w.plain k)

end_is : (lines : List (List ℕ)) (taken : List ℕ) (input rest next : Option (List ℕ)) → AreLinesOf lines taken → Consumes input rest taken → TakesLastLine rest next [] → IfSome input (λ all. lines_of all ≡ lines)
end_is lines taken None rest next l c w = tt
end_is lines taken (Some i) None next l c w = absurd c
end_is lines taken (Some i) (Some r) None l c w = absurd w.taken
end_is lines taken (Some i) (Some r) (Some n) l c w = ap lines_of c ∙ l.all r ∙ ap (λ (x : List ℕ). lines ++ lines_of x) (w.taken ∙ w.at_end) ∙ append-nil lines

-- the last line is all that comes
pub last_begins : (lines : List (List ℕ)) (input : Option (List ℕ)) → IfSome input (λ all. lines_of all ≡ lines) → BeginsWith lines input
last_begins lines None e = tt
last_begins lines (Some i) e = ([], e ∙ sym (append-nil lines))

-- ---- what holds of these lines holds of the input
covers_more : {Cause : Type 0} (sync : SyncMode) (zeros : Bool) (every : ℕ) (s : Console) (lines more : List (Turn Cause)) (written c : List ℕ) → CoversAnswers sync zeros every s lines written c → CoversAnswers sync zeros every s (lines ++ more) written c
covers_more {Cause = Cause} sync zeros every s lines more written c h = record {
  answered = h.answered;
  others = h.others ++ more;
  parts = ap (λ (ls : List (Turn Cause)). ls ++ more) h.parts ∙ append_assoc h.answered h.others more;
  front = h.front;
  reached = h.reached;
  unreached = h.unreached ++ more;
  parts_reached = ap (λ (ls : List (Turn Cause)). ls ++ more) h.parts_reached ∙ append_assoc h.reached h.unreached more;
  left = h.left;
}

pub leaves_run : {Cause : Type 0} (sync : SyncMode) (zeros : Bool) (every : ℕ) (s : Console) (lines : List (Turn Cause)) (input : Option (List ℕ)) (c : List ℕ) → BeginsWith (turn_lines lines) input → CoversAnswers sync zeros every s lines [] c → LeavesRun Cause sync zeros every s input c
leaves_run {Cause = Cause} sync zeros every s lines None c b h = tt
leaves_run {Cause = Cause} sync zeros every s lines (Some i) c b h = (lines ++ plains Cause b.0, more_lines lines b.0 ∙ sym b.1, covers_more sync zeros every s lines (plains Cause b.0) [] c h)

failed_more : {Cause : Type 0} (honest : Bool) (sync : SyncMode) (zeros : Bool) (may_leave : List ℕ → Type 0) (K : Console → Type 0) (every : ℕ) (s : Console) (lines more : List (Turn Cause)) (old new : Option (List ℕ)) (e : DurableFault)
    → HasFailed honest sync zeros may_leave K every s lines old new e → HasFailed honest sync zeros may_leave K every s (lines ++ more) old new e
failed_more {Cause = Cause} honest sync zeros may_leave K every s lines more old new (Run f) h = record {
  answered = h.answered;
  others = h.others ++ more;
  parts = ap (λ (ls : List (Turn Cause)). ls ++ more) h.parts ∙ append_assoc h.answered h.others more;
  written = h.written;
  front = h.front;
  appended = h.appended;
  kept = h.kept;
}
failed_more {Cause = Cause} honest sync zeros may_leave K every s lines more old new (Journal e) h = record {
  answered = h.answered;
  others = h.others ++ more;
  parts = ap (λ (ls : List (Turn Cause)). ls ++ more) h.parts ∙ append_assoc h.answered h.others more;
  appended = h.appended;
  covered = λ real c l. covers_more sync zeros every s lines more (answers_by every s h.answered) c (h.covered real c l);
}

-- a run over an input, if it is known, has failed
abbrev pub FailedOver : Type 0 → Bool → SyncMode → Bool → (List ℕ → Type 0) → (Console → Type 0) → ℕ → Console → Option (List ℕ) → Option (List ℕ) → Option (List ℕ) → DurableFault → Type 0
FailedOver Cause honest sync zeros may_leave K every s input old new e =
    IfSome input (λ bytes. ForTurns Cause (lines_of bytes) (λ turns. HasFailed honest sync zeros may_leave K every s turns old new e))

pub failed_run : {Cause : Type 0} (honest : Bool) (sync : SyncMode) (zeros : Bool) (may_leave : List ℕ → Type 0) (K : Console → Type 0) (every : ℕ) (s : Console) (lines : List (Turn Cause)) (input old new : Option (List ℕ)) (e : DurableFault)
    → BeginsWith (turn_lines lines) input → HasFailed honest sync zeros may_leave K every s lines old new e → FailedOver Cause honest sync zeros may_leave K every s input old new e
failed_run {Cause = Cause} honest sync zeros may_leave K every s lines None old new e b h = tt
failed_run {Cause = Cause} honest sync zeros may_leave K every s lines (Some i) old new e b h =
    (lines ++ plains Cause b.0, more_lines lines b.0 ∙ sym b.1, failed_more honest sync zeros may_leave K every s lines (plains Cause b.0) old new e h)

pub all_finished : {Cause : Type 0} (K : Console → Type 0) (every : ℕ) (s : Console) (lines : List (Turn Cause)) (input old new : Option (List ℕ)) → IfSome input (λ all. lines_of all ≡ turn_lines lines) → HasFinished K every s lines old new
    → IfSome input (λ bytes. ForTurns Cause (lines_of bytes) (λ turns. HasFinished K every s turns old new))
all_finished K every s lines None old new e h = tt
all_finished K every s lines (Some i) old new e h = (lines, sym e, h)

pub failed_synced : (Cause : Type 0) (honest : Bool) (sync same : SyncMode) (zeros : Bool) (may_leave : List ℕ → Type 0) (K : Console → Type 0) (every : ℕ) (s : Console) (input old new : Option (List ℕ)) (e : DurableFault) → sync ≡ same
    → FailedOver Cause honest sync zeros may_leave K every s input old new e → FailedOver Cause honest same zeros may_leave K every s input old new e
failed_synced Cause honest sync same zeros may_leave K every s input old new e is h =
    subst (λ (m : SyncMode). FailedOver Cause honest m zeros may_leave K every s input old new e) is h

-- ---- a run that has come so far
module _ {Cause : Type 0} (K : Console → Type 0) (every : ℕ) (s : Console) (input rest old new : Option (List ℕ)) (console : Console) (held : List ℕ) (recorded : ℕ) (h : HasCome Cause K every s input rest old new console held recorded) where
  pub come_begins : BeginsWith (turn_lines h.lines) input
  come_begins = begins (turn_lines h.lines) h.taken input rest h.lines_are h.consumed

  -- the same lines, with another commit
  pub comes_after : (K' : Console → Type 0) (new' : Option (List ℕ)) (console' : Console) (held' : List ℕ) (recorded' : ℕ) → IsAfterLines K' every s h.lines old new' console' held' recorded'
      → HasCome Cause K' every s input rest old new' console' held' recorded'
  comes_after K' new' console' held' recorded' a = record { taken = h.taken; lines = h.lines; consumed = h.consumed; lines_are = h.lines_are; after = a }

  -- the same lines, whatever they are
  pub still_come : (K' : Console → Type 0) (new' : Option (List ℕ)) (console' : Console) (held' : List ℕ) (recorded' : ℕ)
      → ((lines : List (Turn Cause)) (x : Option (List ℕ)) → IsAfterLines K every s lines x new console held recorded → IsAfterLines K' every s lines x new' console' held' recorded')
      → HasCome Cause K' every s input rest old new' console' held' recorded'
  still_come K' new' console' held' recorded' keeps = comes_after K' new' console' held' recorded' (keeps h.lines old h.after)

  -- one line more
  turns_more : (line : List ℕ) (refused : Option Cause) → turn_lines (h.lines ++ turn_of line refused ∷ []) ≡ turn_lines h.lines ++ line ∷ []
  turns_more line refused = turn_lines_append h.lines (turn_of line refused ∷ [])

  module _ (next : Option (List ℕ)) (bytes : List ℕ) (refused : Option Cause) where
    turns_taken : TakesWholeLine rest next bytes → AreLinesOf (turn_lines (h.lines ++ turn_of (drop_return bytes) refused ∷ [])) (h.taken ++ (bytes ++ 10 ∷ []))
    turns_taken w =
        subst (λ (ls : List (List ℕ)). AreLinesOf ls (h.taken ++ (bytes ++ 10 ∷ []))) (sym (turns_more (drop_return bytes) refused))
        (line_taken (turn_lines h.lines) h.taken bytes rest next h.lines_are w)

    pub comes_on : (K' : Console → Type 0) (new' : Option (List ℕ)) (console' : Console) (held' : List ℕ) (recorded' : ℕ) → TakesWholeLine rest next bytes
        → IsAfterLines K' every s (h.lines ++ turn_of (drop_return bytes) refused ∷ []) old new' console' held' recorded' → HasCome Cause K' every s input next old new' console' held' recorded'
    comes_on K' new' console' held' recorded' w a = record {
      taken = h.taken ++ (bytes ++ 10 ∷ []);
      lines = h.lines ++ turn_of (drop_return bytes) refused ∷ [];
      consumed = Consumes-trans input rest next h.taken (bytes ++ 10 ∷ []) h.consumed w.taken;
      lines_are = turns_taken w;
      after = a;
    }

    pub on_begins : TakesWholeLine rest next bytes → BeginsWith (turn_lines (h.lines ++ turn_of (drop_return bytes) refused ∷ [])) input
    on_begins w =
        begins (turn_lines (h.lines ++ turn_of (drop_return bytes) refused ∷ [])) (h.taken ++ (bytes ++ 10 ∷ [])) input next (turns_taken w)
        (Consumes-trans input rest next h.taken (bytes ++ 10 ∷ []) h.consumed w.taken)

    pub last_lines : TakesLastLine rest next bytes → 0 < length bytes → IfSome input (λ all. lines_of all ≡ turn_lines (h.lines ++ turn_of bytes refused ∷ []))
    last_lines w k =
        subst (λ (ls : List (List ℕ)). IfSome input (λ all. lines_of all ≡ ls)) (sym (turns_more bytes refused))
        (last_is (turn_lines h.lines) h.taken bytes input rest next h.lines_are h.consumed w k)

    pub ends_with : (K' : Console → Type 0) (new' : Option (List ℕ)) (console' : Console) (held' : List ℕ) (recorded' : ℕ) → TakesLastLine rest next bytes → 0 < length bytes
        → IsAfterLines K' every s (h.lines ++ turn_of bytes refused ∷ []) old new' console' held' recorded' → HasComeToEnd Cause K' every s input old new' console' held' recorded'
    ends_with K' new' console' held' recorded' w k a = record { lines = h.lines ++ turn_of bytes refused ∷ []; lines_are = last_lines w k; after = a }

  pub ends_here : (next : Option (List ℕ)) → TakesLastLine rest next [] → HasComeToEnd Cause K every s input old new console held recorded
  ends_here next w = record { lines = h.lines; lines_are = end_is (turn_lines h.lines) h.taken input rest next h.lines_are h.consumed w; after = h.after }

  -- the reader failed, and what was held was written
  pub whole_answered : (chunk left : Option (List ℕ)) (later : Option (List ℕ)) (bytes : List ℕ) → TakesPartOfLine rest chunk bytes → chunk ≡ left → Appends old later (answers_by every s h.lines) → WholeLinesAnswered Cause every s input left old later
  whole_answered chunk left later bytes w e a = by input rest chunk h.consumed w.taken e
    where
      by : (i r c : Option (List ℕ)) → Consumes i r h.taken → Consumes r c bytes → c ≡ left → WholeLinesAnswered Cause every s i left old later
      by None r c p q same = tt
      by (Some i) None c p q same = absurd p
      by (Some i) (Some r) None p q same = absurd q
      by (Some i) (Some r) (Some c) p q same = (
        h.taken ++ bytes,
        c,
        p ∙ ap (λ (x : List ℕ). h.taken ++ x) q ∙ sym (append_assoc h.taken bytes c),
        sym same,
        (h.lines, sym (h.lines_are.whole bytes ∙ ap (λ (ls : List (List ℕ)). turn_lines h.lines ++ ls) (whole_lines_from-last bytes w.plain) ∙ append-nil (turn_lines h.lines)), a),
      )

-- a run begins
pub comes_first : {Cause : Type 0} (K : Console → Type 0) (every : ℕ) (s : Console) (input rest x : Option (List ℕ)) (held : List ℕ) (recorded : ℕ) → MayBeginRun s → held ≡ [] → recorded ≡ length (events_of s) → K s → rest ≡ input
    → HasCome Cause K every s input rest x x s held recorded
comes_first K every s input rest x held recorded m e n k same = record {
  taken = [];
  lines = [];
  consumed = subst (λ (o : Option (List ℕ)). Consumes input o []) (sym same) (Consumes-nil input);
  lines_are = none_taken;
  after = record {
    behind = record { answered = []; awaiting = []; parts = refl; may_begin = m; appended = Appends-nil x; since = refl; held_is = e; count = n; kept = k };
    grows = grows_not s;
    variables = m.variables;
  };
}
