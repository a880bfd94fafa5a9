-- Bytes have one first fault, and none if they are the text of a legal history.
use Rattle.std.proofs.Common.{◌≡◌, ℕ, ◌<◌, List, [], ◌∷◌, ◌++◌, length, refl, sym, ap, ◌∙◌, subst, arith, length-append}
use Rattle.stm_events.specs.declared.event.Event.{Event}
use Rattle.stm_history.specs.declared.fault.HistoryFault.{HistoryFault}
use Rattle.stm_history.specs.declared.fault.HistoryFault.TheVariants.{ReadFault, BadHeader, BadLine, NotLegal, NoMemory}
use Rattle.stm_events.specs.States.{IsLegalFrom}
use Rattle.stm_event_lines.specs.Fits.{FitsNames, FitsFormat}
use Rattle.stm_event_lines.specs.Lines.{event_line}
use Rattle.stm_history.specs.Judgement.{IsShort, BeginsWithHistory, NoEventNext, IsIllegalFrom, ReportsFault, next_line}
use Rattle.stm_history.specs.FileLaws.{HistoriesAreTaken, FaultsAreFixed}
use Rattle.stm_history_text.specs.Starts.{Start, first_state, names_after}
use Rattle.stm_history.proofs.OneReading.{IsNext, Compared, same, more, fewer, both, nothing_next, never_next, legal_next, header_by}

-- the line after these events is bad: something is left, and no line of an event
pub record IsBadNext (s : Start) (H : List Event) (a : List ℕ) (n : ℕ) : Type 0 where
  pub number : n ≡ next_line s H
  pub some : 0 < length a
  pub never : NoEventNext s.format (names_after s H) a

-- the line after these events is that of an event that cannot follow
pub record IsIllegalNext (s : Start) (H : List Event) (a : List ℕ) (n : ℕ) : Type 0 where
  pub number : n ≡ next_line s H
  pub event : Event
  pub text : List ℕ
  pub here : a ≡ event_line event ++ 10 ∷ text
  pub fits : FitsNames (names_after s H) event
  pub may : FitsFormat s.format event
  pub short : IsShort (event_line event)
  pub illegal : IsIllegalFrom s H event

-- the fault is one of the line after these events
data IsNextFault (s : Start) (H : List Event) (a : List ℕ) (f : HistoryFault) : Type 0 where
  bad_line : (n : ℕ) → f ≡ BadLine n → IsBadNext s H a n → IsNextFault s H a f
  not_legal : (n : ℕ) → f ≡ NotLegal n → IsIllegalNext s H a n → IsNextFault s H a f

-- the bytes are a legal history up to the line of the fault
record IsLaterFault (bytes : List ℕ) (f : HistoryFault) : Type 0 where
  pub start : Start
  pub history : List Event
  pub rest : List ℕ
  pub begins : BeginsWithHistory start bytes history rest
  pub fault : IsNextFault start history rest f

later_bad : (bytes : List ℕ) (n : ℕ) → ReportsFault (BadLine n) bytes → IsLaterFault bytes (BadLine n)
later_bad bytes n t =
    record { start = t.0; history = t.1; rest = t.2; begins = t.3; fault = bad_line n refl (record { number = t.4; some = t.5; never = t.6 }) }

later_illegal : (bytes : List ℕ) (n : ℕ) → ReportsFault (NotLegal n) bytes → IsLaterFault bytes (NotLegal n)
later_illegal bytes n t = record {
  start = t.0;
  history = t.1;
  rest = event_line t.2 ++ 10 ∷ t.3;
  begins = t.4;
  fault = not_legal n refl (record { number = t.5; event = t.2; text = t.3; here = refl; fits = t.6; may = t.7; short = t.8; illegal = t.9 });
}

-- ---- one line
-- a bad line is no line of an event
bad_or_illegal : (s : Start) (H : List Event) (a : List ℕ) (m n : ℕ) → IsBadNext s H a m → IsIllegalNext s H a n → ⊥
bad_or_illegal s H a m n h k = h.never k.event k.fits k.may k.short k.text k.here

one_fault : (s : Start) (H : List Event) (a : List ℕ) (f g : HistoryFault) → IsNextFault s H a f → IsNextFault s H a g → f ≡ g
one_fault s H a f g (bad_line m d h) (bad_line n e k) = d ∙ ap BadLine (h.number ∙ sym k.number) ∙ sym e
one_fault s H a f g (bad_line m d h) (not_legal n e k) = absurd (bad_or_illegal s H a m n h k)
one_fault s H a f g (not_legal m d h) (bad_line n e k) = absurd (bad_or_illegal s H a n m k h)
one_fault s H a f g (not_legal m d h) (not_legal n e k) = d ∙ ap NotLegal (h.number ∙ sym k.number) ∙ sym e

-- ---- two lines
-- no legal history goes on at a fault
stops : (s : Start) (H K : List Event) (a b : List ℕ) (f : HistoryFault) → IsNextFault s K b f → IsLegalFrom (first_state s) H → IsNext s.format (first_state s) H K a b → ⊥
stops s H K a b f (bad_line n e k) legal next = never_next s.format (first_state s) H K a b k.never next
stops s H K a b f (not_legal n e k) legal next = legal_next s H K a b k.text k.event k.here k.fits legal k.illegal next

fixed_by : (s : Start) (H K : List Event) (a b : List ℕ) (f g : HistoryFault) → Compared s.format (first_state s) H K a b → IsLegalFrom (first_state s) H → IsLegalFrom (first_state s) K → IsNextFault s H a f
    → IsNextFault s K b g → f ≡ g
fixed_by s H K a b f g (same e d) legal_H legal_K h k =
    one_fault s K b f g (subst (λ (z : List ℕ). IsNextFault s K z f) d (subst (λ (z : List Event). IsNextFault s z a f) e h)) k
fixed_by s H K a b f g (more n) legal_H legal_K h k = absurd (stops s H K a b g k legal_H n)
fixed_by s H K a b f g (fewer n) legal_H legal_K h k = absurd (stops s K H b a f h legal_K n)

later_fixed : (bytes : List ℕ) (f g : HistoryFault) → IsLaterFault bytes f → IsLaterFault bytes g → f ≡ g
later_fixed bytes f g h k =
    let b = both bytes h.start k.start h.history k.history h.rest k.rest h.begins k.begins in
    let starts : h.start ≡ k.start = b.starts in
    fixed_by k.start h.history k.history h.rest k.rest f g b.events
    (subst (λ (z : Start). IsLegalFrom (first_state z) h.history) starts (h.begins).legal)
    (k.begins).legal
    (subst (λ (z : Start). IsNextFault z h.history h.rest f) starts h.fault)
    k.fault

-- ---- all bytes
not_in_header : (bytes : List ℕ) (f : HistoryFault) → IsLaterFault bytes f → ReportsFault BadHeader bytes → ⊥
not_in_header bytes f h t = header_by bytes h.start h.history h.rest h.begins t

pub faults_are_fixed : FaultsAreFixed
faults_are_fixed bytes ReadFault g h k t u = absurd h
faults_are_fixed bytes NoMemory g h k t u = absurd h
faults_are_fixed bytes BadHeader ReadFault h k t u = absurd k
faults_are_fixed bytes BadHeader NoMemory h k t u = absurd k
faults_are_fixed bytes BadHeader BadHeader h k t u = refl
faults_are_fixed bytes BadHeader (BadLine n) h k t u = absurd (not_in_header bytes (BadLine n) (later_bad bytes n u) t)
faults_are_fixed bytes BadHeader (NotLegal n) h k t u = absurd (not_in_header bytes (NotLegal n) (later_illegal bytes n u) t)
faults_are_fixed bytes (BadLine m) ReadFault h k t u = absurd k
faults_are_fixed bytes (BadLine m) NoMemory h k t u = absurd k
faults_are_fixed bytes (BadLine m) BadHeader h k t u = absurd (not_in_header bytes (BadLine m) (later_bad bytes m t) u)
faults_are_fixed bytes (BadLine m) (BadLine n) h k t u = later_fixed bytes (BadLine m) (BadLine n) (later_bad bytes m t) (later_bad bytes n u)
faults_are_fixed bytes (BadLine m) (NotLegal n) h k t u = later_fixed bytes (BadLine m) (NotLegal n) (later_bad bytes m t) (later_illegal bytes n u)
faults_are_fixed bytes (NotLegal m) ReadFault h k t u = absurd k
faults_are_fixed bytes (NotLegal m) NoMemory h k t u = absurd k
faults_are_fixed bytes (NotLegal m) BadHeader h k t u = absurd (not_in_header bytes (NotLegal m) (later_illegal bytes m t) u)
faults_are_fixed bytes (NotLegal m) (BadLine n) h k t u = later_fixed bytes (NotLegal m) (BadLine n) (later_illegal bytes m t) (later_bad bytes n u)
faults_are_fixed bytes (NotLegal m) (NotLegal n) h k t u = later_fixed bytes (NotLegal m) (NotLegal n) (later_illegal bytes m t) (later_illegal bytes n u)

-- ---- legal histories
-- no fault is at a line of a legal history
taken_by : (s : Start) (H K : List Event) (b : List ℕ) (f : HistoryFault) → Compared s.format (first_state s) H K [] b → IsLegalFrom (first_state s) H → IsNextFault s K b f → ⊥
taken_by s H K b f (more n) legal k = stops s H K [] b f k legal n
taken_by s H K b f (same e d) legal (bad_line n j k) = let l : 0 ≡ length b = ap length d in let s = k.some in omega (arith, l, s)
taken_by s H K b f (same e d) legal (not_legal n j k) =
    let l : 0 ≡ length (event_line k.event ++ 10 ∷ k.text) = ap length (d ∙ k.here) in
    let m = length-append (event_line k.event) (10 ∷ k.text) in
    omega (arith, l, m)
taken_by s H K b f (fewer n) legal k = nothing_next s.format (first_state s) K H b n

later_taken : (bytes : List ℕ) (s : Start) (H : List Event) (f : HistoryFault) → BeginsWithHistory s bytes H [] → IsLaterFault bytes f → ⊥
later_taken bytes s H f a k =
    let b = both bytes s k.start H k.history [] k.rest a k.begins in
    taken_by k.start H k.history k.rest f b.events (subst (λ (z : Start). IsLegalFrom (first_state z) H) b.starts a.legal) k.fault

pub histories_are_taken : HistoriesAreTaken
histories_are_taken bytes n ReadFault a h t = absurd h
histories_are_taken bytes n BadHeader a h t = header_by bytes a.0 a.1 [] a.2 t
histories_are_taken bytes n (BadLine k) a h t = later_taken bytes a.0 a.1 (BadLine k) a.2 (later_bad bytes k t)
histories_are_taken bytes n (NotLegal k) a h t = later_taken bytes a.0 a.1 (NotLegal k) a.2 (later_illegal bytes k t)
histories_are_taken bytes n NoMemory a h t = absurd h
