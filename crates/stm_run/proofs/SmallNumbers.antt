-- The numbers of the events of a legal history are small, wherever it begins.
use Rattle.std.proofs.Common.{◌≡◌, ℕ, zero, suc, ◌≤◌, ◌<◌, Bool, true, false, cond, List, [], ◌∷◌, ◌++◌, length, map, Option, Some, None, refl, sym, ap, subst, arith, append_assoc, length-append}
use Rattle.std.specs.Prelude.{IsSomeAnd, filter, nat_eq, nat_le, option_map}
use Rattle.std.proofs.lemmas.Bool.Decides.{nat_tests}
use Rattle.std.proofs.lemmas.Bool.{and_parts}
use Rattle.stm_terms.specs.declared.kinds.Ty.{Ty}
use Rattle.stm_terms.specs.declared.values.Ref.TheVariants.{Old, New}
use Rattle.stm_terms.specs.declared.values.Value.{Value}
use Rattle.stm_terms.specs.declared.values.Value.TheVariants as value
use Rattle.stm_terms.specs.declared.verdicts.Verdict.{Verdict}
use Rattle.stm_terms.specs.Changes.{no_changes}
use Rattle.stm_terms.specs.Limits.{most_refs, max_events}
use Rattle.stm_terms.specs.Typing.{type_of, var_ty}
use Rattle.stm_store.specs.declared.cell.Cell.{Cell}
use Rattle.stm_store.specs.Cells.{Covers, kinds_of, plains}
use Rattle.stm_store.specs.Naming.{Named, named_uses, known_kinds, is_of_known}
use Rattle.stm_check.proofs.Weakening.{covered}
use Rattle.stm_check.specs.Laws.{CheckNeverSaysNoMemory}
use Rattle.stm_eval.specs.Laws.{VerdictIsStable}
use Rattle.stm_parse.specs.ParseFunction.{BlockAnswersAreRight, DeclarationAnswersAreRight}
use Rattle.stm_events.specs.declared.event.Event.{Event}
use Rattle.stm_events.specs.declared.event.What.{What}
use Rattle.stm_events.specs.declared.event.What.TheVariants.{Submitted, Installed, Finished, Cancelled, Declared as DeclaredLate, Labelled}
use Rattle.stm_events.specs.Labels.{is_label}
use Rattle.stm_events.specs.Laws.{AreRising}
use Rattle.stm_events.specs.SlowDesk.{Waiter, Slow, find_waiter, without_waiter, stale_after, becomes_stale, max_cells, MayInstall, MayFinish, MayDeclareLate, Allows, LegalFrom, state_from, after}
use Rattle.stm_events.specs.States.{IsPossible, IsLegalFrom}
use Rattle.stm_events.proofs.Folds.{legal_split}
use Rattle.stm_events.proofs.Possible.{possible_from}
use Rattle.stm_events.proofs.Rising.{next_le}
use Rattle.stm_machine.specs.Checkpoints.{max_next}
use Rattle.stm_desk.specs.DeskView.{start_state}
use Rattle.stm_desk.proofs.Starts.{start_next}
use Rattle.stm_event_lines.specs.Fits.{Is32Bit, FitNumbers}
use Rattle.stm_event_lines.specs.CheckedBlocks.{CheckedAreWellTyped}
use Rattle.stm_run.specs.Console.{initial_console}
use Rattle.stm_run.specs.ConsoleState.{present_desk}
use Rattle.stm_run.specs.AfterLines.{state_after_lines}
use Rattle.stm_run.specs.Fitting.{IsReferenceSmall, AreNumbersSmall, HaveSmallNumbers, NumbersAreSmall}
use Rattle.stm_run.proofs.ArgumentCases.{either_has}
use Rattle.stm_run.proofs.ReachedConsole.{present_stands, reached}
use Rattle.stm_run.proofs.TypedTable.{same_kind}

-- each ticket of these blocks is below n
abbrev AreBelow : ℕ → List Waiter → Type 0
AreBelow n [] = Unit {0}
AreBelow n (w ∷ ws) = (w.ticket < n) × AreBelow n ws

below : (n k : ℕ) (ws : List Waiter) → AreRising n k ws → AreBelow n ws
below n k [] r = tt
below n k (w ∷ ws) r = (r.1, below n w.ticket ws r.2)

below_without : (n t : ℕ) (ws : List Waiter) → AreBelow n ws → AreBelow n (without_waiter t ws)
below_without n t [] b = tt
below_without n t (w ∷ ws) b = either_has (AreBelow n) (nat_eq t w.ticket) ws (w ∷ without_waiter t ws) b.1 (b.0, below_without n t ws b.1)

-- the next ticket is never above this one
abbrev most_next : ℕ
most_next = 4294967294

small_of : (n t : ℕ) → t < n → n ≤ most_next → Is32Bit t
small_of n t l s = omega (arith, l, s)

stale_small : (n : ℕ) (woken : List ℕ) (ws : List Waiter) → n ≤ most_next → AreBelow n ws → FitNumbers (stale_after woken ws)
stale_small n woken [] s b = tt
stale_small n woken (w ∷ ws) s b =
    let rest = stale_small n woken ws s b.1 in
    either_has (λ (l : List Waiter). FitNumbers (map (λ x. x.ticket) l)) (becomes_stale woken w) (w ∷ filter (becomes_stale woken) ws) (filter (becomes_stale woken) ws)
    (small_of n w.ticket b.0 s, rest) rest

-- a block that waits under a ticket has it
found_first : (n t : ℕ) (x : Waiter) (o : Option Waiter) (w : Waiter) (c : Bool) → nat_eq t x.ticket ≡ c → x.ticket < n → (o ≡ Some w → t < n) → cond c (Some x) o ≡ Some w → t < n
found_first n t x o w true h l more q = let same : t ≡ x.ticket = grind (arith, nat_tests) in omega (arith, same, l)
found_first n t x o w false h l more q = more q

found_below : (n t : ℕ) (ws : List Waiter) (w : Waiter) → AreBelow n ws → find_waiter t ws ≡ Some w → t < n
found_below n t [] w b e = absurd cc
found_below n t (x ∷ xs) w b e = found_first n t x (find_waiter t xs) w (nat_eq t x.ticket) refl b.0 (found_below n t xs w b.1) e

waits_below : (P : Waiter → Type 0) (n t : ℕ) (ws : List Waiter) (o : Option Waiter) → AreBelow n ws → find_waiter t ws ≡ o → IsSomeAnd o P → t < n
waits_below P n t ws None b e h = absurd h
waits_below P n t ws (Some w) b e h = found_below n t ws w b e

finish_small : (s : Slow) (t n : ℕ) (v : Verdict) (stale : List ℕ) (o : Option Waiter) → s.next ≤ most_next → AreBelow s.next s.waiters → find_waiter t s.waiters ≡ o → IsSomeAnd o (λ w. MayFinish s t w v n stale)
    → AreNumbersSmall (Finished t v n stale)
finish_small s t n v stale None small b e h = absurd h
finish_small s t n v stale (Some w) small b e h = (
  small_of s.next t (found_below s.next t s.waiters w b e) small,
  omega (arith, h.first_new, h.room),
  subst FitNumbers (sym h.listed) (stale_small s.next _ (without_waiter t s.waiters) small (below_without s.next t s.waiters b)),
)

-- a variable that has a name is in the store
pub within : (cells : List (Ty × Value)) (i : ℕ) (t : Ty) → kinds_of cells i ≡ Some t → i < length cells
within [] i t e = absurd cc
within (c ∷ cells) zero t e = omega arith
within (c ∷ cells) (suc i) t e = let h = within cells i t e in omega arith

pub length-plains : (store : List Cell) → length (plains store) ≡ length store
length-plains [] = refl
length-plains (c ∷ store) = ap suc (length-plains store)

named_within : (store : List Cell) (names : List Named) (i : ℕ) (kind : Ty) (o : Option Ty) → Covers (plains store) (named_uses names) → known_kinds names i ≡ o → option_map var_ty o ≡ Some kind → i < length store
named_within store names i kind None c e t = absurd cc
named_within store names i kind (Some u) c e t =
    let low = within (plains store) i u (covered (plains store) (named_uses names) c i u e) in omega (arith, low, length-plains store)

value_small : (store : List Cell) (names : List Named) (kind : Ty) (v : Value) → Covers (plains store) (named_uses names) → length store < max_cells → type_of (known_kinds names) no_changes v ≡ Some kind → IsReferenceSmall v
value_small store names kind (value.Int n) c room t = tt
value_small store names kind (value.Bool b) c room t = tt
value_small store names kind value.Unit c room t = tt
value_small store names kind (value.Var (Old i)) c room t = let low = named_within store names i kind (known_kinds names i) c refl t in omega (arith, low, room)
value_small store names kind (value.Var (New k)) c room t = absurd cc

declared_small : (s : Slow) (name : List ℕ) (kind : Ty) (v : Value) → IsPossible s → MayDeclareLate s name kind v → AreNumbersSmall (DeclaredLate name kind v)
declared_small s name kind v p m =
    let h = and_parts (nat_le kind.refs most_refs) (is_of_known s.names v kind) m.holds in
    let few : nat_le kind.refs most_refs ≡ true = h.0 in
    (grind (arith, nat_tests), value_small s.store s.names kind v p.named m.room (same_kind (type_of (known_kinds s.names) no_changes v) kind h.1))

-- what may happen has small numbers
allowed_small : (s : Slow) (what : What) → IsPossible s → s.next ≤ most_next → AreBelow s.next s.waiters → Allows s what → AreNumbersSmall what
allowed_small s (Submitted t block) p small b a = omega (arith, a.0, small)
allowed_small s (Installed t v) p small b a = small_of s.next t (waits_below (λ w. MayInstall s w v) s.next t s.waiters (find_waiter t s.waiters) b refl a) small
allowed_small s (Finished t v n stale) p small b a = finish_small s t n v stale (find_waiter t s.waiters) small b refl a
allowed_small s (Cancelled t) p small b a = small_of s.next t (waits_below (λ w. Unit {0}) s.next t s.waiters (find_waiter t s.waiters) b refl a) small
allowed_small s (DeclaredLate name kind value) p small b a = declared_small s name kind value p a
allowed_small s (Labelled t label) p small b a = small_of s.next t (waits_below (λ w. is_label label ≡ true) s.next t s.waiters (find_waiter t s.waiters) b refl a) small

legal_front : (s : Slow) (xs ys : List Event) → LegalFrom s (xs ++ ys) → LegalFrom s xs
legal_front s [] ys l = tt
legal_front s (x ∷ xs) ys l = (l.0, legal_front (after s x.what) xs ys l.1)

pub front_is_legal : (s : Slow) (xs ys : List Event) → IsLegalFrom s (xs ++ ys) → IsLegalFrom s xs
front_is_legal s xs ys l = record { each = legal_front s xs ys l.each; few = omega (arith, l.few, length-append xs ys) }

-- a history begins from a state with a low next ticket
pub rest_small : (first : Slow) → IsPossible first → first.next ≤ max_next → (front rest : List Event) → IsLegalFrom first (front ++ rest) → HaveSmallNumbers rest
rest_small first p low front [] l = tt
rest_small first p low front (e ∷ es) l =
    let parts : front ++ e ∷ es ≡ (front ++ e ∷ []) ++ es = sym (append_assoc front (e ∷ []) es) in
    let whole : IsLegalFrom first ((front ++ e ∷ []) ++ es) = subst (IsLegalFrom first) parts l in
    let one : IsLegalFrom first (front ++ e ∷ []) = front_is_legal first (front ++ e ∷ []) es whole in
    let split = legal_split first front e one.each in
    let s = state_from first front in
    let allowed : Allows s e.what = (split.allowed).what in
    let few = one.few in
    let next = next_le first front in
    let small : s.next ≤ most_next = omega (arith, next, few, low, length-append front (e ∷ [])) in
    let possible = possible_from first front p split.before in
    (allowed_small s e.what possible small (below s.next 0 s.waiters possible.rising) allowed, rest_small first p low (front ++ e ∷ []) es whole)

pub numbers_are_small : BlockAnswersAreRight → DeclarationAnswersAreRight → CheckNeverSaysNoMemory → VerdictIsStable → CheckedAreWellTyped → NumbersAreSmall
numbers_are_small blocks declarations faults stable checked max_events low before =
    let s = state_after_lines (initial_console max_events) before in
    let stands = present_stands s (reached blocks declarations faults stable checked max_events low before) in
    let d = (present_desk s).desk in
    rest_small (start_state d) stands.start.possible (start_next d.table d.checkpoint stands.begins) [] d.history stands.legal
