-- A legal history as turns, each one step of `atomic`.
use Rattle.std.proofs.Common.{◌≡◌, ℕ, zero, suc, Bool, true, false, List, [], ◌∷◌, ◌++◌, length, Option, Some, None, refl, ap, sym, ◌∙◌, subst, arith}
use Rattle.std.specs.Prelude.{IsSomeAnd, nat_eq, nat_le, if◌then◌else◌}
use Rattle.std.proofs.Math.Dec.{eqb-suc-suc, eqb-suc-zero, eqb-zero-suc}
use Rattle.stm_terms.specs.declared.kinds.Ty.{Ty}
use Rattle.stm_terms.specs.declared.values.Ref.{Ref}
use Rattle.stm_terms.specs.declared.values.Ref.TheVariants.{Old, New}
use Rattle.stm_terms.specs.declared.values.Value.{Value}
use Rattle.stm_terms.specs.declared.values.Value.TheVariants.{Int, Bool as Truth, Unit as Nil, Var}
use Rattle.stm_terms.specs.declared.verdicts.Verdict.{Verdict}
use Rattle.stm_terms.specs.declared.verdicts.Verdict.TheVariants.{Commits, Throws, Blocks}
use Rattle.stm_terms.specs.Ast.{lit, Act, make, return}
use Rattle.stm_terms.specs.Changes.{cell_value}
use Rattle.stm_terms.specs.Limits.{most_refs}
use Rattle.stm_terms.specs.Typing.{kinds_in}
use Rattle.stm_store.specs.declared.cell.Cell.{Cell}
use Rattle.stm_store.specs.Cells.{plains, kinds_of, StoreIsTyped, renumbered, new_cell, applied}
use Rattle.stm_store.specs.Naming.{Named, is_of_known}
use Rattle.stm_store.proofs.Opening.{plains-opened}
use Rattle.stm_check.proofs.ExpressionsSound.{and_right}
use Rattle.stm_check.proofs.Weakening.{action_more, covered}
use Rattle.stm_events.specs.declared.event.Event.{Event}
use Rattle.stm_events.specs.declared.event.What.{What}
use Rattle.stm_events.specs.declared.event.What.TheVariants.{Submitted, Installed, Finished, Cancelled, Declared as DeclaredLate, Labelled}
use Rattle.stm_events.specs.SlowDesk.{Slow, Waiter, SerialStep, declaration, find_waiter, after, Allows, MayFinish, LegalFrom, initial_state, state_from, turns_by, turns_of_waiter, serial_steps_from}
use Rattle.stm_events.specs.Laws.{IsWellTyped, SubmittedAreWellTyped}
use Rattle.stm_events.specs.States.{AreWellTyped, IsPossible, IsTypedState}
use Rattle.stm_events.proofs.Covered.{covered_waiter}
use Rattle.stm_events.proofs.Possible.{possible_initial, possible_after}
use Rattle.stm_events.proofs.TypedStores.{typed_initial, typed_after}
use Rattle.stm_paper_laws.specs.Transitions.{Heap, updated, □, ◌⇒*◌, NEW, none, more, ◌⇝◌, ARET}
use Rattle.stm_paper_laws.specs.Laws.{IsTypedOn}
use Rattle.stm_paper_laws.specs.Atomic.{store_heap, Makes}
use Rattle.stm_paper_laws.specs.Histories.{AreAtomicTurns, no_turns, one_turn, HistoriesAreAtomic}
use Rattle.stm_paper_laws.proofs.StoreNames.{none_past}
use Rattle.stm_paper_laws.proofs.AtomicLaws.{verdicts_are_atomic}
use Rattle.stm_paper_laws.proofs.HistoryLaws.{makes_of}

joined_turns : {ts us : List SerialStep} {Θ Θ' Θ'' : Heap} → AreAtomicTurns ts Θ Θ' → AreAtomicTurns us Θ' Θ'' → AreAtomicTurns (ts ++ us) Θ Θ''
joined_turns no_turns q = q
joined_turns (one_turn s p) q = one_turn s (joined_turns p q)

-- ---- a variable that is declared
stays_known : (known : List Named) (n : ℕ) (value : Value) (kind : Ty) → is_of_known known value kind ≡ true → renumbered n value ≡ value
stays_known known n (Int z) kind e = refl
stays_known known n (Truth b) kind e = refl
stays_known known n Nil kind e = refl
stays_known known n (Var (Old i)) kind e = refl
stays_known known n (Var (New k)) kind e = absurd (cc)

by : (b c : Bool) (x y : Option Value) → b ≡ c → (if b then x else y) ≡ (if c then x else y)
by b c x y e = ap (λ z. if z then x else y) e

push_value : (cs : List Cell) (c : Cell) (j : ℕ) → (if nat_eq (length cs) j then Some c.value else cell_value (plains cs) j) ≡ cell_value (plains (cs ++ c ∷ [])) j
push_value [] c zero = refl
push_value [] c (suc j) = by _ _ _ _ (eqb-zero-suc j)
push_value (d ∷ cs) c zero = by _ _ _ _ (eqb-suc-zero (length cs))
push_value (d ∷ cs) c (suc j) = by _ _ _ _ (eqb-suc-suc (length cs) j) ∙ push_value cs c j

declared_at : (store : List Cell) (kind : Ty) (value : Value) → renumbered (length store) value ≡ value → (s : Ref)
    → updated (store_heap store) (Old (length store)) value s ≡ store_heap (applied store (declaration kind value)) s
declared_at store kind value e (Old j) =
    ap (λ v. if nat_eq (length store) j then Some v else cell_value (plains store) j) (sym e) ∙ push_value store (new_cell (length store) (kind, value)) j
declared_at store kind value e (New k) = refl

declares : (store : List Cell) (kind : Ty) (value : Value) → renumbered (length store) value ≡ value
    → (make kind (lit value), store_heap store) ⇝ (return (lit (Var (Old (length store)))), store_heap (applied store (declaration kind value)))
declares store kind value e =
    let n : ℕ = length store in
    let steps : (make kind (lit value), store_heap store, []) ⇒* (return (lit (Var (Old n))), updated (store_heap store) (Old n) value, (Old n, kind) ∷ []) =
    more (NEW □ kind (Old n) (record { value_is = refl }) (none_past store n (omega arith))) none in
    ARET (subst (λ z. (make kind (lit value), store_heap store, []) ⇒* (return (lit (Var (Old n))), z, (Old n, kind) ∷ [])) (λ i s. declared_at store kind value e s i) steps) (record { value_is = refl })

-- ---- a block that finishes
one_block : (block : Act) (store next : List Cell) (v : Verdict) → Makes block store v next → (N : Act) × ((block, store_heap store) ⇝ (N, store_heap next))
one_block block store next (Commits writes news result) p = (_, p)
one_block block store next (Throws f) p = (_, p.2)
one_block block store next Blocks p = absurd p

waiter_typed : (t : ℕ) (ws : List Waiter) (one : Waiter) → AreWellTyped ws → find_waiter t ws ≡ Some one → IsWellTyped one.block
waiter_typed t [] one k e = absurd (cc)
waiter_typed t (w ∷ ws) one k e =
    elim (nat_eq t w.ticket) as (λ b. (if b then Some w else find_waiter t ws) ≡ Some one → IsWellTyped one.block) [
      | true ↦ λ p. let q : w ≡ one = cc in subst (λ (x : Waiter). IsWellTyped x.block) q k.0
      | false ↦ λ p. waiter_typed t ws one k.1 p
    ] e

finish_turn : (s : Slow) (t n : ℕ) (v : Verdict) (stale : List ℕ) → IsPossible s → IsTypedState s → (o : Option Waiter) → find_waiter t s.waiters ≡ o → IsSomeAnd o (λ w. MayFinish s t w v n stale)
    → AreAtomicTurns (turns_of_waiter o) (store_heap s.store) (store_heap (applied s.store v))
finish_turn s t n v stale p k None e m = absurd m
finish_turn s t n v stale p k (Some w) e m =
    let cells = plains s.store in
    let b = waiter_typed t s.waiters w k.blocks e in
    let typed : IsTypedOn cells w.block.tree = record {
      store = k.store;
      typed = (b.0, action_more (kinds_in w.block.uses) (kinds_of cells) (covered cells w.block.uses (covered_waiter t s.store s.waiters w p.covered e)) w.block.tree [] b.0 b.1);
    } in
    one_turn (one_block w.block.tree s.store (applied s.store v) v (makes_of w.block.tree s.store v m.ends (verdicts_are_atomic s.store w.block.tree v typed m.verdict_is))).1 no_turns

-- ---- events
event_turns : (s : Slow) (what : What) → IsPossible s → IsTypedState s → Allows s what → AreAtomicTurns (turns_by s what) (store_heap s.store) (store_heap (after s what).store)
event_turns s (Submitted t block) p k a = no_turns
event_turns s (Installed t v) p k a = no_turns
event_turns s (Finished t v n stale) p k a = finish_turn s t n v stale p k (find_waiter t s.waiters) refl a
event_turns s (Cancelled t) p k a = no_turns
event_turns s (DeclaredLate name kind value) p k a =
    one_turn (declares s.store kind value (stays_known s.names (length s.store) value kind (and_right (nat_le kind.refs most_refs) (is_of_known s.names value kind) a.holds))) no_turns
event_turns s (Labelled t label) p k a = no_turns

turns_from : (s : Slow) (events : List Event) → IsPossible s → IsTypedState s → LegalFrom s events → SubmittedAreWellTyped events
    → AreAtomicTurns (serial_steps_from s events) (store_heap s.store) (store_heap (state_from s events).store)
turns_from s [] p k l w = no_turns
turns_from s (e ∷ es) p k l w =
    joined_turns (event_turns s e.what p k l.0.what)
    (turns_from (after s e.what) es (possible_after s e.what p l.0.what) (typed_after s e.what p l.0.what w.0 k) l.1 w.1)

pub histories_are_atomic : HistoriesAreAtomic
histories_are_atomic rule table history typed blocks legal =
    turns_from (initial_state rule table) history (possible_initial rule table) (typed_initial rule table (subst StoreIsTyped (sym (plains-opened table)) typed)) legal.each blocks
