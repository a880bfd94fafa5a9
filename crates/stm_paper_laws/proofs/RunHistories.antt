-- A legal history for a run of blocks by `atomic`: each block in turn is submitted, installed and finished.
use Rattle.std.proofs.Common.{◌≡◌, ℕ, ◌+◌, ◌*◌, ◌≤◌, Bool, true, false, not, List, [], ◌∷◌, ◌++◌, map, length, Option, Some, None, refl, ap, sym, ◌∙◌, subst, arith, length-append}
use Rattle.std.specs.Prelude.{IsSomeAnd, nat_eq, if◌then◌else◌}
use Rattle.std.proofs.lemmas.List.{length-map}
use Rattle.stm_terms.specs.declared.kinds.Ty.{Ty}
use Rattle.stm_terms.specs.declared.values.Value.{Value}
use Rattle.stm_terms.specs.declared.verdicts.Verdict.{Verdict}
use Rattle.stm_terms.specs.declared.verdicts.Verdict.TheVariants.{Commits, Throws, Blocks}
use Rattle.stm_terms.specs.Ast.{Act}
use Rattle.stm_terms.specs.Changes.{cell_value, no_changes}
use Rattle.stm_terms.specs.Typing.{kinds_in}
use Rattle.stm_store.specs.declared.cell.Cell.{Cell}
use Rattle.stm_store.specs.Cells.{plains, kinds_of, StoreIsTyped, Covers, new_cell, with_writes, applied, made_by}
use Rattle.stm_store.specs.Naming.{Named, named_in_table}
use Rattle.stm_store.specs.Tables.{Declared, declared_cells, opened}
use Rattle.stm_store.proofs.ApplyPreservesTyping.{length-writes, applied_typed, covered_stay}
use Rattle.stm_store.proofs.Opening.{plains-opened}
use Rattle.stm_check.specs.TypedBlock.{Block}
use Rattle.stm_check.proofs.Weakening.{action_more, covered}
use Rattle.stm_events.specs.declared.event.Event.{Event}
use Rattle.stm_events.specs.declared.event.What.{What}
use Rattle.stm_events.specs.declared.event.What.TheVariants.{Submitted, Installed, Finished}
use Rattle.stm_events.specs.declared.staleness.StalenessRule.{StalenessRule}
use Rattle.stm_events.specs.SlowDesk.{Slow, Waiter, SerialStep, Runs, Declares, max_cells, declaration, verdict_on, is_blocks, is_current, intersects, looked_on, waking, with_delivery, after_writes, stale_after, without_waiter, MayInstall, MayFinish, LegalFrom, applied_or, after_turn, serial}
use Rattle.stm_paper_laws.specs.Transitions.{Heap}
use Rattle.stm_paper_laws.specs.Laws.{heap_of, Naming, AreSameHeaps, IsTypedOn, NamesGrow}
use Rattle.stm_paper_laws.specs.Atomic.{store_heap}
use Rattle.stm_paper_laws.specs.AtomicRuns.{AtomicRun, no_steps, one_step, AreTypedOver, submissions_in, finish_of_waiter, finishes_in, IsResultOf, AreSameSteps, RunsAreHistories}
use Rattle.stm_paper_laws.proofs.Names.{eqb_self, same_heaps}
use Rattle.stm_paper_laws.proofs.LikeRuns.{Like, like_grows}
use Rattle.stm_paper_laws.proofs.Starts.{own_names, act_self, keeps_own, renamed_self}
use Rattle.stm_paper_laws.proofs.AtomicLaws.{start_heap}
use Rattle.stm_paper_laws.proofs.StepsBack.{Stepped, step_back}

-- ---- lengths of stores
length_applied : (cells : List Cell) (v : Verdict) → length (applied cells v) ≡ length cells + length (made_by v)
length_applied cells (Commits writes news v) =
    let n = length cells in
    omega (arith, length-append (with_writes n writes cells) (map (new_cell n) news), length-map news (new_cell n), length-writes n writes cells)
length_applied cells (Throws f) = omega arith
length_applied cells Blocks = omega arith

longer : (cells : List Cell) (v : Verdict) → length cells ≤ length (applied cells v)
longer cells v = let e = length_applied cells v in omega (arith, e)

longer_or : (cells : List Cell) (o : Option Verdict) → length cells ≤ length (applied_or cells o)
longer_or cells (Some v) = longer cells v
longer_or cells None = omega arith

longer_turn : (cells : List Cell) (t : SerialStep) → length cells ≤ length (after_turn cells t)
longer_turn cells (Runs b) = longer_or cells (verdict_on cells b)
longer_turn cells (Declares kind value) = longer cells (declaration kind value)

longer_serial : (cells : List Cell) (ts : List SerialStep) → length cells ≤ length (serial cells ts)
longer_serial cells [] = omega arith
longer_serial cells (t ∷ ts) =
    let a = longer_turn cells t in
    let b = longer_serial (after_turn cells t) ts in
    omega (arith, a, b)

-- ---- a block that was just delivered
none_woken : (js : List ℕ) → intersects [] js ≡ false
none_woken [] = refl
none_woken (j ∷ js) = none_woken js

just_current : (store : List Cell) (w : Waiter) → is_current (with_delivery store w) ≡ true
just_current store w = ap not (none_woken (looked_on store w.block))

abbrev event : What → Event
event d = record { client = 0; what = d }

-- events from a state on, which do what a run of these blocks does
record Rest (s : Slow) (blocks : List Block) (called : Naming) (steps : List (Act × Heap)) : Type 0 where
  events : List Event
  legal : LegalFrom s events
  submits : submissions_in events ≡ blocks
  finishes : map (λ f. f.block) (finishes_in s events) ≡ blocks
  same : AreSameSteps called (finishes_in s events) steps
  long : length events ≡ 3 * length blocks

module _ (rule : StalenessRule) where
  -- a state in which these wait
  abbrev with : List Cell → List Named → ℕ → List Waiter → Slow
  with store names t ws = record { rule = rule; store = store; names = names; next = t; waiters = ws }

  module _ (store : List Cell) (names : List Named) (t : ℕ) (b : Block) (v : Verdict) (bs : List Block) (called more : Naming) (y : Act × Heap) (ys : List (Act × Heap)) (rest : Rest (with (applied store v) names (t + 1) []) bs more ys) where
    abbrev fresh : Waiter
    fresh = record { ticket = t; block = b; since = None }

    abbrev current : Waiter
    current = with_delivery store fresh

    -- the states after each event, if the test of its ticket is c
    abbrev submitted : Slow
    submitted = with store names (t + 1) (fresh ∷ [])

    abbrev installed : Bool → Slow
    installed c = with store names (t + 1) (if c then current ∷ [] else fresh ∷ [])

    abbrev finished : Bool → Slow
    finished c = with (applied store v) names (t + 1) (map (after_writes (waking rule store v)) (if c then [] else current ∷ []))

    abbrev last : Event
    last = event (Finished t v (length store) [])

    -- what is so from the finish on
    abbrev FromFinish : Bool → Type 0
    FromFinish c =
        IsSomeAnd (if c then Some current else None) (λ w. MayFinish (installed true) t w v (length store) [])
        × LegalFrom (finished c) rest.events
        × (map (λ f. f.block) (finish_of_waiter (if c then Some current else None) v (length store) (applied store v) ++ finishes_in (finished c) rest.events) ≡ b ∷ bs)
        × AreSameSteps called (finish_of_waiter (if c then Some current else None) v (length store) (applied store v) ++ finishes_in (finished c) rest.events) (y ∷ ys)

    -- and from the installation on
    abbrev FromInstalled : Bool → Type 0
    FromInstalled c =
        LegalFrom (installed c) (last ∷ rest.events)
        × (map (λ f. f.block) (finishes_in (installed c) (last ∷ rest.events)) ≡ b ∷ bs)
        × AreSameSteps called (finishes_in (installed c) (last ∷ rest.events)) (y ∷ ys)

    itself : true ≡ nat_eq t t
    itself = sym (eqb_self t)

    none_stale : [] ≡ stale_after (waking rule store v) (without_waiter t (current ∷ []))
    none_stale = ap (λ c. stale_after (waking rule store v) (if c then [] else current ∷ [])) itself

    prepend : Covers (plains store) b.uses → verdict_on store b ≡ Some v → is_blocks v ≡ false → length store + length (made_by v) ≤ max_cells → NamesGrow called more
        → AreSameHeaps more (store_heap (applied store v)) y.1 → IsResultOf more (length store) v y.0 → Rest (with store names t []) (b ∷ bs) called (y ∷ ys)
    prepend covers gives ends room grows heaps result =
        let may : MayFinish (installed true) t current v (length store) [] =
        record { current = just_current store fresh; verdict_is = gives; ends = ends; first_new = refl; room = room; listed = none_stale } in
        let one : FromFinish (nat_eq t t) = subst FromFinish itself (may, rest.legal, ap (λ l. b ∷ l) rest.finishes, (more, grows, heaps, result, rest.same)) in
        let two : FromInstalled (nat_eq t t) = subst FromInstalled itself ((record { client = omega arith; what = one.0 }, one.1), one.2, one.3) in
        let install : IsSomeAnd (if nat_eq t t then Some fresh else None) (λ w. MayInstall submitted w v) =
        subst (λ c. IsSomeAnd (if c then Some fresh else None) (λ w. MayInstall submitted w v)) itself (record { not_current = refl; verdict_is = gives }) in
        record {
          events = event (Submitted t b) ∷ event (Installed t v) ∷ last ∷ rest.events;
          legal = (record { client = omega arith; what = (refl, covers, omega arith) }, (record { client = omega arith; what = install }, two.0));
          submits = ap (λ l. b ∷ l) rest.submits;
          finishes = two.1;
          same = two.2;
          long = let l = rest.long in omega (arith, l);
        }

  module _ (table : List Declared) where
    abbrev cells : List (Ty × Value)
    cells = declared_cells table

    from_run : {blocks : List Block} {Θ : Heap} {steps : List (Act × Heap)} → AtomicRun blocks Θ steps → (store : List Cell) (names : List Named) (t : ℕ) (called : Naming) → AreTypedOver cells blocks
        → StoreIsTyped (plains store) → ((us : List (ℕ × Ty)) → Covers cells us → Covers (plains store) us) → NamesGrow (own_names cells) called → AreSameHeaps called (store_heap store) Θ
        → length (serial store (map Runs blocks)) ≤ max_cells → Rest (with store names t []) blocks called steps
    from_run no_steps store names t called typed fine covers own same few = record { events = []; legal = tt; submits = refl; finishes = refl; same = tt; long = refl }
    from_run (one_step {b} {bs} {y} {ys = steps} s run) store names t called typed fine covers own same few =
        let r = typed.1 in
        let there : IsTypedOn (plains store) b.tree = record {
          store = fine;
          typed = (r.0, action_more (kinds_in b.uses) (kinds_of (plains store)) (covered (plains store) b.uses (covers b.uses typed.0)) b.tree [] r.0 r.1);
        } in
        let self : Like called b.tree b.tree = like_grows own (act_self cells b.tree [] r.0 (action_more (kinds_in b.uses) (kinds_of cells) (covered cells b.uses typed.0) b.tree [] r.0 r.1)) in
        let x : Stepped called store b.tree y = step_back store b.tree there called self same s in
        let left : length (serial (applied store x.verdict) (map Runs bs)) ≤ max_cells = subst (λ o. length (serial (applied_or store o) (map Runs bs)) ≤ max_cells) x.gives few in
        let rest = from_run run (applied store x.verdict) names (t + 1) x.more typed.2 (applied_typed store x.verdict x.fitting fine)
        (λ us c. covered_stay store x.verdict us (covers us c)) (λ q s e. x.grows q s (own q s e)) x.heaps left in
        let made = length_applied store x.verdict in
        let long = longer_serial (applied store x.verdict) (map Runs bs) in
        prepend store names t b x.verdict bs called x.more y steps rest (covers b.uses typed.0) x.gives x.ends (omega (arith, made, long, left)) x.grows x.heaps x.result

pub runs_are_histories : RunsAreHistories
runs_are_histories rule table blocks steps typed may run =
    let cells = declared_cells table in
    let own : Naming = own_names cells in
    let begins : store_heap (opened table) ≡ heap_of (cell_value cells) no_changes =
    (λ i s. start_heap (opened table) s i) ∙ ap (λ cs. heap_of (cell_value cs) no_changes) (plains-opened table) in
    let same : AreSameHeaps own (store_heap (opened table)) (store_heap (opened table)) = subst (λ z. AreSameHeaps own z z) (sym begins) (same_heaps (renamed_self cells typed)) in
    let all = from_run rule table run (opened table) (named_in_table table) 1 own may.typed (subst StoreIsTyped (sym (plains-opened table)) typed)
    (λ us c. subst (λ z. Covers z us) (sym (plains-opened table)) c) (λ r s e. e) same may.few_cells in
    let long = all.long in
    let few = may.few_events in
    record {
      history = all.events;
      legal = record { each = all.legal; few = omega (arith, long, few) };
      submits = all.submits;
      finishes = all.finishes;
      called = own;
      keeps = keeps_own cells;
      same = all.same;
    }
