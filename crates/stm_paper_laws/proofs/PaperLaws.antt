-- The laws.
use Rattle.std.proofs.Common.{List, ◌≡◌, ◌≢◌, [], Some, refl, ap, sym, ◌∙◌, subst}
use Rattle.stm_terms.specs.declared.kinds.Ty.{Ty}
use Rattle.stm_terms.specs.declared.values.Ref.TheVariants.{Old}
use Rattle.stm_terms.specs.declared.values.Value.{Value}
use Rattle.stm_terms.specs.Ast.{Act}
use Rattle.stm_terms.specs.Changes.{Variables, cell_value, no_changes}
use Rattle.stm_terms.specs.Semantics.{Outcome, Returned, Threw, Retried, Stuck, on_answer, run}
use Rattle.stm_terms.specs.Typing.{TypeEnv}
use Rattle.stm_store.specs.Cells.{kinds_of}
use Rattle.stm_check.proofs.TypingLaws.{never_stuck}
use Rattle.stm_check.proofs.Weakening.{store_fine}
use Rattle.stm_paper_laws.specs.Transitions.{Configuration}
use Rattle.stm_paper_laws.specs.Laws.{heap_of, cells_of, block_start, Ending, Returns, Throws, Retries, Ends, ending_of, Naming, KeepsNames, AreSameEnds, IsEndOf, IsTypedOn, block_run, RunIsReached, ReachedIsRun, EndsOnce, EndsAreSame, NamesGrow}
use Rattle.stm_paper_laws.proofs.Names.{same_some, same_heaps, same_cells, tests_agree}
use Rattle.stm_paper_laws.proofs.LikeRuns.{value_back}
use Rattle.stm_paper_laws.proofs.LeadToRun.{Leads, leads, by_numbers}
use Rattle.stm_paper_laws.proofs.NamedTransitions.{return_back, throw_back, retry_back, threw, steps_go}
use Rattle.stm_paper_laws.proofs.Starts.{own_names, act_self, keeps_own, renamed_self}
use Rattle.stm_paper_laws.proofs.SameEnds.{both_are_same}

ends_as : (kinds : TypeEnv) (under : Variables) (x : Configuration) (o : Outcome) (end : Ending) → ending_of under o ≡ Some end → Leads (by_numbers kinds under) x o → Ends x end
ends_as kinds under x (Returned v k) end e p = subst (Ends x) (same_some _ _ e) p
ends_as kinds under x (Threw f) end e p = subst (Ends x) (same_some _ _ e) p
ends_as kinds under x Retried end e p = subst (Ends x) (same_some _ _ e) p
ends_as kinds under x Stuck end e p = absurd (cc)

pub run_is_reached : RunIsReached
run_is_reached cells block end t e =
    ends_as (kinds_of cells) (cell_value cells) (block_start cells block) (block_run cells block) end e
    (leads (by_numbers (kinds_of cells) (cell_value cells)) block [] [] no_changes t.typed.0 (store_fine cells t.store) tt t.typed.1)

keeps_names : (cells : List (Ty × Value)) (g : Naming) → NamesGrow (own_names cells) g → KeepsNames (cell_value cells) g
keeps_names cells g m i v e = m (Old i) (Old i) (keeps_own cells i v e)

pub reached_is_run : ReachedIsRun
reached_is_run cells block (Returns w Θ Δ) t (e, s, p) =
    let under : Variables = cell_value cells in
    let g = steps_go under s [] (own_names cells) no_changes block (act_self cells block [] t.typed.0 t.typed.1) (renamed_self cells t.store) in
    let r = return_back g.4 in
    let v = value_back (tests_agree g.5) r.2 p in
    let returned : block_run cells block ≡ Returned v.0 g.1 =
    g.6 ∙ ap (λ x. run under x [] g.1) r.1 ∙ ap (λ x. on_answer x (λ y. Returned y g.1)) v.1.value_is in
    subst (λ o. IsEndOf (cell_value cells) o (Returns w Θ Δ)) (sym returned)
    (Returns v.0 (heap_of under g.1) (cells_of g.1), refl, (g.0, keeps_names cells g.0 g.3, v.2, same_heaps g.5, same_cells g.1.news g.5))
reached_is_run cells block (Throws x) t (e, Θ, Δ, s, r) =
    let under : Variables = cell_value cells in
    let g = steps_go under s [] (own_names cells) no_changes block (act_self cells block [] t.typed.0 t.typed.1) (renamed_self cells t.store) in
    let d = throw_back g.4 in
    let threw_is : block_run cells block ≡ Threw x = g.6 ∙ threw under g.0 g.1 g.5 d.0 d.1 d.2 r in
    subst (λ o. IsEndOf (cell_value cells) o (Throws x)) (sym threw_is) (Throws x, refl, refl)
reached_is_run cells block Retries t (Θ, Δ, s) =
    let under : Variables = cell_value cells in
    let g = steps_go under s [] (own_names cells) no_changes block (act_self cells block [] t.typed.0 t.typed.1) (renamed_self cells t.store) in
    let retried : block_run cells block ≡ Retried = g.6 ∙ ap (λ x. run under x [] g.1) (retry_back g.4) in
    subst (λ o. IsEndOf (cell_value cells) o Retries) (sym retried) (Retries, refl, tt)

has_ending : (under : Variables) (o : Outcome) → o ≢ Stuck → (end : Ending) × (ending_of under o ≡ Some end)
has_ending under (Returned v k) p = (Returns v (heap_of under k) (cells_of k), refl)
has_ending under (Threw f) p = (Throws f, refl)
has_ending under Retried p = (Retries, refl)
has_ending under Stuck p = absurd (p refl)

-- the end of a block, by `run`
said : (cells : List (Ty × Value)) (block : Act) → IsTypedOn cells block → (end : Ending) × (ending_of (cell_value cells) (block_run cells block) ≡ Some end)
said cells block t =
    has_ending (cell_value cells) (block_run cells block) (never_stuck (kinds_of cells) (cell_value cells) block [] [] no_changes t.typed.0 (store_fine cells t.store) tt t.typed.1)

-- the end that `run` says is the same as each one that the transitions come to
same_as_said : (cells : List (Ty × Value)) (block : Act) (end other : Ending) → ending_of (cell_value cells) (block_run cells block) ≡ Some end → IsEndOf (cell_value cells) (block_run cells block) other
    → AreSameEnds (cell_value cells) end other
same_as_said cells block end other e p = subst (λ z. AreSameEnds (cell_value cells) z other) (same_some p.0 end (sym p.1 ∙ e)) p.2

pub ends_once : EndsOnce
ends_once cells block t =
    let end = said cells block t in
    (end.0, run_is_reached cells block end.0 t end.1, λ other p. same_as_said cells block end.0 other end.1 (reached_is_run cells block other t p))

pub ends_are_same : EndsAreSame
ends_are_same cells block end other t p q =
    let there = said cells block t in
    both_are_same (cell_value cells) there.0 end other
    (same_as_said cells block there.0 end there.1 (reached_is_run cells block end t p))
    (same_as_said cells block there.0 other there.1 (reached_is_run cells block other t q))
