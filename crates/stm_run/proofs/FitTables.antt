-- Declared variables that can be in lines make a store.
use Rattle.std.proofs.Common.{◌≡◌, ℕ, zero, suc, ◌≤◌, Bool, true, false, not, cond, List, [], ◌∷◌, ◌++◌, Some, None, refl, sym, subst, append_assoc, append-nil}
use Rattle.std.specs.Prelude.{slice_get}
use Rattle.stm_terms.specs.declared.kinds.Ty.{Ty}
use Rattle.stm_terms.specs.declared.values.Value.{Value}
use Rattle.stm_terms.specs.Limits.{most_refs}
use Rattle.stm_store.specs.Cells.{plains, StoreIsTyped, StoreHasAtMost8Refs, IsStore}
use Rattle.stm_store.specs.declared.table.DeclareError.TheVariants as declare
use Rattle.stm_store.specs.Tables.{Declared, declared_cell, declared_cells, may_hold, opened}
use Rattle.stm_store.proofs.Opening.{opened_store}
use Rattle.stm_events.specs.declared.staleness.StalenessRule.TheVariants.{Changed}
use Rattle.stm_events.specs.SlowDesk.{initial_state}
use Rattle.stm_events.proofs.Possible.{possible_initial}
use Rattle.stm_events.proofs.TypedStores.{typed_initial}
use Rattle.stm_history.specs.Judgement.{AreVariablesFrom}
use Rattle.stm_run.specs.Fitting.{VariablesFit}
use Rattle.stm_run.proofs.SoundStates.{IsSound}
use Rattle.stm_run.proofs.TypedTable.{typed_more}

holds_it : (twice holds room : Bool) → cond twice (Some declare.Twice) (cond (not holds) (Some declare.TypeOfValue) (cond room None (Some declare.TableFull))) ≡ None → holds ≡ true
holds_it true holds room e = absurd (cc e)
holds_it false false room e = absurd (cc e)
holds_it false true room e = refl

typed_from : (prior ds : List Declared) → AreVariablesFrom prior ds → StoreIsTyped (declared_cells prior) → StoreIsTyped (declared_cells (prior ++ ds))
typed_from prior [] a t = subst (λ (x : List Declared). StoreIsTyped (declared_cells x)) (sym (append-nil prior)) t
typed_from prior (d ∷ ds) a t =
    subst (λ (x : List Declared). StoreIsTyped (declared_cells x)) (append_assoc prior (d ∷ []) ds)
    (typed_from (prior ++ d ∷ []) ds a.1 (typed_more prior d t (holds_it _ (may_hold (declared_cells prior) d.kind d.value) _ a.0.may)))

pub table_typed : (table : List Declared) → VariablesFit table → StoreIsTyped (declared_cells table)
table_typed table v = typed_from [] table v.1 (λ i c e. absurd (cc e))

low_from : (prior ds : List Declared) → AreVariablesFrom prior ds → (i : ℕ) (c : Ty × Value) → slice_get (declared_cells ds) i ≡ Some c → c.0.refs ≤ most_refs
low_from prior [] a i c e = absurd (cc e)
low_from prior (d ∷ ds) a zero c e = let q : declared_cell d ≡ c = cc e in subst (λ (x : Ty × Value). x.0.refs ≤ most_refs) q a.0.fits.1
low_from prior (d ∷ ds) a (suc i) c e = low_from (prior ++ d ∷ []) ds a.1 i c e

pub table_low : (table : List Declared) → VariablesFit table → StoreHasAtMost8Refs (declared_cells table)
table_low table v = low_from [] table v.1

pub table_store : (table : List Declared) → VariablesFit table → IsStore (plains (opened table))
table_store table v = opened_store table v.0 (table_typed table v) (table_low table v)

pub table_sound : (table : List Declared) → VariablesFit table → IsSound (initial_state Changed table)
table_sound table v =
    let store = table_store table v in
    record { possible = possible_initial Changed table; typed = typed_initial Changed table store.typed; store = store; rule = refl }
