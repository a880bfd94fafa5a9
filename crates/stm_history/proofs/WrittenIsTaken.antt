-- What is written is taken.
use Rattle.std.proofs.Common.{◌≡◌, ℕ, suc, ◌+◌, ◌≤◌, ◌<◌, Bool, true, false, not, cond, List, [], ◌∷◌, ◌++◌, length, take, Some, None, refl, sym, subst, arith, append_assoc, append-nil, length-append, IsTrue}
use Rattle.std.specs.Prelude.{◌&&◌, nat_le, nat_lt, is_some, slice_get}
use Rattle.std.proofs.lemmas.Bool.Decides.{nat_tests}
use Rattle.stm_terms.specs.Names.{is_name_text}
use Rattle.stm_terms.specs.declared.kinds.Ty.{Ty}
use Rattle.stm_store.specs.declared.table.DeclareError.TheVariants.{Twice, TypeOfValue, TableFull}
use Rattle.stm_store.specs.Tables.{Declared, declare_refusal, declared_cells, may_hold, is_of, number_of}
use Rattle.stm_history.specs.FileLaws.{WhatIsWrittenIsTaken, table_start_in}
use Rattle.stm_event_lines.specs.Fits.{AreInRange}
use Rattle.stm_history_text.specs.HistoryText.{history_text}
use Rattle.stm_history.specs.Judgement.{AreVariables, AreVariablesFrom}
use Rattle.stm_history_text.specs.Starts.{Start}
use Rattle.stm_events.specs.SlowDesk.{max_cells}

-- what a variable that is not refused shows
record IsTaken (table : List Declared) (kind : Ty) : Type 0 where
  pub refs : kind.refs ≤ 8
  pub room : length table < max_cells

left_of : (a b : Bool) → a && b ≡ true → a ≡ true
left_of true b e = refl
left_of false b e = absurd cc

taken_by : (table : List Declared) (kind : Ty) (there holds low : Bool) → (holds ≡ true → kind.refs ≤ 8) → (low ≡ true → length table < max_cells)
    → cond there (Some Twice) (cond (not holds) (Some TypeOfValue) (cond low None (Some TableFull))) ≡ None → IsTaken table kind
taken_by table kind true holds low r s e = absurd cc
taken_by table kind false false low r s e = absurd cc
taken_by table kind false true false r s e = absurd cc
taken_by table kind false true true r s e = record { refs = r refl; room = s refl }

taken : (table : List Declared) (d : Declared) → declare_refusal table d.name d.kind d.value ≡ None → IsTaken table d.kind
taken table d e =
    taken_by table d.kind (is_some (number_of d.name table)) (may_hold (declared_cells table) d.kind d.value) (nat_lt (length table) 1000000)
    (λ h. let l = left_of (nat_le d.kind.refs 8) (is_of (declared_cells table) d.value d.kind) h in grind (arith, nat_tests)) (λ h. grind (arith, nat_tests)) e

-- a table that declarations make is one that a checker takes
variables_from : (prior ds : List Declared)
    → ((i : ℕ) (d : Declared) → slice_get ds i ≡ Some d → IsTrue (is_name_text d.name) × (declare_refusal (prior ++ take i ds) d.name d.kind d.value ≡ None)) → AreInRange ds → AreVariablesFrom prior ds
variables_from prior [] h r = tt
variables_from prior (d ∷ ds) h r =
    let first = h 0 d refl in
    let may : declare_refusal prior d.name d.kind d.value ≡ None = subst (λ (x : List Declared). declare_refusal x d.name d.kind d.value ≡ None) (append-nil prior) first.1 in (
      record { fits = (first.0, (taken prior d may).refs, r.0); may = may },
      variables_from (prior ++ d ∷ []) ds
          (λ i c e. let next = h (suc i) c e in (next.0, subst (λ (x : List Declared). declare_refusal x c.name c.kind c.value ≡ None) (sym (append_assoc prior (d ∷ []) (take i ds))) next.1)) r.1,
    )

few_from : (prior ds : List Declared) → AreVariablesFrom prior ds → length prior ≤ max_cells → length prior + length ds ≤ max_cells
few_from prior [] a h = omega (arith, h)
few_from prior (d ∷ ds) a h =
    let room = (taken prior d (a.0).may).room in
    let l = length-append prior (d ∷ []) in
    let k = few_from (prior ++ d ∷ []) ds a.1 (omega (arith, room, l)) in
    omega (arith, k, l)

pub few_variables : (table : List Declared) → AreVariables table → length table ≤ max_cells
few_variables table a = let few = few_from [] table a (omega arith) in omega (arith, few)

pub what_is_written_is_taken : WhatIsWrittenIsTaken
what_is_written_is_taken format table history can =
    let variables : AreVariables table = variables_from [] table can.declared can.in_range in
    let start : Start = table_start_in format table in
    (start, history, record { text = sym (append-nil (history_text start history)); start = (can.read, few_variables table variables, variables); events = can.events; legal = record { each = can.legal.each; few = can.legal.few } }, refl)
