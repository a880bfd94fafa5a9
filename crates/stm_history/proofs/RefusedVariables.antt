-- A variable that a table refuses.
use Rattle.std.proofs.Common.{◌≡◌, ℕ, List, Some, None, Err, refl, sym, ◌∙◌, subst, inl, inr}
use Rattle.stm_terms.specs.UnlessNoMemory.{RefusedAs}
use Rattle.stm_terms.proofs.Refused.{refusal_is}
use Rattle.stm_store.specs.declared.table.DeclareError.{DeclareError}
use Rattle.stm_store.specs.declared.table.DeclareError.TheVariants as declare
use Rattle.stm_store.specs.Tables.{Declared, declare_refusal}
use Rattle.stm_event_lines.specs.Fits.{FitsVariable}
use Rattle.stm_event_lines.specs.Lines.{variable_line}
use Rattle.stm_event_lines.proofs.ReadsBack.{variable_same}
use Rattle.stm_history.specs.Checking.{IsStrange, MayRefuse}
use Rattle.stm_history.specs.Progress.{at_variables}
use Rattle.stm_history.specs.Stages.{refused_by}

-- a line of a variable that the table refuses is none of one that it takes
pub undeclared : (format n : ℕ) (table : List Declared) (c : Declared) (line : List ℕ) (e : DeclareError) → variable_line c ≡ line → FitsVariable c → Some e ≡ declare_refusal table c.name c.kind c.value → IsStrange (at_variables format n table) line
undeclared format n table c line e l f told = λ q k.
    let d = k.0 in
    let may = k.2 in
    let same : d ≡ c = variable_same d c may.fits f (k.1 ∙ sym l) in
    let none : declare_refusal table c.name c.kind c.value ≡ None = subst (λ (x : Declared). declare_refusal table x.name x.kind x.value ≡ None) same may.may in
    cc

pub declare_fault : (format n : ℕ) (table : List Declared) (c : Declared) (line : List ℕ) (e : DeclareError) → variable_line c ≡ line → FitsVariable c → RefusedAs {A = ℕ} declare.NoMemory (declare_refusal table c.name c.kind c.value) (Err e) → MayRefuse (at_variables format n table) line (refused_by e)
declare_fault format n table c line declare.NoMemory l f refused = inl refl
declare_fault format n table c line declare.Twice l f refused = inr (inl (refl, undeclared format n table c line declare.Twice l f (sym (refusal_is ℕ declare.NoMemory _ declare.Twice refused (λ q. cc)))))
declare_fault format n table c line declare.TypeOfValue l f refused = inr (inl (refl, undeclared format n table c line declare.TypeOfValue l f (sym (refusal_is ℕ declare.NoMemory _ declare.TypeOfValue refused (λ q. cc)))))
declare_fault format n table c line declare.TableFull l f refused = inr (inl (refl, undeclared format n table c line declare.TableFull l f (sym (refusal_is ℕ declare.NoMemory _ declare.TableFull refused (λ q. cc)))))
