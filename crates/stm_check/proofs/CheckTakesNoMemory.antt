-- The check as it is defined takes no memory.
use Rattle.std.proofs.Common.{◌≢◌, ℕ, Bool, true, false, List, ◌∷◌, Option, Some, None, Result, Ok, Err, IfErr, refl, subst}
use Rattle.std.specs.Prelude.{nat_le}
use Rattle.stm_terms.specs.declared.kinds.Ty.{Ty}
use Rattle.stm_terms.specs.Ast.{Act}
use Rattle.stm_terms.specs.ParsedAst as raw
use Rattle.stm_terms.specs.Typing.{int_ty, bool_ty, deref_ty, same_ty, ActionType, Gives, Any, join_types}
use Rattle.stm_store.specs.Naming.{Named, variable_named}
use Rattle.stm_check.specs.Scopes.{Locals, innermost}
use Rattle.stm_check.specs.CheckFunction.{wanted, as_wanted, wanted_right, on_ok, unless, on_some, on_type, resolved, checked_expr, checked}
use Rattle.stm_check.specs.Laws.{CheckNeverSaysNoMemory}
use Rattle.stm_check.specs.declared.fault.TypeFault.{TypeFault}
use Rattle.stm_check.specs.declared.fault.TypeFault.TheVariants.{Unknown, Mismatch, NotAVariable, Untyped, TypeTooDeep, NoMemory}

abbrev NotMemory : TypeFault → Type 0
NotMemory f = f ≢ NoMemory

ok_not_memory : {A B : Type 0} (o : Result A TypeFault) (go : A → Result B TypeFault) → IfErr o NotMemory → ((x : A) → IfErr (go x) NotMemory) → IfErr (on_ok o go) NotMemory
ok_not_memory (Ok x) go p h = h x
ok_not_memory (Err e) go p h = p

unless_not_memory : {B : Type 0} (b : Bool) (f : TypeFault) (go : Result B TypeFault) → NotMemory f → IfErr go NotMemory → IfErr (unless b f go) NotMemory
unless_not_memory true f go p h = h
unless_not_memory false f go p h = p

some_not_memory : {A B : Type 0} (o : Option A) (f : TypeFault) (go : A → Result B TypeFault) → NotMemory f → ((x : A) → IfErr (go x) NotMemory) → IfErr (on_some o f go) NotMemory
some_not_memory (Some x) f go p h = h x
some_not_memory None f go p h = p

type_not_memory : {B : Type 0} (r : ActionType) (f : TypeFault) (go : Ty → Result B TypeFault) → NotMemory f → ((t : Ty) → IfErr (go t) NotMemory) → IfErr (on_type r f go) NotMemory
type_not_memory (Gives t) f go p h = h t
type_not_memory Any f go p h = p

unknown : (at : ℕ) → NotMemory (Unknown at)
unknown at e = cc

mismatch : (at : ℕ) → NotMemory (Mismatch at)
mismatch at e = cc

no_variable : (at : ℕ) → NotMemory (NotAVariable at)
no_variable at e = cc

untyped : (at : ℕ) → NotMemory (Untyped at)
untyped at e = cc

too_deep : (at : ℕ) → NotMemory (TypeTooDeep at)
too_deep at e = cc

name_not_memory : (at : ℕ) (l v : Option (ℕ × Ty)) → IfErr (resolved at l v) NotMemory
name_not_memory at (Some l) v = tt
name_not_memory at None (Some v) = tt
name_not_memory at None None = unknown at

module _ (known : List Named) (text : List ℕ) where
  expr_not_memory : (e : raw.RawTerm) (ls : Locals) → IfErr (checked_expr known text ls e) NotMemory
  expr_not_memory (raw.int n at) ls = tt
  expr_not_memory (raw.truth b at) ls = tt
  expr_not_memory (raw.unit at) ls = tt
  expr_not_memory (raw.name span) ls =
      name_not_memory span.start (innermost (raw.text_at text span) ls) (variable_named (raw.text_at text span) known)
  expr_not_memory (raw.bin op a b) ls =
      ok_not_memory (checked_expr known text ls a) _ (expr_not_memory a ls) (λ x. unless_not_memory (as_wanted (wanted op) x.1) (Mismatch (raw.place a)) _ (mismatch (raw.place a))
      (ok_not_memory (checked_expr known text ls b) _ (expr_not_memory b ls) (λ y. unless_not_memory (same_ty y.1 (wanted_right (wanted op) x.1)) (Mismatch (raw.place b)) _ (mismatch (raw.place b)) tt)))

  act_not_memory : (a : raw.RawAct) (ls : Locals) → IfErr (checked known text ls a) NotMemory
  act_not_memory (raw.return e) ls = ok_not_memory (checked_expr known text ls e) _ (expr_not_memory e ls) (λ x. tt)
  act_not_memory (raw.read e) ls =
      ok_not_memory (checked_expr known text ls e) _ (expr_not_memory e ls) (λ x.
      some_not_memory (deref_ty x.1) (NotAVariable (raw.place e)) _ (no_variable (raw.place e)) (λ t. tt))
  act_not_memory (raw.write r e) ls =
      ok_not_memory (checked_expr known text ls r) _ (expr_not_memory r ls) (λ x.
      some_not_memory (deref_ty x.1) (NotAVariable (raw.place r)) _ (no_variable (raw.place r)) (λ t.
      ok_not_memory (checked_expr known text ls e) _ (expr_not_memory e ls) (λ y.
      unless_not_memory (same_ty y.1 t) (Mismatch (raw.place e)) _ (mismatch (raw.place e)) tt)))
  act_not_memory (raw.make e) ls =
      ok_not_memory (checked_expr known text ls e) _ (expr_not_memory e ls) (λ x.
      unless_not_memory (nat_le x.1.refs 8) (TypeTooDeep (raw.place e)) _ (too_deep (raw.place e)) tt)
  act_not_memory raw.retry ls = tt
  act_not_memory (raw.throw e) ls =
      ok_not_memory (checked_expr known text ls e) _ (expr_not_memory e ls) (λ x.
      unless_not_memory (same_ty x.1 int_ty) (Mismatch (raw.place e)) _ (mismatch (raw.place e)) tt)
  act_not_memory (raw.if_else e a at b) ls =
      ok_not_memory (checked_expr known text ls e) _ (expr_not_memory e ls) (λ x.
      unless_not_memory (same_ty x.1 bool_ty) (Mismatch (raw.place e)) _ (mismatch (raw.place e))
      (ok_not_memory (checked known text ls a) _ (act_not_memory a ls) (λ y. ok_not_memory (checked known text ls b) _ (act_not_memory b ls) (λ z.
      some_not_memory (join_types y.1 z.1) (Mismatch at) _ (mismatch at) (λ r. tt)))))
  act_not_memory (raw.or_else a at b) ls =
      ok_not_memory (checked known text ls a) _ (act_not_memory a ls) (λ y. ok_not_memory (checked known text ls b) _ (act_not_memory b ls) (λ z.
      some_not_memory (join_types y.1 z.1) (Mismatch at) _ (mismatch at) (λ r. tt)))
  act_not_memory (raw.bind span at a b) ls =
      ok_not_memory (checked known text ls a) _ (act_not_memory a ls) (λ x. type_not_memory x.1 (Untyped at) _ (untyped at) (λ t.
      ok_not_memory (checked known text ((raw.text_at text span, t) ∷ ls) b) _ (act_not_memory b ((raw.text_at text span, t) ∷ ls)) (λ y. tt)))
  act_not_memory (raw.let_in span e b) ls =
      ok_not_memory (checked_expr known text ls e) _ (expr_not_memory e ls) (λ x.
      ok_not_memory (checked known text ((raw.text_at text span, x.1) ∷ ls) b) _ (act_not_memory b ((raw.text_at text span, x.1) ∷ ls)) (λ y. tt))
  act_not_memory (raw.seq a b) ls =
      ok_not_memory (checked known text ls a) _ (act_not_memory a ls) (λ x. ok_not_memory (checked known text ls b) _ (act_not_memory b ls) (λ y. tt))
  act_not_memory (raw.catch a span at b) ls =
      ok_not_memory (checked known text ls a) _ (act_not_memory a ls) (λ y.
      ok_not_memory (checked known text ((raw.text_at text span, int_ty) ∷ ls) b) _ (act_not_memory b ((raw.text_at text span, int_ty) ∷ ls)) (λ z.
      some_not_memory (join_types y.1 z.1) (Mismatch at) _ (mismatch at) (λ r. tt)))

pub faults_are_the_text : CheckNeverSaysNoMemory
faults_are_the_text known text w ls e =
    let h : IfErr (checked known text ls w) NotMemory = act_not_memory known text w ls in
    let no : NotMemory NoMemory = subst (λ (o : Result (Act × ActionType) TypeFault). IfErr o NotMemory) e h in
    no refl
