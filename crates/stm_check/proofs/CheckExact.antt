-- The check accepts exactly what resolves to a well typed tree.
use Rattle.std.proofs.Common.{◌≡◌, ℕ, List, Option, Some, None, Result, Ok, Err, IfOk, refl, subst}
use Rattle.stm_terms.specs.Ast.{Act}
use Rattle.stm_terms.specs.ParsedAst as raw
use Rattle.stm_terms.specs.Typing.{ActionType, action_type}
use Rattle.stm_store.specs.Naming.{Named, known_kinds}
use Rattle.stm_check.specs.CheckFunction.{checked}
use Rattle.stm_check.specs.Resolving.{IsAct}
use Rattle.stm_check.specs.Scopes.{Locals, types_of, names_of}
use Rattle.stm_check.specs.Laws.{CheckIsExact, CheckErrsExactly}
use Rattle.stm_check.specs.declared.fault.TypeFault.{TypeFault}
use Rattle.stm_check.proofs.CheckedTyped.{typed}
use Rattle.stm_check.proofs.CheckedResolved.{act_named}
use Rattle.stm_check.proofs.CheckComplete.{act_accepted}

module _ (known : List Named) (text : List ℕ) (w : raw.RawAct) (ls : Locals) where
  abbrev Stands : Act × ActionType → Type 0
  Stands x = IsAct known text (names_of ls) w x.0

  abbrev HasType : Act × ActionType → Type 0
  HasType x = action_type (known_kinds known) (types_of ls) x.0 ≡ Some x.1

  accepted : (a : Act) (r : ActionType) → checked known text ls w ≡ Ok (a, r) → Stands (a, r) × HasType (a, r)
  accepted a r e = (
    subst (λ (o : Result (Act × ActionType) TypeFault). IfOk o Stands) e (act_named known text w ls),
    subst (λ (o : Result (Act × ActionType) TypeFault). IfOk o HasType) e (typed known text w ls),
  )

  untyped : (a : Act) (f : TypeFault) (o : Option ActionType) → checked known text ls w ≡ Err f → IsAct known text (names_of ls) w a → action_type (known_kinds known) (types_of ls) a ≡ o → o ≡ None
  untyped a f (Some r) e h p = let q : checked known text ls w ≡ Ok (a, r) = act_accepted known text w ls a r h p in absurd (cc)
  untyped a f None e h p = refl

  faulty : (o : Result (Act × ActionType) TypeFault) → checked known text ls w ≡ o → ((a : Act) → IsAct known text (names_of ls) w a → action_type (known_kinds known) (types_of ls) a ≡ None) → (f : TypeFault) × (o ≡ Err f)
  faulty (Ok x) e h =
      let p = accepted x.0 x.1 e in
      let q : action_type (known_kinds known) (types_of ls) x.0 ≡ None = h x.0 p.0 in
      absurd (cc (p.1))
  faulty (Err f) e h = (f, refl)

pub accepts_the_well_typed : CheckIsExact
accepts_the_well_typed known text w ls a r = (accepted known text w ls a r, λ p. act_accepted known text w ls a r p.0 p.1)

pub faults_the_ill_typed : CheckErrsExactly
faults_the_ill_typed known text w ls = (
  λ p a h. untyped known text w ls a p.0 (action_type (known_kinds known) (types_of ls) a) p.1 h refl,
  λ h. faulty known text w ls (checked known text ls w) refl h,
)
