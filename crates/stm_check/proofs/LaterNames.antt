-- What the check finds if more names are known.
use Rattle.std.proofs.Common.{◌≡◌, ℕ, Bool, true, false, List, [], ◌∷◌, ◌++◌, ◌⊎◌, inl, inr, Option, Some, None, Result, Ok, Err, refl, ap, sym, subst, ◌∙◌}
use Rattle.std.specs.Prelude.{option_map}
use Rattle.stm_terms.specs.declared.kinds.Ty.{Ty}
use Rattle.stm_terms.specs.Ast.{Term, lit, local, global, bin, Act, return, read, write, make, retry, throw, if_else, or_else, bind, let_in, seq, catch}
use Rattle.stm_terms.specs.ParsedAst as raw
use Rattle.stm_terms.specs.Typing.{TypeEnv, int_ty, bool_ty, var_ty, deref_ty, same_ty, expr_type, ActionType, Gives, Any, action_type, named_in, named, record_use_as, record_use, record_uses, kinds_in}
use Rattle.stm_store.specs.Naming.{Named, known_kinds, number_named, with_kind, variable_named}
use Rattle.stm_store.proofs.Naming.{number_stays, known_stay}
use Rattle.stm_check.specs.Scopes.{Locals, innermost, types_of}
use Rattle.stm_check.specs.CheckFunction.{wanted, as_wanted, wanted_right, on_ok, unless, on_some, on_type, declared_as, resolved, checked_expr, checked}
use Rattle.stm_check.specs.Laws.{IsUnknown, LaterNamesChangeUnknown, CheckedStay}
use Rattle.stm_check.specs.declared.fault.TypeFault.{TypeFault}
use Rattle.stm_check.specs.declared.fault.TypeFault.TheVariants.{Unknown}
use Rattle.stm_check.proofs.ActionsSound.{if_some, with_result_some, with_bound_some}
use Rattle.stm_check.proofs.ExpressionsSound.{with_type_some}
use Rattle.stm_check.proofs.CheckExact.{accepts_the_well_typed}
use Rattle.stm_check.proofs.Strengthening.{AgreeAt}

-- what is found stays the same, unless the check stopped at an unknown name
abbrev Stays : {A : Type 0} → Result A TypeFault → Result A TypeFault → Type 0
Stays r s = (r ≡ s) ⊎ IsUnknown r

-- ---- the steps of the check
ok_stays : {A B : Type 0} (r s : Result A TypeFault) (f g : A → Result B TypeFault) → Stays r s → ((x : A) → Stays (f x) (g x)) → Stays (on_ok r f) (on_ok s g)
ok_stays (Ok x) s f g (inl e) h = subst (λ t. Stays (f x) (on_ok t g)) e (h x)
ok_stays (Ok x) s f g (inr u) h = absurd u
ok_stays (Err e) s f g (inl p) h = inl (ap (λ t. on_ok t g) p)
ok_stays (Err (Unknown at)) s f g (inr u) h = inr u
ok_stays (Err e) s f g (inr u) h = absurd u

unless_stays : {B : Type 0} (b : Bool) (fault : TypeFault) (r s : Result B TypeFault) → Stays r s → Stays (unless b fault r) (unless b fault s)
unless_stays true fault r s h = h
unless_stays false fault r s h = inl refl

some_stays : {A B : Type 0} (o : Option A) (fault : TypeFault) (f g : A → Result B TypeFault) → ((x : A) → Stays (f x) (g x)) → Stays (on_some o fault f) (on_some o fault g)
some_stays (Some x) fault f g h = h x
some_stays None fault f g h = inl refl

type_stays : {B : Type 0} (a : ActionType) (fault : TypeFault) (f g : Ty → Result B TypeFault) → ((t : Ty) → Stays (f t) (g t)) → Stays (on_type a fault f) (on_type a fault g)
type_stays (Gives t) fault f g h = h t
type_stays Any fault f g h = inl refl

module _ (few more : List Named) where
  kind_stays : (i : ℕ) (o : Option Ty) (v : ℕ × Ty) → known_kinds few i ≡ o → option_map (λ t. (i, t)) o ≡ Some v → option_map (λ t. (i, t)) (known_kinds (few ++ more) i) ≡ Some v
  kind_stays i (Some t) v h e = ap (option_map (λ u. (i, u))) (known_stay few more i t h) ∙ e
  kind_stays i None v h e = absurd (cc)

  variable_by : (name : List ℕ) (o : Option ℕ) (v : ℕ × Ty) → number_named name few ≡ o → with_kind (known_kinds few) o ≡ Some v → variable_named name (few ++ more) ≡ Some v
  variable_by name (Some i) v h e =
      ap (with_kind (known_kinds (few ++ more))) (number_stays name few more i h) ∙ kind_stays i (known_kinds few i) v refl e
  variable_by name None v h e = absurd (cc)

  declared_stays : (at : ℕ) (name : List ℕ) (o : Option (ℕ × Ty)) → variable_named name few ≡ o → Stays (declared_as at o) (declared_as at (variable_named name (few ++ more)))
  declared_stays at name (Some v) h = inl (ap (declared_as at) (sym (variable_by name (number_named name few) v refl h)))
  declared_stays at name None h = inr tt

  name_stays : (at : ℕ) (name : List ℕ) (l : Option (ℕ × Ty)) → Stays (resolved at l (variable_named name few)) (resolved at l (variable_named name (few ++ more)))
  name_stays at name (Some v) = inl refl
  name_stays at name None = declared_stays at name (variable_named name few) refl

  module _ (text : List ℕ) where
    expr_stays : (e : raw.RawTerm) (ls : Locals) → Stays (checked_expr few text ls e) (checked_expr (few ++ more) text ls e)
    expr_stays (raw.int n at) ls = inl refl
    expr_stays (raw.truth b at) ls = inl refl
    expr_stays (raw.unit at) ls = inl refl
    expr_stays (raw.name span) ls = name_stays span.start (raw.text_at text span) (innermost (raw.text_at text span) ls)
    expr_stays (raw.bin op a b) ls =
        ok_stays _ _ _ _ (expr_stays a ls) (λ x. unless_stays (as_wanted (wanted op) x.1) _ _ _
        (ok_stays _ _ _ _ (expr_stays b ls) (λ y. unless_stays (same_ty y.1 (wanted_right (wanted op) x.1)) _ _ _ (inl refl))))

    act_stays : (a : raw.RawAct) (ls : Locals) → Stays (checked few text ls a) (checked (few ++ more) text ls a)
    act_stays (raw.return e) ls = ok_stays _ _ _ _ (expr_stays e ls) (λ x. inl refl)
    act_stays (raw.read e) ls = ok_stays _ _ _ _ (expr_stays e ls) (λ x. inl refl)
    act_stays (raw.write r e) ls =
        ok_stays _ _ _ _ (expr_stays r ls) (λ x. some_stays (deref_ty x.1) _ _ _
        (λ t. ok_stays _ _ _ _ (expr_stays e ls) (λ y. inl refl)))
    act_stays (raw.make e) ls = ok_stays _ _ _ _ (expr_stays e ls) (λ x. inl refl)
    act_stays raw.retry ls = inl refl
    act_stays (raw.throw e) ls = ok_stays _ _ _ _ (expr_stays e ls) (λ x. inl refl)
    act_stays (raw.if_else e a at b) ls =
        ok_stays _ _ _ _ (expr_stays e ls) (λ x. unless_stays (same_ty x.1 bool_ty) _ _ _
        (ok_stays _ _ _ _ (act_stays a ls) (λ y. ok_stays _ _ _ _ (act_stays b ls) (λ z. inl refl))))
    act_stays (raw.or_else a at b) ls =
        ok_stays _ _ _ _ (act_stays a ls) (λ y. ok_stays _ _ _ _ (act_stays b ls) (λ z. inl refl))
    act_stays (raw.bind span at a b) ls =
        ok_stays _ _ _ _ (act_stays a ls) (λ x. type_stays x.1 _ _ _
        (λ t. ok_stays _ _ _ _ (act_stays b ((raw.text_at text span, t) ∷ ls)) (λ y. inl refl)))
    act_stays (raw.let_in span e b) ls =
        ok_stays _ _ _ _ (expr_stays e ls) (λ x. ok_stays _ _ _ _ (act_stays b ((raw.text_at text span, x.1) ∷ ls)) (λ y. inl refl))
    act_stays (raw.seq a b) ls =
        ok_stays _ _ _ _ (act_stays a ls) (λ x. ok_stays _ _ _ _ (act_stays b ls) (λ y. inl refl))
    act_stays (raw.catch a span at b) ls =
        ok_stays _ _ _ _ (act_stays a ls) (λ y. ok_stays _ _ _ _ (act_stays b ((raw.text_at text span, int_ty) ∷ ls)) (λ z. inl refl))

pub later_names : LaterNamesChangeUnknown
later_names few more text parsed locals = act_stays few more text parsed locals

-- ---- the variables that a block names
agree_both : (k m : TypeEnv) (is js : List ℕ) → AgreeAt k m is → AgreeAt k m js → AgreeAt k m (is ++ js)
agree_both k m [] js h g = g
agree_both k m (i ∷ is) js h g = (h.0, agree_both k m is js h.1 g)

module _ (few more : TypeEnv) (known : (i : ℕ) (t : Ty) → few i ≡ Some t → more i ≡ Some t) where
  global_agrees : (i : ℕ) (o : Option Ty) (t : Ty) → few i ≡ o → option_map var_ty o ≡ Some t → more i ≡ few i
  global_agrees i (Some u) t h e = known i u h ∙ sym h
  global_agrees i None t h e = absurd (cc)

  expr_agrees : (e : Term) (locals : List Ty) (t : Ty) → expr_type few locals e ≡ Some t → AgreeAt few more (named_in e)
  expr_agrees (lit v) locals t p = tt
  expr_agrees (local i) locals t p = tt
  expr_agrees (global i) locals t p = (global_agrees i (few i) t refl p, tt)
  expr_agrees (bin op a b) locals t p =
      let x = with_type_some (expr_type few locals a) _ t p in
      let y = with_type_some (expr_type few locals b) _ t x.2 in
      agree_both few more (named_in a) (named_in b) (expr_agrees a locals x.0 x.1) (expr_agrees b locals y.0 y.1)

  act_agrees : (a : Act) (locals : List Ty) (r : ActionType) → action_type few locals a ≡ Some r → AgreeAt few more (named a)
  act_agrees (return e) locals r p = let x = with_type_some (expr_type few locals e) _ r p in expr_agrees e locals x.0 x.1
  act_agrees (read e) locals r p = let x = with_type_some (expr_type few locals e) _ r p in expr_agrees e locals x.0 x.1
  act_agrees (write a e) locals r p =
      let x = with_type_some (expr_type few locals a) _ r p in
      let y = with_type_some (expr_type few locals e) _ r x.2 in
      agree_both few more (named_in a) (named_in e) (expr_agrees a locals x.0 x.1) (expr_agrees e locals y.0 y.1)
  act_agrees (make t e) locals r p = let x = with_type_some (expr_type few locals e) _ r p in expr_agrees e locals x.0 x.1
  act_agrees retry locals r p = tt
  act_agrees (throw e) locals r p = let x = with_type_some (expr_type few locals e) _ r p in expr_agrees e locals x.0 x.1
  act_agrees (if_else e a b) locals r p =
      let x = with_type_some (expr_type few locals e) _ r p in
      let c = if_some (same_ty x.0 bool_ty) _ r x.2 in
      let y = with_result_some (action_type few locals a) _ r c.1 in
      let z = with_result_some (action_type few locals b) _ r y.2 in
      agree_both few more (named_in e ++ named a) (named b)
      (agree_both few more (named_in e) (named a) (expr_agrees e locals x.0 x.1) (act_agrees a locals y.0 y.1)) (act_agrees b locals z.0 z.1)
  act_agrees (or_else a b) locals r p =
      let y = with_result_some (action_type few locals a) _ r p in
      let z = with_result_some (action_type few locals b) _ r y.2 in
      agree_both few more (named a) (named b) (act_agrees a locals y.0 y.1) (act_agrees b locals z.0 z.1)
  act_agrees (bind a b) locals r p =
      let y = with_result_some (action_type few locals a) _ r p in
      let t = with_bound_some y.0 _ r y.2 in
      agree_both few more (named a) (named b) (act_agrees a locals y.0 y.1) (act_agrees b (locals ++ t.0 ∷ []) r t.2)
  act_agrees (let_in e b) locals r p =
      let x = with_type_some (expr_type few locals e) _ r p in
      agree_both few more (named_in e) (named b) (expr_agrees e locals x.0 x.1) (act_agrees b (locals ++ x.0 ∷ []) r x.2)
  act_agrees (seq a b) locals r p =
      let y = with_result_some (action_type few locals a) _ r p in
      agree_both few more (named a) (named b) (act_agrees a locals y.0 y.1) (act_agrees b locals r y.2)
  act_agrees (catch a b) locals r p =
      let y = with_result_some (action_type few locals a) _ r p in
      let z = with_result_some (action_type few (locals ++ int_ty ∷ []) b) _ r y.2 in
      agree_both few more (named a) (named b) (act_agrees a locals y.0 y.1) (act_agrees b (locals ++ int_ty ∷ []) z.0 z.1)

recorded_same : (k m : TypeEnv) (is : List ℕ) (us : List (ℕ × Ty)) → AgreeAt k m is → record_uses m is us ≡ record_uses k is us
recorded_same k m [] us h = refl
recorded_same k m (i ∷ is) us h =
    recorded_same k m is (record_use m i us) h.1 ∙ ap (λ o. record_uses k is (record_use_as (kinds_in us i) o i us)) h.0

accepted_stays : {A : Type 0} (r s : Result A TypeFault) (x : A) → Stays r s → r ≡ Ok x → s ≡ Ok x
accepted_stays r s x (inl e) h = sym e ∙ h
accepted_stays (Ok y) s x (inr u) h = absurd u
accepted_stays (Err f) s x (inr u) h = absurd (cc)

pub checked_stay : CheckedStay
checked_stay few more text parsed locals a r e = (
  accepted_stays (checked few text locals parsed) (checked (few ++ more) text locals parsed) (a, r) (later_names few more text parsed locals) e,
  recorded_same (known_kinds few) (known_kinds (few ++ more)) (named a) []
      (act_agrees (known_kinds few) (known_kinds (few ++ more)) (known_stay few more) a (types_of locals) r ((accepts_the_well_typed few text parsed locals a r).0 e).1),
)
