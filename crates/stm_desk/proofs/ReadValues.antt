-- What a block reads has its values, and which of these values a verdict leaves.
use Rattle.std.proofs.Common.{◌≡◌, ℕ, ◌<◌, Bool, true, false, cond, List, [], ◌∷◌, ◌++◌, Option, Some, None, length, refl, sym, ap, subst, ◌∙◌, eqb-true}
use Rattle.std.specs.Prelude.{nat_lt, nat_eq, slice_get, option_map}
use Rattle.std.proofs.lemmas.Option.{slice_get-map, slice_get_within}
use Rattle.stm_terms.specs.declared.values.Value.{Value}
use Rattle.stm_terms.specs.declared.kinds.Ty.{Ty}
use Rattle.stm_terms.specs.declared.verdicts.Verdict.{Verdict}
use Rattle.stm_terms.specs.declared.verdicts.Verdict.TheVariants.{Commits, Throws, Blocks}
use Rattle.stm_terms.specs.Ast.{Act}
use Rattle.stm_terms.specs.Changes.{Variables, find, put, first_of}
use Rattle.stm_terms.specs.ReadSet.{insert_read, insert_reads, looks_of, reads_of}
use Rattle.stm_terms.specs.Value.{same_value}
use Rattle.stm_terms.proofs.SameValues.{value_equal, value_same}
use Rattle.stm_store.specs.declared.cell.Cell.{Cell}
use Rattle.stm_store.specs.Cells.{plain, plains, Fits, applied, renumbered, after_write, written_by}
use Rattle.stm_store.proofs.Lookups.{is_applied}
use Rattle.stm_events.specs.SlowDesk.{under}
use Rattle.stm_desk.specs.declared.reason.Change.{Change}
use Rattle.stm_desk.specs.Reasons.{change_to, changes_from}
use Rattle.stm_desk.specs.ReasonsByEvents.{left_by_verdict}

-- each of these reads has its value
abbrev pub AreRead : List (ℕ × Value) → Variables → Type 0
AreRead [] variables = Unit {0}
AreRead (r ∷ rs) variables = (variables r.0 ≡ Some r.1) × AreRead rs variables

-- ---- the reads of a block
put_cons : (b c : Bool) (k : ℕ) (v : Value) (e : ℕ × Value) (es ps : List (ℕ × Value)) (u : Variables) → u k ≡ Some v → AreRead (e ∷ es) u → AreRead ps u → AreRead (cond b (e ∷ ps) (cond c ((k, v) ∷ es) ((k, v) ∷ e ∷ es))) u
put_cons true c k v e es ps u at h p = (h.0, p)
put_cons false true k v e es ps u at h p = (at, h.1)
put_cons false false k v e es ps u at h p = (at, h)

put_read : (k : ℕ) (v : Value) (es : List (ℕ × Value)) (u : Variables) → u k ≡ Some v → AreRead es u → AreRead (put k v es) u
put_read k v [] u at h = (at, tt)
put_read k v (e ∷ es) u at h = put_cons (nat_lt e.0 k) (nat_eq e.0 k) k v e es (put k v es) u at h (put_read k v es u at h.1)

one_read : (i : ℕ) (o : Option Value) (reads : List (ℕ × Value)) (u : Variables) → u i ≡ o → AreRead reads u → AreRead (insert_read i o reads) u
one_read i None reads u e h = h
one_read i (Some v) reads u e h = put_read i v reads u e h

inserted_read : (u : Variables) (is : List ℕ) (reads : List (ℕ × Value)) → AreRead reads u → AreRead (insert_reads u is reads) u
inserted_read u [] reads h = h
inserted_read u (i ∷ is) reads h = inserted_read u is (insert_read i (u i) reads) (one_read i (u i) reads u refl h)

pub reads_are : (u : Variables) (block : Act) → AreRead (reads_of u block) u
reads_are u block = inserted_read u (looks_of u block) [] tt

found_step : (b : Bool) (i : ℕ) (x : Value) (w : ℕ × Value) (o : Option Value) (u : Variables) → nat_eq w.0 i ≡ b → u w.0 ≡ Some w.1 → (o ≡ Some x → u i ≡ Some x) → cond b (Some w.1) o ≡ Some x → u i ≡ Some x
found_step true i x w o u e h more f = subst (λ (j : ℕ). u j ≡ Some x) (eqb-true w.0 i e) (h ∙ f)
found_step false i x w o u e h more f = more f

pub found_read : (i : ℕ) (x : Value) (reads : List (ℕ × Value)) (u : Variables) → AreRead reads u → find i reads ≡ Some x → u i ≡ Some x
found_read i x [] u h f = cc
found_read i x (w ∷ reads) u h f = found_step (nat_eq w.0 i) i x w (find i reads) u refl h.0 (found_read i x reads u h.1) f

-- ---- changes
none_of : (xs ys : List Change) → xs ++ ys ≡ [] → (xs ≡ []) × (ys ≡ [])
none_of [] ys e = (refl, e)
none_of (x ∷ xs) ys e = absurd (cc)

no_change : (i : ℕ) (v : Value) → change_to i v (Some v) ≡ []
no_change i v = rw (value_same v) refl

pub unchanged : (reads : List (ℕ × Value)) (u : Variables) → AreRead reads u → changes_from reads u ≡ []
unchanged [] u h = refl
unchanged (r ∷ rs) u h =
    ap (λ (o : Option Value). change_to r.0 r.1 o ++ changes_from rs u) h.0
    ∙ ap (λ (xs : List Change). xs ++ changes_from rs u) (no_change r.0 r.1) ∙ unchanged rs u h.1

still_by : (b : Bool) (c : Change) (x y : Value) → same_value x y ≡ b → cond b [] (c ∷ []) ≡ [] → x ≡ y
still_by true c x y e h = value_equal x y e
still_by false c x y e h = absurd (cc)

still : (i : ℕ) (x y : Value) → change_to i x (Some y) ≡ [] → x ≡ y
still i x y h = still_by (same_value x y) (record { variable = i; read = x; left = y }) x y refl h

-- where nothing is left there is no change
pub none_left : (reads : List (ℕ × Value)) (u : Variables) → ((i : ℕ) → u i ≡ None) → [] ≡ changes_from reads u
none_left [] u h = refl
none_left (r ∷ rs) u h = none_left rs u h ∙ sym (ap (λ (o : Option Value). change_to r.0 r.1 o ++ changes_from rs u) (h r.0))

pub no_commit : (reads : List (ℕ × Value)) (n : ℕ) (v : Verdict) → ((ws : List (ℕ × Value)) (ns : List (Ty × Value)) (given : Value) → v ≡ Commits ws ns given → ⊥) → [] ≡ changes_from reads (left_by_verdict n v)
no_commit reads n (Commits ws ns given) h = absurd (h ws ns given refl)
no_commit reads n (Throws f) h = none_left reads (left_by_verdict n (Throws f)) (λ i. refl)
no_commit reads n Blocks h = none_left reads (left_by_verdict n Blocks) (λ i. refl)

-- ---- what a verdict leaves
-- the change to a variable's new value is the one to the value that is left by a write, if there is one
record IsLeft (i : ℕ) (x : Value) (new left : Option Value) : Type 0 where
  pub same : change_to i x new ≡ change_to i x left
  pub stays : change_to i x left ≡ [] → new ≡ Some x

left_at : (i : ℕ) (x : Value) (new left : Option Value) → new ≡ first_of left (Some x) → IsLeft i x new left
left_at i x new None e = record { same = ap (change_to i x) e ∙ no_change i x; stays = λ h. e }
left_at i x new (Some y) e = record { same = ap (change_to i x) e; stays = λ h. e ∙ ap Some (sym (still i x y h)) }

value_of : (cells : List Cell) (i : ℕ) → under cells i ≡ option_map (λ c. c.value) (slice_get cells i)
value_of cells i = ap (option_map (λ c. c.1)) (slice_get-map plain cells i) ∙ twice (slice_get cells i) where
  twice : (o : Option Cell) → option_map (λ c. c.1) (option_map plain o) ≡ option_map (λ c. c.value) o
  twice None = refl
  twice (Some c) = refl

written_value : (n : ℕ) (w : Option Value) (c : Cell) → option_map (λ d. d.value) (option_map (after_write n w) (Some c)) ≡ first_of (option_map (renumbered n) w) (Some c.value)
written_value n None c = refl
written_value n (Some y) c = refl

under_by : (cells : List Cell) (v : Verdict) (i : ℕ) (x : Value) (o : Option Cell) → Fits (plains cells) v → slice_get cells i ≡ o → option_map (λ c. c.value) o ≡ Some x → under (applied cells v) i ≡ first_of (left_by_verdict (length cells) v i) (Some x)
under_by cells v i x None f at e = absurd (cc)
under_by cells v i x (Some c) f at e =
    let there = (is_applied cells v f).olds i (slice_get_within cells i c at) in
    value_of (applied cells v) i
    ∙ ap (option_map (λ d. d.value)) (there ∙ ap (option_map (after_write (length cells) (written_by v i))) at)
    ∙ written_value (length cells) (written_by v i) c
    ∙ ap (first_of (left_by_verdict (length cells) v i)) e

under_left : (cells : List Cell) (v : Verdict) (i : ℕ) (x : Value) → Fits (plains cells) v → under cells i ≡ Some x → under (applied cells v) i ≡ first_of (left_by_verdict (length cells) v i) (Some x)
under_left cells v i x f e = under_by cells v i x (slice_get cells i) f refl (sym (value_of cells i) ∙ e)

-- a variable that has a value is there
pub is_within : (cells : List Cell) (i : ℕ) (x : Value) → under cells i ≡ Some x → i < length cells
is_within cells i x e = by (slice_get cells i) refl (sym (value_of cells i) ∙ e) where
  by : (o : Option Cell) → slice_get cells i ≡ o → option_map (λ c. c.value) o ≡ Some x → i < length cells
  by None at f = absurd (cc)
  by (Some c) at f = slice_get_within cells i c at

-- the changes of these reads are told by what the verdict writes, and if there are none they have their values still
pub record AreLeft (reads : List (ℕ × Value)) (new left : Variables) : Type 0 where
  pub same : changes_from reads new ≡ changes_from reads left
  pub stay : changes_from reads left ≡ [] → AreRead reads new

pub are_left : (reads : List (ℕ × Value)) (cells : List Cell) (v : Verdict) → Fits (plains cells) v → AreRead reads (under cells) → AreLeft reads (under (applied cells v)) (left_by_verdict (length cells) v)
are_left [] cells v f h = record { same = refl; stay = λ e. tt }
are_left (r ∷ rs) cells v f h =
    let new = under (applied cells v) in
    let left = left_by_verdict (length cells) v in
    let more = are_left rs cells v f h.1 in
    let one = left_at r.0 r.1 (new r.0) (left r.0) (under_left cells v r.0 r.1 f h.0) in
    record {
      same = ap (λ (xs : List Change). xs ++ changes_from rs new) one.same ∙ ap (λ (xs : List Change). change_to r.0 r.1 (left r.0) ++ xs) more.same;
      stay = λ e. let p = none_of (change_to r.0 r.1 (left r.0)) (changes_from rs left) e in (one.stays p.0, more.stay p.1);
    }
