-- What a write and a new cell do to the heap of a view.
use Rattle.std.proofs.Common.{arith, ◌+◌, ◌≡◌, ℕ, zero, suc, Bool, true, false, List, [], ◌∷◌, ◌++◌, length, Option, Some, None, refl, ap, sym, ◌∙◌}
use Rattle.std.specs.Prelude.{slice_get, slice_set, nat_eq, map, if◌then◌else◌}
use Rattle.std.proofs.Math.Dec.{eqb-suc-suc, eqb-suc-zero, eqb-zero-suc}
use Rattle.stm_terms.specs.declared.kinds.Ty.{Ty}
use Rattle.stm_terms.specs.declared.values.Ref.{Ref}
use Rattle.stm_terms.specs.declared.values.Ref.TheVariants.{Old, New}
use Rattle.stm_terms.specs.declared.values.Value.{Value}
use Rattle.stm_terms.specs.Changes.{Variables, Changes, find, put, first_of, cell_value, view_at, written, cell_written, made}
use Rattle.stm_check.proofs.ActionsSound.{mapped, find-put}
use Rattle.stm_paper_laws.specs.Transitions.{updated}
use Rattle.stm_paper_laws.specs.Laws.{heap_of, numbered_cells, cells_of}

-- ---- lists of cells
first_of_if : (b : Bool) (v : Value) (o u : Option Value) → (if b then Some v else first_of o u) ≡ first_of (if b then Some v else o) u
first_of_if true v o u = refl
first_of_if false v o u = refl

by : (b c : Bool) (x y : Option Value) → b ≡ c → (if b then x else y) ≡ (if c then x else y)
by b c x y e = ap (λ z. if z then x else y) e

set_read : (cells : List (Ty × Value)) (n j : ℕ) (c x : Ty × Value) → slice_get cells n ≡ Some c
    → (if nat_eq n j then Some x.1 else cell_value cells j) ≡ cell_value (slice_set cells n x) j
set_read [] n j c x e = absurd (cc)
set_read (d ∷ ds) zero zero c x e = refl
set_read (d ∷ ds) zero (suc j) c x e = by _ _ _ _ (eqb-zero-suc j)
set_read (d ∷ ds) (suc n) zero c x e = by _ _ _ _ (eqb-suc-zero n)
set_read (d ∷ ds) (suc n) (suc j) c x e = by _ _ _ _ (eqb-suc-suc n j) ∙ set_read ds n j c x e

set_kinds : (cells : List (Ty × Value)) (n : ℕ) (c : Ty × Value) (v : Value) → slice_get cells n ≡ Some c
    → map (λ d. d.0) cells ≡ map (λ d. d.0) (slice_set cells n (c.0, v))
set_kinds [] n c v e = refl
set_kinds (d ∷ ds) zero c v e = let p : d ≡ c = cc in ap (λ x. x.0 ∷ map (λ d. d.0) ds) p
set_kinds (d ∷ ds) (suc n) c v e = ap (λ l. d.0 ∷ l) (set_kinds ds n c v e)

set_numbered : (cells : List (Ty × Value)) (m n : ℕ) (c : Ty × Value) (v : Value) → slice_get cells n ≡ Some c
    → numbered_cells m cells ≡ numbered_cells m (slice_set cells n (c.0, v))
set_numbered [] m n c v e = refl
set_numbered (d ∷ ds) m zero c v e = let p : d ≡ c = cc in ap (λ x. (New m, x.0) ∷ numbered_cells (suc m) ds) p
set_numbered (d ∷ ds) m (suc n) c v e = ap (λ l. (New m, d.0) ∷ l) (set_numbered ds (suc m) n c v e)

push_read : (cells : List (Ty × Value)) (j : ℕ) (x : Ty × Value)
    → (if nat_eq (length cells) j then Some x.1 else cell_value cells j) ≡ cell_value (cells ++ x ∷ []) j
push_read [] zero x = refl
push_read [] (suc j) x = by _ _ _ _ (eqb-zero-suc j)
push_read (d ∷ ds) zero x = by _ _ _ _ (eqb-suc-zero (length ds))
push_read (d ∷ ds) (suc j) x = by _ _ _ _ (eqb-suc-suc (length ds) j) ∙ push_read ds j x

push_kinds : (cells : List (Ty × Value)) (x : Ty × Value) → map (λ d. d.0) cells ++ x.0 ∷ [] ≡ map (λ d. d.0) (cells ++ x ∷ [])
push_kinds [] x = refl
push_kinds (d ∷ ds) x = ap (λ l. d.0 ∷ l) (push_kinds ds x)

pub length_kinds : (cells : List (Ty × Value)) → length (map (λ d. d.0) cells) ≡ length cells
length_kinds [] = refl
length_kinds (d ∷ ds) = ap suc (length_kinds ds)

no_more : (n : ℕ) → n + 0 ≡ n
no_more n = omega arith

one_on : (n m : ℕ) → n + suc m ≡ suc n + m
one_on n m = omega arith

from_zero : (n : ℕ) → n ≡ 0 + n
from_zero n = omega arith

push_numbered : (cells : List (Ty × Value)) (n : ℕ) (x : Ty × Value) → numbered_cells n cells ++ (New (n + length cells), x.0) ∷ [] ≡ numbered_cells n (cells ++ x ∷ [])
push_numbered [] n x = ap (λ m. (New m, x.0) ∷ []) (no_more n)
push_numbered (d ∷ ds) n x =
    ap (λ m. (New n, d.0) ∷ (numbered_cells (suc n) ds ++ (New m, x.0) ∷ [])) (one_on n (length ds)) ∙ ap (λ l. (New n, d.0) ∷ l) (push_numbered ds (suc n) x)

none_behind : (cells : List (Ty × Value)) → cell_value cells (length cells) ≡ None
none_behind [] = refl
none_behind (d ∷ ds) = none_behind ds

-- ---- heaps of views
-- the types of the cells that were made in a view
abbrev pub made_types_of : Changes → List Ty
made_types_of h = map (λ c. c.0) h.news

-- the heap of a view with a reference written that it has
abbrev pub WrittenThere : Variables → Changes → Ref → Value → Type 0
WrittenThere under h r v =
    (k : Changes) × (written h r v ≡ Some k) × (updated (heap_of under h) r v ≡ heap_of under k) × (cells_of h ≡ cells_of k) × (made_types_of h ≡ made_types_of k)

old_heap : (under : Variables) (h : Changes) (i : ℕ) (v : Value) (s : Ref) → updated (heap_of under h) (Old i) v s ≡ view_at under (record h { writes = put i v h.writes }) s
old_heap under h i v (Old j) = first_of_if (nat_eq i j) v (find j h.writes) (under j) ∙ ap (λ o. first_of o (under j)) (sym (find-put i j v h.writes))
old_heap under h i v (New j) = refl

new_heap : (under : Variables) (h : Changes) (n : ℕ) (c : Ty × Value) (v : Value) → slice_get h.news n ≡ Some c → (s : Ref)
    → updated (heap_of under h) (New n) v s ≡ view_at under (record h { news = slice_set h.news n (c.0, v) }) s
new_heap under h n c v e (Old j) = refl
new_heap under h n c v e (New j) = set_read h.news n j c (c.0, v) e

pub written_there : (under : Variables) (h : Changes) (r : Ref) (v w : Value) → heap_of under h r ≡ Some w → WrittenThere under h r v
written_there under h (Old i) v w e = (record h { writes = put i v h.writes }, refl, (λ j s. old_heap under h i v s j), refl, refl)
written_there under h (New n) v w e =
    let m = mapped (λ c. c.1) (slice_get h.news n) w e in
    (record h { news = slice_set h.news n (m.0.0, v) }, ap (cell_written h n v) m.1, (λ j s. new_heap under h n m.0 v m.1 s j), set_numbered h.news 0 n m.0 v m.1, set_kinds h.news n m.0 v m.1)

made_heap_at : (under : Variables) (h : Changes) (t : Ty) (v : Value) (s : Ref) → updated (heap_of under h) (New (length h.news)) v s ≡ view_at under (made h t v) s
made_heap_at under h t v (Old j) = refl
made_heap_at under h t v (New j) = push_read h.news j (t, v)

-- the heap of a view with a cell made
pub made_heap : (under : Variables) (h : Changes) (t : Ty) (v : Value) → updated (heap_of under h) (New (length h.news)) v ≡ heap_of under (made h t v)
made_heap under h t v = λ j s. made_heap_at under h t v s j

pub made_cells : (h : Changes) (t : Ty) (v : Value) → cells_of h ++ (New (length h.news), t) ∷ [] ≡ cells_of (made h t v)
made_cells h t v = ap (λ n. cells_of h ++ (New n, t) ∷ []) (from_zero (length h.news)) ∙ push_numbered h.news 0 (t, v)

pub made_types : (h : Changes) (t : Ty) (v : Value) → made_types_of h ++ t ∷ [] ≡ made_types_of (made h t v)
made_types h t v = push_kinds h.news (t, v)

-- the next cell isn't in use
pub next_is_free : (under : Variables) (h : Changes) → heap_of under h (New (length h.news)) ≡ None
next_is_free under h = none_behind h.news
