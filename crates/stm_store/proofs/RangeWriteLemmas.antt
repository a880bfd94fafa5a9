-- Writes to a stretch of cells, and to what follows it.
use Rattle.std.proofs.Common.{◌≡◌, ℕ, suc, ◌+◌, ◌-◌, ◌<◌, ◌≤◌, ◌==◌, true, false, cond, nat_lt, List, [], ◌∷◌, ◌++◌, get_or, Option, Some, None, length, take, drop, set, refl, sym, ap, subst, ◌∙◌, arith, add-one}
use Rattle.std.specs.Prelude.{slice_get, Result, Ok, Err, OnOk, OnErr}
use Rattle.std.specs.List.{prefix_len}
use Rattle.std.proofs.lemmas.List.{set-append_left, take-append-drop, length-take-le}
use Rattle.std.proofs.lemmas.List.Sums.{prefix_len-le-length}
use Rattle.std.proofs.lemmas.Option.{slice_get-get_or}
use Rattle.std.proofs.Math.Seq.{take-append_seam, drop-cons}
use Rattle.std.proofs.lemmas.Bool.{ltb-false, ltb-true}
use Rattle.stm_terms.specs.declared.values.Value.{Value}
use Rattle.stm_terms.specs.Typing.{AllAbove, Rising}
use Rattle.stm_store.specs.declared.cell.Cell.{Cell}
use Rattle.stm_store.specs.Cells.{rewritten, with_write, with_writes}
use Rattle.stm_store.specs.FreshReferences.{AreWritable}
use Rattle.stm_store.specs.RangeWrites.{with_writes_from, AreWithin, StartsBelow}
use Rattle.stm_store.proofs.PageLists.{get_left, get_right, set_right}
use Rattle.stm_store.proofs.ApplyPreservesTyping.{length-write, length-writes}

-- ---- one write, to the front or after it
set_here : (n : ℕ) (xs ys : List Cell) (i : ℕ) (v : Value) (o : Option Cell) → i < length xs → with_write n (xs ++ ys) i v o ≡ with_write n xs i v o ++ ys
set_here n xs ys i v (Some c) h = set-append_left xs ys i (rewritten n v c) h
set_here n xs ys i v None h = refl

write_here : (n : ℕ) (xs ys : List Cell) (i : ℕ) (v : Value) → i < length xs → with_write n (xs ++ ys) i v (slice_get (xs ++ ys) i) ≡ with_write n xs i v (slice_get xs i) ++ ys
write_here n xs ys i v h = rw (get_left xs ys i h) (set_here n xs ys i v (slice_get xs i) h)

set_behind : (n : ℕ) (xs ys : List Cell) (i j : ℕ) (v : Value) (o : Option Cell) → i ≡ length xs + j → with_write n (xs ++ ys) i v o ≡ xs ++ with_write n ys j v o
set_behind n xs ys i j v (Some c) e = set_right xs ys i j (rewritten n v c) e
set_behind n xs ys i j v None e = refl

write_behind : (n : ℕ) (xs ys : List Cell) (i j : ℕ) (v : Value) → i ≡ length xs + j → with_write n (xs ++ ys) i v (slice_get (xs ++ ys) i) ≡ xs ++ with_write n ys j v (slice_get ys j)
write_behind n xs ys i j v e = rw (get_right xs ys i j e) (set_behind n xs ys i j v (slice_get ys j) e)

-- ---- the bounds of writes
pub from_lower : (n i k j : ℕ) (ws : List (ℕ × Value)) → i ≤ k → AreWithin n k j ws → AreWithin n i j ws
from_lower n i k j [] h a = tt
from_lower n i k j (w ∷ ws) h a = (omega (arith, a.0), a.1, a.2, a.3)

above : (n m j : ℕ) (ws : List (ℕ × Value)) → AllAbove m ws → Rising ws → AreWritable n ws → n ≤ j → AreWithin n (m + 1) j ws
above n m j [] a r w h = tt
above n m j (x ∷ ws) a r w h = (omega (arith, a.0), omega (arith, w.0), w.1, above n x.0 j ws r.0 r.1 w.2 h)

-- writes of which the first is to cell k or one after it
pub from_first_write : (n i k j : ℕ) (ws : List (ℕ × Value)) (d : ℕ × Value) → AreWithin n i j ws → k ≤ (get_or ws 0 d).0 → AreWithin n k j ws
from_first_write n i k j [] d a h = tt
from_first_write n i k j (w ∷ ws) d a h = (h, a.1, a.2, a.3)

pub first_write : (n i j : ℕ) (ws : List (ℕ × Value)) (d : ℕ × Value) → AreWithin n i j ws → 0 < length ws → (i ≤ (get_or ws 0 d).0) × ((get_or ws 0 d).0 < j)
first_write n i j [] d a h = absurd (omega arith)
first_write n i j (w ∷ ws) d a h = (a.0, a.1)

pub starts_below : (b : ℕ) (ws : List (ℕ × Value)) (d : ℕ × Value) → 0 < length ws → (get_or ws 0 d).0 < b → StartsBelow b ws
starts_below b [] d h l = absurd (omega arith)
starts_below b (w ∷ ws) d h l = l

-- ascending writes to cells among n
pub all_within : (n j : ℕ) (ws : List (ℕ × Value)) → Rising ws → AreWritable n ws → n ≤ j → AreWithin n 0 j ws
all_within n j [] r w h = tt
all_within n j (x ∷ ws) r w h = (omega arith, omega (arith, w.0), w.1, above n x.0 j ws r.0 r.1 w.2 h)

-- ---- the writes before a place b, and those from it on
-- how many of the first writes are before b
abbrev pub before : ℕ → List (ℕ × Value) → ℕ
before b ws = prefix_len (λ w. nat_lt w.0 b) ws

one_more : (n : ℕ) → 1 + n ≡ suc n
one_more n = omega arith

pub before_few : (b : ℕ) (ws : List (ℕ × Value)) → before b ws ≤ length ws
before_few b ws = prefix_len-le-length (λ w. nat_lt w.0 b) ws

pub first_within : (n i b j : ℕ) (ws : List (ℕ × Value)) → AreWithin n i j ws → AreWithin n i b (take (before b ws) ws)
first_within n i b j [] a = tt
first_within n i b j (w ∷ ws) a =
    elim (nat_lt w.0 b) as (λ t. nat_lt w.0 b ≡ t → AreWithin n i b (take (cond t (1 + before b ws) 0) (w ∷ ws))) [
      | true ↦ λ e. rw (one_more (before b ws)) (a.0, ltb-true w.0 b e, a.2, first_within n (w.0 + 1) b j ws a.3)
      | false ↦ λ e. tt
    ] refl

pub others_within : (n i b j : ℕ) (ws : List (ℕ × Value)) → AreWithin n i j ws → AreWithin n b j (drop (before b ws) ws)
others_within n i b j [] a = tt
others_within n i b j (w ∷ ws) a =
    elim (nat_lt w.0 b) as (λ t. nat_lt w.0 b ≡ t → AreWithin n b j (drop (cond t (1 + before b ws) 0) (w ∷ ws))) [
      | true ↦ λ e. rw (one_more (before b ws)) (others_within n (w.0 + 1) b j ws a.3)
      | false ↦ λ e. (ltb-false w.0 b e, a.1, a.2, a.3)
    ] refl

pub some_before : (b : ℕ) (ws : List (ℕ × Value)) → StartsBelow b ws → 0 < before b ws
some_before b [] s = absurd s
some_before b (w ∷ ws) s =
    elim (nat_lt w.0 b) as (λ t. nat_lt w.0 b ≡ t → 0 < cond t (1 + before b ws) 0) [
      | true ↦ λ e. omega arith
      | false ↦ λ e. absurd (let l = ltb-false w.0 b e in omega arith)
    ] refl

-- ---- the cells that writes leave
pub length-writes_from : (n i : ℕ) (ws : List (ℕ × Value)) (cs : List Cell) → length (with_writes_from n i ws cs) ≡ length cs
length-writes_from n i [] cs = refl
length-writes_from n i (w ∷ ws) cs =
    length-writes_from n i ws (with_write n cs (w.0 - i) w.1 (slice_get cs (w.0 - i))) ∙ length-write n cs (w.0 - i) w.1 (slice_get cs (w.0 - i))

pub length-after : {T E : Type 0} (r : Result T E) (n i : ℕ) (ws : List (ℕ × Value)) (old new : List Cell) → OnOk r (new ≡ with_writes_from n i ws old) → OnErr r (new ≡ old) → length new ≡ length old
length-after (Ok x) n i ws old new p q = ap length p ∙ length-writes_from n i ws old
length-after (Err e) n i ws old new p q = ap length q

-- writes to what follows xs
pub writes_behind : (n i b j : ℕ) (ws : List (ℕ × Value)) (xs ys : List Cell) → AreWithin n b j ws → b ≡ i + length xs → with_writes_from n i ws (xs ++ ys) ≡ xs ++ with_writes_from n b ws ys
writes_behind n i b j [] xs ys a e = refl
writes_behind n i b j (w ∷ ws) xs ys a e =
    ap (with_writes_from n i ws) (write_behind n xs ys (w.0 - i) (w.0 - b) w.1 (omega (arith, a.0)))
    ∙ writes_behind n i b j ws xs (with_write n ys (w.0 - b) w.1 (slice_get ys (w.0 - b))) (from_lower n b (w.0 + 1) j ws (omega (arith, a.0)) a.3) e

pub written_behind : (n i b j : ℕ) (ws : List (ℕ × Value)) (xs ys zs old new : List Cell) → AreWithin n b j ws → b ≡ i + length xs → old ≡ xs ++ ys → new ≡ xs ++ zs → zs ≡ with_writes_from n b ws ys → new ≡ with_writes_from n i ws old
written_behind n i b j ws xs ys zs old new a e p q r =
    q ∙ ap (λ (l : List Cell). xs ++ l) r ∙ sym (writes_behind n i b j ws xs ys a e) ∙ ap (with_writes_from n i ws) (sym p)

-- writes to xs and to what follows it
pub writes_both : (n i b j : ℕ) (ws : List (ℕ × Value)) (xs ys : List Cell) → AreWithin n i j ws → b ≡ i + length xs
    → with_writes_from n i ws (xs ++ ys) ≡ with_writes_from n i (take (before b ws) ws) xs ++ with_writes_from n b (drop (before b ws) ws) ys
writes_both n i b j [] xs ys a e = refl
writes_both n i b j (w ∷ ws) xs ys a e =
    elim (nat_lt w.0 b) as (λ t. nat_lt w.0 b ≡ t → with_writes_from n i (w ∷ ws) (xs ++ ys) ≡ with_writes_from n i (take (cond t (1 + before b ws) 0) (w ∷ ws)) xs ++ with_writes_from n b (drop (cond t (1 + before b ws) 0) (w ∷ ws)) ys) [
      | true ↦ λ t.
          let l = ltb-true w.0 b t in
          let cs = with_write n xs (w.0 - i) w.1 (slice_get xs (w.0 - i)) in
          let kept : b ≡ i + length cs = omega (arith, length-write n xs (w.0 - i) w.1 (slice_get xs (w.0 - i))) in
          rw (one_more (before b ws))
          (ap (with_writes_from n i ws) (write_here n xs ys (w.0 - i) w.1 (omega (arith, a.0)))
          ∙ writes_both n i b j ws cs ys (from_lower n i (w.0 + 1) j ws (omega (arith, a.0)) a.3) kept)
      | false ↦ λ t. writes_behind n i b j (w ∷ ws) xs ys (ltb-false w.0 b t, a.1, a.2, a.3) e
    ] refl

-- ---- writes to the front of a whole list
pub from_first : (n : ℕ) (ws : List (ℕ × Value)) (cs : List Cell) → with_writes_from n 0 ws cs ≡ with_writes n ws cs
from_first n [] cs = refl
from_first n (w ∷ ws) cs =
    let whole : w.0 - 0 ≡ w.0 = omega arith in
    rw whole (from_first n ws (with_write n cs w.0 w.1 (slice_get cs w.0)))

pub writes_here : (n k : ℕ) (ws : List (ℕ × Value)) (xs ys : List Cell) → AreWritable k ws → k ≤ length xs → with_writes n ws (xs ++ ys) ≡ with_writes n ws xs ++ ys
writes_here n k [] xs ys w h = refl
writes_here n k (x ∷ ws) xs ys w h =
    let cs = with_write n xs x.0 x.1 (slice_get xs x.0) in
    ap (with_writes n ws) (write_here n xs ys x.0 x.1 (omega (arith, w.0)))
    ∙ writes_here n k ws cs ys w.2 (omega (arith, length-write n xs x.0 x.1 (slice_get xs x.0)))

pub take_writes : (n k m : ℕ) (ws : List (ℕ × Value)) (cs : List Cell) → AreWritable k ws → k ≤ m → m ≤ length cs → take m (with_writes n ws cs) ≡ with_writes n ws (take m cs)
take_writes n k m ws cs w h l =
    let front = take m cs in
    let long : length front ≡ m = length-take-le m cs l in
    let kept : length (with_writes n ws front) ≡ m = length-writes n ws front ∙ long in
    let parts : with_writes n ws cs ≡ with_writes n ws front ++ drop m cs = ap (with_writes n ws) (sym (take-append-drop m cs)) ∙ writes_here n k ws front (drop m cs) w (omega arith) in
    ap (take m) parts ∙ subst (λ (i : ℕ). take i (with_writes n ws front ++ drop m cs) ≡ with_writes n ws front) kept (take-append_seam (with_writes n ws front) (drop m cs))

-- ---- one write after another
pub rest_within : (n i j k : ℕ) (ws : List (ℕ × Value)) (d : ℕ × Value) → k < length ws → AreWithin n i j (drop k ws) → AreWithin n i j (drop (k + 1) ws)
rest_within n i j k ws d h a =
    let p = rw (drop-cons ws k d h) at a in
    rw add-one (from_lower n i ((get_or ws k d).0 + 1) j (drop (suc k) ws) (omega (arith, p.0)) p.3)

pub at_within : (n i j k : ℕ) (ws : List (ℕ × Value)) (d : ℕ × Value) → k < length ws → AreWithin n i j (drop k ws) → (i ≤ (get_or ws k d).0) × ((get_or ws k d).0 < j)
at_within n i j k ws d h a =
    let p = rw (drop-cons ws k d h) at a in
    (p.0, p.1)

pub write_step : (n i k : ℕ) (ws : List (ℕ × Value)) (d : ℕ × Value) (cs : List Cell) (e o r : Cell) → k < length ws → (get_or ws k d).0 - i < length cs
    → o ≡ get_or cs ((get_or ws k d).0 - i) e → r ≡ rewritten n ((get_or ws k d).1) o
    → with_writes_from n i (drop (k + 1) ws) (set cs ((get_or ws k d).0 - i) r) ≡ with_writes_from n i (drop k ws) cs
write_step n i k ws d cs e o r h less p q =
    let w = get_or ws k d in
    let there : slice_get cs (w.0 - i) ≡ Some o = slice_get-get_or cs (w.0 - i) e less ∙ ap Some (sym p) in
    let written : with_write n cs (w.0 - i) w.1 (slice_get cs (w.0 - i)) ≡ set cs (w.0 - i) r = ap (with_write n cs (w.0 - i) w.1) there ∙ ap (set cs (w.0 - i)) (sym q) in
    let rest : drop k ws ≡ w ∷ drop (suc k) ws = drop-cons ws k d h in
    rw (add-one, rest) (sym (ap (with_writes_from n i (drop (suc k) ws)) written))

pub some_writes : (ws : List (ℕ × Value)) → false ≡ (length ws == 0) → 0 < length ws
some_writes [] e = absurd (cc)
some_writes (w ∷ ws) e = omega arith

-- if there is a write, there is a cell
pub some_cells : (n j : ℕ) (ws : List (ℕ × Value)) → AreWithin n 0 j ws → 0 < length ws → 0 < j
some_cells n j [] a h = absurd (omega arith)
some_cells n j (w ∷ ws) a h = omega (arith, a.1)
