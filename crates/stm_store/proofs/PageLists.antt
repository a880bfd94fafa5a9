-- An item's page and its place in the page, in a list of pages and behind pointers to them.
use Rattle.std.proofs.Common.{◌≡◌, ℕ, zero, suc, ◌+◌, ◌-◌, ◌*◌, ◌<◌, ◌≤◌, List, [], ◌∷◌, ◌++◌, length, get_or, set, map, refl, sym, ap, ◌∙◌, arith, length-append, append_assoc, append-nil, length-set}
use Rattle.std.specs.Prelude.{min, slice_get, Result, Ok, Err, OnOk, OnErr}
use Rattle.std.proofs.lemmas.List.{set-append_left, length-map, map-set, map-append, with_items_is}
use Rattle.std.specs.declared.alloc.Global.{Global}
use Rattle.std.specs.declared.sync.Arc.{Arc}
use Rattle.std.specs.declared.vec.Vec.{Vec}
use Rattle.std.specs.Arc.{arc_value}
use Rattle.std.specs.List.{AllZip}
use Rattle.std.specs.Vec.{with_items}
use Rattle.stm_store.specs.Pages.{contents_by, contents, sizes, flatten, ArePages}

pub on_ok : {T E P Q : Type 0} (r : Result T E) → OnOk r P → (P → Q) → OnOk r Q
on_ok (Ok x) p f = f p
on_ok (Err e) p f = tt

pub on_err_of : {T E P Q : Type 0} (r : Result T E) → OnErr r P → (P → Q) → OnErr r Q
on_err_of (Ok x) p f = tt
on_err_of (Err e) p f = f p

pub on_err : {T E Q : Type 0} (r : Result T E) → Q → OnErr r Q
on_err (Ok x) q = tt
on_err (Err e) q = q

module _ {A : Type 0} where
  pub get_left : (xs ys : List A) (i : ℕ) → i < length xs → slice_get (xs ++ ys) i ≡ slice_get xs i
  get_left [] ys i h = absurd (omega arith)
  get_left (x ∷ xs) ys zero h = refl
  get_left (x ∷ xs) ys (suc i) h = get_left xs ys i (omega arith)

  pub get_right : (xs ys : List A) (i j : ℕ) → i ≡ length xs + j → slice_get (xs ++ ys) i ≡ slice_get ys j
  get_right [] ys i j e = let same : i ≡ j = omega arith in ap (slice_get ys) same
  get_right (x ∷ xs) ys zero j e = absurd (omega arith)
  get_right (x ∷ xs) ys (suc i) j e = get_right xs ys i j (omega arith)

  pub set_right : (xs ys : List A) (i j : ℕ) (v : A) → i ≡ length xs + j → set (xs ++ ys) i v ≡ xs ++ set ys j v
  set_right [] ys i j v e = let same : i ≡ j = omega arith in ap (λ (n : ℕ). set ys n v) same
  set_right (x ∷ xs) ys zero j v e = absurd (omega arith)
  set_right (x ∷ xs) ys (suc i) j v e = ap (λ (zs : List A). x ∷ zs) (set_right xs ys i j v (omega arith))

  -- the page behind the i-th pointer
  pub get_content : {P : Type 0} (items : P → List A) (ptrs : List (Arc P Global)) (i : ℕ) (a : Arc P Global) → i < length ptrs → a ≡ get_or ptrs i a → items (arc_value a) ≡ get_or (contents_by items ptrs) i []
  get_content items [] i a h e = absurd (omega arith)
  get_content items (b ∷ ptrs) zero a h e = ap (λ (p : Arc _ Global). items (arc_value p)) e
  get_content items (b ∷ ptrs) (suc i) a h e = get_content items ptrs i a (omega arith) e

  -- clones of pointers lead to the same pages
  pub same_contents : {P : Type 0} (items : P → List A) (ptrs qtrs : List (Arc P Global)) → AllZip (λ c d. arc_value d ≡ arc_value c) ptrs qtrs → contents_by items qtrs ≡ contents_by items ptrs
  same_contents items [] [] e = refl
  same_contents items [] (q ∷ qtrs) e = absurd e
  same_contents items (p ∷ ptrs) [] e = absurd e
  same_contents items (p ∷ ptrs) (q ∷ qtrs) e = rw (e.0, same_contents items ptrs qtrs e.1) refl

  -- as many pages, if their lengths are the same
  pub count-sizes : (ptrs qtrs : List (Arc (List A) Global)) → sizes qtrs ≡ sizes ptrs → length qtrs ≡ length ptrs
  count-sizes ptrs qtrs e =
      omega (arith, ap length e, length-map (contents ptrs) length, length-map (contents qtrs) length, length-map ptrs arc_value, length-map qtrs arc_value)

  -- a Vec of pointers with others in their place, to pages of the same lengths
  pub vec-pages : (v : Vec (Arc (List A) Global) Global) (ws : List (Arc (List A) Global)) → sizes ws ≡ sizes v.items → contents (with_items v ws).items ≡ contents ws
  vec-pages v ws e = ap contents (with_items_is v ws (omega (arith, count-sizes v.items ws e, v.ok.0)))

module _ {A : Type 0} (s : ℕ) (full : 0 < s) where
  pub length-flatten : (n : ℕ) (ps : List (List A)) → ArePages s n ps → length (flatten ps) ≡ n
  length-flatten n [] f = sym f
  length-flatten n (p ∷ ps) f = omega (arith, length-append p (flatten ps), length-flatten (n - s) ps f.2, f.0, f.1)

  pub page_within : (n : ℕ) (ps : List (List A)) (i p : ℕ) → ArePages s n ps → s * p ≤ i → i < n → p < length ps
  page_within n [] i p f l h = absurd (omega (arith, f))
  page_within n (q ∷ ps) i zero f l h = omega arith
  page_within n (q ∷ ps) i (suc p) f l h = omega (arith, page_within (n - s) ps (i - s) p f.2 (omega arith) (omega arith))

  pub page_length : (n : ℕ) (ps : List (List A)) (p : ℕ) → ArePages s n ps → p < length ps → length (get_or ps p []) ≡ min s (n - s * p)
  page_length n [] p f h = absurd (omega arith)
  page_length n (q ∷ ps) zero f h = omega (arith, f.1)
  page_length n (q ∷ ps) (suc p) f h = omega (arith, page_length (n - s) ps p f.2 (omega arith))

  pub get_flatten : (n : ℕ) (ps : List (List A)) (p k i : ℕ) → ArePages s n ps → i < n → k < s → i ≡ s * p + k → slice_get (flatten ps) i ≡ slice_get (get_or ps p []) k
  get_flatten n [] p k i f h less e = absurd (omega (arith, f))
  get_flatten n (q ∷ ps) zero k i f h less e =
      let same : i ≡ k = omega arith in
      ap (slice_get (q ++ flatten ps)) same ∙ get_left q (flatten ps) k (omega (arith, f.1))
  get_flatten n (q ∷ ps) (suc p) k i f h less e =
      get_right q (flatten ps) i (s * p + k) (omega (arith, f.1)) ∙ get_flatten (n - s) ps p k (s * p + k) f.2 (omega arith) less refl

  pub set_flatten : (n : ℕ) (ps : List (List A)) (p k i : ℕ) (v : A) → ArePages s n ps → i < n → k < s → i ≡ s * p + k → set (flatten ps) i v ≡ flatten (set ps p (set (get_or ps p []) k v))
  set_flatten n [] p k i v f h less e = absurd (omega (arith, f))
  set_flatten n (q ∷ ps) zero k i v f h less e =
      let same : i ≡ k = omega arith in
      rw same (set-append_left q (flatten ps) k v (omega (arith, f.1)))
  set_flatten n (q ∷ ps) (suc p) k i v f h less e =
      set_right q (flatten ps) i (s * p + k) v (omega (arith, f.1)) ∙ ap (λ (zs : List A). q ++ zs) (set_flatten (n - s) ps p k (s * p + k) v f.2 (omega arith) less refl)

  -- a page in the place of one of its length
  pub pages-set : (n : ℕ) (ps : List (List A)) (p : ℕ) (q : List A) → ArePages s n ps → length q ≡ length (get_or ps p []) → ArePages s n (set ps p q)
  pages-set n [] p q f e = f
  pages-set n (r ∷ ps) zero q f e = (f.0, e ∙ f.1, f.2)
  pages-set n (r ∷ ps) (suc p) q f e = (f.0, f.1, pages-set (n - s) ps p q f.2 e)

  pub flatten-set_same : (ps : List (List A)) (p : ℕ) → flatten (set ps p (get_or ps p [])) ≡ flatten ps
  flatten-set_same [] p = refl
  flatten-set_same (q ∷ ps) zero = refl
  flatten-set_same (q ∷ ps) (suc p) = ap (λ (zs : List A). q ++ zs) (flatten-set_same ps p)

  -- a cell more, on a page of its own
  pub flatten-push : (ps : List (List A)) (q : List A) → flatten (ps ++ q ∷ []) ≡ flatten ps ++ q
  flatten-push [] q = append-nil q
  flatten-push (p ∷ ps) q = ap (λ (zs : List A). p ++ zs) (flatten-push ps q) ∙ sym (append_assoc p (flatten ps) q)

  pub pages-push : (n : ℕ) (ps : List (List A)) (p : ℕ) (c : A) → ArePages s n ps → n ≡ s * p → ArePages s (n + 1) (ps ++ (c ∷ []) ∷ [])
  pages-push n [] p c f e = (omega (arith, f), omega (arith, f), omega (arith, f))
  pages-push n (q ∷ ps) zero c f e = absurd (omega (arith, f.0))
  pages-push n (q ∷ ps) (suc p) c f e =
      let same : n + 1 - s ≡ n - s + 1 = omega arith in
      (omega arith, omega (arith, f.1), rw same (pages-push (n - s) ps p c f.2 (omega arith)))

  -- a cell more, on the last page
  pub flatten-extend : (n : ℕ) (ps : List (List A)) (p k : ℕ) (c : A) → ArePages s n ps → n ≡ s * p + k → 0 < k → k < s → flatten (set ps p (get_or ps p [] ++ c ∷ [])) ≡ flatten ps ++ c ∷ []
  flatten-extend n [] p k c f e h less = absurd (omega (arith, f))
  flatten-extend n (q ∷ []) zero k c f e h less = append-nil (q ++ c ∷ []) ∙ ap (λ (zs : List A). zs ++ c ∷ []) (sym (append-nil q))
  flatten-extend n (q ∷ r ∷ ps) zero k c f e h less = absurd (omega (arith, f.2.0))
  flatten-extend n (q ∷ ps) (suc p) k c f e h less =
      ap (λ (zs : List A). q ++ zs) (flatten-extend (n - s) ps p k c f.2 (omega arith) h less) ∙ sym (append_assoc q (flatten ps) (c ∷ []))

  pub pages-extend : (n : ℕ) (ps : List (List A)) (p k : ℕ) (c : A) → ArePages s n ps → n ≡ s * p + k → 0 < k → k < s → ArePages s (n + 1) (set ps p (get_or ps p [] ++ c ∷ []))
  pages-extend n [] p k c f e h less = absurd (omega (arith, f))
  pages-extend n (q ∷ ps) zero k c f e h less =
      let same : n + 1 - s ≡ n - s = omega arith in
      (omega arith, omega (arith, f.1, length-append q (c ∷ [])), rw same f.2)
  pages-extend n (q ∷ ps) (suc p) k c f e h less =
      let same : n + 1 - s ≡ n - s + 1 = omega arith in
      (omega arith, omega (arith, f.1), rw same (pages-extend (n - s) ps p k c f.2 (omega arith) h less))

  -- other pages of the same lengths
  pub pages-sizes : (n : ℕ) (ps qs : List (List A)) → ArePages s n ps → map length qs ≡ map length ps → ArePages s n qs
  pages-sizes n [] [] f e = f
  pages-sizes n [] (q ∷ qs) f e = absurd (cc)
  pages-sizes n (p ∷ ps) [] f e = absurd (cc)
  pages-sizes n (p ∷ ps) (q ∷ qs) f e =
      let first : length q ≡ length p = cc in
      let others : map length qs ≡ map length ps = cc in
      (f.0, first ∙ f.1, pages-sizes (n - s) ps qs f.2 others)

  pub vec-sizes : (n : ℕ) (v : Vec (Arc (List A) Global) Global) (ws : List (Arc (List A) Global)) → ArePages s n (contents v.items) → sizes ws ≡ sizes v.items → ArePages s n (contents (with_items v ws).items)
  vec-sizes n v ws f e = rw (vec-pages v ws e) (pages-sizes n (contents v.items) (contents ws) f e)

module _ {A P : Type 0} (s : ℕ) (full : 0 < s) (items : P → List A) where
  -- a list of pointers to pages: facts that a change of one pointer keeps
  pub record Kept (n : ℕ) (ptrs : List (Arc P Global)) (cells : List A) : Type 0 where
    pub pages : ArePages s n (contents_by items ptrs)
    pub cells_are : flatten (contents_by items ptrs) ≡ cells

  count : (ptrs : List (Arc P Global)) → length (contents_by items ptrs) ≡ length ptrs
  count ptrs = length-map ptrs (λ p. items (arc_value p))

  -- as many items as are counted
  pub length-items : (n : ℕ) (ptrs : List (Arc P Global)) (whole : List A) → ArePages s n (contents_by items ptrs) → flatten (contents_by items ptrs) ≡ whole → length whole ≡ n
  length-items n ptrs whole f e = ap length (sym e) ∙ length-flatten s full n (contents_by items ptrs) f

  pub within : (n : ℕ) (ptrs : List (Arc P Global)) (i p : ℕ) → ArePages s n (contents_by items ptrs) → s * p ≤ i → i < n → p < length ptrs
  within n ptrs i p f l h = omega (arith, page_within s full n (contents_by items ptrs) i p f l h, count ptrs)

  pub page_at : (n : ℕ) (ptrs : List (Arc P Global)) (p : ℕ) (a : Arc P Global) → ArePages s n (contents_by items ptrs) → p < length ptrs → a ≡ get_or ptrs p a → length (items (arc_value a)) ≡ min s (n - s * p)
  page_at n ptrs p a f h e =
      ap length (get_content items ptrs p a h e) ∙ page_length s full n (contents_by items ptrs) p f (omega (arith, count ptrs))

  pub kept-set : (n : ℕ) (ptrs : List (Arc P Global)) (p k i : ℕ) (a b : Arc P Global) (v : A) → ArePages s n (contents_by items ptrs) → i < n → k < s → i ≡ s * p + k → a ≡ get_or ptrs p a → items (arc_value b) ≡ set (items (arc_value a)) k v → Kept n (set ptrs p b) (set (flatten (contents_by items ptrs)) i v)
  kept-set n ptrs p k i a b v f h less e at is =
      let w = within n ptrs i p f (omega arith) h in
      let q = get_content items ptrs p a w at in
      let b_is : items (arc_value b) ≡ set (get_or (contents_by items ptrs) p []) k v = is ∙ ap (λ (xs : List A). set xs k v) q in
      record {
        pages = rw map-set (pages-set s full n (contents_by items ptrs) p (items (arc_value b)) f (ap length b_is ∙ length-set (get_or (contents_by items ptrs) p []) k v));
        cells_are = rw (map-set, b_is) (sym (set_flatten s full n (contents_by items ptrs) p k i v f h less e));
      }

  pub kept-same : (n : ℕ) (ptrs : List (Arc P Global)) (p : ℕ) (a b : Arc P Global) → ArePages s n (contents_by items ptrs) → p < length ptrs → a ≡ get_or ptrs p a → items (arc_value b) ≡ items (arc_value a) → Kept n (set ptrs p b) (flatten (contents_by items ptrs))
  kept-same n ptrs p a b f w at is =
      let b_is : items (arc_value b) ≡ get_or (contents_by items ptrs) p [] = is ∙ get_content items ptrs p a w at in
      record {
        pages = rw map-set (pages-set s full n (contents_by items ptrs) p (items (arc_value b)) f (ap length b_is));
        cells_are = rw (map-set, b_is) (flatten-set_same s full (contents_by items ptrs) p);
      }

  -- a change of a cell of the i-th page, made or refused
  pub pages-set_or_same : {T E : Type 0} (r : Result T E) (n : ℕ) (ptrs : List (Arc P Global)) (p k i : ℕ) (a b : Arc P Global) (v : A) → ArePages s n (contents_by items ptrs) → i < n → k < s → i ≡ s * p + k → a ≡ get_or ptrs p a → OnOk r (items (arc_value b) ≡ set (items (arc_value a)) k v) → OnErr r (items (arc_value b) ≡ items (arc_value a)) → ArePages s n (contents_by items (set ptrs p b))
  pages-set_or_same (Ok x) n ptrs p k i a b v f h less e at ok err = (kept-set n ptrs p k i a b v f h less e at ok).pages
  pages-set_or_same (Err x) n ptrs p k i a b v f h less e at ok err = (kept-same n ptrs p a b f (within n ptrs i p f (omega arith) h) at err).pages

  -- the last page, if it has room
  pub last_within : (n : ℕ) (ptrs : List (Arc P Global)) (p k : ℕ) → ArePages s n (contents_by items ptrs) → n ≡ s * p + k → 0 < k → p < length ptrs
  last_within n ptrs p k f e h = within n ptrs (n - 1) p f (omega arith) (omega arith)

  pub kept-extend : (n : ℕ) (ptrs : List (Arc P Global)) (p k : ℕ) (a b : Arc P Global) (v : A) → ArePages s n (contents_by items ptrs) → n ≡ s * p + k → 0 < k → k < s → p < length ptrs → a ≡ get_or ptrs p a → items (arc_value b) ≡ items (arc_value a) ++ v ∷ [] → Kept (n + 1) (set ptrs p b) (flatten (contents_by items ptrs) ++ v ∷ [])
  kept-extend n ptrs p k a b v f e h less w at is =
      let b_is : items (arc_value b) ≡ get_or (contents_by items ptrs) p [] ++ v ∷ [] = is ∙ ap (λ (xs : List A). xs ++ v ∷ []) (get_content items ptrs p a w at) in
      record {
        pages = rw (map-set, b_is) (pages-extend s full n (contents_by items ptrs) p k v f e h less);
        cells_are = rw (map-set, b_is) (flatten-extend s full n (contents_by items ptrs) p k v f e h less);
      }

  pub kept-push : (n : ℕ) (ptrs : List (Arc P Global)) (p : ℕ) (b : Arc P Global) (v : A) → ArePages s n (contents_by items ptrs) → n ≡ s * p → items (arc_value b) ≡ v ∷ [] → Kept (n + 1) (ptrs ++ b ∷ []) (flatten (contents_by items ptrs) ++ v ∷ [])
  kept-push n ptrs p b v f e is = record {
    pages = rw (map-append, is) (pages-push s full n (contents_by items ptrs) p v f e);
    cells_are = rw (map-append, is) (flatten-push s full (contents_by items ptrs) (v ∷ []));
  }
