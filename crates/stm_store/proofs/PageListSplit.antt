-- A list of pointers to pages, split at one of them.
use Rattle.std.proofs.Common.{◌≡◌, ℕ, suc, ◌-◌, ◌*◌, ◌<◌, List, [], ◌∷◌, ◌++◌, length, get_or, set, refl, sym, ap, ◌∙◌, arith, length-append, append_assoc}
use Rattle.std.proofs.lemmas.List.{length-map, map-append}
use Rattle.std.specs.declared.alloc.Global.{Global}
use Rattle.std.specs.declared.sync.Arc.{Arc}
use Rattle.std.specs.Arc.{arc_value}
use Rattle.stm_store.specs.Pages.{contents, flatten, ArePages}

module _ {A : Type 0} where
  single : (here : List A) (d : A) → length here ≡ 1 → here ≡ get_or here 0 d ∷ []
  single [] d e = absurd (omega arith)
  single (x ∷ []) d e = refl
  single (x ∷ y ∷ ys) d e = absurd (omega arith)

  single-set : (here : List A) (b : A) → length here ≡ 1 → set here 0 b ≡ b ∷ []
  single-set [] b e = absurd (omega arith)
  single-set (x ∷ []) b e = refl
  single-set (x ∷ y ∷ ys) b e = absurd (omega arith)

module _ {A : Type 0} where
  flatten-append : (ps qs : List (List A)) → flatten (ps ++ qs) ≡ flatten ps ++ flatten qs
  flatten-append [] qs = refl
  flatten-append (p ∷ ps) qs = ap (λ (zs : List A). p ++ zs) (flatten-append ps qs) ∙ sym (append_assoc p (flatten ps) (flatten qs))

  -- the pages before a pointer b, its own, and those after it
  pub parted : (front : List (Arc (List A) Global)) (b : Arc (List A) Global) (behind : List (Arc (List A) Global)) → flatten (contents (front ++ b ∷ behind)) ≡ flatten (contents front) ++ (arc_value b ++ flatten (contents behind))
  parted front b behind = ap flatten (map-append arc_value front (b ∷ behind)) ∙ flatten-append (contents front) (contents (b ∷ behind))

  pub parted-set : (front here : List (Arc (List A) Global)) (b : Arc (List A) Global) (behind : List (Arc (List A) Global)) → length here ≡ 1 → flatten (contents (front ++ (set here 0 b ++ behind))) ≡ flatten (contents front) ++ (arc_value b ++ flatten (contents behind))
  parted-set front here b behind e =
      ap (λ (l : List (Arc (List A) Global)). flatten (contents (front ++ (l ++ behind)))) (single-set here b e) ∙ parted front b behind

  -- what follows the pages too
  pub grouped : (front p behind more : List A) → (front ++ (p ++ behind)) ++ more ≡ front ++ (p ++ (behind ++ more))
  grouped front p behind more = simp append_assoc

module _ {A : Type 0} (s : ℕ) (full : 0 < s) where
  behind_pages : (n : ℕ) (qs rs : List (List A)) → ArePages s n (qs ++ rs) → ArePages s (n - s * length qs) rs
  behind_pages n [] rs f = let same : n - s * 0 ≡ n = omega arith in rw same f
  behind_pages n (q ∷ qs) rs f =
      let same : n - s * suc (length qs) ≡ n - s - s * length qs = omega arith in
      rw same (behind_pages (n - s) qs rs f.2)

  full_before : (n : ℕ) (qs : List (List A)) (r : List A) (rs : List (List A)) → ArePages s n (qs ++ r ∷ rs) → (length (flatten qs) ≡ s * length qs) × (s * length qs < n)
  full_before n [] r rs f = (omega arith, omega (arith, f.0))
  full_before n (q ∷ qs) r rs f =
      let ih = full_before (n - s) qs r rs f.2 in
      (omega (arith, length-append q (flatten qs), f.1, ih.0, ih.1), omega (arith, ih.1))

  -- n items in pages, with k full pages in front of a page p
  pub record Cut (n k : ℕ) (all front behind : List (Arc (List A) Global)) (p : List A) : Type 0 where
    pub whole : flatten (contents all) ≡ flatten (contents front) ++ (p ++ flatten (contents behind))
    pub long : length (flatten (contents front)) ≡ s * k
    pub less : s * k < n
    pub pages : ArePages s (n - s * k) (p ∷ contents behind)

  pub cut : (n k : ℕ) (all front others here behind : List (Arc (List A) Global)) (d : Arc (List A) Global) → ArePages s n (contents all) → all ≡ front ++ others → length front ≡ k → others ≡ here ++ behind → length here ≡ 1 → Cut n k all front behind (arc_value (get_or here 0 d))
  cut n k all front others here behind d f e l g one =
      let a = get_or here 0 d in
      let is : all ≡ front ++ a ∷ behind = e ∙ ap (λ (x : List (Arc (List A) Global)). front ++ x) (g ∙ ap (λ (x : List (Arc (List A) Global)). x ++ behind) (single here d one)) in
      let are : contents all ≡ contents front ++ (arc_value a ∷ contents behind) = ap contents is ∙ map-append arc_value front (a ∷ behind) in
      let paged = rw are at f in
      let k_is : length (contents front) ≡ k = length-map front arc_value ∙ l in
      let before = full_before n (contents front) (arc_value a) (contents behind) paged in
      record {
        whole = ap (λ (x : List (Arc (List A) Global)). flatten (contents x)) is ∙ parted front a behind;
        long = rw (← k_is) before.0;
        less = rw (← k_is) before.1;
        pages = rw (← k_is) (behind_pages n (contents front) (arc_value a ∷ contents behind) paged);
      }
