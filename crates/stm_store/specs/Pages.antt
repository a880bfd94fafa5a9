-- A list in pages.
use Rattle.std.specs.Prelude.{◌≡◌, ℕ, ◌<◌, ◌-◌, min, List, [], ◌∷◌, ◌++◌, map, length}
use Rattle.std.specs.declared.alloc.Global.{Global}
use Rattle.std.specs.declared.sync.Arc.{Arc}
use Rattle.std.specs.Arc.{arc_value}

-- how many cells a full page has
abbrev pub page_cells : ℕ
page_cells = 64

-- how many cells a full part has: 64 pages
abbrev pub part_cells : ℕ
part_cells = 4096

module _ {A : Type 0} where
  -- the items of each page behind its pointer, by what the items of a page are
  abbrev pub contents_by : {P : Type 0} → (P → List A) → List (Arc P Global) → List (List A)
  contents_by items pages = map (λ p. items (arc_value p)) pages

  -- the pages behind their pointers
  abbrev pub contents : List (Arc (List A) Global) → List (List A)
  contents pages = map arc_value pages

  -- how many items each page has
  abbrev pub sizes : List (Arc (List A) Global) → List ℕ
  sizes pages = map length (contents pages)

  -- the items, page after page
  abbrev pub flatten : List (List A) → List A
  flatten [] = []
  flatten (p ∷ ps) = p ++ flatten ps

  -- n items in pages of s, the last of which may have fewer
  abbrev pub ArePages : ℕ → ℕ → List (List A) → Type 0
  ArePages s n [] = n ≡ 0
  ArePages s n (p ∷ ps) = (0 < n) × (length p ≡ min s n) × ArePages s (n - s) ps
