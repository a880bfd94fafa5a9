-- The page to which the first of some writes goes.
use Rattle.std.proofs.Common.{◌≡◌, ℕ, ◌+◌, ◌-◌, ◌*◌, ◌<◌, List, length, get_or, arith}
use Rattle.std.specs.Prelude.{min}
use Rattle.std.specs.declared.alloc.Global.{Global}
use Rattle.std.specs.declared.sync.Arc.{Arc}
use Rattle.stm_terms.specs.declared.values.Value.{Value}
use Rattle.stm_store.specs.declared.cell.Cell.{Cell}
use Rattle.stm_store.specs.Pages.{contents, ArePages}
use Rattle.stm_store.specs.RangeWrites.{AreWithin}
use Rattle.stm_store.proofs.PageLists.{within}
use Rattle.stm_store.proofs.RangeWriteLemmas.{from_first_write, first_write}

-- writes to m cells in pages of s, from number i on, the first of which is to cell j of page k; that page's first cell is x
pub record FirstPage (s n i m k x top : ℕ) (ptrs : List (Arc (List Cell) Global)) (ws : List (ℕ × Value)) (d : ℕ × Value) : Type 0 where
  pub there : k < length ptrs
  pub starts : x ≡ i + s * k
  pub writes : AreWithin n x top ws
  pub below : (get_or ws 0 d).0 < x + min s (m - s * k)

pub first_page : (s n i m k j top : ℕ) (ptrs : List (Arc (List Cell) Global)) (ws : List (ℕ × Value)) (d : ℕ × Value) → 0 < s → ArePages s m (contents ptrs) → AreWithin n i top ws → 0 < length ws
    → (get_or ws 0 d).0 < i + m → (get_or ws 0 d).0 - i ≡ s * k + j → j < s → FirstPage s n i m k ((get_or ws 0 d).0 - j) top ptrs ws d
first_page s n i m k j top ptrs ws d full paged a some h e less =
    let head = first_write n i top ws d a some in
    let x : (get_or ws 0 d).0 - j ≡ i + s * k = omega (arith, head.0) in
    record {
      there = within s full (λ (p : List Cell). p) m ptrs ((get_or ws 0 d).0 - i) k paged (omega arith) (omega (arith, head.0));
      starts = x;
      writes = from_first_write n i ((get_or ws 0 d).0 - j) top ws d a (omega arith);
      below = omega (arith, head.0);
    }
