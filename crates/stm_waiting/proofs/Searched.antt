-- The search of a ticket among ascending ones.
use Rattle.std.proofs.Common.{◌≡◌, ℕ, zero, suc, ◌+◌, ◌<◌, ◌≤◌, Bool, true, false, List, [], ◌∷◌, length, get_or, drop, drop-cons, Option, Some, None, Bor, refl, sym, ap, ◌∙◌, add-one, ◌-◌, arith}
use Rattle.std.specs.Prelude.{nat_eq, nat_lt, slice_get, is_some}
use Rattle.std.specs.Option.{option_copied}
use Rattle.std.specs.List.Sorted.{IsNonDecreasingBy}
use Rattle.std.specs.List.Sorted.{IsPartitionPoint}
use Rattle.std.proofs.lemmas.Bool.Decides.{nat_tests}
use Rattle.std.proofs.lemmas.List.{drop_all}
use lib.Dec.{leb}
use Rattle.stm_waiting.specs.declared.waiting.Waiting.{Waiting}
use Rattle.stm_waiting.specs.declared.places.Slot.{Slot}
use Rattle.stm_waiting.specs.declared.table.TicketPlace.{TicketPlace}
use Rattle.stm_waiting.specs.Entries.{first_above}
use Rattle.stm_waiting.specs.Places.{held_at, listed, entries_at, place_in, ticket_at, AscendFrom, PlacesAreBelow, IsCountUpTo, first_listed, is_used}

-- ---- the tickets by their indices
pub ticket_get : (i : ℕ) (ps : List TicketPlace) (d : TicketPlace) → i < length ps → ticket_at i ps ≡ (get_or ps i d).ticket
ticket_get i [] d h = absurd (omega arith)
ticket_get zero (p ∷ ps) d h = refl
ticket_get (suc i) (p ∷ ps) d h = ticket_get i ps d (omega arith)

at_least : (n i : ℕ) (ps : List TicketPlace) → AscendFrom n ps → i < length ps → n ≤ ticket_at i ps
at_least n i [] a h = absurd (omega arith)
at_least n zero (p ∷ ps) a h = a.0
at_least n (suc i) (p ∷ ps) a h =
    let l : n ≤ p.ticket = a.0 in
    let m : suc p.ticket ≤ ticket_at i ps = at_least (suc p.ticket) i ps a.1 (omega arith) in
    omega arith

pub in_order : (n i j : ℕ) (ps : List TicketPlace) → AscendFrom n ps → i < j → j < length ps → ticket_at i ps < ticket_at j ps
in_order n i j [] a l h = absurd (omega arith)
in_order n i zero (p ∷ ps) a l h = absurd (omega arith)
in_order n zero (suc j) (p ∷ ps) a l h =
    let m : suc p.ticket ≤ ticket_at j ps = at_least (suc p.ticket) j ps a.1 (omega arith) in
    omega arith
in_order n (suc i) (suc j) (p ∷ ps) a l h = in_order (suc p.ticket) i j ps a.1 (omega arith) (omega arith)

by_case : (i j : ℕ) (ps : List TicketPlace) → AscendFrom 0 ps → i ≤ j → j < length ps → (c : Bool) → nat_lt i j ≡ c → ticket_at i ps ≤ ticket_at j ps
by_case i j ps a l h true e =
    let m : i < j = grind (arith, nat_tests) in
    let o : ticket_at i ps < ticket_at j ps = in_order 0 i j ps a m h in
    omega arith
by_case i j ps a l h false e =
    let m : j ≤ i = grind (arith, nat_tests) in
    let same : i ≡ j = omega arith in
    let o : ticket_at i ps ≡ ticket_at j ps = ap (λ (k : ℕ). ticket_at k ps) same in
    omega arith

pub non_decreasing : (ps : List TicketPlace) → AscendFrom 0 ps → IsNonDecreasingBy (λ (p : TicketPlace). p.ticket) ps
non_decreasing ps a i j d l h =
    let x : ticket_at i ps ≡ (get_or ps i d).ticket = ticket_get i ps d (omega arith) in
    let y : ticket_at j ps ≡ (get_or ps j d).ticket = ticket_get j ps d h in
    let o : ticket_at i ps ≤ ticket_at j ps = by_case i j ps a l h (nat_lt i j) refl in
    omega arith

-- ---- the place of a ticket
pub place_found : (n i t : ℕ) (ps : List TicketPlace) (d : TicketPlace) → AscendFrom n ps → i < length ps → ticket_at i ps ≡ t → (get_or ps i d).place ≡ place_in t ps
place_found n i t [] d a h e = absurd (omega arith)
place_found n zero t (p ∷ ps) d a h e = let same : nat_eq t p.ticket ≡ true = grind (arith, nat_tests) in rw same refl
place_found n (suc i) t (p ∷ ps) d a h e =
    let l : suc p.ticket ≤ ticket_at i ps = at_least (suc p.ticket) i ps a.1 (omega arith) in
    let other : nat_eq t p.ticket ≡ false = grind (arith, nat_tests) in
    rw other (place_found (suc p.ticket) i t ps d a.1 (omega arith) e)

absent : (t : ℕ) (ps : List TicketPlace) → ((i : ℕ) → i < length ps → nat_eq t (ticket_at i ps) ≡ false) → 0 ≡ place_in t ps
absent t [] h = refl
absent t (p ∷ ps) h = rw (h 0 (omega arith)) (absent t ps (λ i l. h (suc i) (omega arith)))

pub none_up_to : (t n : ℕ) (ps : List TicketPlace) → n ≡ 0 → IsCountUpTo t ps n → 0 ≡ place_in t ps
none_up_to t n ps e c = absent t ps (λ i l. let m : t < ticket_at i ps = c.high i (omega arith) l in grind (arith, nat_tests))

not_last : (t n i : ℕ) (ps : List TicketPlace) → AscendFrom 0 ps → IsCountUpTo t ps (n + 1) → (ticket_at n ps ≡ t → ⊥) → i < length ps → (c : Bool) → nat_eq t (ticket_at i ps) ≡ c → c ≡ false
not_last t n i ps a k other l false e = refl
not_last t n i ps a k other l true e = absurd (above_or_not (nat_lt i n) refl) where
  same : t ≡ ticket_at i ps
  same = grind (arith, nat_tests)

  at_last : (b : Bool) → nat_lt n i ≡ b → n ≤ i → ⊥
  at_last true f m =
      let s = same in
      let g : n < i = grind (arith, nat_tests) in
      let h : t < ticket_at i ps = k.high i (omega arith) l in
      omega arith
  at_last false f m =
      let s = same in
      let g : i ≤ n = grind (arith, nat_tests) in
      let here : i ≡ n = omega arith in
      other (ap (λ (j : ℕ). ticket_at j ps) (sym here) ∙ sym s)

  above_or_not : (b : Bool) → nat_lt i n ≡ b → ⊥
  above_or_not true f =
      let s = same in
      let g : i < n = grind (arith, nat_tests) in
      let w : n + 1 ≤ length ps = k.within in
      let h : ticket_at i ps < ticket_at n ps = in_order 0 i n ps a g (omega arith) in
      let m : ticket_at n ps ≤ t = k.low n (omega arith) in
      omega arith
  above_or_not false f = let g : n ≤ i = grind (arith, nat_tests) in at_last (nat_lt n i) refl g

pub other_up_to : (t n : ℕ) (ps : List TicketPlace) → AscendFrom 0 ps → IsCountUpTo t ps (n + 1) → (ticket_at n ps ≡ t → ⊥) → 0 ≡ place_in t ps
other_up_to t n ps a k other = absent t ps (λ i l. not_last t n i ps a k other l (nat_eq t (ticket_at i ps)) refl)

-- ---- how many are at most a ticket
pub count_at : (t i : ℕ) (ps : List TicketPlace) → AscendFrom 0 ps → i < length ps → ticket_at i ps ≡ t → IsCountUpTo t ps (i + 1)
count_at t i ps a l e = record {
  within = omega arith;
  low = λ j m. let o : ticket_at j ps ≤ ticket_at i ps = by_case j i ps a (omega arith) l (nat_lt j i) refl in omega arith;
  high = λ j m h. let o : ticket_at i ps < ticket_at j ps = in_order 0 i j ps a (omega arith) h in omega arith;
}

pub count_parted : (t i : ℕ) (ps : List TicketPlace) → i ≤ length ps
    → IsPartitionPoint (λ (p : TicketPlace). leb p.ticket t ≡ true) (λ (p : TicketPlace). leb p.ticket t ≡ false) ps i → IsCountUpTo t ps i
count_parted t i ps w k =
    let d : TicketPlace = record { ticket = 0; place = 0 } in
    record {
      within = w;
      low = λ j l.
          let e : ticket_at j ps ≡ (get_or ps j d).ticket = ticket_get j ps d (omega arith) in
          let h : leb (get_or ps j d).ticket t ≡ true = k.0 j d (omega arith) l in
          let m : (get_or ps j d).ticket ≤ t = grind (arith, nat_tests) in
          omega arith;
      high = λ j l n.
          let e : ticket_at j ps ≡ (get_or ps j d).ticket = ticket_get j ps d n in
          let h : leb (get_or ps j d).ticket t ≡ false = k.1 j d l n in
          let m : t < (get_or ps j d).ticket = grind (arith, nat_tests) in
          omega arith;
    }

-- ---- the last
got : (i : ℕ) (ps : List TicketPlace) (p : TicketPlace) → slice_get ps i ≡ Some p → ticket_at i ps ≡ p.ticket
got i [] p e = cc
got zero (q ∷ ps) p e = let same : q ≡ p = cc in ap (λ (r : TicketPlace). r.ticket) same
got (suc i) (q ∷ ps) p e = got i ps p e

all_below : (t : ℕ) (ps : List TicketPlace) → ((i : ℕ) → i < length ps → ticket_at i ps < t) → PlacesAreBelow t ps
all_below t [] h = tt
all_below t (p ∷ ps) h = (h 0 (omega arith), all_below t ps (λ i l. h (suc i) (omega arith)))

pub last_above : (t : ℕ) (ps : List TicketPlace) (p : TicketPlace) → AscendFrom 0 ps → Some p ≡ slice_get ps (length ps - 1) → p.ticket < t → PlacesAreBelow t ps
last_above t ps p a e l =
    all_below t ps
    (λ i h.
    let o : ticket_at i ps ≤ ticket_at (length ps - 1) ps = by_case i (length ps - 1) ps a (omega arith) (omega arith) (nat_lt i (length ps - 1)) refl in
    let m : ticket_at (length ps - 1) ps ≡ p.ticket = got (length ps - 1) ps p (sym e) in
    omega arith)

-- ---- the first above a ticket
low_step : (a n : ℕ) (o : Option Waiting) (es : List (ℕ × Waiting)) → n ≤ a → first_above a (listed n o es) ≡ first_above a es
low_step a n None es h = refl
low_step a n (Some w) es h = let e : nat_lt a n ≡ false = grind (arith, nat_tests) in rw e refl

high_step : (a n : ℕ) (o : Option Waiting) (es : List (ℕ × Waiting)) → a < n → first_above a es ≡ first_listed es → first_above a (listed n o es) ≡ first_listed (listed n o es)
high_step a n None es h more = more
high_step a n (Some w) es h more = let e : nat_lt a n ≡ true = grind (arith, nat_tests) in rw e refl

all_above : (a : ℕ) (ps : List TicketPlace) (s : List Slot) → ((i : ℕ) → i < length ps → a < ticket_at i ps) → first_above a (entries_at ps s) ≡ first_listed (entries_at ps s)
all_above a [] s h = refl
all_above a (p ∷ ps) s h =
    high_step a p.ticket (held_at p.ticket p.place s) (entries_at ps s) (h 0 (omega arith)) (all_above a ps s (λ i l. h (suc i) (omega arith)))

pub above_count : (a n : ℕ) (ps : List TicketPlace) (s : List Slot) → IsCountUpTo a ps n → first_listed (entries_at (drop n ps) s) ≡ first_above a (entries_at ps s)
above_count a zero ps s k = sym (all_above a ps s (λ i l. k.high i (omega arith) l))
above_count a (suc n) [] s k = refl
above_count a (suc n) (p ∷ ps) s k =
    let w : suc n ≤ length (p ∷ ps) = k.within in
    above_count a n ps s
    (record {
      within = omega arith;
      low = λ i l. k.low (suc i) (omega arith);
      high = λ i l h. k.high (suc i) (omega arith) (omega arith);
    })
    ∙ sym (low_step a p.ticket (held_at p.ticket p.place s) (entries_at ps s) (k.low 0 (omega arith)))

-- ---- the first under which a block waits
unlisted : (n : ℕ) (o : Option Waiting) (es : List (ℕ × Waiting)) → is_some o ≡ false → first_listed (listed n o es) ≡ first_listed es
unlisted n None es h = refl
unlisted n (Some w) es h = cc

listed_first : (n : ℕ) (o : Option Waiting) (es : List (ℕ × Waiting)) → is_some o ≡ true → Some n ≡ first_listed (listed n o es)
listed_first n None es h = cc
listed_first n (Some w) es h = refl

pub unused_more : (i : ℕ) (ps : List TicketPlace) (s : List Slot) (d : TicketPlace) → i < length ps → is_used s (get_or ps i d) ≡ false
    → first_listed (entries_at (drop (i + 1) ps) s) ≡ first_listed (entries_at (drop i ps) s)
unused_more i ps s d l h =
    let p = get_or ps i d in
    let e : drop i ps ≡ p ∷ drop (suc i) ps = drop-cons ps i d l in
    rw (add-one i, e) (sym (unlisted p.ticket (held_at p.ticket p.place s) (entries_at (drop (suc i) ps) s) h))

pub used_here : (i : ℕ) (ps : List TicketPlace) (s : List Slot) (d : TicketPlace) → i < length ps → is_used s (get_or ps i d) ≡ true
    → Some (get_or ps i d).ticket ≡ first_listed (entries_at (drop i ps) s)
used_here i ps s d l h =
    let p = get_or ps i d in
    let e : drop i ps ≡ p ∷ drop (suc i) ps = drop-cons ps i d l in
    rw e (listed_first p.ticket (held_at p.ticket p.place s) (entries_at (drop (suc i) ps) s) h)

pub none_left : (i : ℕ) (ps : List TicketPlace) (s : List Slot) → length ps ≤ i → None ≡ first_listed (entries_at (drop i ps) s)
none_left i ps s l = rw (drop_all i ps l) refl

-- whether a place is used, by what was found there
pub told : (b : Bool) (o : Option (Bor Waiting)) (p : TicketPlace) (s : List Slot) → option_copied o ≡ held_at p.ticket p.place s → b ≡ is_some o → b ≡ is_used s p
told b None p s e h = h ∙ ap (λ (x : Option Waiting). is_some x) e
told b (Some w) p s e h = h ∙ ap (λ (x : Option Waiting). is_some x) e
