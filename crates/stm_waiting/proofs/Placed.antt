-- The waiting blocks as their places have them.
use Rattle.std.proofs.Common.{◌≡◌, ℕ, zero, suc, ◌+◌, ◌*◌, ◌<◌, ◌≤◌, Bool, true, false, cond, List, [], ◌∷◌, ◌++◌, length, Option, Some, None, refl, sym, ap, ap₂, subst, ◌∙◌, add-one, length-append, arith}
use Rattle.std.specs.Prelude.{nat_eq, slice_get, option_map, is_some}
use Rattle.std.specs.List.{filter}
use Rattle.std.proofs.lemmas.Bool.Decides.{nat_tests}
use Rattle.stm_waiting.specs.declared.waiting.Held.{Held}
use Rattle.stm_waiting.specs.declared.waiting.Waiting.{Waiting}
use Rattle.stm_waiting.specs.declared.places.Slot.{Slot}
use Rattle.stm_waiting.specs.declared.table.TicketPlace.{TicketPlace}
use Rattle.stm_waiting.specs.Entries.{kept_at, kept, lose, with_held, AllBelow}
use Rattle.stm_waiting.specs.Places.{waiting_in, waiting_found, held_at, listed, entries_at, OtherTicketsStay, place_in, AscendFrom, PlacesAreBelow, AreInPlace, is_used}
use Rattle.stm_terms.specs.declared.verdicts.Verdict.{Verdict}

-- ---- one step of the lists, by whether the ticket is that of the head
kept_other : (t n : ℕ) (o : Option Waiting) (es : List (ℕ × Waiting)) → nat_eq t n ≡ false → kept_at t (listed n o es) ≡ kept_at t es
kept_other t n None es h = refl
kept_other t n (Some w) es h = rw h refl

kept_here : (t n : ℕ) (o : Option Waiting) (es : List (ℕ × Waiting)) → nat_eq t n ≡ true → kept_at t es ≡ None → kept_at t (listed n o es) ≡ o
kept_here t n None es h g = g
kept_here t n (Some w) es h g = rw h refl

lose_other : (t n : ℕ) (o : Option Waiting) (es : List (ℕ × Waiting)) → nat_eq t n ≡ false → lose t (listed n o es) ≡ listed n o (lose t es)
lose_other t n None es h = refl
lose_other t n (Some w) es h = rw h refl

lose_here : (t n : ℕ) (o : Option Waiting) (es : List (ℕ × Waiting)) → nat_eq t n ≡ true → lose t es ≡ es → lose t (listed n o es) ≡ es
lose_here t n None es h g = g
lose_here t n (Some w) es h g = rw h refl

hold_other : (t n : ℕ) (held : Held) (o : Option Waiting) (es : List (ℕ × Waiting)) → nat_eq t n ≡ false → with_held t held (listed n o es) ≡ listed n o (with_held t held es)
hold_other t n held None es h = refl
hold_other t n held (Some w) es h = rw h refl

hold_here : (t n : ℕ) (held : Held) (o : Option Waiting) (es : List (ℕ × Waiting)) → nat_eq t n ≡ true → with_held t held es ≡ es → with_held t held (listed n o es) ≡ listed n (option_map (kept held) o) es
hold_here t n held None es h g = g
hold_here t n held (Some w) es h g = rw h refl

-- ---- a ticket below all
kept_above : (t n : ℕ) (ps : List TicketPlace) (s : List Slot) → t < n → AscendFrom n ps → kept_at t (entries_at ps s) ≡ None
kept_above t n [] s h a = refl
kept_above t n (p ∷ ps) s h a =
    let l : n ≤ p.ticket = a.0 in
    let e : nat_eq t p.ticket ≡ false = grind (arith, nat_tests) in
    kept_other t p.ticket (held_at p.ticket p.place s) (entries_at ps s) e ∙ kept_above t (suc p.ticket) ps s (omega arith) a.1

lose_above : (t n : ℕ) (ps : List TicketPlace) (s : List Slot) → t < n → AscendFrom n ps → lose t (entries_at ps s) ≡ entries_at ps s
lose_above t n [] s h a = refl
lose_above t n (p ∷ ps) s h a =
    let l : n ≤ p.ticket = a.0 in
    let e : nat_eq t p.ticket ≡ false = grind (arith, nat_tests) in
    lose_other t p.ticket (held_at p.ticket p.place s) (entries_at ps s) e ∙ ap (listed p.ticket (held_at p.ticket p.place s)) (lose_above t (suc p.ticket) ps s (omega arith) a.1)

hold_above : (t n : ℕ) (held : Held) (ps : List TicketPlace) (s : List Slot) → t < n → AscendFrom n ps → with_held t held (entries_at ps s) ≡ entries_at ps s
hold_above t n held [] s h a = refl
hold_above t n held (p ∷ ps) s h a =
    let l : n ≤ p.ticket = a.0 in
    let e : nat_eq t p.ticket ≡ false = grind (arith, nat_tests) in
    hold_other t p.ticket held (held_at p.ticket p.place s) (entries_at ps s) e ∙ ap (listed p.ticket (held_at p.ticket p.place s)) (hold_above t (suc p.ticket) held ps s (omega arith) a.1)

stay_above : (t n : ℕ) (ps : List TicketPlace) (s r : List Slot) → OtherTicketsStay t s r → t < n → AscendFrom n ps → entries_at ps r ≡ entries_at ps s
stay_above t n [] s r o h a = refl
stay_above t n (p ∷ ps) s r o h a =
    let l : n ≤ p.ticket = a.0 in
    let e : nat_eq p.ticket t ≡ false = grind (arith, nat_tests) in
    ap₂ (listed p.ticket) (o p.ticket p.place e) (stay_above t (suc p.ticket) ps s r o (omega arith) a.1)

-- ---- what is found, lost, held
kept_step : (c : Bool) (t : ℕ) (p : TicketPlace) (ps : List TicketPlace) (s : List Slot) → nat_eq t p.ticket ≡ c → AscendFrom (suc p.ticket) ps → kept_at t (entries_at ps s) ≡ held_at t (place_in t ps) s
    → kept_at t (listed p.ticket (held_at p.ticket p.place s) (entries_at ps s)) ≡ held_at t (cond c p.place (place_in t ps)) s
kept_step true t p ps s h a more =
    let same : p.ticket ≡ t = grind (arith, nat_tests) in
    kept_here t p.ticket (held_at p.ticket p.place s) (entries_at ps s) h (kept_above t (suc p.ticket) ps s (omega arith) a) ∙ ap (λ (m : ℕ). held_at m p.place s) same
kept_step false t p ps s h a more = kept_other t p.ticket (held_at p.ticket p.place s) (entries_at ps s) h ∙ more

kept_entries : (t n : ℕ) (ps : List TicketPlace) (s : List Slot) → AscendFrom n ps → kept_at t (entries_at ps s) ≡ held_at t (place_in t ps) s
kept_entries t n [] s a = refl
kept_entries t n (p ∷ ps) s a = kept_step (nat_eq t p.ticket) t p ps s refl a.1 (kept_entries t (suc p.ticket) ps s a.1)

lost_at : (c : Bool) (t : ℕ) (p : TicketPlace) (ps : List TicketPlace) (s r : List Slot) → nat_eq t p.ticket ≡ c → AscendFrom (suc p.ticket) ps → OtherTicketsStay t s r
    → held_at t (cond c p.place (place_in t ps)) r ≡ None → (held_at t (place_in t ps) r ≡ None → entries_at ps r ≡ lose t (entries_at ps s))
    → listed p.ticket (held_at p.ticket p.place r) (entries_at ps r) ≡ lose t (listed p.ticket (held_at p.ticket p.place s) (entries_at ps s))
lost_at true t p ps s r h a o g more =
    let same : p.ticket ≡ t = grind (arith, nat_tests) in
    let none : held_at p.ticket p.place r ≡ None = ap (λ (m : ℕ). held_at m p.place r) same ∙ g in
    rw none (stay_above t (suc p.ticket) ps s r o (omega arith) a
    ∙ sym (lose_here t p.ticket (held_at p.ticket p.place s) (entries_at ps s) h (lose_above t (suc p.ticket) ps s (omega arith) a)))
lost_at false t p ps s r h a o g more =
    let f : nat_eq p.ticket t ≡ false = grind (arith, nat_tests) in
    ap₂ (listed p.ticket) (o p.ticket p.place f) (more g)
    ∙ sym (lose_other t p.ticket (held_at p.ticket p.place s) (entries_at ps s) h)

lost_entries : (t n : ℕ) (ps : List TicketPlace) (s r : List Slot) → AscendFrom n ps → OtherTicketsStay t s r → held_at t (place_in t ps) r ≡ None → entries_at ps r ≡ lose t (entries_at ps s)
lost_entries t n [] s r a o g = refl
lost_entries t n (p ∷ ps) s r a o g = lost_at (nat_eq t p.ticket) t p ps s r refl a.1 o g (lost_entries t (suc p.ticket) ps s r a.1 o)

hold_at : (c : Bool) (t : ℕ) (held : Held) (p : TicketPlace) (ps : List TicketPlace) (s r : List Slot) → nat_eq t p.ticket ≡ c → AscendFrom (suc p.ticket) ps → OtherTicketsStay t s r
    → held_at t (cond c p.place (place_in t ps)) r ≡ option_map (kept held) (held_at t (cond c p.place (place_in t ps)) s)
    → (held_at t (place_in t ps) r ≡ option_map (kept held) (held_at t (place_in t ps) s) → entries_at ps r ≡ with_held t held (entries_at ps s))
    → listed p.ticket (held_at p.ticket p.place r) (entries_at ps r) ≡ with_held t held (listed p.ticket (held_at p.ticket p.place s) (entries_at ps s))
hold_at true t held p ps s r h a o g more =
    let same : t ≡ p.ticket = grind (arith, nat_tests) in
    let here : held_at p.ticket p.place r ≡ option_map (kept held) (held_at p.ticket p.place s) = subst (λ (m : ℕ). held_at m p.place r ≡ option_map (kept held) (held_at m p.place s)) same g in
    ap₂ (listed p.ticket) here (stay_above t (suc p.ticket) ps s r o (omega arith) a)
    ∙ sym (hold_here t p.ticket held (held_at p.ticket p.place s) (entries_at ps s) h (hold_above t (suc p.ticket) held ps s (omega arith) a))
hold_at false t held p ps s r h a o g more =
    let f : nat_eq p.ticket t ≡ false = grind (arith, nat_tests) in
    ap₂ (listed p.ticket) (o p.ticket p.place f) (more g)
    ∙ sym (hold_other t p.ticket held (held_at p.ticket p.place s) (entries_at ps s) h)

held_entries : (t n : ℕ) (held : Held) (ps : List TicketPlace) (s r : List Slot) → AscendFrom n ps → OtherTicketsStay t s r → held_at t (place_in t ps) r ≡ option_map (kept held) (held_at t (place_in t ps) s)
    → entries_at ps r ≡ with_held t held (entries_at ps s)
held_entries t n held [] s r a o g = refl
held_entries t n held (p ∷ ps) s r a o g = hold_at (nat_eq t p.ticket) t held p ps s r refl a.1 o g (held_entries t (suc p.ticket) held ps s r a.1 o)

-- ---- one more, after the others
listed_append : (n : ℕ) (o : Option Waiting) (es fs : List (ℕ × Waiting)) → listed n o (es ++ fs) ≡ listed n o es ++ fs
listed_append n None es fs = refl
listed_append n (Some w) es fs = refl

added_entries : (t p : ℕ) (w : Waiting) (ps : List TicketPlace) (s r : List Slot) → PlacesAreBelow t ps → OtherTicketsStay t s r → held_at t p r ≡ Some w
    → entries_at (ps ++ record { ticket = t; place = p } ∷ []) r ≡ entries_at ps s ++ (t, w) ∷ []
added_entries t p w [] s r b o g = rw g refl
added_entries t p w (q ∷ ps) s r b o g =
    let l : q.ticket < t = b.0 in
    let e : nat_eq q.ticket t ≡ false = grind (arith, nat_tests) in
    ap₂ (listed q.ticket) (o q.ticket q.place e) (added_entries t p w ps s r b.1 o g)
    ∙ listed_append q.ticket (held_at q.ticket q.place s) (entries_at ps s) ((t, w) ∷ [])

added_ascend : (t p n : ℕ) (ps : List TicketPlace) → PlacesAreBelow t ps → n ≤ t → AscendFrom n ps → AscendFrom n (ps ++ record { ticket = t; place = p } ∷ [])
added_ascend t p n [] b l a = (l, tt)
added_ascend t p n (q ∷ ps) b l a = let m : q.ticket < t = b.0 in (a.0, added_ascend t p (suc q.ticket) ps b.1 (omega arith) a.1)

-- ---- how many
listed_length : (n m : ℕ) (o : Option Waiting) (es : List (ℕ × Waiting)) → length es ≤ m → length (listed n o es) ≤ suc m
listed_length n m None es h = omega arith
listed_length n m (Some w) es h = omega arith

pub entries_length : (ps : List TicketPlace) (s : List Slot) → length (entries_at ps s) ≤ length ps
entries_length [] s = omega arith
entries_length (p ∷ ps) s = listed_length p.ticket (length ps) (held_at p.ticket p.place s) (entries_at ps s) (entries_length ps s)

lost_step : (b : Bool) (e : ℕ × Waiting) (es xs : List (ℕ × Waiting)) (o : Option Waiting) (w : Waiting) → cond b (Some e.1) o ≡ Some w → (o ≡ Some w → length xs + 1 ≡ length es) → length (cond b es (e ∷ xs)) + 1 ≡ length (e ∷ es)
lost_step true e es xs o w h more = omega arith
lost_step false e es xs o w h more = let m : length xs + 1 ≡ length es = more h in omega arith

pub lost_length : (t : ℕ) (w : Waiting) (es : List (ℕ × Waiting)) → kept_at t es ≡ Some w → length (lose t es) + 1 ≡ length es
lost_length t w [] h = cc
lost_length t w (e ∷ es) h = lost_step (nat_eq t e.0) e es (lose t es) (kept_at t es) w h (lost_length t w es)

none_step : (b : Bool) (e : ℕ × Waiting) (es xs : List (ℕ × Waiting)) (o : Option Waiting) → cond b (Some e.1) o ≡ None → (o ≡ None → xs ≡ es) → cond b es (e ∷ xs) ≡ e ∷ es
none_step true e es xs o h more = cc
none_step false e es xs o h more = ap (λ (ys : List (ℕ × Waiting)). e ∷ ys) (more h)

pub lost_none : (t : ℕ) (es : List (ℕ × Waiting)) → kept_at t es ≡ None → lose t es ≡ es
lost_none t [] h = refl
lost_none t (e ∷ es) h = none_step (nat_eq t e.0) e es (lose t es) (kept_at t es) h (lost_none t es)

held_step : (b : Bool) (d e : ℕ × Waiting) (es xs : List (ℕ × Waiting)) → length xs ≡ length es → length (cond b (d ∷ es) (e ∷ xs)) ≡ length (e ∷ es)
held_step true d e es xs h = refl
held_step false d e es xs h = omega arith

pub held_length : (t : ℕ) (held : Held) (es : List (ℕ × Waiting)) → length (with_held t held es) ≡ length es
held_length t held [] = refl
held_length t held (e ∷ es) = held_step (nat_eq t e.0) (e.0, kept held e.1) e es (with_held t held es) (held_length t held es)

-- ---- a place behind the others
last_get : (n : ℕ) (x : Slot) (s : List Slot) → n ≡ length s → slice_get (s ++ x ∷ []) n ≡ Some x
last_get zero x [] h = refl
last_get (suc n) x [] h = absurd (omega arith)
last_get zero x (y ∷ s) h = absurd (omega arith)
last_get (suc n) x (y ∷ s) h = last_get n x s (omega arith)

last_held : (n t : ℕ) (x : Slot) (s : List Slot) → n ≡ length s → held_at t (n + 1) (s ++ x ∷ []) ≡ waiting_in t x
last_held n t x s h = rw (add-one n) (ap (waiting_found t) (last_get n x s h))

pub last_owned : (n t : ℕ) (w : Waiting) (s : List Slot) → n ≡ length s → held_at t (n + 1) (s ++ record { number = t; waiting = Some w } ∷ []) ≡ Some w
last_owned n t w s h =
    let e : nat_eq t t ≡ true = grind (arith, nat_tests) in
    last_held n t (record { number = t; waiting = Some w }) s h ∙ rw e refl

last_other : (u p : ℕ) (x : Slot) (s : List Slot) → nat_eq u x.number ≡ false → waiting_found u (slice_get (s ++ x ∷ []) p) ≡ waiting_found u (slice_get s p)
last_other u zero x [] h = let e : nat_eq x.number u ≡ false = grind (arith, nat_tests) in rw e refl
last_other u (suc p) x [] h = refl
last_other u zero x (y ∷ s) h = refl
last_other u (suc p) x (y ∷ s) h = last_other u p x s h

pub last_others : (x : Slot) (s : List Slot) → OtherTicketsStay x.number s (s ++ x ∷ [])
last_others x s u zero h = refl
last_others x s u (suc p) h = last_other u p x s h

-- ---- without those whose blocks have left
used_step : (o : Option Waiting) (p : TicketPlace) (ps qs : List TicketPlace) (s : List Slot) → held_at p.ticket p.place s ≡ o → entries_at qs s ≡ entries_at ps s
    → entries_at (cond (is_some o) (p ∷ qs) qs) s ≡ listed p.ticket o (entries_at ps s)
used_step None p ps qs s h more = more
used_step (Some w) p ps qs s h more = rw h (ap (λ (es : List (ℕ × Waiting)). (p.ticket, w) ∷ es) more)

pub used_entries : (ps : List TicketPlace) (s : List Slot) → entries_at (filter (is_used s) ps) s ≡ entries_at ps s
used_entries [] s = refl
used_entries (p ∷ ps) s = used_step (held_at p.ticket p.place s) p ps (filter (is_used s) ps) s refl (used_entries ps s)

used_one : (o : Option Waiting) (p : TicketPlace) (qs : List TicketPlace) (es : List (ℕ × Waiting)) → length qs ≡ length es → length (cond (is_some o) (p ∷ qs) qs) ≡ length (listed p.ticket o es)
used_one None p qs es h = h
used_one (Some w) p qs es h = omega arith

pub used_length : (ps : List TicketPlace) (s : List Slot) → length (filter (is_used s) ps) ≡ length (entries_at ps s)
used_length [] s = refl
used_length (p ∷ ps) s = used_one (held_at p.ticket p.place s) p (filter (is_used s) ps) (entries_at ps s) (used_length ps s)

ascend_lower : (n m : ℕ) (ps : List TicketPlace) → n ≤ m → AscendFrom m ps → AscendFrom n ps
ascend_lower n m [] l a = tt
ascend_lower n m (p ∷ ps) l a = let k : m ≤ p.ticket = a.0 in (omega arith, a.1)

ascend_step : (c : Bool) (n : ℕ) (p : TicketPlace) (qs : List TicketPlace) → n ≤ p.ticket → AscendFrom (suc p.ticket) qs → AscendFrom n (cond c (p ∷ qs) qs)
ascend_step true n p qs l a = (l, a)
ascend_step false n p qs l a = ascend_lower n (suc p.ticket) qs (omega arith) a

pub used_ascend : (n : ℕ) (ps : List TicketPlace) (s : List Slot) → AscendFrom n ps → AscendFrom n (filter (is_used s) ps)
used_ascend n [] s a = tt
used_ascend n (p ∷ ps) s a = ascend_step (is_used s p) n p (filter (is_used s) ps) a.0 (used_ascend (suc p.ticket) ps s a.1)

below_step : (o : Option Waiting) (t : ℕ) (p : TicketPlace) (qs : List TicketPlace) (es : List (ℕ × Waiting)) → AllBelow t (listed p.ticket o es) → (AllBelow t es → PlacesAreBelow t qs) → PlacesAreBelow t (cond (is_some o) (p ∷ qs) qs)
below_step None t p qs es b more = more b
below_step (Some w) t p qs es b more = (b.0, more b.1)

pub used_below : (t : ℕ) (ps : List TicketPlace) (s : List Slot) → AllBelow t (entries_at ps s) → PlacesAreBelow t (filter (is_used s) ps)
used_below t [] s b = tt
used_below t (p ∷ ps) s b = below_step (held_at p.ticket p.place s) t p (filter (is_used s) ps) (entries_at ps s) b (used_below t ps s)

pub used_short : (ps : List TicketPlace) (s : List Slot) → length (filter (is_used s) ps) ≤ length ps
used_short ps s =
    let e : length (filter (is_used s) ps) ≡ length (entries_at ps s) = used_length ps s in
    let l : length (entries_at ps s) ≤ length ps = entries_length ps s in
    omega arith

-- ---- the calls, at the place that a ticket has
pub kept_at_place : (t p : ℕ) (ps : List TicketPlace) (s : List Slot) → p ≡ place_in t ps → AscendFrom 0 ps → held_at t p s ≡ kept_at t (entries_at ps s)
kept_at_place t p ps s e a = ap (λ (q : ℕ). held_at t q s) e ∙ sym (kept_entries t 0 ps s a)

pub lost_at_place : (t p : ℕ) (ps : List TicketPlace) (s r : List Slot) → p ≡ place_in t ps → AscendFrom 0 ps → OtherTicketsStay t s r → held_at t p r ≡ None → entries_at ps r ≡ lose t (entries_at ps s)
lost_at_place t p ps s r e a o g = lost_entries t 0 ps s r a o (ap (λ (q : ℕ). held_at t q r) (sym e) ∙ g)

pub held_at_place : (t p : ℕ) (held : Held) (ps : List TicketPlace) (s r : List Slot) → p ≡ place_in t ps → AscendFrom 0 ps → OtherTicketsStay t s r → held_at t p r ≡ option_map (kept held) (held_at t p s)
    → entries_at ps r ≡ with_held t held (entries_at ps s)
held_at_place t p held ps s r e a o g =
    held_entries t 0 held ps s r a o (subst (λ (q : ℕ). held_at t q r ≡ option_map (kept held) (held_at t q s)) e g)

-- ---- what is kept
pub kept_none : (t p count : ℕ) (verdict : Verdict) (ps : List TicketPlace) (s r : List Slot) → p ≡ place_in t ps → OtherTicketsStay t s r → held_at t p r ≡ None → None ≡ held_at t p s
    → AreInPlace ps s count verdict → AreInPlace ps r count verdict
kept_none t p count verdict ps s r e o g f k =
    let is = lost_at_place t p ps s r e k.ascend o g ∙ lost_none t (entries_at ps s) (sym (kept_at_place t p ps s e k.ascend) ∙ sym f) in
    record { ascend = k.ascend; counted = k.counted ∙ sym (ap length is); short = k.short; lent = k.lent }

pub kept_held : (t p count : ℕ) (held : Held) (verdict : Verdict) (ps : List TicketPlace) (s r : List Slot) → p ≡ place_in t ps → OtherTicketsStay t s r → held_at t p r ≡ option_map (kept held) (held_at t p s)
    → AreInPlace ps s count verdict → AreInPlace ps r count verdict
kept_held t p count held verdict ps s r e o g k =
    let is = held_at_place t p held ps s r e k.ascend o g in
    record {
      ascend = k.ascend;
      counted = k.counted ∙ sym (ap length is ∙ held_length t held (entries_at ps s));
      short = k.short;
      lent = k.lent;
    }

-- the block that leaves is counted
pub lost_count : (t p count : ℕ) (verdict : Verdict) (w : Waiting) (ps : List TicketPlace) (s r : List Slot) → p ≡ place_in t ps → OtherTicketsStay t s r → held_at t p r ≡ None → Some w ≡ held_at t p s
    → AreInPlace ps s count verdict → length (entries_at ps r) + 1 ≡ count
lost_count t p count verdict w ps s r e o g f k =
    let is = lost_at_place t p ps s r e k.ascend o g in
    let here : kept_at t (entries_at ps s) ≡ Some w = sym (kept_at_place t p ps s e k.ascend) ∙ sym f in
    let less : length (lose t (entries_at ps s)) + 1 ≡ length (entries_at ps s) = lost_length t w (entries_at ps s) here in
    let same : length (entries_at ps r) ≡ length (lose t (entries_at ps s)) = ap length is in
    let n : count ≡ length (entries_at ps s) = k.counted in
    omega arith

pub added_at : (t p : ℕ) (w : Waiting) (first ps qs : List TicketPlace) (s r : List Slot) (es : List (ℕ × Waiting)) → entries_at first s ≡ es → entries_at ps s ≡ entries_at first s
    → qs ≡ ps ++ record { ticket = t; place = p } ∷ [] → PlacesAreBelow t ps → OtherTicketsStay t s r → held_at t p r ≡ Some w → entries_at qs r ≡ es ++ (t, w) ∷ []
added_at t p w first ps qs s r es e same is b o g =
    ap (λ (xs : List TicketPlace). entries_at xs r) is ∙ added_entries t p w ps s r b o g ∙ ap (λ (xs : List (ℕ × Waiting)). xs ++ (t, w) ∷ []) (same ∙ e)

pub kept_added : (t p count : ℕ) (w : Waiting) (verdict : Verdict) (first ps qs : List TicketPlace) (s r : List Slot) (es : List (ℕ × Waiting)) → entries_at first s ≡ es → entries_at ps s ≡ entries_at first s
    → qs ≡ ps ++ record { ticket = t; place = p } ∷ [] → PlacesAreBelow t ps → AscendFrom 0 ps → length ps ≤ length first → OtherTicketsStay t s r → held_at t p r ≡ Some w
    → AreInPlace first s count verdict → AreInPlace qs r (count + 1) verdict
kept_added t p count w verdict first ps qs s r es e same is b a short o g k =
    let more = added_at t p w first ps qs s r es e same is b o g in
    let long : length (entries_at qs r) ≡ length es + 1 = ap length more ∙ length-append es ((t, w) ∷ []) in
    let n : count ≡ length es = k.counted ∙ ap length e in
    let len : length qs ≡ length ps + 1 = ap length is ∙ length-append ps (record { ticket = t; place = p } ∷ []) in
    let few : length first ≤ 2 * count + 1024 = k.short in
    record {
      ascend = subst (AscendFrom 0) (sym is) (added_ascend t p 0 ps b (omega arith) a);
      counted = omega arith;
      short = omega arith;
      lent = k.lent;
    }
