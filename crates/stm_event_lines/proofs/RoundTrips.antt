-- Data that is written and read back: by induction on its lists.
use Rattle.std.proofs.Common.{◌≡◌, ℕ, suc, ◌≤◌, ◌<◌, List, [], ◌∷◌, map, Option, Some, false, ℤ, pos, negsuc, refl, arith}
use Rattle.json.specs.Tree.{HasNumbers, ItemsHaveNumbers, depth, items_depth}
use Rattle.json.proofs.Printed.Decimals.{IsNumber-decimal, IsNumber-signed_decimal}
use Rattle.serde_json.specs.Data.{Data, number, string, array, Items, item, no_items}
use Rattle.serde_json.specs.Find.{of_integer}
use Rattle.serde_json.specs.View.{items_of}
use Rattle.serde_json.specs.Read.{of_json, of_items}
use Rattle.serde_json.specs.Written.{outline, items_outline, has_float, items_have_float}
use Rattle.serde_json.proofs.Numbers.{number_of-decimal, number_of-negative}
use Rattle.stm_terms.specs.declared.kinds.Ty.{Ty}
use Rattle.stm_terms.specs.declared.values.Value.{Value}
use Rattle.stm_terms.specs.declared.values.Value.TheVariants as value
use Rattle.stm_terms.specs.declared.values.Ref.TheVariants.{Old, New}
use Rattle.stm_terms.specs.declared.values.Fault.TheVariants.{Thrown, Overflow}
use Rattle.stm_terms.specs.declared.verdicts.Verdict.{Verdict}
use Rattle.stm_terms.specs.declared.verdicts.Verdict.TheVariants.{Commits, Throws, Blocks}
use Rattle.stm_terms.specs.Texts.{type_text}
use Rattle.stm_store.specs.Tables.{Declared}
use Rattle.stm_store.specs.Naming.{Named}
use Rattle.stm_events.specs.declared.event.What.{What}
use Rattle.stm_events.specs.declared.event.What.TheVariants.{Submitted, Installed, Finished, Cancelled, Declared as DeclaredLate, Labelled}
use Rattle.stm_event_lines.specs.Fits.{FitsValue, FitsInt, FitsVerdict, FitWrites, FitNews, FitNumbers, WhatFitsNames, Is32Bit}
use Rattle.stm_event_lines.specs.Lines.{number_data, value_data, write_data, new_data, verdict_data, what_data, header_data, variable_data}
use Rattle.stm_event_lines.specs.Fields.{all_of}

-- it reads as itself, nests no deeper than k and has no float
pub record RoundTrips (k : ℕ) (d : Data) : Type 0 where
  pub numbers : HasNumbers (outline d)
  pub back : of_json (outline d) ≡ Some d
  pub shallow : depth (outline d) ≤ k
  pub exact : has_float d ≡ false

pub record AllRoundTrip (k : ℕ) (ds : Items) : Type 0 where
  pub numbers : ItemsHaveNumbers (items_outline ds)
  pub back : of_items (items_outline ds) ≡ Some ds
  pub shallow : items_depth (items_outline ds) ≤ k
  pub exact : items_have_float ds ≡ false

pub nil_round_trips : (k : ℕ) → AllRoundTrip k no_items
nil_round_trips k = record { numbers = tt; back = refl; shallow = omega arith; exact = refl }

pub cons_round_trips : (k : ℕ) (d : Data) (ds : Items) → RoundTrips k d → AllRoundTrip k ds → AllRoundTrip k (item d ds)
cons_round_trips k d ds g h = record { numbers = (g.numbers, h.numbers); back = rw (g.back, h.back); shallow = omega (arith, g.shallow, h.shallow); exact = rw (g.exact, h.exact) }

pub array_round_trips : (k : ℕ) (ds : Items) → AllRoundTrip k ds → RoundTrips (suc k) (array ds)
array_round_trips k ds h = record { numbers = h.numbers; back = rw h.back; shallow = omega (arith, h.shallow); exact = h.exact }

pub string_round_trips : (k : ℕ) (s : List ℕ) → RoundTrips k (string s)
string_round_trips k s = record { numbers = tt; back = refl; shallow = omega arith; exact = refl }

pub number_round_trips : (k n : ℕ) → Is32Bit n → RoundTrips k (number_data n)
number_round_trips k n h = record { numbers = IsNumber-decimal n (omega arith); back = rw (number_of-decimal n (omega arith)); shallow = omega arith; exact = refl }

pub int_round_trips : (k : ℕ) (z : ℤ) → FitsInt z → RoundTrips k (number (of_integer z))
int_round_trips k (pos n) h = record { numbers = IsNumber-decimal n (omega arith); back = rw (number_of-decimal n (omega arith)); shallow = omega arith; exact = refl }
int_round_trips k (negsuc n) h = record { numbers = IsNumber-signed_decimal (negsuc n) (omega arith); back = rw (number_of-negative n h); shallow = omega arith; exact = refl }

-- ---- values, and lists of them

pub value_round_trips : (v : Value) → FitsValue v → RoundTrips 1 (value_data v)
value_round_trips (value.Int z) h = int_round_trips 1 z h
value_round_trips (value.Bool b) h = record { numbers = tt; back = refl; shallow = omega arith; exact = refl }
value_round_trips value.Unit h = record { numbers = tt; back = refl; shallow = omega arith; exact = refl }
value_round_trips (value.Var (Old i)) h = let g = number_round_trips 0 i h in record { numbers = (g.numbers, tt); back = rw g.back; shallow = omega arith; exact = refl }
value_round_trips (value.Var (New i)) h = let g = number_round_trips 0 i h in record { numbers = (g.numbers, tt); back = rw g.back; shallow = omega arith; exact = refl }

pub pair_round_trips : (k : ℕ) (a b : Data) → RoundTrips k a → RoundTrips k b → RoundTrips (suc k) (array (item a (item b no_items)))
pair_round_trips k a b g h = array_round_trips k _ (cons_round_trips k a _ g (cons_round_trips k b _ h (nil_round_trips k)))

pub writes_round_trips : (ws : List (ℕ × Value)) → FitWrites ws → AllRoundTrip 2 (items_of (map write_data ws))
writes_round_trips [] h = nil_round_trips 2
writes_round_trips (w ∷ ws) h = cons_round_trips 2 _ _ (pair_round_trips 1 _ _ (number_round_trips 1 w.0 h.0) (value_round_trips w.1 h.1)) (writes_round_trips ws h.2)

pub news_round_trips : (ns : List (Ty × Value)) → FitNews ns → AllRoundTrip 2 (items_of (map new_data ns))
news_round_trips [] h = nil_round_trips 2
news_round_trips (n ∷ ns) h = cons_round_trips 2 _ _ (pair_round_trips 1 _ _ (string_round_trips 1 (type_text n.0)) (value_round_trips n.1 h.1)) (news_round_trips ns h.2)

pub numbers_round_trips : (ns : List ℕ) → FitNumbers ns → AllRoundTrip 0 (items_of (map number_data ns))
numbers_round_trips [] h = nil_round_trips 0
numbers_round_trips (n ∷ ns) h = cons_round_trips 0 _ _ (number_round_trips 0 n h.0) (numbers_round_trips ns h.1)

pub verdict_round_trips : (v : Verdict) → FitsVerdict v → RoundTrips 5 (verdict_data v)
verdict_round_trips (Commits writes news result) h =
    let w = array_round_trips 2 _ (writes_round_trips writes h.0) in
    let n = array_round_trips 2 _ (news_round_trips news h.1) in
    let r = value_round_trips result h.2 in
    record {
      numbers = ((n.numbers, (r.numbers, (w.numbers, tt))), tt);
      back = rw (n.back, r.back, w.back);
      shallow = omega (arith, n.shallow, r.shallow, w.shallow);
      exact = rw (n.exact, r.exact, w.exact);
    }
verdict_round_trips (Throws (Thrown z)) h = let g = int_round_trips 0 z h in record { numbers = (g.numbers, tt); back = rw g.back; shallow = omega (arith, g.shallow); exact = rw g.exact }
verdict_round_trips (Throws Overflow) h = record { numbers = (tt, tt); back = refl; shallow = omega arith; exact = refl }
verdict_round_trips Blocks h = string_round_trips 5 _

-- ---- lines

pub what_round_trips : (known : List Named) (client : ℕ) (d : What) → client < 128 → WhatFitsNames known d → RoundTrips 6 (what_data client d)
what_round_trips known client (Submitted ticket b) k h =
    let c = number_round_trips 0 client (omega arith) in let t = number_round_trips 0 ticket h.0 in
    record { numbers = (tt, (c.numbers, (tt, (t.numbers, tt)))); back = rw (c.back, t.back); shallow = omega arith; exact = refl }
what_round_trips known client (Installed ticket v) k h =
    let c = number_round_trips 0 client (omega arith) in let t = number_round_trips 0 ticket h.0 in let o = verdict_round_trips v h.1 in
    record { numbers = (c.numbers, (tt, (t.numbers, (o.numbers, tt)))); back = rw (c.back, t.back, o.back); shallow = omega (arith, o.shallow); exact = rw o.exact }
what_round_trips known client (Finished ticket v n stale) k h =
    let c = number_round_trips 0 client (omega arith) in let t = number_round_trips 0 ticket h.0 in let o = verdict_round_trips v h.1 in
    let f = number_round_trips 0 n h.2 in let s = array_round_trips 0 _ (numbers_round_trips stale h.3) in
    record { numbers = (c.numbers, (tt, (f.numbers, (s.numbers, (t.numbers, (o.numbers, tt)))))); back = rw (c.back, f.back, s.back, t.back, o.back); shallow = omega (arith, o.shallow, s.shallow); exact = rw (s.exact, o.exact) }
what_round_trips known client (Cancelled ticket) k h =
    let c = number_round_trips 0 client (omega arith) in let t = number_round_trips 0 ticket h in
    record { numbers = (c.numbers, (tt, (t.numbers, tt))); back = rw (c.back, t.back); shallow = omega arith; exact = refl }
what_round_trips known client (DeclaredLate name kind value) k h =
    let c = number_round_trips 0 client (omega arith) in let v = value_round_trips value h.2 in
    record { numbers = (c.numbers, (tt, (v.numbers, (tt, (tt, tt))))); back = rw (c.back, v.back); shallow = omega (arith, v.shallow); exact = rw v.exact }
what_round_trips known client (Labelled ticket label) k h =
    let c = number_round_trips 0 client (omega arith) in let t = number_round_trips 0 ticket h.0 in
    record { numbers = (c.numbers, (tt, (tt, (t.numbers, tt)))); back = rw (c.back, t.back); shallow = omega arith; exact = refl }

pub header_round_trips : (format n : ℕ) → Is32Bit format → Is32Bit n → RoundTrips 6 (header_data format n)
header_round_trips format n k h =
    let f = number_round_trips 0 format k in let v = number_round_trips 0 n h in
    record { numbers = (f.numbers, (v.numbers, tt)); back = rw (f.back, v.back); shallow = omega arith; exact = refl }

pub variable_round_trips : (d : Declared) → FitsValue d.value → RoundTrips 6 (variable_data d)
variable_round_trips d h =
    let v = value_round_trips d.value h in
    record { numbers = (v.numbers, (tt, (tt, tt))); back = rw v.back; shallow = omega (arith, v.shallow); exact = rw v.exact }

-- ---- and what the reader makes of the lists

abbrev pub AllBack : {A : Type 0} → (Data → Option A) → (A → Data) → List A → Type 0
AllBack of data_of [] = Unit {0}
AllBack of data_of (x ∷ xs) = (of (data_of x) ≡ Some x) × AllBack of data_of xs

pub all_back : {A : Type 0} (of : Data → Option A) (data_of : A → Data) → (xs : List A) → AllBack of data_of xs → all_of of (items_of (map data_of xs)) ≡ Some xs
all_back of data_of [] h = refl
all_back of data_of (x ∷ xs) h = rw (h.0, all_back of data_of xs h.1)
