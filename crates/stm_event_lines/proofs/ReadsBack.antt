-- The text of a line reads as its value, and the value as what it was written for.
use Rattle.std.proofs.Common.{◌≡◌, inl, inr, ℕ, ◌≤◌, ◌<◌, ◌^◌, List, [], ◌∷◌, Option, Some, None, true, false, refl, sym, ap, ◌∙◌, arith, append-nil, subst, pos, negsuc}
use Rattle.std.specs.Prelude.{codes, is_some, option_and_then}
use Rattle.std.specs.Str.{IsUtf8}
use Rattle.std.proofs.lemmas.Str.{IsUtf8-from_ascii}
use Rattle.std.proofs.lemmas.Bool.{lt-ltb}
use Rattle.json.specs.Lex.{tokens}
use Rattle.json.specs.Tree.{json_tokens, HasNumbers, depth}
use Rattle.json.specs.Token.{Token}
use Rattle.json.specs.Json as json
use Rattle.json.proofs.Printed.Tokens.{tokens-print}
use Rattle.json.proofs.Printed.Trees.{value-json_tokens, ArePrintable-json_tokens}
use Rattle.serde_json.specs.Data.{Data}
use Rattle.serde_json.specs.Find.{get}
use Rattle.serde_json.specs.Read.{read, of_json, max_depth}
use Rattle.serde_json.specs.Written.{outline, compact_text}
use Rattle.serde_json.proofs.Texts.{print-outline}
use Rattle.stm_terms.specs.declared.kinds.Ty.{Ty}
use Rattle.stm_terms.specs.declared.values.Value.{Value}
use Rattle.stm_terms.specs.declared.values.Value.TheVariants as value
use Rattle.stm_terms.specs.declared.values.Ref.TheVariants.{Old, New}
use Rattle.stm_terms.specs.declared.values.Fault.TheVariants.{Thrown, Overflow}
use Rattle.stm_terms.specs.declared.verdicts.Verdict.{Verdict}
use Rattle.stm_terms.specs.declared.verdicts.Verdict.TheVariants.{Commits, Throws, Blocks}
use Rattle.stm_store.specs.Tables.{Declared}
use Rattle.stm_store.specs.Naming.{Named}
use Rattle.stm_events.specs.declared.event.Event.{Event}
use Rattle.stm_events.specs.declared.event.What.{What}
use Rattle.stm_events.specs.Labels.{is_label}
use Rattle.stm_events.specs.declared.event.What.TheVariants.{Submitted, Installed, Finished, Cancelled, Declared as DeclaredLate, Labelled}
use Rattle.stm_event_lines.specs.declared.read.Header.{Header}
use Rattle.stm_event_lines.specs.Fits.{FitsNames, WhatFitsNames, FitsValue, FitsVerdict, FitWrites, FitNews, FitNumbers, FitsVariable, Is32Bit, IsOneLine}
use Rattle.stm_event_lines.specs.Lines.{IsFormat, number_data, value_data, write_data, new_data, verdict_data, what_data, event_data, header_data, variable_data, event_line, header_line, variable_line}
use Rattle.stm_event_lines.specs.Fields.{in_32_bits, u32_of, value_of, write_of, new_of, verdict_of, event_of, header_of, declared_from_json}
use Rattle.stm_event_lines.proofs.RoundTrips.{RoundTrips, what_round_trips, header_round_trips, variable_round_trips, AllBack, all_back}
use Rattle.stm_event_lines.proofs.OneLines.{IsInRange, one_line, is_ascii}
use Rattle.stm_event_lines.proofs.Ranges.{what_in_range, variable_in_range}
use Rattle.stm_terms.specs.Names.{is_name_text}
use Rattle.stm_event_lines.proofs.Types.{type_back}

-- what reading makes of the tokens' value
abbrev whole : Option (json.Json × List Token) → Option Data
whole o = option_and_then of_json (option_and_then (λ p. json.if_last p.0 p.1) o)

text_reads : (d : Data) → HasNumbers (outline d) → depth (outline d) ≤ max_depth → of_json (outline d) ≡ Some d → read (compact_text d) ≡ Some d
text_reads d numbers shallow back =
    let same : tokens (compact_text d) ≡ json_tokens (outline d) = ap tokens (sym (print-outline d)) ∙ tokens-print (json_tokens (outline d)) (ArePrintable-json_tokens (outline d) numbers) in
    ap whole (ap (json.value max_depth) (same ∙ sym (append-nil _)) ∙ value-json_tokens (outline d) max_depth [] shallow) ∙ back

-- a value whose text is one line, and reads as it
pub record ReadsBack (d : Data) : Type 0 where
  pub back : read (compact_text d) ≡ Some d
  pub one_line : IsOneLine (compact_text d)
  pub utf8 : IsUtf8 (compact_text d)

pub reads_of : (d : Data) → RoundTrips 6 d → IsInRange d → ReadsBack d
reads_of d g s = let l = one_line d s in record {
  back = text_reads d g.numbers (omega (arith, g.shallow)) g.back;
  one_line = l;
  utf8 = IsUtf8-from_ascii (compact_text d) (is_ascii (compact_text d) l);
}

pub event_reads : (known : List Named) (e : Event) → FitsNames known e → ReadsBack (event_data e)
event_reads known e f = reads_of (event_data e) (what_round_trips known e.client e.what f.0 f.1) (what_in_range known e.client e.what f.0 f.1)

-- a format that is read fits the program's type
format_fits : (format : ℕ) → IsFormat format → Is32Bit format
format_fits format (inl k) = omega (arith, k.1)
format_fits format (inr e) = omega (arith, e)

pub header_reads : (format n : ℕ) → IsFormat format → Is32Bit n → ReadsBack (header_data format n)
header_reads format n k h =
    let f : Is32Bit format = format_fits format k in
    reads_of (header_data format n) (header_round_trips format n f h) (refl, omega (arith, f), (refl, omega (arith, h), tt))

pub variable_reads : (d : Declared) → FitsVariable d → ReadsBack (variable_data d)
variable_reads d f = reads_of (variable_data d) (variable_round_trips d f.2) (variable_in_range d f)

-- ---- the fields

pub in_32 : (n : ℕ) → n < 2 ^ 32 → in_32_bits n ≡ Some n
in_32 n h = rw (lt-ltb n (2 ^ 32) h)

pub value_back : (v : Value) → FitsValue v → value_of (value_data v) ≡ Some v
value_back (value.Int (pos n)) h = rw (lt-ltb n (2 ^ 63) h)
value_back (value.Int (negsuc n)) h = refl
value_back (value.Bool b) h = refl
value_back value.Unit h = refl
value_back (value.Var (Old i)) h = rw (in_32 i h)
value_back (value.Var (New k)) h = rw (in_32 k h)

pub writes_back : (ws : List (ℕ × Value)) → FitWrites ws → AllBack write_of write_data ws
writes_back [] h = tt
writes_back (w ∷ ws) h = (rw (in_32 w.0 h.0, value_back w.1 h.1), writes_back ws h.2)

news_back : (ns : List (Ty × Value)) → FitNews ns → AllBack new_of new_data ns
news_back [] h = tt
news_back (n ∷ ns) h = (rw (type_back n.0 h.0, value_back n.1 h.1), news_back ns h.2)

numbers_back : (ns : List ℕ) → FitNumbers ns → AllBack u32_of number_data ns
numbers_back [] h = tt
numbers_back (n ∷ ns) h = (in_32 n h.0, numbers_back ns h.1)

pub verdict_back : (v : Verdict) → FitsVerdict v → verdict_of (verdict_data v) ≡ Some v
verdict_back (Commits writes news result) h = rw (all_back write_of write_data writes (writes_back writes h.0), all_back new_of new_data news (news_back news h.1), value_back result h.2)
verdict_back (Throws (Thrown (pos n))) h = rw (lt-ltb n (2 ^ 63) h)
verdict_back (Throws (Thrown (negsuc n))) h = refl
verdict_back (Throws Overflow) h = refl
verdict_back Blocks h = refl

what_back : (known : List Named) (client : ℕ) (d : What) → client < 128 → WhatFitsNames known d → event_of known (what_data client d) ≡ Some (record { client = client; what = d })
what_back known client (Submitted ticket b) k h = rw (in_32 client (omega arith), lt-ltb client 128 k, in_32 ticket h.0, h.1)
what_back known client (Installed ticket v) k h = rw (in_32 client (omega arith), lt-ltb client 128 k, in_32 ticket h.0, verdict_back v h.1)
what_back known client (Finished ticket v n stale) k h =
    rw (in_32 client (omega arith), lt-ltb client 128 k, in_32 ticket h.0, verdict_back v h.1, in_32 n h.2, all_back u32_of number_data stale (numbers_back stale h.3))
what_back known client (Cancelled ticket) k h = rw (in_32 client (omega arith), lt-ltb client 128 k, in_32 ticket h)
what_back known client (DeclaredLate name kind value) k h =
    let named : is_name_text name ≡ true = h.0 in
    rw (in_32 client (omega arith), lt-ltb client 128 k, type_back kind h.1, value_back value h.2, named)
what_back known client (Labelled ticket label) k h =
    let one : is_label label ≡ true = h.1 in
    rw (in_32 client (omega arith), lt-ltb client 128 k, in_32 ticket h.0, one)

event_back : (known : List Named) (e : Event) → FitsNames known e → event_of known (event_data e) ≡ Some e
event_back known e f = what_back known e.client e.what f.0 f.1

header_back : (format n : ℕ) → IsFormat format → Is32Bit n → header_of (header_data format n) ≡ Some (record { format = format; vars = n })
header_back format n k h = let f : Is32Bit format = format_fits format k in rw (in_32 format f, in_32 n h)

variable_back : (d : Declared) → FitsVariable d → declared_from_json (variable_data d) ≡ Some d
variable_back d f = rw (type_back d.kind f.1, value_back d.value f.2)

-- ---- what a line is that was read

-- the reader refuses no line of this value
pub unread : (line : List ℕ) (d : Data) → ReadsBack d → compact_text d ≡ line → (IsUtf8 line → read line ≡ None) → ⊥
unread line d r e none =
    let u : IsUtf8 line = subst IsUtf8 e r.utf8 in
    let some : read line ≡ Some d = subst (λ (t : List ℕ). read t ≡ Some d) e r.back in
    let n : read line ≡ None = none u in
    cc

-- and what it reads of it is the value
pub same_data : (line : List ℕ) (d g : Data) → ReadsBack d → compact_text d ≡ line → read line ≡ Some g → g ≡ d
same_data line d g r e some = let k : read line ≡ Some d = subst (λ (t : List ℕ). read t ≡ Some d) e r.back in cc

pub event_is : (known : List Named) (line : List ℕ) (e : Event) (g : Data) → FitsNames known e → event_line e ≡ line → read line ≡ Some g → event_of known g ≡ Some e
unfolding event_line
event_is known line e g f l some = let same : g ≡ event_data e = same_data line (event_data e) g (event_reads known e f) l some in rw same (event_back known e f)

pub header_is : (line : List ℕ) (format n : ℕ) (g : Data) → IsFormat format → Is32Bit n → header_line format n ≡ line → read line ≡ Some g → header_of g ≡ Some (record { format = format; vars = n })
unfolding header_line
header_is line format n g k f l some = let same : g ≡ header_data format n = same_data line (header_data format n) g (header_reads format n k f) l some in rw same (header_back format n k f)

-- it has no next ticket, as the first line of a checkpoint has
pub header_no_next : (line : List ℕ) (format n : ℕ) (g : Data) → IsFormat format → Is32Bit n → header_line format n ≡ line → read line ≡ Some g → is_some (get (codes "next") g) ≡ false
unfolding header_line
header_no_next line format n g k f l some = let same : g ≡ header_data format n = same_data line (header_data format n) g (header_reads format n k f) l some in rw same refl

pub variable_is : (line : List ℕ) (d : Declared) (g : Data) → FitsVariable d → variable_line d ≡ line → read line ≡ Some g → declared_from_json g ≡ Some d
unfolding variable_line
variable_is line d g f l some = let same : g ≡ variable_data d = same_data line (variable_data d) g (variable_reads d f) l some in rw same (variable_back d f)

pub event_unread : (known : List Named) (line : List ℕ) (e : Event) → FitsNames known e → event_line e ≡ line → (IsUtf8 line → read line ≡ None) → ⊥
unfolding event_line
event_unread known line e f l none = unread line (event_data e) (event_reads known e f) l none

pub header_unread : (line : List ℕ) (format n : ℕ) → IsFormat format → Is32Bit n → header_line format n ≡ line → (IsUtf8 line → read line ≡ None) → ⊥
unfolding header_line
header_unread line format n k f l none = unread line (header_data format n) (header_reads format n k f) l none

pub variable_unread : (line : List ℕ) (d : Declared) → FitsVariable d → variable_line d ≡ line → (IsUtf8 line → read line ≡ None) → ⊥
unfolding variable_line
variable_unread line d f l none = unread line (variable_data d) (variable_reads d f) l none

-- ---- laws

pub event_one_line : (known : List Named) (e : Event) → FitsNames known e → IsOneLine (event_line e)
unfolding event_line
event_one_line known e f = (event_reads known e f).one_line

pub header_one_line : (format n : ℕ) → IsFormat format → Is32Bit n → IsOneLine (header_line format n)
unfolding header_line
header_one_line format n k f = (header_reads format n k f).one_line

pub variable_one_line : (d : Declared) → FitsVariable d → IsOneLine (variable_line d)
unfolding variable_line
variable_one_line d f = (variable_reads d f).one_line

-- different events have different lines; so do headers and variables
pub event_same : (known : List Named) (d e : Event) → FitsNames known d → FitsNames known e → event_line d ≡ event_line e → d ≡ e
unfolding event_line
event_same known d e f g l =
    let a : event_of known (event_data e) ≡ Some e = event_back known e g in
    let b : event_of known (event_data e) ≡ Some d = event_is known (event_line e) d (event_data e) f l (event_reads known e g).back in
    cc

one_header : (o : Option Header) (g h : Header) → o ≡ Some g → o ≡ Some h → g ≡ h
one_header o g h a b = cc

pub header_same : (format format' m n : ℕ) → IsFormat format → IsFormat format' → Is32Bit m → Is32Bit n → header_line format m ≡ header_line format' n → (format ≡ format') × (m ≡ n)
unfolding header_line
header_same format format' m n k k' f g l =
    let a : header_of (header_data format' n) ≡ Some (record { format = format'; vars = n }) = header_back format' n k' g in
    let b : header_of (header_data format' n) ≡ Some (record { format = format; vars = m }) = header_is (header_line format' n) format m (header_data format' n) k f l (header_reads format' n k' g).back in
    let same : record { format = format; vars = m } ≡ record { format = format'; vars = n } = one_header _ _ _ b a in
    (ap (λ (h : Header). h.format) same, ap (λ (h : Header). h.vars) same)

pub variable_same : (c d : Declared) → FitsVariable c → FitsVariable d → variable_line c ≡ variable_line d → c ≡ d
unfolding variable_line
variable_same c d f g l =
    let a : declared_from_json (variable_data d) ≡ Some d = variable_back d g in
    let b : declared_from_json (variable_data d) ≡ Some c = variable_is (variable_line d) c (variable_data d) f l (variable_reads d g).back in
    cc
