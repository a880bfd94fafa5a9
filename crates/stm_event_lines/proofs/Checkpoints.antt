-- The lines of a checkpoint: each is one line, begins with a brace, reads back, and is of one content only.
use Rattle.std.proofs.Common.{◌≡◌, ◌≢◌, inl, inr, ℕ, suc, ◌<◌, ◌≤◌, ◌^◌, List, [], ◌∷◌, true, false, Option, Some, None, Ok, refl, sym, ap, arith, codes}
use Rattle.std.specs.Prelude.{option_and_then, map, IsTrue}
use Rattle.std.specs.Str.{IsUtf8}
use Rattle.json.specs.Tree.{MembersHaveNumbers, members_depth}
use Rattle.json.proofs.Printed.Decimals.{IsNumber-decimal}
use Rattle.serde_json.specs.View.{items_of}
use Rattle.serde_json.specs.Data.{Data, Members, boolean, array, string, object, member, no_members, put}
use Rattle.serde_json.specs.Find.{get}
use Rattle.serde_json.specs.Read.{read, of_members}
use Rattle.serde_json.specs.Written.{members_outline, has_float, members_have_float}
use Rattle.serde_json.proofs.Numbers.{number_of-decimal}
use Rattle.stm_terms.specs.declared.values.Value.{Value}
use Rattle.stm_store.specs.declared.cell.Cell.{Cell}
use Rattle.stm_store.specs.Naming.{Named}
use Rattle.stm_check.specs.TypedBlock.{Block}
use Rattle.stm_events.specs.Delivered.{Delivered}
use Rattle.stm_events.specs.declared.kept_cause.KeptCause.{KeptCause}
use Rattle.stm_events.specs.Labels.{is_label}
use Rattle.stm_event_lines.specs.declared.checkpoint.CheckpointHeader.{CheckpointHeader}
use Rattle.stm_event_lines.specs.declared.checkpoint.WaitingBlock.{WaitingBlock}
use Rattle.stm_event_lines.specs.CheckpointFields.{is_checkpoint_format, checkpoint_header_of, checkpoint_header_in, cell_of, waiting_of}
use Rattle.stm_event_lines.specs.CheckpointLines.{IsCheckpointFormat, checkpoint_header_data, checkpoint_header_line, name_data, cell_data, cell_line, cause_before, label_before, delivery_members, members_after_text, waiting_data, waiting_line, FitsName, FitsCell, FitsCause, FitsDelivery, FitsWaiting}
use Rattle.stm_event_lines.specs.Fields.{write_of, all_of}
use Rattle.stm_source.specs.CompiledBlock.{block_of_text, compiled_block}
use Rattle.stm_event_lines.specs.Fits.{Is32Bit, FitsValue, FitWrites, IsOneLine, BeginsWithBrace}
use Rattle.stm_event_lines.specs.Lines.{IsFormat, number_data, write_data, header_data, header_line}
use Rattle.stm_event_lines.proofs.Exact.{value_exact, writes_exact, verdict_exact}
use Rattle.stm_event_lines.proofs.OneLines.{IsInRange, MembersInRange}
use Rattle.stm_event_lines.proofs.Ranges.{own_text, ascii_type, ascii_name, ascii_label, ascii_block, value_in_range, writes_in_range, verdict_in_range}
use Rattle.stm_event_lines.proofs.ReadsBack.{ReadsBack, reads_of, unread, same_data, in_32, value_back, writes_back, verdict_back, header_reads}
use Rattle.stm_event_lines.proofs.RoundTrips.{RoundTrips, number_round_trips, string_round_trips, value_round_trips, writes_round_trips, verdict_round_trips, array_round_trips, all_back}
use Rattle.stm_event_lines.proofs.Types.{type_back}

-- ---- no float

name_exact : (name : Option (List ℕ)) → has_float (name_data name) ≡ false
name_exact (Some name) = refl
name_exact None = refl

pub cell_exact : (name : Option (List ℕ)) (c : Cell) → has_float (cell_data name c) ≡ false
cell_exact name c = rw (value_exact c.value, name_exact name)

delivery_exact : (ticket : ℕ) (d : Option Delivered) → members_have_float (delivery_members ticket d) ≡ false
delivery_exact ticket None = refl
delivery_exact ticket (Some d) = rw (writes_exact d.reads, verdict_exact d.verdict)

label_exact : (label : List ℕ) (more : Members) → members_have_float more ≡ false → members_have_float (label_before label more) ≡ false
label_exact [] more e = e
label_exact (b ∷ bs) more e = e

cause_exact : (c : Option KeptCause) (more : Members) → members_have_float more ≡ false → members_have_float (cause_before c more) ≡ false
cause_exact None more e = e
cause_exact (Some c) more e = rw (writes_exact c.left, e)

pub waiting_exact : (ticket : ℕ) (text : List ℕ) (c : Option KeptCause) (label : List ℕ) (d : Option Delivered) → has_float (waiting_data ticket text c label d) ≡ false
waiting_exact ticket text c label d = cause_exact c _ (label_exact label _ (delivery_exact ticket d))

-- no label is one
pub no_label : is_label [] ≡ true
unfolding is_label
no_label = refl

-- ---- read as themselves

count_round_trips : (k n : ℕ) → n < 2 ^ 64 → RoundTrips k (number_data n)
count_round_trips k n h = record { numbers = IsNumber-decimal n h; back = rw (number_of-decimal n h); shallow = omega arith; exact = refl }

format_fits : (format : ℕ) → IsCheckpointFormat format → Is32Bit format
format_fits format (inl e) = omega (arith, e)
format_fits format (inr e) = omega (arith, e)

header_round_trips : (format next vars waiting : ℕ) → Is32Bit format → Is32Bit next → Is32Bit vars → Is32Bit waiting → RoundTrips 6 (checkpoint_header_data format next vars waiting)
header_round_trips format next vars waiting g h i j =
    let f = number_round_trips 0 format g in let n = number_round_trips 0 next h in
    let v = number_round_trips 0 vars i in let w = number_round_trips 0 waiting j in
    record { numbers = (f.numbers, (n.numbers, (v.numbers, (w.numbers, tt)))); back = rw (f.back, n.back, v.back, w.back); shallow = omega arith; exact = refl }

name_round_trips : (name : Option (List ℕ)) → RoundTrips 1 (name_data name)
name_round_trips (Some name) = string_round_trips 1 name
name_round_trips None = record { numbers = tt; back = refl; shallow = omega arith; exact = refl }

cell_round_trips : (name : Option (List ℕ)) (c : Cell) → FitsValue c.value → c.count < 2 ^ 64 → RoundTrips 6 (cell_data name c)
cell_round_trips name c h k =
    let v = value_round_trips c.value h in let n = name_round_trips name in let m = count_round_trips 0 c.count k in
    record { numbers = (m.numbers, (v.numbers, (n.numbers, (tt, tt)))); back = rw (m.back, v.back, n.back); shallow = omega (arith, v.shallow, n.shallow); exact = rw (v.exact, n.exact) }

-- the members put in one after another
abbrev put_all : Members → Members → Members
put_all no_members found = found
put_all (member key d ms) found = put_all ms (put key d found)

-- the members read as themselves, nest no deeper than k and have no float
record MembersRoundTrip (k : ℕ) (ms : Members) : Type 0 where
  numbers : MembersHaveNumbers (members_outline ms)
  back : (found : Members) → of_members (members_outline ms) found ≡ Some (put_all ms found)
  shallow : members_depth (members_outline ms) ≤ k
  exact : members_have_float ms ≡ false

no_members_round_trip : (k : ℕ) → MembersRoundTrip k no_members
no_members_round_trip k = record { numbers = tt; back = λ found. refl; shallow = omega arith; exact = refl }

member_round_trips : (k : ℕ) (key : List ℕ) (d : Data) (ms : Members) → RoundTrips k d → MembersRoundTrip k ms → MembersRoundTrip k (member key d ms)
member_round_trips k key d ms g h =
    record { numbers = (g.numbers, h.numbers); back = λ found. rw g.back (h.back (put key d found)); shallow = omega (arith, g.shallow, h.shallow); exact = rw (g.exact, h.exact) }

-- and so does the object, if they are in order
object_round_trips : (k : ℕ) (ms : Members) → MembersRoundTrip k ms → put_all ms no_members ≡ ms → RoundTrips (suc k) (object ms)
object_round_trips k ms h e = record { numbers = h.numbers; back = rw (h.back no_members, e); shallow = omega (arith, h.shallow); exact = h.exact }

-- what nests no deeper than k nests no deeper than more
deeper : (k l : ℕ) (d : Data) → k ≤ l → RoundTrips k d → RoundTrips l d
deeper k l d h g = record { numbers = g.numbers; back = g.back; shallow = omega (arith, g.shallow); exact = g.exact }

pairs_round_trip : (ws : List (ℕ × Value)) → FitWrites ws → RoundTrips 5 (array (items_of (map write_data ws)))
pairs_round_trip ws h = deeper 3 5 _ (omega arith) (array_round_trips 2 _ (writes_round_trips ws h))

delivery_round_trips : (ticket : ℕ) (d : Option Delivered) → Is32Bit ticket → FitsDelivery d → MembersRoundTrip 5 (delivery_members ticket d)
delivery_round_trips ticket None k h = member_round_trips 5 _ _ _ (number_round_trips 5 ticket k) (no_members_round_trip 5)
delivery_round_trips ticket (Some d) k h =
    let stale : RoundTrips 5 (boolean d.stale) = record { numbers = tt; back = refl; shallow = omega arith; exact = refl } in
    member_round_trips 5 _ _ _ (pairs_round_trip d.reads h.0)
    (member_round_trips 5 _ _ _ stale (member_round_trips 5 _ _ _ (number_round_trips 5 ticket k) (member_round_trips 5 _ _ _ (verdict_round_trips d.verdict h.1) (no_members_round_trip 5))))

label_round_trips : (label : List ℕ) (more : Members) → MembersRoundTrip 5 more → MembersRoundTrip 5 (label_before label more)
label_round_trips [] more h = h
label_round_trips (b ∷ bs) more h = member_round_trips 5 _ _ _ (string_round_trips 5 (b ∷ bs)) h

cause_round_trips : (c : Option KeptCause) (more : Members) → FitsCause c → MembersRoundTrip 5 more → MembersRoundTrip 5 (cause_before c more)
cause_round_trips None more f h = h
cause_round_trips (Some c) more f h = member_round_trips 5 _ _ _ (number_round_trips 5 c.finish f.0) (member_round_trips 5 _ _ _ (pairs_round_trip c.left f.1) h)

-- the members of a waiting block are in order
in_order : (ticket : ℕ) (text : List ℕ) (c : Option KeptCause) (label : List ℕ) (d : Option Delivered)
    → let ms = member (codes "block") (string text) (members_after_text ticket c label d) in put_all ms no_members ≡ ms
in_order ticket text None [] None = refl
in_order ticket text None [] (Some d) = refl
in_order ticket text None (b ∷ bs) None = refl
in_order ticket text None (b ∷ bs) (Some d) = refl
in_order ticket text (Some c) [] None = refl
in_order ticket text (Some c) [] (Some d) = refl
in_order ticket text (Some c) (b ∷ bs) None = refl
in_order ticket text (Some c) (b ∷ bs) (Some d) = refl

waiting_round_trips : (ticket : ℕ) (text : List ℕ) (c : Option KeptCause) (label : List ℕ) (d : Option Delivered) → Is32Bit ticket → FitsCause c → FitsDelivery d → RoundTrips 6 (waiting_data ticket text c label d)
waiting_round_trips ticket text c label d k f h =
    object_round_trips 5 _
    (member_round_trips 5 _ _ _ (string_round_trips 5 text) (cause_round_trips c _ f (label_round_trips label _ (delivery_round_trips ticket d k h))))
    (in_order ticket text c label d)

-- ---- numbers and strings in range

name_in_range : (name : Option (List ℕ)) → FitsName name → IsInRange (name_data name)
name_in_range (Some name) h = ascii_name name h
name_in_range None h = tt

cell_in_range : (name : Option (List ℕ)) (c : Cell) → FitsCell name c → IsInRange (cell_data name c)
cell_in_range name c f = (refl, f.3, (refl, value_in_range c.value f.2, (refl, name_in_range name f.0, (refl, ascii_type c.kind, tt))))

delivery_in_range : (ticket : ℕ) (d : Option Delivered) → Is32Bit ticket → FitsDelivery d → MembersInRange (delivery_members ticket d)
delivery_in_range ticket None k h = (refl, omega (arith, k), tt)
delivery_in_range ticket (Some d) k h = (refl, writes_in_range d.reads h.0, (refl, tt, (refl, omega (arith, k), (refl, verdict_in_range d.verdict h.1, tt))))

label_in_range : (label : List ℕ) (more : Members) → IsTrue (is_label label) → MembersInRange more → MembersInRange (label_before label more)
label_in_range [] more f h = h
label_in_range (b ∷ bs) more f h = (refl, ascii_label (b ∷ bs) f, h)

cause_in_range : (c : Option KeptCause) (more : Members) → FitsCause c → MembersInRange more → MembersInRange (cause_before c more)
cause_in_range None more f h = h
cause_in_range (Some c) more f h = (refl, omega (arith, f.0), (refl, writes_in_range c.left f.1, h))

waiting_in_range : (known : List Named) (ticket : ℕ) (b : Block) (c : Option KeptCause) (label : List ℕ) (d : Option Delivered) → FitsWaiting known ticket b c label d → IsInRange (waiting_data ticket b.text c label d)
waiting_in_range known ticket b c label d f = (refl, ascii_block known b.text b f.1, cause_in_range c _ f.2 (label_in_range label _ f.4 (delivery_in_range ticket d f.0 f.3)))

-- ---- their texts

checkpoint_header_reads : (format next vars waiting : ℕ) → IsCheckpointFormat format → Is32Bit next → Is32Bit vars → Is32Bit waiting → ReadsBack (checkpoint_header_data format next vars waiting)
checkpoint_header_reads format next vars waiting k h i j =
    let f = format_fits format k in
    reads_of (checkpoint_header_data format next vars waiting) (header_round_trips format next vars waiting f h i j)
    (refl, omega (arith, f), (refl, omega (arith, h), (refl, omega (arith, i), (refl, omega (arith, j), tt))))

cell_reads : (name : Option (List ℕ)) (c : Cell) → FitsCell name c → ReadsBack (cell_data name c)
cell_reads name c f = reads_of (cell_data name c) (cell_round_trips name c f.2 f.3) (cell_in_range name c f)

waiting_reads : (known : List Named) (ticket : ℕ) (b : Block) (c : Option KeptCause) (label : List ℕ) (d : Option Delivered) → FitsWaiting known ticket b c label d → ReadsBack (waiting_data ticket b.text c label d)
waiting_reads known ticket b c label d f =
    reads_of (waiting_data ticket b.text c label d) (waiting_round_trips ticket b.text c label d f.0 f.2 f.3) (waiting_in_range known ticket b c label d f)

-- ---- their fields

checkpoint_header_back : (format next vars waiting : ℕ) → IsCheckpointFormat format → Is32Bit next → Is32Bit vars → Is32Bit waiting → checkpoint_header_of (checkpoint_header_data format next vars waiting) ≡ Some (record { format = format; next = next; vars = vars; waiting = waiting })
checkpoint_header_back format next vars waiting k h i j = let f = format_fits format k in rw (in_32 format f, in_32 next h, in_32 vars i, in_32 waiting j)

cell_back : (name : Option (List ℕ)) (c : Cell) → FitsCell name c → cell_of (cell_data name c) ≡ Some (name, c)
cell_back (Some name) c f = rw (value_back c.value f.2, type_back c.kind f.1)
cell_back None c f = rw (value_back c.value f.2, type_back c.kind f.1)

pairs_back : (ws : List (ℕ × Value)) → FitWrites ws → all_of write_of (items_of (map write_data ws)) ≡ Some ws
pairs_back ws h = all_back write_of write_data ws (writes_back ws h)

waiting_back : (known : List Named) (ticket : ℕ) (b : Block) (c : Option KeptCause) (label : List ℕ) (d : Option Delivered) → FitsWaiting known ticket b c label d
    → waiting_of known (waiting_data ticket b.text c label d) ≡ Some (record { ticket = ticket; block = b; cause = c; label = label; delivery = d })
waiting_back known ticket b None [] None f = rw (in_32 ticket f.0, f.1)
waiting_back known ticket b None (x ∷ xs) None f = let one : is_label (x ∷ xs) ≡ true = f.4 in rw (in_32 ticket f.0, f.1, one)
waiting_back known ticket b None [] (Some d) f = let given = f.3 in rw (in_32 ticket f.0, f.1, verdict_back d.verdict given.1, pairs_back d.reads given.0)
waiting_back known ticket b None (x ∷ xs) (Some d) f =
    let given = f.3 in
    let one : is_label (x ∷ xs) ≡ true = f.4 in
    rw (in_32 ticket f.0, f.1, one, verdict_back d.verdict given.1, pairs_back d.reads given.0)
waiting_back known ticket b (Some c) [] None f = let why = f.2 in rw (in_32 ticket f.0, f.1, in_32 c.finish why.0, pairs_back c.left why.1)
waiting_back known ticket b (Some c) (x ∷ xs) None f =
    let why = f.2 in
    let one : is_label (x ∷ xs) ≡ true = f.4 in
    rw (in_32 ticket f.0, f.1, in_32 c.finish why.0, pairs_back c.left why.1, one)
waiting_back known ticket b (Some c) [] (Some d) f =
    let why = f.2 in
    let given = f.3 in
    rw (in_32 ticket f.0, f.1, in_32 c.finish why.0, pairs_back c.left why.1, verdict_back d.verdict given.1, pairs_back d.reads given.0)
waiting_back known ticket b (Some c) (x ∷ xs) (Some d) f =
    let why = f.2 in
    let given = f.3 in
    let one : is_label (x ∷ xs) ≡ true = f.4 in
    rw (in_32 ticket f.0, f.1, in_32 c.finish why.0, pairs_back c.left why.1, one, verdict_back d.verdict given.1, pairs_back d.reads given.0)

-- ---- what a line is that was read

pub checkpoint_header_is : (line : List ℕ) (format next vars waiting : ℕ) (g : Data) → IsCheckpointFormat format → Is32Bit next → Is32Bit vars → Is32Bit waiting → checkpoint_header_line format next vars waiting ≡ line → read line ≡ Some g
    → checkpoint_header_of g ≡ Some (record { format = format; next = next; vars = vars; waiting = waiting })
unfolding checkpoint_header_line
checkpoint_header_is line format next vars waiting g k h i j l some =
    let same : g ≡ checkpoint_header_data format next vars waiting = same_data line (checkpoint_header_data format next vars waiting) g (checkpoint_header_reads format next vars waiting k h i j) l some in
    rw same (checkpoint_header_back format next vars waiting k h i j)

format_holds : (format : ℕ) → IsCheckpointFormat format → is_checkpoint_format format ≡ true
format_holds format (inl e) = rw e refl
format_holds format (inr e) = rw e refl

-- also where its format is looked at
pub checkpoint_header_in_is : (line : List ℕ) (format next vars waiting : ℕ) (g : Data) → IsCheckpointFormat format → Is32Bit next → Is32Bit vars → Is32Bit waiting → checkpoint_header_line format next vars waiting ≡ line → read line ≡ Some g
    → checkpoint_header_in g ≡ Some (record { format = format; next = next; vars = vars; waiting = waiting })
unfolding checkpoint_header_line
checkpoint_header_in_is line format next vars waiting g k h i j l some =
    let same : g ≡ checkpoint_header_data format next vars waiting = same_data line (checkpoint_header_data format next vars waiting) g (checkpoint_header_reads format next vars waiting k h i j) l some in
    rw (same, checkpoint_header_back format next vars waiting k h i j, format_holds format k)

pub cell_is : (line : List ℕ) (name : Option (List ℕ)) (c : Cell) (g : Data) → FitsCell name c → cell_line name c ≡ line → read line ≡ Some g → cell_of g ≡ Some (name, c)
unfolding cell_line
cell_is line name c g f l some = let same : g ≡ cell_data name c = same_data line (cell_data name c) g (cell_reads name c f) l some in rw same (cell_back name c f)

pub waiting_is : (known : List Named) (line : List ℕ) (ticket : ℕ) (b : Block) (c : Option KeptCause) (label : List ℕ) (d : Option Delivered) (g : Data) → FitsWaiting known ticket b c label d → waiting_line ticket b.text c label d ≡ line → read line ≡ Some g
    → waiting_of known g ≡ Some (record { ticket = ticket; block = b; cause = c; label = label; delivery = d })
unfolding waiting_line
waiting_is known line ticket b c label d g f l some =
    let same : g ≡ waiting_data ticket b.text c label d = same_data line (waiting_data ticket b.text c label d) g (waiting_reads known ticket b c label d f) l some in rw same (waiting_back known ticket b c label d f)

pub checkpoint_header_unread : (line : List ℕ) (format next vars waiting : ℕ) → IsCheckpointFormat format → Is32Bit next → Is32Bit vars → Is32Bit waiting → checkpoint_header_line format next vars waiting ≡ line → (IsUtf8 line → read line ≡ None) → ⊥
unfolding checkpoint_header_line
checkpoint_header_unread line format next vars waiting k h i j l none = unread line (checkpoint_header_data format next vars waiting) (checkpoint_header_reads format next vars waiting k h i j) l none

pub cell_unread : (line : List ℕ) (name : Option (List ℕ)) (c : Cell) → FitsCell name c → cell_line name c ≡ line → (IsUtf8 line → read line ≡ None) → ⊥
unfolding cell_line
cell_unread line name c f l none = unread line (cell_data name c) (cell_reads name c f) l none

pub waiting_unread : (known : List Named) (line : List ℕ) (ticket : ℕ) (b : Block) (c : Option KeptCause) (label : List ℕ) (d : Option Delivered) → FitsWaiting known ticket b c label d → waiting_line ticket b.text c label d ≡ line → (IsUtf8 line → read line ≡ None) → ⊥
unfolding waiting_line
waiting_unread known line ticket b c label d f l none = unread line (waiting_data ticket b.text c label d) (waiting_reads known ticket b c label d f) l none

-- ---- a block that was read

-- it is what its text checks to
pub own_block : (known : List Named) (o : Option (List ℕ)) (b : Block) → option_and_then (block_of_text known) o ≡ Some b → compiled_block known b.text ≡ Ok b
own_block known (Some text) b e = own_text known text b e
own_block known None b e = absurd cc

-- ---- laws

pub checkpoint_header_one_line : (format next vars waiting : ℕ) → IsCheckpointFormat format → Is32Bit next → Is32Bit vars → Is32Bit waiting → IsOneLine (checkpoint_header_line format next vars waiting)
unfolding checkpoint_header_line
checkpoint_header_one_line format next vars waiting k h i j = (checkpoint_header_reads format next vars waiting k h i j).one_line

pub cell_one_line : (name : Option (List ℕ)) (c : Cell) → FitsCell name c → IsOneLine (cell_line name c)
unfolding cell_line
cell_one_line name c f = (cell_reads name c f).one_line

pub waiting_one_line : (known : List Named) (ticket : ℕ) (b : Block) (c : Option KeptCause) (label : List ℕ) (d : Option Delivered) → FitsWaiting known ticket b c label d → IsOneLine (waiting_line ticket b.text c label d)
unfolding waiting_line
waiting_one_line known ticket b c label d f = (waiting_reads known ticket b c label d f).one_line

pub checkpoint_header_brace : (format next vars waiting : ℕ) → BeginsWithBrace (checkpoint_header_line format next vars waiting)
unfolding checkpoint_header_line
checkpoint_header_brace format next vars waiting = (_, refl)

pub cell_brace : (name : Option (List ℕ)) (c : Cell) → BeginsWithBrace (cell_line name c)
unfolding cell_line
cell_brace name c = (_, refl)

pub waiting_brace : (ticket : ℕ) (text : List ℕ) (c : Option KeptCause) (label : List ℕ) (d : Option Delivered) → BeginsWithBrace (waiting_line ticket text c label d)
unfolding waiting_line
waiting_brace ticket text c label d = (_, refl)

-- different first lines say different numbers
one_header : (o : Option CheckpointHeader) (g h : CheckpointHeader) → o ≡ Some g → o ≡ Some h → g ≡ h
one_header o g h a b = cc

pub checkpoint_header_same : (format format' next next' vars vars' waiting waiting' : ℕ) → IsCheckpointFormat format → IsCheckpointFormat format' → Is32Bit next → Is32Bit vars → Is32Bit waiting → Is32Bit next' → Is32Bit vars' → Is32Bit waiting'
    → checkpoint_header_line format next vars waiting ≡ checkpoint_header_line format' next' vars' waiting' → (format ≡ format') × (next ≡ next') × (vars ≡ vars') × (waiting ≡ waiting')
unfolding checkpoint_header_line
checkpoint_header_same format format' next next' vars vars' waiting waiting' k k' h i j h' i' j' l =
    let g = checkpoint_header_data format' next' vars' waiting' in
    let a : checkpoint_header_of g ≡ Some (record { format = format'; next = next'; vars = vars'; waiting = waiting' }) = checkpoint_header_back format' next' vars' waiting' k' h' i' j' in
    let b : checkpoint_header_of g ≡ Some (record { format = format; next = next; vars = vars; waiting = waiting }) =
    checkpoint_header_is (checkpoint_header_line format' next' vars' waiting') format next vars waiting g k h i j l (checkpoint_header_reads format' next' vars' waiting' k' h' i' j').back in
    let same : record { format = format; next = next; vars = vars; waiting = waiting } ≡ record { format = format'; next = next'; vars = vars'; waiting = waiting' } = one_header _ _ _ b a in
    (ap (λ (x : CheckpointHeader). x.format) same, ap (λ (x : CheckpointHeader). x.next) same, ap (λ (x : CheckpointHeader). x.vars) same, ap (λ (x : CheckpointHeader). x.waiting) same)

-- so different variables have different lines
one_cell : (o : Option (Option (List ℕ) × Cell)) (g h : Option (List ℕ) × Cell) → o ≡ Some g → o ≡ Some h → g ≡ h
one_cell o g h a b = cc

pub cell_same : (name name' : Option (List ℕ)) (c c' : Cell) → FitsCell name c → FitsCell name' c' → cell_line name c ≡ cell_line name' c' → (name ≡ name') × (c ≡ c')
unfolding cell_line
cell_same name name' c c' f f' l =
    let a : cell_of (cell_data name' c') ≡ Some (name', c') = cell_back name' c' f' in
    let b : cell_of (cell_data name' c') ≡ Some (name, c) = cell_is (cell_line name' c') name c (cell_data name' c') f l (cell_reads name' c' f').back in
    let same : (name, c) ≡ (name', c') = one_cell _ _ _ b a in
    (ap (λ (x : Option (List ℕ) × Cell). x.0) same, ap (λ (x : Option (List ℕ) × Cell). x.1) same)

-- and different waiting blocks over the same names
one_waiting : (o : Option WaitingBlock) (g h : WaitingBlock) → o ≡ Some g → o ≡ Some h → g ≡ h
one_waiting o g h a b = cc

pub waiting_same : (known : List Named) (ticket ticket' : ℕ) (b b' : Block) (c c' : Option KeptCause) (label label' : List ℕ) (d d' : Option Delivered) → FitsWaiting known ticket b c label d → FitsWaiting known ticket' b' c' label' d'
    → waiting_line ticket b.text c label d ≡ waiting_line ticket' b'.text c' label' d' → (ticket ≡ ticket') × (b ≡ b') × (c ≡ c') × (label ≡ label') × (d ≡ d')
unfolding waiting_line
waiting_same known ticket ticket' b b' c c' label label' d d' f f' l =
    let g = waiting_data ticket' b'.text c' label' d' in
    let w : WaitingBlock = record { ticket = ticket; block = b; cause = c; label = label; delivery = d } in
    let w' : WaitingBlock = record { ticket = ticket'; block = b'; cause = c'; label = label'; delivery = d' } in
    let a : waiting_of known g ≡ Some w' = waiting_back known ticket' b' c' label' d' f' in
    let e : waiting_of known g ≡ Some w = waiting_is known (waiting_line ticket' b'.text c' label' d') ticket b c label d g f l (waiting_reads known ticket' b' c' label' d' f').back in
    let same : w ≡ w' = one_waiting _ w w' e a in
    (ap (λ (x : WaitingBlock). x.ticket) same, ap (λ (x : WaitingBlock). x.block) same, ap (λ (x : WaitingBlock). x.cause) same, ap (λ (x : WaitingBlock). x.label) same, ap (λ (x : WaitingBlock). x.delivery) same)

-- a first line of a checkpoint is none of the formats that begin from a table
pub checkpoint_header_new : (format' next vars waiting format n : ℕ) → IsCheckpointFormat format' → Is32Bit next → Is32Bit vars → Is32Bit waiting → IsFormat format → Is32Bit n → checkpoint_header_line format' next vars waiting ≢ header_line format n
unfolding checkpoint_header_line header_line
checkpoint_header_new format' next vars waiting format n k' h i j k m = λ l.
    let same : checkpoint_header_data format' next vars waiting ≡ header_data format n =
    sym (same_data (header_line format n) (checkpoint_header_data format' next vars waiting) (header_data format n) (checkpoint_header_reads format' next vars waiting k' h i j) l (header_reads format n k m).back) in
    let there : Some (number_data next) ≡ None = ap (get (codes "next")) same in
    absurd cc
