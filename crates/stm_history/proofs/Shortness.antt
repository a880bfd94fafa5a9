-- The lines of headers and of variables are short, those of checkpoints too.
use Rattle.std.proofs.Common.{◌≡◌, ℕ, zero, suc, ◌+◌, ◌*◌, ◌/◌, ◌%◌, ◌≤◌, Bool, true, false, cond, List, [], ◌∷◌, ◌++◌, length, Option, Some, None, refl, arith, length-append, codes, pos, negsuc, IsTrue, inl, inr}
use Rattle.std.specs.Prelude.{◌&&◌, nat_lt, nat_le, not}
use Rattle.std.specs.Char.{digit_char}
use Rattle.std.specs.List.{list_all}
use Rattle.std.proofs.lemmas.Bool.Decides.{nat_tests}
use Rattle.std.proofs.lemmas.Fmt.{length-decimal-le}
use Rattle.json.specs.Print.{escape_letter, escape_byte, escape}
use Rattle.serde_json.specs.Written.{compact_text}
use Rattle.stm_terms.specs.declared.kinds.Base.{Base}
use Rattle.stm_terms.specs.declared.kinds.Base.TheVariants as base
use Rattle.stm_terms.specs.declared.values.Value.{Value}
use Rattle.stm_terms.specs.declared.values.Value.TheVariants as value
use Rattle.stm_terms.specs.declared.values.Ref.TheVariants.{Old, New}
use Rattle.stm_terms.specs.Names.{is_name_text, starts_lower, is_word_byte, is_reserved}
use Rattle.stm_terms.specs.Texts.{refs_text, type_text}
use Rattle.stm_store.specs.declared.cell.Cell.{Cell}
use Rattle.stm_store.specs.Tables.{Declared}
use Rattle.stm_event_lines.specs.CheckpointLines.{FitsCell, IsCheckpointFormat, cell_line, checkpoint_header_line}
use Rattle.stm_event_lines.specs.Fits.{FitsValue, FitsVariable, Is32Bit}
use Rattle.stm_history.specs.Judgement.{IsShort}
use Rattle.stm_event_lines.specs.Lines.{IsFormat, header_line, variable_line, value_data}
use Rattle.stm_events.specs.SlowDesk.{max_cells}

format_low : (format : ℕ) → IsFormat format → format ≤ 5
format_low format (inl k) = omega (arith, k.1)
format_low format (inr e) = omega (arith, e)

pub header_short : (format n : ℕ) → IsFormat format → n ≤ max_cells → IsShort (header_line format n)
unfolding header_line escape_byte
header_short format n k h =
    let low = format_low format k in
    let d = length-decimal-le 7 n (omega arith) (omega arith) (omega arith) in
    let f = length-decimal-le 10 format (omega arith) (omega arith) (omega (arith, low)) in
    simp length-append (omega (arith, d, f))

-- ---- a string in quotes is at most six times as long

byte_cases : (b c : Bool) (x : ℕ) → length (cond b (92 ∷ escape_letter x ∷ []) (cond c (92 ∷ 117 ∷ 48 ∷ 48 ∷ digit_char (x / 16) ∷ digit_char (x % 16) ∷ []) (x ∷ []))) ≤ 6
byte_cases true c x = omega arith
byte_cases false true x = omega arith
byte_cases false false x = omega arith

byte_short : (x : ℕ) → length (escape_byte x) ≤ 6
unfolding escape_byte
byte_short x = byte_cases (nat_lt 0 (escape_letter x)) (nat_lt x 32) x

escape_short : (s : List ℕ) → length (escape s) ≤ 6 * length s
escape_short [] = omega arith
escape_short (x ∷ s) = let b = byte_short x in let i = escape_short s in let l = length-append (escape_byte x) (escape s) in omega (arith, b, i, l)

-- ---- types, values, names

base_short : (b : Base) → length (refs_text b zero) ≤ 4
base_short base.Int = omega arith
base_short base.Bool = omega arith
base_short base.Unit = omega arith

refs_short : (b : Base) (n : ℕ) → length (refs_text b n) ≤ 7 * n + 4
refs_short b zero = let h = base_short b in omega (arith, h)
refs_short b (suc zero) = let h = base_short b in let l = length-append (codes "TVar ") (refs_text b zero) in omega (arith, h, l)
refs_short b (suc (suc n)) =
    let h = refs_short b (suc n) in
    let l = length-append (codes "TVar (") (refs_text b (suc n) ++ codes ")") in
    let m = length-append (refs_text b (suc n)) (codes ")") in
    omega (arith, h, l, m)

value_short : (v : Value) → FitsValue v → length (compact_text (value_data v)) ≤ 64
unfolding escape_byte
value_short (value.Int (pos n)) h = let d = length-decimal-le 20 n (omega arith) (omega arith) (omega arith) in omega (arith, d)
value_short (value.Int (negsuc n)) h = let d = length-decimal-le 20 (suc n) (omega arith) (omega arith) (omega arith) in omega (arith, d)
value_short (value.Bool true) h = omega arith
value_short (value.Bool false) h = omega arith
value_short value.Unit h = omega arith
value_short (value.Var (Old i)) h = let d = length-decimal-le 20 i (omega arith) (omega arith) (omega arith) in simp length-append (omega (arith, d))
value_short (value.Var (New k)) h = let d = length-decimal-le 20 k (omega arith) (omega arith) (omega arith) in simp length-append (omega (arith, d))

last_of : (a b c d : Bool) → IsTrue (a && b && c && d) → d ≡ true
last_of true true true true h = refl
last_of true true true false h = absurd cc
last_of true true false d h = absurd cc
last_of true false c d h = absurd cc
last_of false b c d h = absurd cc

name_short : (name : List ℕ) → IsTrue (is_name_text name) → length name ≤ 32
unfolding is_name_text
name_short name h = let e = last_of (starts_lower name) (list_all is_word_byte name) (not (is_reserved name)) (nat_le (length name) 32) h in grind (arith, nat_tests)

pub variable_short : (d : Declared) → FitsVariable d → IsShort (variable_line d)
unfolding variable_line escape_byte type_text
variable_short d f =
    let v = value_short d.value f.2 in
    let n = name_short d.name f.0 in
    let e = escape_short d.name in
    let r = refs_short d.kind.base d.kind.refs in
    let t = escape_short (refs_text d.kind.base d.kind.refs) in
    let few : d.kind.refs ≤ 8 = f.1 in
    simp length-append (omega (arith, v, n, e, r, t, few))

-- ---- checkpoints

checkpoint_format_low : (format : ℕ) → IsCheckpointFormat format → format ≤ 5
checkpoint_format_low format (inl e) = omega (arith, e)
checkpoint_format_low format (inr e) = omega (arith, e)

pub checkpoint_header_short : (format next vars waiting : ℕ) → IsCheckpointFormat format → Is32Bit next → Is32Bit vars → Is32Bit waiting → IsShort (checkpoint_header_line format next vars waiting)
unfolding checkpoint_header_line escape_byte
checkpoint_header_short format next vars waiting i h k l =
    let low = checkpoint_format_low format i in
    let d = length-decimal-le 20 next (omega arith) (omega arith) (omega arith) in
    let e = length-decimal-le 20 vars (omega arith) (omega arith) (omega arith) in
    let f = length-decimal-le 20 waiting (omega arith) (omega arith) (omega arith) in
    let g = length-decimal-le 10 format (omega arith) (omega arith) (omega (arith, low)) in
    simp length-append (omega (arith, d, e, f, g))

pub cell_short : (name : Option (List ℕ)) (c : Cell) → FitsCell name c → IsShort (cell_line name c)
unfolding cell_line escape_byte type_text
cell_short None c f =
    let v = value_short c.value f.2 in
    let d = length-decimal-le 20 c.count (omega arith) (omega arith) (omega (arith, f.3)) in
    let r = refs_short c.kind.base c.kind.refs in
    let t = escape_short (refs_text c.kind.base c.kind.refs) in
    let few : c.kind.refs ≤ 8 = f.1 in
    simp length-append (omega (arith, v, d, r, t, few))
cell_short (Some name) c f =
    let v = value_short c.value f.2 in
    let d = length-decimal-le 20 c.count (omega arith) (omega arith) (omega (arith, f.3)) in
    let n = name_short name f.0 in
    let e = escape_short name in
    let r = refs_short c.kind.base c.kind.refs in
    let t = escape_short (refs_text c.kind.base c.kind.refs) in
    let few : c.kind.refs ≤ 8 = f.1 in
    simp length-append (omega (arith, v, d, n, e, r, t, few))
