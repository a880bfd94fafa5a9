-- The numbers of a line are of 64 bits, and its strings ASCII.
use Rattle.std.proofs.Common.{◌≡◌, ℕ, zero, suc, ◌<◌, List, [], ◌∷◌, ◌++◌, map, Some, Bool, true, false, cond, refl, sym, subst, arith, codes, ℤ, pos, negsuc, IsTrue, Result, Ok, Err, length}
use Rattle.std.specs.Prelude.{◌&&◌, nat_lt}
use Rattle.std.specs.List.{list_all}
use Rattle.std.specs.Str.{IsAscii}
use Rattle.std.proofs.lemmas.Bool.Decides.{nat_tests}
use Rattle.std.proofs.lemmas.Bool.{and_from, and_parts}
use Rattle.serde_json.specs.Data.{number}
use Rattle.serde_json.specs.Find.{of_integer}
use Rattle.serde_json.specs.View.{items_of}
use Rattle.stm_terms.specs.declared.kinds.Ty.{Ty}
use Rattle.stm_terms.specs.declared.kinds.Base.{Base}
use Rattle.stm_terms.specs.declared.kinds.Base.TheVariants as base
use Rattle.stm_terms.specs.declared.values.Value.{Value}
use Rattle.stm_terms.specs.declared.values.Value.TheVariants as value
use Rattle.stm_terms.specs.declared.values.Ref.TheVariants.{Old, New}
use Rattle.stm_terms.specs.declared.values.Fault.TheVariants.{Thrown, Overflow}
use Rattle.stm_terms.specs.declared.verdicts.Verdict.{Verdict}
use Rattle.stm_terms.specs.declared.verdicts.Verdict.TheVariants.{Commits, Throws, Blocks}
use Rattle.stm_terms.specs.Names.{is_name_text, is_word_byte}
use Rattle.stm_terms.specs.Texts.{refs_text, type_text}
use Rattle.stm_terms.specs.ParsedAst as raw
use Rattle.stm_parse.specs.declared.tokenizer.Token.{Token}
use Rattle.stm_parse.specs.declared.fault.ParseFault.{ParseFault}
use Rattle.stm_parse.specs.ParseFunction.{parsed_block, answered, of_tokens}
use Rattle.stm_parse.specs.ParseResult.{most_bytes}
use Rattle.stm_parse.specs.Descent.{block_reader}
use Rattle.stm_parse.specs.Tokenizer.{tokens_of}
use Rattle.stm_parse.proofs.TokenizedIsAscii.{cut_ascii}
use Rattle.stm_store.specs.Tables.{Declared}
use Rattle.stm_store.specs.Naming.{Named}
use Rattle.stm_check.specs.TypedBlock.{Block}
use Rattle.stm_events.specs.declared.event.What.{What}
use Rattle.stm_events.specs.Labels.{is_label, is_label_byte}
use Rattle.stm_events.specs.declared.event.What.TheVariants.{Submitted, Installed, Finished, Cancelled, Declared as DeclaredLate, Labelled}
use Rattle.stm_terms.specs.Ast.{Act}
use Rattle.stm_terms.specs.Typing.{ActionType}
use Rattle.stm_check.specs.CheckFunction.{checked}
use Rattle.stm_check.specs.declared.fault.TypeFault.{TypeFault}
use Rattle.stm_source.specs.declared.refusal.Refusal.{Refusal}
use Rattle.stm_source.specs.CompiledBlock.{compiled_block, block_if_parsed, block_if_typed, block_if_any, block_of_text}
use Rattle.stm_event_lines.specs.Fits.{WhatFitsNames, FitsValue, FitsInt, FitsVerdict, FitWrites, FitNews, FitNumbers, FitsVariable}
use Rattle.stm_event_lines.specs.Lines.{number_data, value_data, write_data, new_data, verdict_data, what_data, variable_data}
use Rattle.stm_event_lines.proofs.OneLines.{IsInRange, ItemsInRange, is_ascii_text}

ascii_cons : (a b c : Bool) → a && b ≡ true → (b ≡ true → c ≡ true) → a && c ≡ true
ascii_cons true b c e f = f e
ascii_cons false b c e f = absurd cc

ascii_append : (xs ys : List ℕ) → is_ascii_text xs ≡ true → is_ascii_text ys ≡ true → is_ascii_text (xs ++ ys) ≡ true
ascii_append [] ys h k = k
ascii_append (x ∷ xs) ys h k = ascii_cons (nat_lt x 128) (is_ascii_text xs) (is_ascii_text (xs ++ ys)) h (λ t. ascii_append xs ys t k)

-- ---- a type's text

ascii_refs : (b : Base) (n : ℕ) → is_ascii_text (refs_text b n) ≡ true
ascii_refs base.Int zero = refl
ascii_refs base.Bool zero = refl
ascii_refs base.Unit zero = refl
ascii_refs base.Int (suc zero) = refl
ascii_refs base.Bool (suc zero) = refl
ascii_refs base.Unit (suc zero) = refl
ascii_refs b (suc (suc n)) = ascii_append (refs_text b (suc n)) (codes ")") (ascii_refs b (suc n)) refl

pub ascii_type : (t : Ty) → is_ascii_text (type_text t) ≡ true
unfolding type_text
ascii_type t = ascii_refs t.base t.refs

-- ---- a name

word_ascii : (x : ℕ) → is_word_byte x ≡ true → nat_lt x 128 ≡ true
word_ascii x h = grind (arith, nat_tests)

words_ascii : (xs : List ℕ) → list_all is_word_byte xs ≡ true → is_ascii_text xs ≡ true
words_ascii [] h = refl
words_ascii (x ∷ xs) h = let p = and_parts (is_word_byte x) (list_all is_word_byte xs) h in and_from (nat_lt x 128) (is_ascii_text xs) (word_ascii x p.0) (words_ascii xs p.1)

four : (a b c d : Bool) → IsTrue (a && b && c && d) → b ≡ true
four true true c d h = refl
four true false c d h = absurd cc
four false b c d h = absurd cc

pub ascii_name : (name : List ℕ) → IsTrue (is_name_text name) → is_ascii_text name ≡ true
unfolding is_name_text
ascii_name name h = words_ascii name (four _ _ _ _ h)

-- ---- a label

seen_ascii : (x : ℕ) → is_label_byte x ≡ true → nat_lt x 128 ≡ true
seen_ascii x h = grind (arith, nat_tests)

all_seen : (xs : List ℕ) → list_all is_label_byte xs ≡ true → is_ascii_text xs ≡ true
all_seen [] h = refl
all_seen (x ∷ xs) h = let p = and_parts (is_label_byte x) (list_all is_label_byte xs) h in and_from (nat_lt x 128) (is_ascii_text xs) (seen_ascii x p.0) (all_seen xs p.1)

three : (a b c : Bool) → IsTrue (a && b && c) → a ≡ true
three true b c h = refl
three false b c h = absurd cc

pub ascii_label : (label : List ℕ) → IsTrue (is_label label) → is_ascii_text label ≡ true
unfolding is_label
ascii_label label h = all_seen label (three _ _ _ h)

-- ---- a block's text

ascii_tested : (xs : List ℕ) → IsAscii xs → is_ascii_text xs ≡ true
ascii_tested [] h = refl
ascii_tested (x ∷ xs) h = and_from (nat_lt x 128) (is_ascii_text xs) (let k = h zero in grind (arith, nat_tests)) (ascii_tested xs (λ i. h (suc i)))

tokens_ascii : (text : List ℕ) (r : Result (List Token) ParseFault) (t : raw.RawAct) → tokens_of text ≡ r → of_tokens block_reader text r ≡ Ok t → IsAscii text
tokens_ascii text (Ok ts) t e f = cut_ascii text ts e
tokens_ascii text (Err x) t e f = absurd cc

short_ascii : (b : Bool) (text : List ℕ) (e : ParseFault) (t : raw.RawAct) → cond b (Err e) (of_tokens block_reader text (tokens_of text)) ≡ Ok t → IsAscii text
short_ascii true text e t f = absurd cc
short_ascii false text e t f = tokens_ascii text (tokens_of text) t refl f

parsed_ascii : (text : List ℕ) (t : raw.RawAct) → parsed_block text ≡ Ok t → IsAscii text
unfolding parsed_block answered
parsed_ascii text t e = short_ascii (nat_lt most_bytes (length text)) text _ t e

known_ascii : (known : List Named) (text : List ℕ) (r : Result raw.RawAct ParseFault) (b : Block) → parsed_block text ≡ r → block_if_parsed known text r ≡ Ok b → IsAscii text
known_ascii known text (Ok t) b e f = parsed_ascii text t e
known_ascii known text (Err x) b e f = absurd cc

pub ascii_block : (known : List Named) (text : List ℕ) (b : Block) → compiled_block known text ≡ Ok b → is_ascii_text text ≡ true
unfolding compiled_block
ascii_block known text b e = ascii_tested text (known_ascii known text (parsed_block text) b refl e)

-- ---- lines

int_in_range : (z : ℤ) → FitsInt z → IsInRange (number (of_integer z))
int_in_range (pos n) h = omega arith
int_in_range (negsuc n) h = omega arith

pub value_in_range : (v : Value) → FitsValue v → IsInRange (value_data v)
value_in_range (value.Int z) h = int_in_range z h
value_in_range (value.Bool b) h = tt
value_in_range value.Unit h = tt
value_in_range (value.Var (Old i)) h = (refl, omega arith, tt)
value_in_range (value.Var (New k)) h = (refl, omega arith, tt)

pub writes_in_range : (ws : List (ℕ × Value)) → FitWrites ws → ItemsInRange (items_of (map write_data ws))
writes_in_range [] h = tt
writes_in_range (w ∷ ws) h = ((omega (arith, h.0), (value_in_range w.1 h.1, tt)), writes_in_range ws h.2)

news_in_range : (ns : List (Ty × Value)) → FitNews ns → ItemsInRange (items_of (map new_data ns))
news_in_range [] h = tt
news_in_range (n ∷ ns) h = ((ascii_type n.0, (value_in_range n.1 h.1, tt)), news_in_range ns h.2)

numbers_in_range : (ns : List ℕ) → FitNumbers ns → ItemsInRange (items_of (map number_data ns))
numbers_in_range [] h = tt
numbers_in_range (n ∷ ns) h = (omega (arith, h.0), numbers_in_range ns h.1)

pub verdict_in_range : (v : Verdict) → FitsVerdict v → IsInRange (verdict_data v)
verdict_in_range (Commits writes news result) h = (refl, (refl, news_in_range news h.1, (refl, value_in_range result h.2, (refl, writes_in_range writes h.0, tt))), tt)
verdict_in_range (Throws (Thrown z)) h = (refl, int_in_range z h, tt)
verdict_in_range (Throws Overflow) h = (refl, refl, tt)
verdict_in_range Blocks h = refl

pub what_in_range : (known : List Named) (client : ℕ) (d : What) → client < 128 → WhatFitsNames known d → IsInRange (what_data client d)
what_in_range known client (Submitted ticket b) k h = (refl, ascii_block known b.text b h.1, (refl, omega arith, (refl, refl, (refl, omega (arith, h.0), tt))))
what_in_range known client (Installed ticket v) k h = (refl, omega arith, (refl, refl, (refl, omega (arith, h.0), (refl, verdict_in_range v h.1, tt))))
what_in_range known client (Finished ticket v n stale) k h =
    (refl, omega arith, (refl, refl, (refl, omega (arith, h.2), (refl, numbers_in_range stale h.3, (refl, omega (arith, h.0), (refl, verdict_in_range v h.1, tt))))))
what_in_range known client (Cancelled ticket) k h = (refl, omega arith, (refl, refl, (refl, omega (arith, h), tt)))
what_in_range known client (DeclaredLate name kind value) k h =
    (refl, omega arith, (refl, refl, (refl, value_in_range value h.2, (refl, ascii_name name h.0, (refl, ascii_type kind, tt)))))
what_in_range known client (Labelled ticket label) k h = (refl, omega arith, (refl, refl, (refl, ascii_label label h.1, (refl, omega (arith, h.0), tt))))

pub variable_in_range : (d : Declared) → FitsVariable d → IsInRange (variable_data d)
variable_in_range d f = (refl, value_in_range d.value f.2, (refl, ascii_name d.name f.0, (refl, ascii_type d.kind, tt)))

-- ---- a block has the text that it was made of

checked_text : (known : List Named) (text : List ℕ) (r : Result (Act × ActionType) TypeFault) (b : Block) → block_if_typed known text r ≡ Ok b → b.text ≡ text
checked_text known text (Ok c) b e = cc
checked_text known text (Err x) b e = absurd cc

parsed_text : (known : List Named) (text : List ℕ) (r : Result raw.RawAct ParseFault) (b : Block) → block_if_parsed known text r ≡ Ok b → b.text ≡ text
parsed_text known text (Ok t) b e = checked_text known text (checked known text [] t) b e
parsed_text known text (Err x) b e = absurd cc

text_of : (known : List Named) (text : List ℕ) (b : Block) → compiled_block known text ≡ Ok b → b.text ≡ text
unfolding compiled_block
text_of known text b e = parsed_text known text (parsed_block text) b e

not_faulty : (r : Result Block Refusal) (b : Block) → block_if_any r ≡ Some b → r ≡ Ok b
not_faulty (Ok c) b e = cc
not_faulty (Err x) b e = absurd cc

pub own_text : (known : List Named) (text : List ℕ) (b : Block) → block_of_text known text ≡ Some b → compiled_block known b.text ≡ Ok b
own_text known text b e =
    let f : compiled_block known text ≡ Ok b = not_faulty (compiled_block known text) b e in
    subst (λ (t : List ℕ). compiled_block known t ≡ Ok b) (sym (text_of known text b f)) f
