-- A script is read line by line, and is that of the whole input.
use Rattle.std.proofs.Common.{◌≡◌, ℕ, ◌+◌, List, [], ◌∷◌, length, map, refl, sym, ap, ◌∙◌, arith, add-zero, Option, Some, None, Result, Ok, Err, IfSome}
use Rattle.std.proofs.lemmas.List.{length-map}
use Rattle.stm_lines.specs.LineClass.{LineClass, line_class}
use Rattle.stm_lines.specs.LineReading.{classes_from, IsNextLine, IsNoLine}
use Rattle.stm_lines.specs.Lines.{lines_of}
use Rattle.stm_script.specs.declared.script_fault.ScriptFault.{ScriptFault}
use Rattle.stm_script.specs.ScriptReading.{after_class_at, after_classes, rest_script, IsReadTo}
use Rattle.stm_script.specs.StormScript.{PartialScript, nothing_read, after_line, after_lines, script_result, storm_script}

-- of a line no more counts than how it is judged
by_classes : (r : Result PartialScript ScriptFault) (n : ℕ) (lines : List (List ℕ)) → after_lines r n lines ≡ after_classes r n (map line_class lines)
unfolding after_line
by_classes (Err e) n lines = refl
by_classes (Ok r) n [] = refl
by_classes (Ok r) n (line ∷ lines) = by_classes (after_class_at r n (line_class line)) (n + 1) lines

whole : (input : List ℕ) → storm_script input ≡ rest_script (Ok nothing_read) 1 (classes_from [] input)
unfolding storm_script rest_script classes_from
whole input =
    let same : length (lines_of input) + 1 ≡ 1 + length (map line_class (lines_of input)) = omega (arith, length-map (lines_of input) line_class) in
    ap (λ n. script_result (after_lines (Ok nothing_read) 1 (lines_of input)) n) same
    ∙ ap (λ r. script_result r (1 + length (map line_class (lines_of input)))) (by_classes (Ok nothing_read) 1 (lines_of input))

-- nothing was read yet
pub read_none : (a : Option (List ℕ)) (r : PartialScript) → r ≡ nothing_read → IsReadTo a a r 1
read_none None r e = tt
read_none (Some all) r e = whole all ∙ ap (λ s. rest_script (Ok s) 1 (classes_from [] all)) (sym e)

next : (r : PartialScript) (n : ℕ) (class : LineClass) (rest : List LineClass) → rest_script (Ok r) n (class ∷ rest) ≡ rest_script (after_class_at r n class) (n + 1) rest
unfolding rest_script
next r n class rest =
    let same : n + length (class ∷ rest) ≡ (n + 1) + length rest = omega arith in
    ap (script_result (after_classes (after_class_at r n class) (n + 1) rest)) same

-- a line more
pub read_more : (a b c : Option (List ℕ)) (line : List ℕ) (r s : PartialScript) (n : ℕ) → IsReadTo a b r n → IsNextLine b c line → after_class_at r n (line_class line) ≡ Ok s → IsReadTo a c s (n + 1)
read_more None b c line r s n h k e = tt
read_more (Some all) None c line r s n h k e = absurd h
read_more (Some all) (Some rest) None line r s n h k e = absurd k
read_more (Some all) (Some rest) (Some left) line r s n h k e =
    h ∙ ap (rest_script (Ok r) n) k ∙ next r n (line_class line) (classes_from [] left) ∙ ap (λ x. rest_script x (n + 1) (classes_from [] left)) e

fault_stays : (m : ScriptFault) (n : ℕ) (rest : List LineClass) → rest_script (Err m) n rest ≡ Err m
unfolding rest_script
fault_stays m n rest = refl

-- a faulty line
pub read_fault : (a b c : Option (List ℕ)) (line : List ℕ) (r : PartialScript) (n : ℕ) (m : ScriptFault) → IsReadTo a b r n → IsNextLine b c line → after_class_at r n (line_class line) ≡ Err m
    → IfSome a (λ input. storm_script input ≡ Err m)
read_fault None b c line r n m h k e = tt
read_fault (Some all) None c line r n m h k e = absurd h
read_fault (Some all) (Some rest) None line r n m h k e = absurd k
read_fault (Some all) (Some rest) (Some left) line r n m h k e =
    h ∙ ap (rest_script (Ok r) n) k ∙ next r n (line_class line) (classes_from [] left) ∙ ap (λ x. rest_script x (n + 1) (classes_from [] left)) e
    ∙ fault_stays m (n + 1) (classes_from [] left)

ends : (r : PartialScript) (n : ℕ) → rest_script (Ok r) n [] ≡ script_result (Ok r) n
unfolding rest_script
ends r n = ap (script_result (Ok r)) (add-zero n)

-- no line is left
pub read_all : (a b : Option (List ℕ)) (r : PartialScript) (n : ℕ) → IsReadTo a b r n → IsNoLine b → IfSome a (λ input. storm_script input ≡ script_result (Ok r) n)
read_all None b r n h k = tt
read_all (Some all) None r n h k = absurd h
read_all (Some all) (Some rest) r n h k = h ∙ ap (rest_script (Ok r) n) k ∙ ends r n
