-- Lines are judged one after another, as those of the whole input.
use Rattle.std.proofs.Common.{◌≡◌, ◌≢◌, ℕ, ◌<◌, List, [], ◌∷◌, ◌++◌, length, map, sym, ap, subst, ◌∙◌, append_assoc, append-nil, arith, length-append, Option, Some, None}
use Rattle.std.proofs.KnownBytes.{Consumes-trans}
use Rattle.std.proofs.lemmas.List.Elements.{All-append}
use Rattle.std.specs.Io.KnownBytes.{Consumes}
use Rattle.stm_lines.proofs.LongLines.{IsLong, line_class-long, line_class-long_last}
use Rattle.stm_lines.proofs.ReadLines.{lines_from-whole, lines_from-last}
use Rattle.stm_lines.specs.LineClass.{line_class}
use Rattle.stm_lines.specs.LineReading.{classes_from, IsCommandLine, IsNextLine, IsNoLine}
use Rattle.stm_lines.specs.Lines.{drop_return}
use Rattle.stm_lines.specs.TakenLines.{StopsInLine, TakesPartOfLine, TakesLastLine, TakesWholeLine}
use Rattle.stm_lines.specs.declared.command_lines.CommandLine.TheVariants.{Whole, Last}
use Rattle.stm_lines.specs.declared.run_fault.RunFault.{RunFault}
use Rattle.stm_lines.specs.declared.run_fault.RunFault.TheVariants.{NoMemory, Read, Write}

-- ---- a line that is too long, whose rest was skipped
taken_more : (a b c : Option (List ℕ)) (line bytes : List ℕ) → TakesPartOfLine a b line → TakesPartOfLine b c bytes → TakesPartOfLine a c (line ++ bytes)
taken_more a b c line bytes h k = record { plain = All-append (λ b. b ≢ 10) line bytes h.plain k.plain; taken = Consumes-trans a b c _ _ h.taken k.taken }

pub skipped_whole : (a b c : Option (List ℕ)) (line bytes : List ℕ) → IsLong line → TakesPartOfLine a b line → TakesWholeLine b c bytes → IsCommandLine Whole a c line
skipped_whole a b c line bytes long h w = (
  line ++ bytes,
  record {
    plain = All-append (λ b. b ≢ 10) line bytes h.plain w.plain;
    taken = subst (Consumes a c) (sym (append_assoc line bytes (10 ∷ []))) (Consumes-trans a b c _ _ h.taken w.taken);
  },
  line_class-long line bytes long,
)

pub skipped_last : (a b c : Option (List ℕ)) (line bytes : List ℕ) → IsLong line → TakesPartOfLine a b line → TakesLastLine b c bytes → IsCommandLine Last a c line
skipped_last a b c line bytes long h w =
    let all = taken_more a b c line bytes h (record { plain = w.plain; taken = w.taken }) in
    (line ++ bytes, record { plain = all.plain; taken = all.taken; at_end = w.at_end }, omega (arith, length-append line bytes), line_class-long_last line bytes long)

-- reading stopped in the rest
pub stopped_rest : (a b c : Option (List ℕ)) (e : RunFault) (line held bytes : List ℕ) → TakesPartOfLine a b line → StopsInLine e b c held bytes → (all : List ℕ) × StopsInLine e a c held all
stopped_rest a b c Read line held bytes h k = (line ++ bytes, (taken_more a b c line bytes h k.0, k.1))
stopped_rest a b c NoMemory line held bytes h k = (line ++ bytes, taken_more a b c line bytes h k)
stopped_rest a b c Write line held bytes h k = absurd k

-- ---- the lines of an input by their judgement
pub next_whole : (a b : Option (List ℕ)) (line bytes : List ℕ) → TakesWholeLine a b bytes → line_class line ≡ line_class (drop_return bytes) → IsNextLine a b line
unfolding classes_from
next_whole None b line bytes w e = tt
next_whole (Some all) None line bytes w e = absurd w.taken
next_whole (Some all) (Some rest) line bytes w e =
    ap (classes_from []) w.taken ∙ ap (map line_class) (lines_from-whole bytes rest w.plain) ∙ ap (λ c. c ∷ classes_from [] rest) (sym e)

pub next_last : (a b : Option (List ℕ)) (line bytes : List ℕ) → TakesLastLine a b bytes → 0 < length bytes → line_class line ≡ line_class bytes → IsNextLine a b line
unfolding classes_from
next_last None b line bytes w k e = tt
next_last (Some all) None line bytes w k e = absurd w.taken
next_last (Some all) (Some rest) line bytes w k e =
    ap (classes_from []) (w.taken ∙ ap (λ r. bytes ++ r) w.at_end ∙ append-nil bytes) ∙ ap (map line_class) (lines_from-last bytes w.plain k)
    ∙ ap (λ c. c ∷ []) (sym e) ∙ ap (λ r. line_class line ∷ classes_from [] r) (sym w.at_end)

pub no_line : (a b : Option (List ℕ)) → TakesLastLine a b [] → IsNoLine a
unfolding classes_from
no_line None b w = tt
no_line (Some all) None w = absurd w.taken
no_line (Some all) (Some rest) w = ap (classes_from []) (w.taken ∙ w.at_end)
