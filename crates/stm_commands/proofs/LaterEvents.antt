-- The lines of events, and after them how many there are.
use Rattle.std.proofs.Common.{◌≡◌, ℕ, List, [], ◌∷◌, ◌++◌, Option, Result, Ok, Err, length, drop, subst}
use Rattle.std.specs.Prelude.{◌-◌, codes, decimal}
use Rattle.std.specs.Io.KnownBytes.{Appends}
use Rattle.std.proofs.KnownBytes.{Appends-trans}
use Rattle.stm_events.specs.declared.event.Event.{Event}
use Rattle.stm_history_text.specs.declared.writing.WriteFault.{WriteFault}
use Rattle.stm_history_text.specs.HistoryText.{event_lines}
use Rattle.stm_lines.specs.WrittenFronts.{WritesText, WritesFront}
use Rattle.stm_history_text.proofs.TextInParts.{part_after, part_within}
use Rattle.stm_commands.specs.Questions.{later_lines}

-- a text after one that was written
after_text : (r : Result (Unit {0}) WriteFault) (a b c : Option (List ℕ)) (first second : List ℕ) → Appends a b first → WritesText r b c second → WritesText r a c (first ++ second)
after_text (Ok x) a b c first second p q = Appends-trans a b c first second p q
after_text (Err x) a b c first second p q = part_after a b c first second p q

pub all_written : (history : List Event) (n before : ℕ) (r : Result (Unit {0}) WriteFault) (a b c : Option (List ℕ)) → before ≡ n - 1 → Appends a b (event_lines (drop before history))
    → WritesText r b c (codes "events " ++ decimal (length history) ++ 10 ∷ []) → WritesText r a c (later_lines history n)
all_written history n before r a b c e p q =
    subst (λ (m : ℕ). WritesText r a c (event_lines (drop m history) ++ (codes "events " ++ decimal (length history) ++ 10 ∷ []))) e
    (after_text r a b c (event_lines (drop before history)) (codes "events " ++ decimal (length history) ++ 10 ∷ []) p q)

pub part_written : (history : List Event) (n before : ℕ) (a b : Option (List ℕ)) → before ≡ n - 1 → WritesFront a b (event_lines (drop before history)) → WritesFront a b (later_lines history n)
part_written history n before a b e p =
    subst (λ (m : ℕ). WritesFront a b (event_lines (drop m history) ++ (codes "events " ++ decimal (length history) ++ 10 ∷ []))) e
    (part_within a b (event_lines (drop before history)) (codes "events " ++ decimal (length history) ++ 10 ∷ []) p)
