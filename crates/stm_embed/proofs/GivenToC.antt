-- What C gets of a call, from what the calls in it did.
use Rattle.std.proofs.Common.{◌≡◌, ◌≢◌, ℕ, ◌<◌, ◌≤◌, Bool, true, false, List, [], ◌++◌, length, take, Option, refl, sym, ap, subst, ◌∙◌, arith}
use Rattle.std.specs.Prelude.{nat_lt, if◌then◌else◌, IsSomeAnd}
use Rattle.std.proofs.lemmas.Bool.Decides.{nat_tests}
use Rattle.stm_options.specs.declared.explore_options.ExploreOptions.{ExploreOptions}
use Rattle.stm_run.specs.Console.{answers_to}
use Rattle.stm_run.specs.AfterLines.{state_after_lines}
use Rattle.stm_embed.specs.declared.exploring.Ended.{Ended}
use Rattle.stm_embed.specs.declared.exploring.Explored.{Explored}
use Rattle.stm_embed.specs.declared.feeding.Embedded.{Embedded}
use Rattle.stm_embed.specs.declared.feeding.Taken.{Taken}
use Rattle.stm_embed.specs.Exploring.{AreDiagnosticsOf, IsExplored, diagnosed_text, ended_status, invalid_line}
use Rattle.stm_embed.specs.Feeding.{HasOnly, console_of, unread_answers}
use Rattle.stm_embed.specs.ForC.{EndsFeeding, Feeds, GivesExploration, TakesLines, fed_status, lines_taken}
use Rattle.stm_embed.specs.Status.{all_taken, no_memory, part_of_line, taken_status}

-- ---- what a status says, which goes by whether memory ran out and whether less was taken than there is
is_less : (n len : ℕ) → nat_lt n len ≡ true → n < len
is_less n len e = grind (arith, nat_tests)

not_less : (n len : ℕ) → nat_lt n len ≡ false → n ≤ len → n ≡ len
not_less n len e few = grind (arith, nat_tests)

all_by : (less : Bool) (n len : ℕ) → nat_lt n len ≡ less → (if less then part_of_line else all_taken) ≡ all_taken → n ≤ len → n ≡ len
all_by true n len e is few = let wrong : part_of_line ≡ all_taken = is in absurd (omega arith)
all_by false n len e is few = not_less n len e few

part_by : (less : Bool) (n len : ℕ) → nat_lt n len ≡ less → (if less then part_of_line else all_taken) ≡ part_of_line → n < len
part_by true n len e is = is_less n len e
part_by false n len e is = let wrong : all_taken ≡ part_of_line = is in absurd (omega arith)

had_memory : (out : Bool) (status n len : ℕ) → status ≡ (if out then no_memory else taken_status n len) → status ≢ no_memory → out ≡ false
had_memory true status n len is some = absurd (some is)
had_memory false status n len is some = refl

status_then : (out : Bool) (status n len : ℕ) → status ≡ (if out then no_memory else taken_status n len) → status ≢ no_memory → status ≡ taken_status n len
status_then true status n len is some = absurd (some is)
status_then false status n len is some = is

all_then : (out : Bool) (status n len : ℕ) → status ≡ (if out then no_memory else taken_status n len) → status ≡ all_taken → n ≤ len → n ≡ len
all_then true status n len is all few = let wrong : no_memory ≡ all_taken = sym is ∙ all in absurd (omega arith)
all_then false status n len is all few = all_by (nat_lt n len) n len refl (sym is ∙ all) few

part_then : (out : Bool) (status n len : ℕ) → status ≡ (if out then no_memory else taken_status n len) → status ≡ part_of_line → (n < len) × (out ≡ false)
part_then true status n len is part = let wrong : no_memory ≡ part_of_line = sym is ∙ part in absurd (omega arith)
part_then false status n len is part = (part_by (nat_lt n len) n len refl (sym is ∙ part), refl)

-- ---- lines that are fed: the console that is lent takes lines, and then gives answers
pub feeds : (lent old mid new : Embedded) (lines out : List ℕ) (t : Taken) (room given waiting : ℕ) → lent ≡ old → TakesLines lent mid lines t → given ≤ room
    → unread_answers mid ≡ take given out ++ unread_answers new → (given < room → unread_answers new ≡ []) → waiting ≡ length (unread_answers new)
    → Feeds old new lines room out (record { taken = t.count; given = given; waiting = waiting })
feeds lent old mid new lines out t room given waiting same taken few front left waits = record {
  taken = taken.few;
  whole = taken.whole;
  answers = ap (λ (e : Embedded). unread_answers e ++ answers_to (console_of e) (lines_taken t.count lines)) (sym same) ∙ sym taken.answers ∙ front;
  given = few;
  room_left = left;
  waiting = waits;
}

pub ends_feeding : (lent old mid new : Embedded) (lines : List ℕ) (t : Taken) (status : ℕ) → lent ≡ old → TakesLines lent mid lines t → console_of new ≡ console_of mid
    → status ≡ fed_status t (length lines) → EndsFeeding old new lines t.count status
ends_feeding lent old mid new lines t status same taken stays is = record {
  console = λ some. stays ∙ taken.console (had_memory t.is_out_of_memory status t.count (length lines) is some)
      ∙ ap (λ (e : Embedded). state_after_lines (console_of e) (lines_taken t.count lines)) same;
  status_is = λ some. status_then t.is_out_of_memory status t.count (length lines) is some;
  all = λ all. all_then t.is_out_of_memory status t.count (length lines) is all taken.few;
  part = λ part. (let then_ = part_then t.is_out_of_memory status t.count (length lines) is part in (then_.0, taken.rest then_.1));
}

-- ---- an exploration
-- what C gets says so
pub gives_exploration : (script : List ℕ) (options asked : ExploreOptions) (diagnosed : Bool) (ended : Ended) (status : ℕ) (explored : Explored) (found diagnostics : List ℕ) (text : Option Embedded)
    → options ≡ asked → IsExplored script options ended found → AreDiagnosticsOf script options ended diagnostics → explored.length ≡ length found
    → IsSomeAnd text (λ d. HasOnly (diagnosed_text diagnosed found diagnostics) d) → status ≡ ended_status ended → explored.line ≡ invalid_line ended
    → GivesExploration script asked diagnosed status explored text
gives_exploration script options asked diagnosed ended status explored found diagnostics text same e d long has s line = record {
  ended = ended;
  found = found;
  diagnostics = diagnostics;
  explored_so = subst (λ (o : ExploreOptions). IsExplored script o ended found) same e;
  are_diagnostics = subst (λ (o : ExploreOptions). AreDiagnosticsOf script o ended diagnostics) same d;
  status_is = s;
  line_is = line;
  length_is = long;
  text_is = has;
}
