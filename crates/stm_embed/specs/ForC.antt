-- What C gets of a call.
use Rattle.std.specs.Prelude.{◌≡◌, ◌≢◌, ℕ, ◌<◌, ◌≤◌, Bool, false, if◌then◌else◌, Option, List, [], ◌++◌, length, take, drop, IsSomeAnd}
use Rattle.stm_options.specs.declared.explore_options.ExploreOptions.{ExploreOptions}
use Rattle.stm_lines.specs.Lines.{whole_lines_of, NoLineFeed}
use Rattle.stm_run.specs.Console.{answers_to}
use Rattle.stm_run.specs.AfterLines.{state_after_lines}
use Rattle.stm_embed.specs.declared.checking.Checked.{Checked}
use Rattle.stm_embed.specs.declared.checking.Found.{Found}
use Rattle.stm_embed.specs.declared.exploring.Ended.{Ended}
use Rattle.stm_embed.specs.declared.exploring.Explored.{Explored}
use Rattle.stm_embed.specs.declared.feeding.Embedded.{Embedded}
use Rattle.stm_embed.specs.declared.feeding.Fed.{Fed}
use Rattle.stm_embed.specs.declared.feeding.Taken.{Taken}
use Rattle.stm_embed.specs.Checking.{IsJudgement, found_status, numbers_of}
use Rattle.stm_embed.specs.Exploring.{AreDiagnosticsOf, IsExplored, diagnosed_text, ended_status, invalid_line}
use Rattle.stm_embed.specs.Feeding.{AreWholeLines, HasOnly, console_of, unread_answers}
use Rattle.stm_embed.specs.Status.{all_taken, no_memory, part_of_line, taken_status}

-- ---- lines that are fed
-- the lines among this many first bytes, which were taken
abbrev pub lines_taken : ℕ → List ℕ → List (List ℕ)
lines_taken count lines = whole_lines_of (take count lines)

-- A call took whole lines from the front of these bytes, and gave answers into this much room.
pub record Feeds (old new : Embedded) (lines : List ℕ) (room : ℕ) (out : List ℕ) (fed : Fed) : Type 0 where
  -- no more bytes were taken than there are
  pub taken : fed.taken ≤ length lines
  -- they are whole lines: no part of a line was taken, whatever the status is
  pub whole : AreWholeLines (take fed.taken lines)
  -- what was given, and what still waits, is what waited, and then the answers to the lines that were taken
  pub answers : unread_answers old ++ answers_to (console_of old) (lines_taken fed.taken lines) ≡ take fed.given out ++ unread_answers new
  -- no more was given than there is room for, and nothing waits while there is room
  pub given : fed.given ≤ room
  pub room_left : fed.given < room → unread_answers new ≡ []
  -- this many bytes still wait
  pub waiting : fed.waiting ≡ length (unread_answers new)

-- How such a call ended, by its status.
pub record EndsFeeding (old new : Embedded) (lines : List ℕ) (taken status : ℕ) : Type 0 where
  -- unless memory ran out the console is the one after the lines that were taken; else it may have done a part of the next
  pub console : status ≢ no_memory → console_of new ≡ state_after_lines (console_of old) (lines_taken taken lines)
  -- unless memory ran out the status says whether all bytes were taken
  pub status_is : status ≢ no_memory → status ≡ taken_status taken (length lines)
  pub all : status ≡ all_taken → taken ≡ length lines
  -- or all but a part of a line at the end
  pub part : status ≡ part_of_line → (taken < length lines) × NoLineFeed (drop taken lines)

-- ---- an exploration
-- What C gets of an exploration, with its diagnostics or without them.
pub record GivesExploration
    (script : List ℕ) (options : ExploreOptions) (diagnosed : Bool) (status : ℕ) (explored : Explored) (text : Option Embedded) : Type 0 where
  pub ended : Ended
  pub found : List ℕ
  pub diagnostics : List ℕ
  -- an exploration of the script may end so, write this, and have these diagnostics
  pub explored_so : IsExplored script options ended found
  pub are_diagnostics : AreDiagnosticsOf script options ended diagnostics
  -- the status and the numbers say so
  pub status_is : status ≡ ended_status ended
  pub line_is : explored.line ≡ invalid_line ended
  pub length_is : explored.length ≡ length found
  -- the text is what was written, and after it the diagnostics if they are asked for
  pub text_is : IsSomeAnd text (λ d. HasOnly (diagnosed_text diagnosed found diagnostics) d)

-- Memory ran out: there is no text, and both numbers are 0.
pub record GivesNothing {R : Type 0} (old new : R) (explored : Explored) : Type 0 where
  pub text : new ≡ old
  pub line_is : explored.line ≡ 0
  pub length_is : explored.length ≡ 0

-- ---- a check
-- What C gets of a check: something is found of the bytes, which the status and the numbers say. If memory ran out nothing is known of the
-- bytes, and all numbers are 0.
abbrev pub GivesCheck : List ℕ → ℕ → Checked → Type 0
GivesCheck history status checked =
    (found : Found) × IsJudgement history found × (status ≡ found_status found) × (checked ≡ numbers_of found)

-- ---- inside
-- the console took lines from the front of these bytes, and keeps the answers
pub record TakesLines (old new : Embedded) (lines : List ℕ) (t : Taken) : Type 0 where
  pub few : t.count ≤ length lines
  -- they are whole lines
  pub whole : AreWholeLines (take t.count lines)
  -- the answers to these lines wait after those that waited
  pub answers : unread_answers new ≡ unread_answers old ++ answers_to (console_of old) (lines_taken t.count lines)
  -- unless memory ran out the console is the one after these lines, and no whole line is left
  pub console : t.is_out_of_memory ≡ false → console_of new ≡ state_after_lines (console_of old) (lines_taken t.count lines)
  pub rest : t.is_out_of_memory ≡ false → NoLineFeed (drop t.count lines)

-- how a call ended that took this much, by how many bytes there were
abbrev pub fed_status : Taken → ℕ → ℕ
fed_status t len = if t.is_out_of_memory then no_memory else taken_status t.count len

-- after what waited there waits now what is written of an exploration, with its diagnostics or without them, which begin at this place
pub record KeepsExploration
    (script : List ℕ) (options : ExploreOptions) (diagnosed : Bool) (old new : Embedded) (ended : Ended) (place : ℕ) : Type 0 where
  pub found : List ℕ
  pub diagnostics : List ℕ
  pub explored_so : IsExplored script options ended found
  pub are_diagnostics : AreDiagnosticsOf script options ended diagnostics
  pub place_is : place ≡ length found
  pub text_is : unread_answers new ≡ unread_answers old ++ diagnosed_text diagnosed found diagnostics
