-- Settling on the slow desk: the lowest waiting block that is new or stale is run and installed; if there is none, the
-- lowest one that doesn't block on the present store is finished; and so on, while the history has room. An installed block
-- changes no other block's mark: so these are rounds, each of which installs all that are new or stale, in ascending order, and then
-- finishes one.
use Rattle.std.specs.Prelude.{◌≡◌, ℕ, zero, suc, ◌+◌, Bool, true, false, not, nat_le, nat_lt, if◌then◌else◌, List, [], ◌∷◌, filter, length, Option, Some, None, is_some}
use Rattle.stm_terms.specs.declared.verdicts.Verdict.{Verdict}
use Rattle.stm_terms.specs.declared.verdicts.Verdict.TheVariants.{Blocks}
use Rattle.stm_store.specs.declared.cell.Cell.{Cell}
use Rattle.stm_store.specs.Cells.{made_by}
use Rattle.stm_events.specs.declared.event.What.{What}
use Rattle.stm_events.specs.declared.event.What.TheVariants.{Submitted, Installed, Finished, Cancelled, Declared as DeclaredLate, Labelled}
use Rattle.stm_events.specs.SlowDesk.{Slow, Waiter, verdict_on, waking, is_blocks, is_current, find_waiter, without_waiter, stale_after, max_cells, after}

-- the first waiting block of the test; tickets rise, so it is the one of the lowest ticket
abbrev pub lowest : (Waiter → Bool) → List Waiter → Option Waiter
lowest p [] = None
lowest p (w ∷ ws) = if p w then Some w else lowest p ws

-- new or stale
abbrev pub is_due : Waiter → Bool
is_due w = not (is_current w)

-- there is a verdict, and by it the block doesn't block
abbrev pub ends : Option Verdict → Bool
ends (Some v) = not (is_blocks v)
ends None = false

-- the block doesn't block on the store
abbrev pub can_end : List Cell → Waiter → Bool
can_end store w = ends (verdict_on store w.block)

-- the installation of a verdict, if there is one
abbrev pub installing : ℕ → Option Verdict → Option What
installing t (Some v) = Some (Installed t v)
installing t None = None

-- the finish by a verdict, if there is one
abbrev pub ending : Slow → ℕ → Option Verdict → Option What
ending s t (Some v) = Some (Finished t v (length s.store) (stale_after (waking s.rule s.store v) (without_waiter t s.waiters)))
ending s t None = None

-- an order of work: what is done next on a state, if anything is left to do
abbrev pub Order : Type 0
Order = Slow → Option What

-- what is done with the lowest block that is new or stale, or else with the lowest one that doesn't block
abbrev pub next_of : Slow → Option Waiter → Option Waiter → Option What
next_of s (Some w) o = installing w.ticket (verdict_on s.store w.block)
next_of s None (Some w) = ending s w.ticket (verdict_on s.store w.block)
next_of s None None = None

-- what settling does next
abbrev pub next_what : Order
next_what s = next_of s (lowest is_due s.waiters) (lowest (can_end s.store) s.waiters)

-- the store has room for the new variables
abbrev pub has_cells : Slow → What → Bool
has_cells s (Submitted t block) = true
has_cells s (Installed t v) = true
has_cells s (Finished t v n stale) = nat_le (length s.store + length (made_by v)) max_cells
has_cells s (Cancelled t) = true
has_cells s (DeclaredLate name kind value) = nat_lt (length s.store) max_cells
has_cells s (Labelled t label) = true

-- ---- running: one thing after another
-- this event, if there is one and the store has room for it, and then what is done after it
abbrev pub settle_on : (Slow → List What) → Slow → Option What → List What
settle_on more s None = []
settle_on more s (Some what) = if has_cells s what then what ∷ more (after s what) else []

-- what is done in an order of work, if the history has room for this many events
abbrev pub running : Order → ℕ → Slow → List What
running next zero s = []
running next (suc room) s = settle_on (running next room) s (next s)

-- why it stops before nothing is left to do: the history has no room, or the store has none for the new variables
pub data Stop : Type 0 where
  NoRoom : Stop
  NoCells : Stop

-- why it stops at this event or after it, if it does
abbrev pub stop_on : (Slow → Option Stop) → Slow → Option What → Option Stop
stop_on more s None = None
stop_on more s (Some what) = if has_cells s what then more (after s what) else Some NoCells

-- whether it stops so, if the history has room for this many events
abbrev pub run_stop : Order → ℕ → Slow → Option Stop
run_stop next zero s = if is_some (next s) then Some NoRoom else None
run_stop next (suc room) s = stop_on (run_stop next room) s (next s)

-- what settling does, if the history has room for this many events
abbrev pub settling : ℕ → Slow → List What
settling = running next_what

-- whether it stops, and why
abbrev pub settle_stop : ℕ → Slow → Option Stop
settle_stop = run_stop next_what

-- each waiting block is current and blocks on the present store
abbrev pub AllBlock : Slow → Type 0
AllBlock s =
    (t : ℕ) (w : Waiter) → find_waiter t s.waiters ≡ Some w → (is_current w ≡ true) × (verdict_on s.store w.block ≡ Some Blocks)

-- a block finishes
abbrev pub is_finish : What → Bool
is_finish (Submitted t block) = false
is_finish (Installed t v) = false
is_finish (Finished t v n stale) = true
is_finish (Cancelled t) = false
is_finish (DeclaredLate name kind value) = false
is_finish (Labelled t label) = false

-- a verdict is installed
abbrev pub is_install : What → Bool
is_install (Submitted t block) = false
is_install (Installed t v) = true
is_install (Finished t v n stale) = false
is_install (Cancelled t) = false
is_install (DeclaredLate name kind value) = false
is_install (Labelled t label) = false

-- how many blocks were finished
abbrev pub finishes : List What → ℕ
finishes whats = length (filter is_finish whats)

-- how many blocks were run
abbrev pub installs : List What → ℕ
installs whats = length (filter is_install whats)
