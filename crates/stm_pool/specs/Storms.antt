-- What a storm leaves: a desk, whose history has what its counts say.
use Rattle.std.specs.Prelude.{◌≡◌, ℕ, ◌+◌, Bool, true, false, List, [], ◌∷◌, length, if◌then◌else◌, IfSome, ⊤}
use Rattle.stm_events.specs.declared.event.Event.{Event}
use Rattle.stm_events.specs.declared.event.What.{What}
use Rattle.stm_events.specs.declared.event.What.TheVariants.{Submitted, Installed, Finished, Cancelled, Declared as DeclaredLate, Labelled}
use Rattle.stm_events.specs.SlowSettle.{is_finish}
use Rattle.stm_pool.specs.declared.storm.Counts.{Counts}
use Rattle.stm_pool.specs.declared.storm.StormEnd.{StormEnd}
use Rattle.stm_pool.specs.declared.close.Report.{Report}
use Rattle.stm_pool.specs.Own.{own_of}

-- the kinds of event that a client makes
abbrev pub is_submission : What → Bool
is_submission (Submitted t block) = true
is_submission (Installed t v) = false
is_submission (Finished t v n stale) = false
is_submission (Cancelled t) = false
is_submission (DeclaredLate name kind value) = false
is_submission (Labelled t label) = false

-- a waiting block was cancelled
abbrev pub is_cancelled : What → Bool
is_cancelled (Submitted t block) = false
is_cancelled (Installed t v) = false
is_cancelled (Finished t v n stale) = false
is_cancelled (Cancelled t) = true
is_cancelled (DeclaredLate name kind value) = false
is_cancelled (Labelled t label) = false

-- how many events are of a kind
abbrev pub how_many : (What → Bool) → List Event → ℕ
how_many kind [] = 0
how_many kind (e ∷ es) = if kind e.what then how_many kind es + 1 else how_many kind es

-- what a client is counted to have submitted, finished and cancelled is what its events say; its other counts leave no event
pub record CountsEvents (own : List Event) (c : Counts) : Type 0 where
  pub submitted : c.submitted ≡ how_many is_submission own
  pub finished : c.finished ≡ how_many is_finish own
  pub cancelled : c.cancelled ≡ how_many is_cancelled own

-- the counts of the clients from this one on, one after another, are those of their events
abbrev pub CountsClients : List Event → ℕ → List Counts → Type 0
CountsClients history client [] = ⊤
CountsClients history client (c ∷ cs) = CountsEvents (own_of client history) c × CountsClients history (client + 1) cs

-- a closed desk has as many events as it says, and the counts are those of its clients
pub record CountsDesk (counts : List Counts) (r : Report) : Type 0 where
  pub many : r.events ≡ length r.desk.history
  pub counted : CountsClients r.desk.history 0 counts

-- if a storm's desk could be closed, its counts are those of the desk's clients
abbrev pub IsCountedStorm : StormEnd → Type 0
IsCountedStorm e = IfSome e.report (λ r. CountsDesk e.counts.items r)
