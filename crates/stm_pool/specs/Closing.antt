-- When a shared desk may be closed, and why it isn't.
use Rattle.std.specs.Prelude.{◌≡◌, ◌≢◌, ◌⊎◌, ℕ, ◌<◌, true, ◌==◌, List, [], ◌∷◌, length, if◌then◌else◌, Option, Some, None, Result, Ok, Err, is_some, IsSomeAnd}
use Rattle.stm_store.specs.Tables.{Declared}
use Rattle.stm_events.specs.declared.event.Event.{Event}
use Rattle.stm_events.specs.SlowDesk.{IsLegal}
use Rattle.stm_pool.specs.declared.close.Report.{Report}
use Rattle.stm_pool.specs.declared.errors.CloseError.{CloseError}
use Rattle.stm_pool.specs.declared.errors.CloseError.TheVariants.{PassMissing, Differs}
use Rattle.stm_pool.specs.Own.{Known, own_of, are_below, events_in_passes}

-- the client's pass, the first one if it has several
abbrev pub pass_of : ℕ → List Known → Option Known
pass_of c [] = None
pass_of c (p ∷ ps) = if p.client == c then Some p else pass_of c ps

-- there are n passes, and each client below n has one: so each has exactly one, and they are all, in any order
pub record HasAll (n : ℕ) (passes : List Known) : Type 0 where
  pub many : length passes ≡ n
  pub each : (c : ℕ) → c < n → is_some (pass_of c passes) ≡ true

-- their number is another one, or a client below n has none
abbrev pub LacksOne : ℕ → List Known → Type 0
LacksOne n passes = (length passes ≢ n) ⊎ ((c : ℕ) × (c < n) × (pass_of c passes ≡ None))

-- the client has a pass, which has the client's events in the history
abbrev pub AgreesWith : List Event → ℕ → List Known → Type 0
AgreesWith history c passes = IsSomeAnd (pass_of c passes) (λ p. own_of c history ≡ p.own)

-- the client has a pass, which has other events than those of the client in the history
abbrev pub DiffersFrom : List Event → ℕ → List Known → Type 0
DiffersFrom history c passes = IsSomeAnd (pass_of c passes) (λ p. own_of c history ≢ p.own)

-- the desk may be closed with these passes
pub record MayClose (history : List Event) (n : ℕ) (passes : List Known) : Type 0 where
  pub all : HasAll n passes
  pub agree : (c : ℕ) → c < n → AgreesWith history c passes

-- what a desk was when it was closed with these passes
pub record HasClosed (n : ℕ) (passes : List Known) (r : Report) : Type 0 where
  -- it has as many events as it says, and as many as the passes
  pub events : r.events ≡ length r.desk.history
  pub counted : r.events ≡ events_in_passes passes
  -- all passes are there, and have their clients' events
  pub all : MayClose r.desk.history n passes
  -- no event is of another client
  pub only : are_below n r.desk.history ≡ true

-- all passes are there, and the client is the first whose pass differs from the history
pub record FirstDiffers (history : List Event) (n : ℕ) (passes : List Known) (c : ℕ) : Type 0 where
  pub all : HasAll n passes
  pub low : c < n
  pub before : (b : ℕ) → b < c → AgreesWith history b passes
  pub differs : DiffersFrom history c passes

-- what the comparison of a history with the passes says
abbrev pub Compares : {A : Type 0} → Result A CloseError → List Event → ℕ → List Known → Type 0
Compares (Ok x) history n passes = MayClose history n passes
Compares (Err PassMissing) history n passes = LacksOne n passes
Compares (Err (Differs c)) history n passes = FirstDiffers history n passes c

-- the client is the first whose pass differs from a legal history, which has as many events as the passes
pub record IsCompared (n : ℕ) (passes : List Known) (c : ℕ) : Type 0 where
  pub table : List Declared
  pub history : List Event
  pub legal : IsLegal table history
  pub counted : length history ≡ events_in_passes passes
  pub first : FirstDiffers history n passes c

-- why a desk isn't closed
abbrev pub IsCloseError : CloseError → ℕ → List Known → Type 0
IsCloseError PassMissing n passes = LacksOne n passes
IsCloseError (Differs c) n passes = IsCompared n passes c
