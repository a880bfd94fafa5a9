-- What a check takes of its bytes, line by line.
use Rattle.std.specs.Prelude.{◌≡◌, ℕ, ◌+◌, ◌<◌, ◌≤◌, List, [], ◌++◌, length, Option, IfSome}
use Rattle.std.specs.Io.KnownBytes.{Consumes}
use Rattle.stm_history.specs.declared.check.Stage.{Stage}
use Rattle.stm_history.specs.declared.fault.HistoryFault.{HistoryFault}
use Rattle.stm_history.specs.declared.fault.HistoryFault.TheVariants as fault
use Rattle.stm_history.specs.Checking.{StopsAt}
use Rattle.stm_history.specs.Judgement.{ReportsFault}
use Rattle.stm_history.specs.Stages.{Reached}

-- a fault of the reader or of memory
abbrev pub IsReadingFault : HistoryFault → Type 0
IsReadingFault fault.ReadFault = Unit {0}
IsReadingFault fault.NoMemory = Unit {0}
IsReadingFault fault.BadHeader = ⊥
IsReadingFault (fault.BadLine n) = ⊥
IsReadingFault (fault.NotLegal n) = ⊥

-- a line was taken, which leads from one stage to the other; at most `before` bytes were to come before it, and at most `after` are still
pub record TakesLine (s t : Stage) (m n : ℕ) (line : List ℕ) (old new : Option (List ℕ)) (before after : ℕ) : Type 0 where
  pub bytes : List ℕ
  pub consumed : Consumes old new bytes
  pub reached : (taken : List ℕ) → Reached s m [] taken → Reached t n line (taken ++ bytes)
  pub some : 0 < length bytes
  pub few : after + length bytes ≤ before

-- all bytes that were left were taken
abbrev pub TakesRest : Stage → Stage → ℕ → ℕ → List ℕ → Option (List ℕ) → Type 0
TakesRest s t m n line old =
    (bytes : List ℕ) × IfSome old (λ all. all ≡ bytes) × ((taken : List ℕ) → Reached s m [] taken → Reached t n line (taken ++ bytes))

-- the fault is that of the bytes that were left, after what was taken
abbrev pub FailsIn : HistoryFault → Stage → ℕ → ℕ → Option (List ℕ) → Type 0
FailsIn e s m n old =
    IfSome old (λ bytes. (taken : List ℕ) → Reached s m [] taken → ReportsFault e (taken ++ bytes) × StopsAt e n (taken ++ bytes))
