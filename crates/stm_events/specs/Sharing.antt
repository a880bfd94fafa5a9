-- What many may hold, as the code keeps it: `Blocks`, a list of no ticket, and an empty name are kept by nothing.
use Rattle.std.specs.Prelude.{ℕ, List, [], Option, Some, None, string_bytes}
use Rattle.std.specs.declared.string.String.{String}
use Rattle.std.specs.declared.sync.Arc.{Arc}
use Rattle.std.specs.Global.{Global}
use Rattle.stm_terms.specs.declared.verdicts.Verdict.{Verdict}
use Rattle.stm_terms.specs.declared.verdicts.Verdict.TheVariants.{Blocks}

-- the verdict that is kept
abbrev pub verdict_in : Option (Arc Verdict Global) → Verdict
verdict_in None = Blocks
verdict_in (Some a) = a.value

-- the tickets that are kept
abbrev pub tickets_in : Option (Arc (List ℕ) Global) → List ℕ
tickets_in None = []
tickets_in (Some a) = a.value

-- the name that is kept
abbrev pub name_in : Option (Arc (String Global) Global) → List ℕ
name_in None = []
name_in (Some a) = string_bytes a.value
