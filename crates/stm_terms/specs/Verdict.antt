-- What a block does on a store, or on a fragment of one.
use Rattle.std.specs.Prelude.{[], Option, Some, None}
use Rattle.stm_terms.specs.declared.verdicts.Verdict.{Verdict}
use Rattle.stm_terms.specs.declared.verdicts.Verdict.TheVariants.{Commits, Throws, Blocks}
use Rattle.stm_terms.specs.Ast.{Act}
use Rattle.stm_terms.specs.Changes.{Variables, no_changes}
use Rattle.stm_terms.specs.Semantics.{Outcome, Returned, Threw, Retried, Stuck, run}

-- a return commits the marked variables and the new cells; a throw commits nothing; a retry blocks
abbrev pub verdict_from : Outcome → Option Verdict
verdict_from (Returned v h) = Some (Commits h.writes h.news v)
verdict_from (Threw f) = Some (Throws f)
verdict_from Retried = Some Blocks
verdict_from Stuck = None

-- the verdict of a block, none where its run is stuck
abbrev pub verdict : Variables → Act → Option Verdict
verdict under block = verdict_from (run under block [] no_changes)
