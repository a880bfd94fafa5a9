-- The laws of typing.
use Rattle.std.proofs.Common.{◌≡◌, ◌≢◌, [], Some, refl, subst}
use Rattle.stm_terms.specs.declared.values.Value.{Value}
use Rattle.stm_terms.specs.declared.verdicts.Verdict.{Verdict}
use Rattle.stm_terms.specs.declared.verdicts.Verdict.TheVariants.{Commits, Throws, Blocks}
use Rattle.stm_terms.specs.Changes.{Variables, Changes, no_changes, cell_value}
use Rattle.stm_terms.specs.Semantics.{Outcome, Returned, Threw, Retried, Stuck, run}
use Rattle.stm_terms.specs.Typing.{TypeEnv, ActionType, Gives, Any}
use Rattle.stm_terms.specs.Verdict.{verdict_from}
use Rattle.stm_check.specs.Laws.{Progress, OfType, Preservation, Weakening, VerdictFits}
use Rattle.stm_check.proofs.ActionsSound.{typed_not_stuck, run_fine, Fine, HasResult}
use Rattle.stm_check.proofs.Weakening.{action_more, block_defined, verdict_fits}

pub never_stuck : Progress
never_stuck kinds under = typed_not_stuck kinds under

of_type : (kinds : TypeEnv) (under : Variables) (k : Changes) (r : ActionType) (v : Value) → HasResult kinds under k r v → OfType kinds k r v
of_type kinds under k (Gives t) v p = p
of_type kinds under k Any v p = p

pub keeps_types : Preservation
keeps_types kinds under a locals types h r v k w l p e =
    let fine : Fine kinds under h r (Returned v k) = subst (Fine kinds under h r) e (run_fine kinds under a locals types h r w l p) in
    (of_type kinds under k r v fine.0, fine.1)

pub knowing_more_keeps_types : Weakening
knowing_more_keeps_types few more a types r known p = action_more few more known a types r p

has_verdict : (o : Outcome) → o ≢ Stuck → (v : Verdict) × (verdict_from o ≡ Some v)
has_verdict (Returned v h) p = (Commits h.writes h.news v, refl)
has_verdict (Threw f) p = (Throws f, refl)
has_verdict Retried p = (Blocks, refl)
has_verdict Stuck p = absurd (p refl)

pub every_verdict_fits : VerdictFits
every_verdict_fits cells uses block r s c p =
    let v = has_verdict (run (cell_value cells) block [] no_changes) (block_defined cells uses block r s c p) in
    (v.0, v.1, verdict_fits cells uses block r v.0 s c p v.1)
