use Rattle.std.proofs.Common.{◌≡◌, None, subst}
use Rattle.stm_events.specs.declared.staleness.StalenessRule.TheVariants.{Changed}
use Rattle.stm_events.specs.Headline.{HeadlineHoldsBy}
use Rattle.stm_events.specs.HeadlineFrom.{HeadlineHoldsFrom}
use Rattle.stm_events.specs.States.{IsTypedState}
use Rattle.stm_events.proofs.HeadlineFrom.{headline_from}
use Rattle.stm_desk.specs.DeskView.{DeskView, start_state, state_of, AllHaveVerdicts, SettlesInRounds}
use Rattle.stm_desk.proofs.Starts.{start_possible, typed_history, typed_now, headline_of_variables}
use Rattle.stm_desk.proofs.Verdicts.{have_verdicts, settles_in_rounds}
use Rattle.stm_desk.proofs.Views.{view_of}
use Rattle.stm_desk.proofs.desk.Desk.history.Goals as goal

pub returns-clause-verdicts : goal.returns-clause-verdicts
returns-clause-verdicts c =
    let d = view_of c.self.inside in
    let k = c.self.invariant.0 in
    let typed : IsTypedState (state_of d) = typed_now (start_state d) d.history (typed_history _ _ _ _ _ k c.len-variables.ensures.table.typed) in
    subst (λ (d : DeskView). AllHaveVerdicts (state_of d)) c.self.view_is (have_verdicts (state_of d) k.at.possible typed)

pub returns-clause-rounds : goal.returns-clause-rounds
returns-clause-rounds c =
    let d = view_of c.self.inside in
    let k = c.self.invariant.0 in
    let typed : IsTypedState (state_of d) = typed_now (start_state d) d.history (typed_history _ _ _ _ _ k c.len-variables.ensures.table.typed) in
    subst (λ (d : DeskView). SettlesInRounds (state_of d)) c.self.view_is (settles_in_rounds (state_of d) k.at.possible (have_verdicts (state_of d) k.at.possible typed))

pub returns-clause-headline : goal.returns-clause-headline
returns-clause-headline c =
    let d = view_of c.self.inside in
    let k = c.self.invariant.0 in
    subst (λ (d : DeskView). HeadlineHoldsFrom (start_state d) d.history) c.self.view_is
    (headline_from (start_state d) d.history (start_possible d.table d.checkpoint k.start) k.legal.each)

pub returns-clause-from_variables : goal.returns-clause-from_variables
returns-clause-from_variables c =
    let d = view_of c.self.inside in
    let k = c.self.invariant.0 in
    subst (λ (d : DeskView). d.checkpoint ≡ None → HeadlineHoldsBy Changed d.table d.history) c.self.view_is
    (headline_of_variables d.table d.checkpoint d.history k.legal)
