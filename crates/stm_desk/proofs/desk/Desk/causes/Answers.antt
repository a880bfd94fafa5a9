use Rattle.std.proofs.Common.{◌∙◌, Bool, ap, subst}
use Rattle.std.specs.Option.{option_or}
use Rattle.stm_events.specs.KeptCauses.{KeptCauses, kept_cause_of}
use Rattle.stm_events.specs.SlowDesk.{find_waiter}
use Rattle.stm_machine.specs.Checkpoints.{MayStart}
use Rattle.stm_desk.specs.DeskView.{DeskView, start_state, state_of}
use Rattle.stm_desk.specs.Causes.{last_listed, reads_under, cause_sought}
use Rattle.stm_desk.specs.Reasons.{kept_cause_at, was_stale}
use Rattle.stm_desk.proofs.CausesTold.{each_is_writable}
use Rattle.stm_desk.proofs.FoundCauses.{causes_found}
use Rattle.stm_desk.proofs.Starts.{IsTypedHistory, typed_history}
use Rattle.stm_desk.proofs.desk.Desk.causes.Goals as goal

pub find_causes-requires : goal.find_causes-requires
find_causes-requires c =
    let d = c.args.self.now in
    let typed = subst (λ (x : DeskView). IsTypedHistory (start_state x) x.history) c.self.view_is (typed_history _ _ _ _ _ c.self.invariant.0 c.len-variables.ensures.table.typed) in
    each_is_writable (start_state d) d.history typed

pub returns : goal.returns
returns c = λ t.
    let d = c.args.self.now in
    let k = c.self.invariant.0 in
    let start = subst (λ (x : DeskView). MayStart x.table x.checkpoint) c.self.view_is k.start in
    let typed = subst (λ (x : DeskView). IsTypedHistory (start_state x) x.history) c.self.view_is (typed_history _ _ _ _ _ k c.len-variables.ensures.table.typed) in
    let found = option_or (last_listed t (reads_under d t) d.history) (kept_cause_at t d.checkpoint) in
    c.in_ok-find_causes.ensures t
    ∙ ap (λ (b : Bool). cause_sought b found (kept_cause_of t c.empty-causes.result)) (c.in_ok-missing.ensures t ∙ c.requires t)
    ∙ ap (λ (cs : KeptCauses). cause_sought (was_stale (find_waiter t (state_of d).waiters)) found (kept_cause_of t cs)) c.empty-causes.ensures
    ∙ causes_found d start typed t
