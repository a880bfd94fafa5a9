use Rattle.std.proofs.Common.{ℕ, ◌<◌, List, ◌++◌, length, ap, ◌∙◌, rules}
use Rattle.stm_terms.specs.Changes.{Variables}
use Rattle.stm_desk.specs.ReasonsByEvents.{left_by_writes}
use Rattle.stm_desk.specs.declared.reason.Change.{Change}
use Rattle.stm_desk.proofs.EachChange.{change_more}
use Rattle.stm_desk.proofs.why.changes_in.Goals as goal

pub loop-variable-preserved : goal.loop-variable-preserved
loop-variable-preserved c =
    let left : Variables = left_by_writes c.args.first_new c.args.writes.now in
    let i = c.loop-variable.variable-index in
    let changes = c.loop-variable.changes.items in
    let within : i < length c.args.reads.now = search rules in
    change_more c.args.reads.now left i _ changes _ within c.loop-variable.invariant
    (c.in_ok-push_if_some.ensures ∙ ap (λ (cs : List Change). changes ++ cs) c.change_of.ensures)
