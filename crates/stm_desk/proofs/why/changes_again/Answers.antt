use Rattle.std.proofs.Common.{ℕ, ◌<◌, List, ◌++◌, length, ap, ◌∙◌, rules}
use Rattle.stm_terms.specs.Changes.{Variables, find}
use Rattle.stm_desk.specs.declared.reason.Change.{Change}
use Rattle.stm_desk.proofs.EachChange.{change_more}
use Rattle.stm_desk.proofs.why.changes_again.Goals as goal

pub loop-variable-preserved : goal.loop-variable-preserved
loop-variable-preserved c =
    let left : Variables = λ i. find i c.args.left.now in
    let i = c.loop-variable.variable-index in
    let changes = c.loop-variable.changes.items in
    let within : i < length c.args.reads.now = search rules in
    change_more c.args.reads.now left i _ changes _ within c.loop-variable.invariant
    (c.in_ok-push_if_some.ensures ∙ ap (λ (cs : List Change). changes ++ cs) c.change_again.ensures)
