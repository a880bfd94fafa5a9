use Rattle.std.proofs.Common.{subst}
use Rattle.stm_terms.specs.Typing.{result_type}
use Rattle.stm_events.specs.Laws.{IsWellTyped}
use Rattle.stm_desk.proofs.submit.say_typed.Goals as goal

pub returns : goal.returns
returns c =
    let typed : IsWellTyped c.block.result.now = (result_type c.block.result.now.result_type, c.action-action.ensures.typed.typed) in
    subst IsWellTyped c.block.ensures typed
