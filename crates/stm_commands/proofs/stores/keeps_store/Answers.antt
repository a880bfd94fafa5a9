use Rattle.std.proofs.Common.{◌∙◌, ap, sym, arith}
use Rattle.stm_events.specs.SlowDesk.{find_waiter}
use Rattle.stm_desk.specs.DeskView.{state_of}
use Rattle.stm_commands.specs.declared.jobs.KeptJob.{KeptJob}
use Rattle.stm_commands.proofs.KeptStores.{same_without, stored_without, same_element, none_waits}
use Rattle.stm_commands.proofs.stores.keeps_store.Goals as goal

pub returns-clause-same : goal.returns-clause-same
returns-clause-same c = same_without c.args.jobs.now c.args.at c.index-jobs-at-2.result

pub returns-clause-stored : goal.returns-clause-stored
returns-clause-stored c =
    let same = same_element c.args.jobs.now c.args.at c.index-jobs-at.result c.index-jobs-at-2.result (omega arith) in
    stored_without (state_of c.args.desk.now).waiters c.args.jobs.now c.args.at c.index-jobs-at-2.result
    (ap (λ (k : KeptJob). find_waiter k.ticket (state_of c.args.desk.now).waiters) (sym same) ∙ none_waits _ (sym c.waits.ensures ∙ c.if-waits.false)) c.requires
