use Rattle.std.proofs.Common.{◌∙◌, ap, sym, subst}
use Rattle.stm_desk.specs.DeskView.{state_of}
use Rattle.stm_commands.specs.Jobs.{jobs_of}
use Rattle.stm_commands.specs.OpenInvariant.{JobsStand}
use Rattle.stm_commands.proofs.Growing.{given_stand, given_are}
use Rattle.stm_commands.proofs.LegalDesks.{desk_possible}
use Rattle.stm_commands.proofs.commands.take.hand_out.Goals as goal

pub returns-clause-made : goal.returns-clause-made
returns-clause-made c =
    c.in_ok-made.ensures.kept ∙ given_are c.args.desk.now c.in_ok-store.store c.in_ok-store.jobs.items c.in_ok-store.ensures.taken.store c.in_ok-store.ensures.taken.blocks
    ∙ ap (jobs_of (state_of c.args.desk.now)) c.in_ok-store.ensures.taken.tickets

pub returns-clause-stand : goal.returns-clause-stand
returns-clause-stand c =
    subst (JobsStand c.args.desk.now) (sym c.in_ok-made.ensures.kept)
    (given_stand c.args.desk.now c.in_ok-store.store c.in_ok-store.jobs.items (desk_possible c.args.desk.now c.history-events.ensures.start c.history-events.ensures.legal) c.in_ok-store.ensures.taken.blocks c.in_ok-store.ensures.taken.covered)
