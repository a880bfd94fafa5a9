use Rattle.std.proofs.Common.{arith, ◌≡◌, ◌++◌, sym, subst, length, drop, take}
use Rattle.std.proofs.lemmas.Grind.{common_steps}
use Rattle.stm_desk.specs.DeskView.{state_of}
use Rattle.stm_commands.specs.OpenInvariant.{HaveStores}
use Rattle.stm_commands.proofs.KeptStores.{all_stored, stored_append}
use Rattle.stm_commands.proofs.stores.Stores.append.Goals as goal

pub returns-clause-stored : goal.returns-clause-stored
returns-clause-stored c =
    let e : take c.args.jobs.now.len (c.look.new.jobs ++ drop (length c.look.new.jobs) c.args.jobs.now.items) ≡ c.look.new.jobs = grind (arith, common_steps) in
    rw c.in_ok-append.ensures.items
    (stored_append (state_of c.args.desk.now).waiters _ _ (subst (HaveStores (state_of c.args.desk.now).waiters) (sym e) c.look.ensures.stored) (all_stored (state_of c.args.desk.now).waiters c.args.made.items c.requires.made))
