use Rattle.std.proofs.Common.{refl}
use Rattle.std.specs.FinSet as set
use Rattle.stm_watch.specs.Pairs.{pair_cmp}
use Rattle.stm_events.proofs.Possible.{possible_initial}
use Rattle.stm_machine.proofs.machine.Machine.open.Goals as goal

pub returns-clause-at : goal.returns-clause-at
returns-clause-at c = record {
  possible = possible_initial c.args.rule c.args.table.now;
  stands = rw (c.in_ok-open.ensures, c.empty.ensures, c.empty-2.ensures, c.empty-3.ensures) (record {
    rule_is = refl;
    store_is = refl;
    names_are = c.in_ok-of_table.ensures;
    next_is = refl;
    entries_are = tt;
    queue = λ t. refl;
    index = λ v t. set.contains-empty pair_cmp (v, t);
  });
}
