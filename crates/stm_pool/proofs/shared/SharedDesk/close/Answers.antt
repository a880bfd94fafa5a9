use Rattle.std.proofs.Common.{◌≡◌, ℕ, true, length, rules, arith, sym, subst}
use Rattle.std.proofs.lemmas.Grind.{common_steps}
use Rattle.stm_desk.specs.DeskView.{DeskView}
use Rattle.stm_pool.specs.Own.{are_below, events_in_passes}
use Rattle.stm_pool.specs.Closing.{MayClose}
use Rattle.stm_pool.proofs.Closes.{refilled}
use Rattle.stm_pool.proofs.OnlyTheirs.{only_theirs}
use Rattle.stm_pool.proofs.shared.SharedDesk.close.Goals as goal

pub returns-in-Err-clause-back : goal.returns-in-Err-clause-back
returns-in-Err-clause-back g c = (search rules, refilled c.args.passes c.compare.new.passes (search rules))

pub returns-clause-closed : goal.returns-clause-closed
returns-clause-closed g c =
    let history = c.into_inner-guarded.result.desk.history in
    let passes = c.args.passes.items in
    let may : MayClose history c.self.inside.passes passes = search rules in
    let all : length history ≡ events_in_passes passes = search rules in
    record {
      events = first_of (search rules, grind (arith, common_steps));
      counted = first_of (search rules, grind (arith, common_steps));
      all = first_of (search rules, grind (arith, common_steps));
      only = subst (λ (n : ℕ). are_below n c.compare.new.self.desk.history ≡ true) c.self.view_is
          (subst (λ (d : DeskView). are_below c.self.inside.passes d.history ≡ true) (sym c.compare.ensures.desk) (only_theirs passes history c.self.inside.passes may all));
    }
