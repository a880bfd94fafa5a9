use Rattle.std.proofs.Common.{rules, arith, refl}
use Rattle.stm_events.specs.declared.event.What.TheVariants.{Installed}
use Rattle.stm_machine.specs.Machine.{event}
use Rattle.stm_pool.proofs.ListOneLonger.{more_of}
use Rattle.stm_pool.proofs.guarded.Guarded.deliver.Goals as goal

pub invariant_of-pass-2 : goal.invariant_of-pass-2
invariant_of-pass-2 g c =
    let old = c.pass.inside in
    let t = more_of old.client old.own.items c.push_reserved.new.self.items (event old.client (Installed c.args.message.ticket c.args.message.verdict)) (search rules) c.pass.invariant.2 refl in
    let one = c.pass.invariant.0 in let same = c.pass.invariant.1 in
    (omega (arith, c.add.ensures.parts, one), omega (arith, c.add.ensures.amount, same, t.0), t.1, c.pass.invariant.3)
