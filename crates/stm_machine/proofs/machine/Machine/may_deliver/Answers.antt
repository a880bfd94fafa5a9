use Rattle.std.proofs.Common.{◌≡◌, ◌≢◌, ◌∙◌, Some, None, sym, ap, subst}
use Rattle.std.specs.Option.{option_copied}
use Rattle.stm_eval.specs.EvaluatedFields.{message_ticket, message_block, message_reads}
use Rattle.stm_events.specs.SlowDesk.{Waiter}
use Rattle.stm_waiting.specs.Entries.{kept_at}
use Rattle.stm_machine.specs.Machine.{Parts, IsAt}
use Rattle.stm_machine.proofs.Calls.{waits, lost}
use Rattle.stm_machine.proofs.Delivery.{refused_gone, refused_other}
use Rattle.stm_machine.proofs.machine.Machine.may_deliver.Goals as goal

pub returns-in-None-clause-refused : goal.returns-in-None-clause-refused
returns-in-None-clause-refused c = λ s h.
    let k = subst (λ (m : Parts). IsAt m s) (sym c.self.view_is) h in
    let m = c.args.message.now in
    let e : kept_at (message_ticket m) c.self.inside.waiting ≡ None = rw (← c.ticket.ensures) (sym c.get.ensures ∙ ap option_copied c.in-None.is) in
    refused_gone _ _ c.args.full _ (message_block m) (message_reads m) (lost (message_ticket m) c.self.inside.waiting _ k.stands.entries_are e)

pub returns-then-not-is_of-clause-refused : goal.returns-then-not-is_of-clause-refused
returns-then-not-is_of-clause-refused c = λ s h.
    let k = subst (λ (m : Parts). IsAt m s) (sym c.self.view_is) h in
    let m = c.args.message.now in
    let e : kept_at (message_ticket m) c.self.inside.waiting ≡ Some c.in-Some.waiting.now = rw (← c.ticket.ensures) (sym c.get.ensures ∙ ap option_copied c.in-Some.is) in
    let p = waits (message_ticket m) _ c.self.inside.waiting _ k.stands.entries_are e in
    let n : p.one.block.tree ≢ (message_block m).tree = λ s. let t = c.is_of.ensures.1 (ap (λ b. b.tree) p.same.block ∙ s) in cc (t, c.if-not-is_of.true) in
    refused_other _ _ c.args.full _ p.one (message_block m) (message_reads m) p.found n

pub may_deliver_own-requires : goal.may_deliver_own-requires
may_deliver_own-requires c = record {
  own = λ s h w found.
      let k = subst (λ (m : Parts). IsAt m s) (sym c.self.view_is) h in
      let m = c.args.message.now in
      let e : kept_at (message_ticket m) c.self.inside.waiting ≡ Some c.in-Some.waiting.now = rw (← c.ticket.ensures) (sym c.get.ensures ∙ ap option_copied c.in-Some.is) in
      let p = waits (message_ticket m) _ c.self.inside.waiting _ k.stands.entries_are e in
      let one : p.one ≡ w = cc (p.found, found) in
      ap (λ (x : Waiter). x.block.tree) (sym one) ∙ ap (λ b. b.tree) (sym p.same.block) ∙ c.is_of.ensures.0 (cc c.if-not-is_of.false);
}
