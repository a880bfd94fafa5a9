use Rattle.stm_machine.proofs.BlocksByTicket.{inserted_waits, inserted_held}
use Rattle.stm_machine.proofs.restored.add_entry.Goals as goal

pub hold-requires : goal.hold-requires
hold-requires c = inserted_waits c.args.block.now.ticket _ c.args.waiting.now _ c.requires c.in_ok-insert.ensures.done

pub returns-in_ok-copy_of-in-Some : goal.returns-in_ok-copy_of-in-Some
returns-in_ok-copy_of-in-Some c =
    inserted_held c.args.block.now c.in_ok-share.field-0 c.in-Some.held c.in_ok-copy_of-in-Some.field-0 c.args.waiting.now c.insert.new.self _ c.requires c.in_ok-share.ensures c.in-Some.is c.in_ok-copy_of-in-Some.ensures
    c.in_ok-insert.ensures.done c.hold.ensures
