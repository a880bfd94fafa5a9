use Rattle.std.proofs.Common.{◌≡◌, ◌++◌, drop, decimal, string_bytes}
use Rattle.stm_terms.specs.Texts.{spaced}
use Rattle.stm_commands.proofs.commands.finish.write_spaced_tickets.Given as goal

abbrev pub invariant-loop-ticket : goal.invariant-loop-ticket
invariant-loop-ticket l = string_bytes l.out ++ spaced decimal (drop l.ticket-index l.tickets) ≡ string_bytes l.fn.out ++ spaced decimal l.tickets
