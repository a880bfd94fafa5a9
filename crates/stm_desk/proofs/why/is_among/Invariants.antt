use Rattle.std.proofs.Common.{◌≡◌, drop}
use Rattle.std.specs.Prelude.{nat_eq}
use Rattle.std.specs.List.{list_any}
use Rattle.stm_desk.proofs.why.is_among.Given as goal

-- none of the tickets so far is the one
abbrev pub invariant-loop-one : goal.invariant-loop-one
invariant-loop-one l = list_any (nat_eq l.ticket) (drop l.one-index l.tickets) ≡ list_any (nat_eq l.ticket) l.tickets
