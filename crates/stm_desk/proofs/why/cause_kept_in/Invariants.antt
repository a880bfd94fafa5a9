use Rattle.std.proofs.Common.{◌≡◌, drop}
use Rattle.stm_desk.specs.Reasons.{kept_cause_in}
use Rattle.stm_desk.proofs.why.cause_kept_in.Given as goal

-- none of the blocks so far is under the ticket
abbrev pub invariant-loop-block : goal.invariant-loop-block
invariant-loop-block l = kept_cause_in l.ticket (drop l.block-index l.blocks) ≡ kept_cause_in l.ticket l.blocks
