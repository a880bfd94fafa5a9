-- What a message says, in words that its callers use.
use Rattle.std.specs.Prelude.{ℕ, List}
use Rattle.stm_terms.specs.declared.values.Value.{Value}
use Rattle.stm_terms.specs.declared.verdicts.Verdict.{Verdict}
use Rattle.stm_terms.specs.Changes.{Variables}
use Rattle.stm_check.specs.TypedBlock.{Block}
use Rattle.stm_eval.specs.Messages.{Agrees, Holds}
use Rattle.stm_eval.specs.declared.message.Evaluated.{Evaluated}

-- the ticket that was evaluated
abbrev pub message_ticket : Evaluated → ℕ
message_ticket m = m.ticket

-- the block that was evaluated
abbrev pub message_block : Evaluated → Block
message_block m = m.block

-- the variables that it read, ascending, with their values
abbrev pub message_reads : Evaluated → List (ℕ × Value)
message_reads m = m.reads

-- its verdict
abbrev pub message_verdict : Evaluated → Verdict
message_verdict m = m.verdict

-- on all variables that have the values which the block read, it has the message's verdict, and reads the same
abbrev pub HoldsWhereRead : Evaluated → Type 0
HoldsWhereRead m =
    (under : Variables) → Agrees (message_reads m) under → Holds (message_block m).tree under (message_reads m) (message_verdict m)
