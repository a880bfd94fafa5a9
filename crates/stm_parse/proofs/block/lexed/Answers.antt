use Rattle.std.proofs.Common.{arith, inl, inr}
use Rattle.stm_parse.specs.ParseResult.{most_bytes, most_tokens}
use Rattle.stm_parse.specs.declared.fault.ParseFault.TheVariants as fault
use Rattle.stm_parse.proofs.CallsExact.{early_block, early_declaration}
use Rattle.stm_parse.proofs.FaultReported.{tokens_early}
use Rattle.stm_parse.proofs.block.lexed.Goals as goal

pub returns-in-Err-clause-right : goal.returns-in-Err-clause-right
unfolding most_bytes
returns-in-Err-clause-right c = tokens_early c.args.text.now c.in-Err.fault (omega arith) c.in-Err.ensures.1 c.in-Err.ensures.0

pub returns-then-text-gt-MOST_BYTES-clause-block : goal.returns-then-text-gt-MOST_BYTES-clause-block
unfolding most_bytes
returns-then-text-gt-MOST_BYTES-clause-block c = early_block c.args.text.now fault.TooLarge (inl (omega arith))

pub returns-in-Err-clause-block : goal.returns-in-Err-clause-block
unfolding most_bytes
returns-in-Err-clause-block c = early_block c.args.text.now c.in-Err.fault (tokens_early c.args.text.now c.in-Err.fault (omega arith) c.in-Err.ensures.1 c.in-Err.ensures.0)

pub returns-then-len-gt-MOST_TOKENS-clause-block : goal.returns-then-len-gt-MOST_TOKENS-clause-block
unfolding most_bytes most_tokens
returns-then-len-gt-MOST_TOKENS-clause-block c = early_block c.args.text.now fault.TooLarge (inr (c.in-Ok.toks.items, omega arith, c.in-Ok.ensures.lexes, omega arith))

pub returns-then-text-gt-MOST_BYTES-clause-declaration : goal.returns-then-text-gt-MOST_BYTES-clause-declaration
unfolding most_bytes
returns-then-text-gt-MOST_BYTES-clause-declaration c = early_declaration c.args.text.now fault.TooLarge (inl (omega arith))

pub returns-in-Err-clause-declaration : goal.returns-in-Err-clause-declaration
unfolding most_bytes
returns-in-Err-clause-declaration c = early_declaration c.args.text.now c.in-Err.fault (tokens_early c.args.text.now c.in-Err.fault (omega arith) c.in-Err.ensures.1 c.in-Err.ensures.0)

pub returns-then-len-gt-MOST_TOKENS-clause-declaration : goal.returns-then-len-gt-MOST_TOKENS-clause-declaration
unfolding most_bytes most_tokens
returns-then-len-gt-MOST_TOKENS-clause-declaration c = early_declaration c.args.text.now fault.TooLarge (inr (c.in-Ok.toks.items, omega arith, c.in-Ok.ensures.lexes, omega arith))

pub returns-clause-right : goal.returns-clause-right
unfolding most_bytes most_tokens
returns-clause-right c = (omega arith, c.in-Ok.ensures.lexes, omega arith)

pub returns-clause-ascii : goal.returns-clause-ascii
returns-clause-ascii c = c.in-Ok.ensures.ascii

pub returns-clause-names : goal.returns-clause-names
returns-clause-names c = c.in-Ok.ensures.names

pub returns-then-len-gt-MOST_TOKENS-clause-right : goal.returns-then-len-gt-MOST_TOKENS-clause-right
unfolding most_bytes most_tokens
returns-then-len-gt-MOST_TOKENS-clause-right c = inr (c.in-Ok.toks.items, omega arith, c.in-Ok.ensures.lexes, omega arith)
