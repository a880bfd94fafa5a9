use Rattle.std.proofs.Common.{rules}
use Rattle.stm_parse.proofs.FaultReported.{early_is_memory}
use Rattle.stm_parse.proofs.block.parse_block.Goals as goal

pub returns-in_err-toks-clause-only : goal.returns-in_err-toks-clause-only
returns-in_err-toks-clause-only c = λ t h. search (early_is_memory c.args.text.now h.0 h.1 _ c.in_err-toks.ensures.right, rules)
