use Rattle.std.proofs.Common.{refl, inl, inr, arith}
use Rattle.stm_history.proofs.ReachedStages.{header_fault}
use Rattle.stm_history.proofs.RefusedLines.{too_many}
use Rattle.stm_history.proofs.check.take_header.Goals as goal

pub returns-else-header-le-MAX_CELLS-clause-refused : goal.returns-else-header-le-MAX_CELLS-clause-refused
returns-else-header-le-MAX_CELLS-clause-refused c =
    let h = c.in-Ok.header in
    let fits = c.in-Ok.ensures.0 in
    inr (inl (refl, too_many h.format h.vars c.args.line.now fits.0 c.in-Ok.ensures.1 fits.1 (omega (arith, c.if-header-le-MAX_CELLS.false))))

pub returns-in-Err-Bad-clause-refused : goal.returns-in-Err-Bad-clause-refused
returns-in-Err-Bad-clause-refused c = header_fault c.take_checkpoint_header.result c.args.line.now (c.in-Err-Bad.ensures c.in-Err-Bad.field-0-is) c.take_checkpoint_header.ensures.refused
