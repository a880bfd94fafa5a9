use Rattle.stm_lines.proofs.CommandLines.{skipped_whole, skipped_last, stopped_rest}
use Rattle.stm_lines.proofs.command_lines.skip_rest.Goals as goal

pub returns-in-Ok-true-clause-read : goal.returns-in-Ok-true-clause-read
returns-in-Ok-true-clause-read g c = λ all h.
    let s = rw c.in-Ok-true.field-0-test at c.in-Ok-true.ensures.read in
    rw c.in-Ok-true.ensures.same_line (skipped_whole all _ _ c.args.lines.now.line.items s.0 c.requires h s.1)

pub returns-in-Ok-false-clause-read : goal.returns-in-Ok-false-clause-read
returns-in-Ok-false-clause-read g c = λ all h.
    let s = rw c.in-Ok-false.field-0-test at c.in-Ok-false.ensures.read in
    rw c.in-Ok-false.ensures.same_line (skipped_last all _ _ c.args.lines.now.line.items s.0 c.requires h s.1)

pub returns-in-Err-clause-read : goal.returns-in-Err-clause-read
returns-in-Err-clause-read g c = λ all h. let k = c.in-Err.ensures.read in stopped_rest all _ _ _ _ _ k.1 h k.2
