use Rattle.std.proofs.Common.{◌+◌, take, rules}
use Rattle.std.proofs.KnownBytes.{Appends-kept}
use Rattle.stm_lines.proofs.Writing.{Appends-more, IsPrefixOf-take}
use Rattle.stm_lines.proofs.output.write_text.Goals as goal

pub returns-in-Ok-eq0-clause-written : goal.returns-in-Ok-eq0-clause-written
returns-in-Ok-eq0-clause-written g c =
    (take (c.loop-at.at + c.in-Ok-eq0.field-0) c.args.text.now, IsPrefixOf-take _ _, Appends-more _ _ _ c.loop-at.at c.in-Ok-eq0.field-0 c.args.text.now c.loop-at.invariant.written c.in-Ok-eq0.ensures.bytes)

pub loop-at-preserved : goal.loop-at-preserved
loop-at-preserved g c = record {
  within = search rules;
  written = Appends-more _ _ _ c.loop-at.at c.in-Ok.n c.args.text.now c.loop-at.invariant.written c.in-Ok.ensures.bytes;
}

pub returns-in-Err-clause-written : goal.returns-in-Err-clause-written
returns-in-Err-clause-written g c =
    (take c.loop-at.at c.args.text.now, IsPrefixOf-take _ _, Appends-kept _ _ _ _ c.loop-at.invariant.written (c.in-Err.ensures.bytes))
