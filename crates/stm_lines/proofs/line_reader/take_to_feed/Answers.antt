use Rattle.std.proofs.Common.{ℕ, ◌+◌, ◌-◌, ◌≤◌, length, arith}
use Rattle.stm_lines.proofs.LineFeeds.{NoLineFeed-take}
use Rattle.stm_lines.proofs.TakenParts.{IsPart-whole, IsPart-too_long}
use Rattle.stm_lines.proofs.line_reader.take_to_feed.Goals as goal

pub returns-in-Ok-clause-part : goal.returns-in-Ok-clause-part
returns-in-Ok-clause-part c =
    let fits : c.args.at ≤ c.args.limit - length c.args.line.now.items = omega arith in
    IsPart-whole _ c.args.at _ _ _ _ c.requires.feed c.requires.begun fits c.in-Ok.ensures.line c.in-Ok.ensures.chunk

pub returns-in-Ok-take_front-clause-part : goal.returns-in-Ok-take_front-clause-part
returns-in-Ok-take_front-clause-part c =
    let n : ℕ = c.args.limit - c.len.result + 1 in
    IsPart-too_long _ n _ _ _ _ (NoLineFeed-take _ n c.args.at c.requires.feed.0.before (omega arith)) (omega (arith, c.requires.feed.0.high)) (omega arith)
    c.in-Ok-take_front.ensures.line c.in-Ok-take_front.ensures.chunk
