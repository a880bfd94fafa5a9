use Rattle.std.proofs.Common.{◌∷◌, ◌+◌, drop, inr, refl}
use Rattle.stm_history.proofs.FirstLines.{none_found, none_before, split_at}
use Rattle.stm_history.proofs.why.first_line.Goals as goal

pub returns-in-Some-clause-one_line : goal.returns-in-Some-clause-one_line
returns-in-Some-clause-one_line c = none_before c.args.bytes.now _ c.in-Some.ensures

pub returns-in-Some-clause-cut : goal.returns-in-Some-clause-cut
returns-in-Some-clause-cut c =
    let more = drop (c.in-Some.at + 1) c.args.bytes.now in
    (10 ∷ more, inr (more, refl), split_at c.args.bytes.now c.in-Some.at c.in-Some.ensures)

pub returns-in-None-clause-one_line : goal.returns-in-None-clause-one_line
returns-in-None-clause-one_line c = none_found c.args.bytes.now c.in-None.ensures
