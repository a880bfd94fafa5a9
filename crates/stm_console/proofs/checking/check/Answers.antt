use Rattle.stm_console.proofs.checking.check.Goals as goal

pub returns : goal.returns
returns g c = c.check_with.ensures
