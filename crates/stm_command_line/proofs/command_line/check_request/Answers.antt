use Rattle.std.proofs.Common.{sym, ◌∙◌}
use Rattle.clap.specs.Matches.{found_of}
use Rattle.clap.specs.Walk.{rows_of}
use Rattle.stm_command_line.proofs.WordAnswers.{entered_subcommand, run_checked, storm_checked}
use Rattle.stm_command_line.proofs.command_line.check_request.Goals as goal

pub returns-then-eq : goal.returns-then-eq
returns-then-eq c =
    let entered = entered_subcommand c.args.matches.now c.in-Some.name.now (rows_of (found_of c.in-Some.inner.now)) c.in-Some.ensures.name c.in-Some.ensures.rows in
    run_checked _ _ _ _ entered (sym c.eq.ensures ∙ c.if-eq.true) c.check_run.ensures

pub returns-then-eq-2 : goal.returns-then-eq-2
returns-then-eq-2 c =
    let entered = entered_subcommand c.args.matches.now c.in-Some.name.now (rows_of (found_of c.in-Some.inner.now)) c.in-Some.ensures.name c.in-Some.ensures.rows in
    storm_checked _ _ _ _ entered (sym c.eq.ensures ∙ c.if-eq.false) (sym c.eq-in-Some.ensures ∙ c.if-eq-2.true) c.check_storm.ensures
