use Rattle.std.proofs.Common.{ap, ◌∙◌, rules}
use Rattle.stm_run.specs.Console.{initial_console}
use Rattle.stm_run.proofs.WrittenRuns.{run_written}
use Rattle.stm_run.proofs.streams.run_counted.Goals as goal

pub returns-clause-written : goal.returns-clause-written
returns-clause-written g c =
    let did = c.run_session.ensures in
    let written = run_written c.run_session.result _ _ _ _ _ c.args.options.max_events c.new-session.result.console (ap g.R.Read.remaining c.new-calls.ensures.all.reader_is) (c.new-session.ensures ∙ ap initial_console c.new.ensures) did.answered did.read_fault did.part in
    search (rules, written)
