use Rattle.stm_run.specs.declared.console.Console.TheVariants.{Open}
use Rattle.stm_journaled_run.specs.DurableRun.{start_in}
use Rattle.stm_journaled_run.proofs.Batches.{nothing_run, batch_run}
use Rattle.stm_journaled_run.proofs.Results.{passed_on}
use Rattle.stm_journaled_run.proofs.recording.record_batch.Goals as goal

pub returns-then-events-gt-MOST_EVENTS-clause-any_moment : goal.returns-then-events-gt-MOST_EVENTS-clause-any_moment
returns-then-events-gt-MOST_EVENTS-clause-any_moment g c honest H keeps =
    let D = g.D.Device.disk in
    let f = c.args.file.now in
    nothing_run D f (start_in c.args.format (Open c.args.desk.now)) H c.args.events.now (c.requires.begun honest) keeps
    (g.met.D.Device.lawful.only_now f.journal.device)

pub returns-in-Ok-clause-any_moment : goal.returns-in-Ok-clause-any_moment
returns-in-Ok-clause-any_moment g c honest H keeps =
    let D = g.D.Device.disk in
    let f = c.args.file.now in
    batch_run D f.journal.sync D.fills_with_zeros (start_in c.args.format (Open c.args.desk.now)) H f.begun c.args.events.now f.journal.device c.record_after.new.file.journal.device (c.requires.begun honest)
    (c.record_after.ensures.any_moment honest H keeps)

pub returns-then-events-gt1-clause-any_moment : goal.returns-then-events-gt1-clause-any_moment
returns-then-events-gt1-clause-any_moment g c honest H keeps =
    let D = g.D.Device.disk in
    let f = c.args.file.now in
    batch_run D f.journal.sync D.fills_with_zeros (start_in c.args.format (Open c.args.desk.now)) H f.begun c.args.events.now f.journal.device c.record_after.new.file.journal.device (c.requires.begun honest)
    (c.record_after.ensures.any_moment honest H keeps)

pub returns-else-events-gt1-clause-any_moment : goal.returns-else-events-gt1-clause-any_moment
returns-else-events-gt1-clause-any_moment g c honest H keeps =
    let D = g.D.Device.disk in
    let f = c.args.file.now in
    batch_run D f.journal.sync D.fills_with_zeros (start_in c.args.format (Open c.args.desk.now)) H f.begun c.args.events.now f.journal.device c.record_after.new.file.journal.device (c.requires.begun honest)
    (c.record_after.ensures.any_moment honest H keeps)

pub returns-in-Err : goal.returns-in-Err
returns-in-Err g c =
    let D = g.D.Device.disk in
    let f = c.args.file.now in
    record {
      recorded = tt;
      begun = tt;
      many = tt;
      sync = c.record_after.ensures.sync;
      same_format = c.record_after.ensures.same_format;
      fault = λ honest. passed_on _ _ c.record_after.result c.in-Err.error c.in-Err.is (c.record_after.ensures.fault honest);
      any_moment = λ honest H keeps.
          batch_run D f.journal.sync D.fills_with_zeros (start_in c.args.format (Open c.args.desk.now)) H f.begun c.args.events.now f.journal.device c.record_after.new.file.journal.device (c.requires.begun honest)
          (c.record_after.ensures.any_moment honest H keeps);
    }
