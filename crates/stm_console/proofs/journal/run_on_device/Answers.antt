use Rattle.std.proofs.Common.{ℕ, List, inl, inr, refl}
use Rattle.std.proofs.KnownBytes.{Keeps-refl}
use Rattle.stm_journal.specs.Text.{recovered}
use Rattle.stm_history_file.specs.Durable.{LoadsFront}
use Rattle.stm_console.proofs.JournalAnswers.{answered_lines, part_answered, durable_failed, known, unopened}
use Rattle.stm_console.proofs.journal.run_on_device.Goals as goal

pub run_durable-requires-clause-opened : goal.run_durable-requires-clause-opened
run_durable-requires-clause-opened g c κs within =
    let opened = c.in-Ok.ensures.opened in
    record { resumable = opened.resumable; kept = opened.kept c.requires.settled; format = opened.format }

pub returns-in-Ok-run_durable : goal.returns-in-Ok-run_durable
returns-in-Ok-run_durable g c = λ contents is.
    let loaded = c.in-Ok.opened.loaded in
    let front = known (λ (bytes : List ℕ). LoadsFront (recovered bytes) loaded) g.D.Device.disk.is_honest contents (g.D.Device.disk.seen c.args.device) is c.in-Ok.ensures.opened.loaded in
    inl (loaded, front, inl (refl, answered_lines _ _ _ _ _ _ _ c.in-Ok-run_durable.ensures.written))

pub returns-in-Ok : goal.returns-in-Ok
returns-in-Ok g c = λ contents is.
    let loaded = c.in-Ok.opened.loaded in
    let front = known (λ (bytes : List ℕ). LoadsFront (recovered bytes) loaded) g.D.Device.disk.is_honest contents (g.D.Device.disk.seen c.args.device) is c.in-Ok.ensures.opened.loaded in
    inl (loaded, front, inr (durable_failed c.in-Err-run_durable.fault _ c.report_durable.ensures, part_answered _ _ _ _ _ _ c.in-Err-run_durable.ensures.written.part))

pub returns-in-Some : goal.returns-in-Some
returns-in-Some g c = λ contents is. inr (Keeps-refl _, Keeps-refl _, inr (inl refl))

pub returns : goal.returns
returns g c = λ contents is.
    inr (
      Keeps-refl _,
      Keeps-refl _,
      unopened g.D.Device.disk.is_honest contents (g.D.Device.disk.seen c.args.device) c.in-Err.fault _ is c.report_unopened.ensures c.in-Err.ensures.failed.reported (λ honest. (c.in-Err.ensures.failed.cause honest).torn_too_long),
    )
