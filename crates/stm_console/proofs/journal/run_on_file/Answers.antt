use Rattle.std.proofs.Common.{inr}
use Rattle.std.proofs.KnownBytes.{Keeps-refl}
use Rattle.stm_console.proofs.JournalAnswers.{open_failed}
use Rattle.stm_console.proofs.journal.run_on_file.Goals as goal

pub returns-in-Ok : goal.returns-in-Ok
returns-in-Ok g c = c.run_on_device.ensures _ c.in-Ok.ensures.contents

pub returns-in-Err : goal.returns-in-Err
returns-in-Err g c = inr (Keeps-refl _, Keeps-refl _, inr (open_failed c.in-Err.error _ c.report_open.ensures))
