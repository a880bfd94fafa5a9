use Rattle.std.proofs.Common.{[], Option, refl, subst}
use Rattle.stm_machine.specs.Checkpoints.{CheckpointView}
use Rattle.stm_history.specs.Loading.{loaded_start}
use Rattle.stm_history_text.specs.Starts.{first_state}
use Rattle.stm_history_file.specs.Durable.{FitLines}
use Rattle.test_files.proofs.OpenedFiles.{fits_again, fits_none, in_its_format, some_history, text_of}
use Rattle.test_files.proofs.history_file.begun_again.Goals as goal

pub begin_anew-requires-clause-kept : goal.begin_anew-requires-clause-kept
begin_anew-requires-clause-kept c honest = some_history _ _ _ (c.in-Ok.ensures.opened.kept (λ h. refl) honest)

pub begin_anew-requires-clause-fit : goal.begin_anew-requires-clause-fit
begin_anew-requires-clause-fit c =
    let h = c.in-Some.loaded in
    let first = first_state (loaded_start h) in
    let fit = fits_none (loaded_start h) first h.events.items (fits_again (loaded_start h) h.events.items (text_of _ h c.in-Some.is c.in_ok-onward.ensures)) in
    (first, subst (λ (o : Option CheckpointView). FitLines (record { format = h.format; table = h.table; checkpoint = o }) first []) c.in-Some-checkpoint.is fit)

pub record-requires-clause-fit : goal.record-requires-clause-fit
record-requires-clause-fit c =
    let h = c.in-Some.loaded in
    let first = first_state (loaded_start h) in
    let fit = fits_again (loaded_start h) h.events.items (text_of _ h c.in-Some.is c.in_ok-onward.ensures) in
    let same = subst (λ (o : Option CheckpointView). FitLines (record { format = h.format; table = h.table; checkpoint = o }) first h.events.items) c.in-Some-checkpoint.is fit in
    (first, rw (c.in_ok-begin_anew.ensures.begins.format, c.deref.ensures.value) same)

pub record-requires-clause-kept : goal.record-requires-clause-kept
record-requires-clause-kept c honest = ([], in_its_format _ _ _ _ _ _ c.in_ok-begin_anew.ensures.begins.format (c.in_ok-begin_anew.ensures.begins.kept honest))
