use Rattle.std.proofs.Common.{[], Option, refl, sym, subst}
use Rattle.stm_machine.specs.Checkpoints.{CheckpointView}
use Rattle.stm_history.specs.Loading.{loaded_start}
use Rattle.stm_history_text.specs.Starts.{first_state}
use Rattle.stm_history_file.specs.Durable.{FitLines}
use Rattle.test_files.proofs.OpenedFiles.{fits_again, none_yet, text_of}
use Rattle.test_files.proofs.history_file.recorded.Goals as goal

pub record-requires-clause-kept : goal.record-requires-clause-kept
record-requires-clause-kept c honest = ([], none_yet _ _ _ c.in-Some-None.is-1 (c.in-Ok.ensures.opened.kept (λ h. refl) honest) _)

pub record-requires-clause-fit : goal.record-requires-clause-fit
record-requires-clause-fit c =
    let h = c.in-Some-None.loaded in
    let first = first_state (loaded_start h) in
    let fit = fits_again (loaded_start h) h.events.items (text_of _ h c.in-Some-None.is-0 c.in_ok-whole.ensures) in
    let same = subst (λ (o : Option CheckpointView). FitLines (record { format = h.format; table = h.table; checkpoint = o }) first h.events.items) (sym c.as_ref.ensures.value) fit in
    (first, rw (c.if-new-loaded.true, c.deref.ensures.value) same)
