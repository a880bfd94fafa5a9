-- What a file keeps that refused a checkpoint.
use Rattle.std.proofs.Common.{ℕ, List, Result, Ok, Err, sym, ◌∙◌, subst}
use Rattle.stm_events.specs.declared.event.Event.{Event}
use Rattle.stm_history_text.specs.Starts.{Start}
use Rattle.stm_journal.specs.declared.replace.ReplaceError.{ReplaceError}
use Rattle.stm_journal.specs.declared.replace.ReplaceError.TheVariants.{Refused, Unfinished}
use Rattle.stm_journal.specs.Disk.{Disk}
use Rattle.stm_journal.specs.Replacing.{OnRefused}
use Rattle.stm_history_file.specs.Durable.{BeginsAs, HistoryKept, IsFormatFor}
use Rattle.stm_history_file.specs.declared.recording.HistoryFile.{HistoryFile}
use Rattle.stm_run.specs.ConsoleState.{checkpoint_of_console, events_of}
use Rattle.stm_journaled_run.specs.DurableRun.{HasFormat, KeepsConsoles, start_in}

pub consoles_kept : {D : Type 0} (disk : Disk D) (old new : HistoryFile D) (start : Start) (events : List Event) (r : Result Unit ReplaceError)
    → BeginsAs disk old new start events r → OnRefused r (KeepsConsoles disk old new)
consoles_kept disk old new start events (Ok x) begins = tt
consoles_kept disk old new start events (Err (Unfinished e)) begins = tt
consoles_kept disk old new start events (Err (Refused e)) begins = λ s k.
    let has : HasFormat new s = subst (λ (n : ℕ). IsFormatFor n (checkpoint_of_console s) (events_of s)) (sym begins.format) k.0 in (
      has,
      λ honest. let kept = k.1 honest in record {
        history = subst (λ (n : ℕ). HistoryKept disk new (start_in n s) (events_of s)) (sym begins.format) (begins.kept honest (start_in old.format s) (events_of s) kept.history);
        format = has;
        begun_if_open = begins.begun ∙ kept.begun_if_open;
      },
    )
