-- What was loaded of a file: it has a text, which can be in lines, and the file has its history.
use Rattle.std.proofs.Common.{◌≡◌, ℕ, List, [], ◌∷◌, Option, Some, None, sym, subst, IfSome}
use Rattle.stm_store.specs.Tables.{Declared}
use Rattle.stm_events.specs.declared.event.Event.{Event}
use Rattle.stm_events.specs.SlowDesk.{Slow, after}
use Rattle.stm_machine.specs.Checkpoints.{CheckpointView}
use Rattle.stm_history.specs.Judgement.{AreEvents, FitsBefore, FormatFits, IsBefore}
use Rattle.stm_history.specs.Loading.{HasText, loaded_start}
use Rattle.stm_history_text.specs.Starts.{Start, first_state}
use Rattle.stm_history_file.specs.Durable.{AreFit, FitLines, LoadedKept, HistoryKept}
use Rattle.stm_history.specs.declared.loading.Loaded.{Loaded}
use Rattle.stm_journal.specs.Disk.{Disk}
use Rattle.stm_history_file.specs.declared.recording.HistoryFile.{HistoryFile}

-- a file of which nothing was loaded has no history yet, wherever it begins
pub none_yet : {D : Type 0} (disk : Disk D) (f : HistoryFile D) (loaded : Option Loaded) → loaded ≡ None → LoadedKept disk f loaded → (start : Start) → HistoryKept disk f start []
none_yet disk f loaded none h start =
    let k : LoadedKept disk f None = subst (LoadedKept disk f) none h in
    k.1 start

-- a file that was opened has some history
pub some_history : {D : Type 0} (disk : Disk D) (f : HistoryFile D) (loaded : Option Loaded) → LoadedKept disk f loaded
    → (start : Start) × (history : List Event) × HistoryKept disk f start history
some_history disk f None h =
    let start : Start = record { format = 0; table = []; checkpoint = None } in
    (start, [], h.1 start)
some_history disk f (Some l) h = (loaded_start l, l.events.items, h.1)

-- a history in the format of the file
pub in_its_format : {D : Type 0} (disk : Disk D) (f : HistoryFile D) (format : ℕ) (table : List Declared) (o : Option CheckpointView) (history : List Event) → f.format ≡ format
    → HistoryKept disk f (record { format = format; table = table; checkpoint = o }) history → HistoryKept disk f (record { format = f.format; table = table; checkpoint = o }) history
in_its_format disk f format table o history is k = subst (λ (n : ℕ). HistoryKept disk f (record { format = n; table = table; checkpoint = o }) history) (sym is) k

-- what was loaded has a text
pub text_of : (loaded : Option Loaded) (h : Loaded) → loaded ≡ Some h → IfSome loaded (λ h. HasText (loaded_start h) h.events.items) → HasText (loaded_start h) h.events.items
text_of loaded h some text = subst (λ (o : Option Loaded). IfSome o (λ h. HasText (loaded_start h) h.events.items)) some text

events_fit : (format : ℕ) (s : Slow) (events : List Event) → AreEvents format s events → AreFit format s events
events_fit format s [] are = tt
events_fit format s (e ∷ es) are = (are.0, are.1, events_fit format (after s e.what) es are.3)

fits_before : (format : ℕ) (table : List Declared) (o : Option CheckpointView) → IsBefore format table o → FormatFits format o × FitsBefore table o
fits_before format table None is = (is.0, is.2)
fits_before format table (Some c) is = let r = is.1 in (r.format_fits, r.fits)

-- what has a text can be in lines
pub fits_again : (start : Start) (events : List Event) → HasText start events → FitLines start (first_state start) events
fits_again start events text =
    let is = text.1 in
    let before = fits_before start.format start.table start.checkpoint is.start in
    record { format_fits = before.0; start_fits = before.1; fit = events_fit start.format (first_state start) events is.events }

pub fits_none : (start : Start) (s : Slow) (events : List Event) → FitLines start s events → FitLines start s []
fits_none start s events fit = record { format_fits = fit.format_fits; start_fits = fit.start_fits; fit = tt }
