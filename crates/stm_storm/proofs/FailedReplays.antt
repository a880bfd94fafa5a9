-- A history that a replay refuses isn't legal, and what a storm writes of it.
use Rattle.std.proofs.Common.{◌≡◌, ℕ, List, [], ◌∷◌, ◌++◌, length, Some, None, Ok, refl, sym, ◌∙◌, subst, arith, append_assoc, length-append}
use Rattle.stm_store.specs.Tables.{Declared}
use Rattle.stm_events.specs.declared.event.Event.{Event}
use Rattle.stm_events.specs.SlowDesk.{IsLegal}
use Rattle.stm_events.proofs.KeptByLegalHistories.{legal-append}
use Rattle.stm_history.specs.declared.fault.HistoryFault.TheVariants as history_fault
use Rattle.stm_history.specs.Judgement.{IsFirstIllegal}
use Rattle.stm_pool.specs.declared.storm.Counts.{Counts}
use Rattle.stm_script.specs.StormScript.{StormScript, storm_script}
use Rattle.stm_storm.specs.declared.replaying.Replay.{Replay}
use Rattle.stm_storm.specs.declared.replaying.Replay.TheVariants.{NotClosed, NotLegal, Legal}
use Rattle.stm_storm.specs.StormEnd.{end_text, IsFailedReplay, IsStormEnd}
use Rattle.stm_storm.specs.StormText.{IsFailedStormText}

-- the first part of a legal history is legal
legal_front : (table : List Declared) (front more : List Event) → IsLegal table (front ++ more) → IsLegal table front
legal_front table front more legal =
    let whole = length-append front more in
    record { each = (legal-append _ front more legal.each).first; few = omega (arith, legal.few, whole) }

pub refused_is_illegal : (n : ℕ) (table : List Declared) (history : List Event) → IsFirstIllegal (history_fault.NotLegal n) table history → ¬ IsLegal table history
refused_is_illegal n table history r = λ legal.
    let cut = r.3 ∙ sym (append_assoc r.0 (r.1 ∷ []) r.2) in
    r.5 (legal_front table (r.0 ++ r.1 ∷ []) r.2 (subst (IsLegal table) cut legal))

pub failed_storm : (input : List ℕ) (script : StormScript) (counts : List Counts) (replay : Replay) → storm_script input ≡ Ok script
    → length counts ≡ length script.sections → IsStormEnd script.table counts replay → IsFailedReplay replay → IsFailedStormText input (end_text counts replay)
failed_storm input script counts NotClosed right each end failed =
    record { script = script; right = right; counts = counts; each = each; events = None; illegal = tt; written = refl }
failed_storm input script counts (NotLegal n) right each end failed =
    record { script = script; right = right; counts = counts; each = each; events = Some n; illegal = end; written = refl }
failed_storm input script counts (Legal n) right each end failed = absurd failed
