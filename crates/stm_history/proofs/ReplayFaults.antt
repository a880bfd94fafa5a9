-- What a replay reports at the event at which it ends.
use Rattle.std.proofs.Common.{◌≡◌, ℕ, ◌+◌, ◌<◌, List, [], ◌∷◌, ◌++◌, length, take, drop, get_or}
use Rattle.stm_store.specs.Tables.{Declared}
use Rattle.stm_events.specs.declared.event.Event.{Event}
use Rattle.stm_events.specs.SlowDesk.{IsLegal}
use Rattle.stm_events.specs.States.{IsLegalFrom}
use Rattle.stm_history.specs.declared.fault.HistoryFault.TheVariants.{NotLegal}
use Rattle.stm_history.specs.Judgement.{IsIllegalFrom, IsFirstIllegal}
use Rattle.stm_history_text.specs.Starts.{first_state, table_start}
use Rattle.stm_history_text.proofs.TextInParts.{cut_at}

-- legal over a table is legal from its first state by the present rule
pub legal_over : (table : List Declared) (hs : List Event) → IsLegalFrom (first_state (table_start table)) hs → IsLegal table hs
legal_over table hs h = record { each = h.each; few = h.few }

legal_from : (table : List Declared) (hs : List Event) → IsLegal table hs → IsLegalFrom (first_state (table_start table)) hs
legal_from table hs h = record { each = h.each; few = h.few }

pub refused_at : (table : List Declared) (hs : List Event) (i n : ℕ) (e : Event) → i < length hs → e ≡ get_or hs i e → IsLegalFrom (first_state (table_start table)) (take i hs)
    → IsIllegalFrom (table_start table) (take i hs) e → n ≡ length (take i hs) + 1 → IsFirstIllegal (NotLegal n) table hs
refused_at table hs i n e l s legal illegal m =
    (take i hs, e, drop (i + 1) hs, cut_at hs i e l s, legal_over table (take i hs) legal, (λ k. illegal (legal_from table (take i hs ++ e ∷ []) k)), m)
