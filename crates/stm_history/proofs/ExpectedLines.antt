-- A line that is expected leads on.
use Rattle.std.proofs.Common.{◌≡◌, ℕ, List, [], ◌∷◌, ◌++◌, refl, sym, ◌∙◌, subst, inl, inr}
use Rattle.stm_events.specs.declared.event.Event.{Event}
use Rattle.stm_machine.specs.Machine.{event}
use Rattle.stm_history_text.specs.Starts.{Start, names_after}
use Rattle.stm_history.specs.declared.explanation.Explanation.{Explanation}
use Rattle.stm_history.specs.declared.explanation.Explanation.TheVariants.{Expected, Refused, Unreadable}
use Rattle.stm_history.specs.Progress.{CheckerState, at_header, at_variables, at_cells, at_blocks, at_events, LeadsTo}
use Rattle.stm_history.specs.Explanation.{CanStand, Explains, ExplainsEvent, ExplainsHead, ExpectedLeadsOn, IsExpectedText}
use Rattle.stm_history.specs.Judgement.{IsShort}
use Rattle.stm_event_lines.specs.Lines.{event_line}
use Rattle.stm_history.proofs.OneLineMore.{LinesUpTo-line}

pub record LeadsOn (p : CheckerState) (text : List ℕ) : Type 0 where
  pub next : CheckerState
  pub leads : LeadsTo p text next
  pub short : IsShort text

leads_head : (p : CheckerState) (text : List ℕ) (x : Explanation) → ExplainsHead p x → IsExpectedText x text → LeadsOn p text
leads_head p text (Expected s) h e = subst (LeadsOn p) e (record { next = (h.0).0; leads = (h.0).1; short = h.1 })
leads_head p text (Refused r) h e = absurd e
leads_head p text Unreadable h e = absurd e

leads_event : (start : Start) (history : List Event) (e : Event) (text : List ℕ) (x : Explanation) → ExplainsEvent start history e x → IsExpectedText x text → LeadsOn (at_events start history) text
leads_event start history e text (Expected s) h i =
    let d : Event = event e.client h.0 in
    let stand : CanStand start.format (names_after start history) d = h.2 in
    let line : event_line d ≡ text = sym h.3 ∙ i in
    record {
      next = at_events start (history ++ d ∷ []);
      leads = (d, line, stand.0, stand.1, (h.1).legal, refl);
      short = subst IsShort line stand.2;
    }
leads_event start history e text (Refused r) h i = absurd i
leads_event start history e text Unreadable h i = absurd i

leads_unread : (start : Start) (history : List Event) (line text : List ℕ) (x : Explanation) → Explains (at_events start history) line x → IsExpectedText x text → LeadsOn (at_events start history) text
leads_unread start history line text (Expected s) (inl h) e = leads_event start history h.0 text (Expected s) h.2 e
leads_unread start history line text (Expected s) (inr h) e = absurd h
leads_unread start history line text (Refused r) h e = absurd e
leads_unread start history line text Unreadable h e = absurd e

leads_on : (p : CheckerState) (line text : List ℕ) (x : Explanation) → Explains p line x → IsExpectedText x text → LeadsOn p text
leads_on at_header line text x h e = leads_head at_header text x h e
leads_on (at_variables format n table) line text x h e = leads_head (at_variables format n table) text x h e
leads_on (at_cells format next vars waiting names cells) line text x h e = leads_head (at_cells format next vars waiting names cells) text x h e
leads_on (at_blocks format waiting c) line text x h e = leads_head (at_blocks format waiting c) text x h e
leads_on (at_events start history) line text x h e = leads_unread start history line text x h e

pub expected_leads_on : ExpectedLeadsOn
expected_leads_on p line text x h e accepted l =
    let o = leads_on p line text x h e in
    (o.next, LinesUpTo-line p o.next accepted text l o.leads o.short)
