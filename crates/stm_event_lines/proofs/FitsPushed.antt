-- One item more of what fits, and events of what fits.
use Rattle.std.proofs.Common.{◌≡◌, ℕ, ◌<◌, ◌≤◌, List, [], ◌∷◌, ◌++◌, sym, subst, Option, Some, None, IfSome, Result, Ok, Err, IfOk}
use Rattle.stm_store.specs.Naming.{Named}
use Rattle.stm_events.specs.declared.event.Event.{Event}
use Rattle.stm_events.specs.declared.event.What.{What}
use Rattle.stm_terms.specs.Limits.{max_clients}
use Rattle.stm_terms.specs.declared.kinds.Ty.{Ty}
use Rattle.stm_terms.specs.declared.values.Value.{Value}
use Rattle.stm_event_lines.specs.Fits.{Is32Bit, FitsValue, FitWrites, FitNews, FitNumbers, FitsNames, WhatFitsNames}

pub fit_numbers_push : (ns : List ℕ) (n : ℕ) → FitNumbers ns → Is32Bit n → FitNumbers (ns ++ n ∷ [])
fit_numbers_push [] n h k = (k, tt)
fit_numbers_push (m ∷ ns) n h k = (h.0, fit_numbers_push ns n h.1 k)

pub fit_writes_push : (ws : List (ℕ × Value)) (w : ℕ × Value) → FitWrites ws → Is32Bit w.0 × FitsValue w.1 → FitWrites (ws ++ w ∷ [])
fit_writes_push [] w h k = (k.0, k.1, tt)
fit_writes_push (v ∷ ws) w h k = (h.0, h.1, fit_writes_push ws w h.2 k)

pub fit_news_push : (ns : List (Ty × Value)) (n : Ty × Value) → FitNews ns → (n.0.refs ≤ 8) × FitsValue n.1 → FitNews (ns ++ n ∷ [])
fit_news_push [] n h k = (k.0, k.1, tt)
fit_news_push (m ∷ ns) n h k = (h.0, h.1, fit_news_push ns n h.2 k)

-- an event of a client that there may be, of what fits
pub fits_by : (o : Option Event) (known : List Named) (what : What) → IfSome o (λ e. (e.client < max_clients) × (e.what ≡ what)) → WhatFitsNames known what → IfSome o (λ e. FitsNames known e)
fits_by None known what h f = tt
fits_by (Some e) known what h f = (h.0, subst (λ (w : What). WhatFitsNames known w) (sym h.1) f)

-- what fits all names fits these
pub fits_at : {E : Type 0} (r : Result (Option Event) E) (known : List Named) → IfOk r (λ o. IfSome o (λ e. (t : List Named) → FitsNames t e)) → IfOk r (λ o. IfSome o (λ e. FitsNames known e))
fits_at (Ok None) known h = tt
fits_at (Ok (Some e)) known h = h known
fits_at (Err x) known h = tt
