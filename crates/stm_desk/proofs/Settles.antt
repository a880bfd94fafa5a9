-- What settling rests on: no ticket is out.
use Rattle.std.proofs.Common.{◌≡◌, ℕ, Bool, true, false, not, ◌||◌, cond, List, [], ◌∷◌, refl, ap, ◌∙◌}
use Rattle.std.specs.Prelude.{nat_eq, nat_lt}
use Rattle.stm_queue.specs.Queue.{Entry, with_ticket, without_ticket, recalled}
use Rattle.stm_events.specs.declared.event.What.{What}
use Rattle.stm_events.specs.declared.event.What.TheVariants.{Submitted, Installed, Finished, Cancelled, Declared as DeclaredLate, Labelled}
use Rattle.stm_machine.specs.SettleChoices.{some_out}
use Rattle.stm_machine.specs.QueueAndIndex.{with_tickets}
use Rattle.stm_desk.specs.DeskView.{pending_after}

-- ---- no ticket is out
with_step : (b : Bool) (t : ℕ) (e : Entry) (es fs : List Entry) → some_out fs ≡ some_out es → some_out (cond b ((t, false) ∷ e ∷ es) (e ∷ fs)) ≡ some_out (e ∷ es)
with_step true t e es fs h = refl
with_step false t e es fs h = ap (λ (b : Bool). e.1 || b) h

out_with : (t : ℕ) (es : List Entry) → some_out (with_ticket t es) ≡ some_out es
out_with t [] = refl
out_with t (e ∷ es) = with_step (nat_lt t e.0) t e es (with_ticket t es) (out_with t es)

out_with_all : (ts : List ℕ) (es : List Entry) → some_out (with_tickets ts es) ≡ some_out es
out_with_all [] es = refl
out_with_all (t ∷ ts) es = out_with_all ts (with_ticket t es) ∙ out_with t es

left : (a b : Bool) → (a || b) ≡ false → a ≡ false
left true b h = cc
left false b h = refl

right : (a b : Bool) → (a || b) ≡ false → b ≡ false
right true b h = cc
right false b h = h

without_step : (b : Bool) (e : Entry) (es fs : List Entry) → e.1 ≡ false → some_out fs ≡ false → some_out (cond b (e ∷ fs) fs) ≡ false
without_step true e es fs h g = rw h g
without_step false e es fs h g = g

out_without : (t : ℕ) (es : List Entry) → some_out es ≡ false → some_out (without_ticket t es) ≡ false
out_without t [] h = refl
out_without t (e ∷ es) h = without_step (not (nat_eq t e.0)) e es (without_ticket t es) (left e.1 (some_out es) h) (out_without t es (right e.1 (some_out es) h))

-- after each event none is out, where none was
pub out_after : (what : What) (es : List Entry) → some_out es ≡ false → some_out (pending_after what es) ≡ false
out_after (Submitted t b) es h = out_with t es ∙ h
out_after (Installed t v) es h = out_without t es h
out_after (Finished t v n stale) es h = out_with_all stale es ∙ h
out_after (Cancelled t) es h = out_without t es h
out_after (DeclaredLate name kind value) es h = h
out_after (Labelled t label) es h = h

pub out_recalled : (es : List Entry) → some_out (recalled es) ≡ false
out_recalled [] = refl
out_recalled (e ∷ es) = out_recalled es
