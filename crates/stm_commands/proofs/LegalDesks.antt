-- The state of a desk, and the states that its history goes through: events may go on from each, and each has the names of those before.
use Rattle.std.proofs.Common.{◌≡◌, List, [], ◌∷◌, Result, Ok, Err, IfOk, sym, ap, ◌∙◌, subst}
use Rattle.stm_store.specs.Cells.{Covers, plains}
use Rattle.stm_store.specs.Naming.{Named, named_uses}
use Rattle.stm_store.specs.Tables.{Declared}
use Rattle.stm_check.specs.TypedBlock.{Block}
use Rattle.stm_events.specs.declared.event.Event.{Event}
use Rattle.stm_events.specs.SlowDesk.{Slow, LegalFrom, after, state_from}
use Rattle.stm_events.specs.States.{IsPossible, IsLegalFrom}
use Rattle.stm_events.proofs.Folds.{state-append}
use Rattle.stm_events.proofs.KeptByLegalHistories.{IsLegalAppend, legal-append}
use Rattle.stm_events.proofs.Possible.{possible_from}
use Rattle.stm_machine.specs.Checkpoints.{start_of, MayStart}
use Rattle.stm_desk.specs.DeskView.{DeskView, start_state, state_of}
use Rattle.stm_desk.proofs.Starts.{start_possible}
use Rattle.stm_source.specs.declared.refusal.Refusal.{Refusal}
use Rattle.stm_source.specs.LaterNames.{NamesFollow}
use Rattle.stm_source.proofs.LaterNames.{same_names, names_trans}
use Rattle.stm_source.specs.CompiledBlock.{UsesAreNamed}
use Rattle.stm_event_lines.proofs.LaterNames.{names_after_event}
use Rattle.stm_commands.specs.OpenInvariant.{HasGrown}

-- events may go on from the state of a desk
pub desk_possible : (d : DeskView) → MayStart d.table d.checkpoint → IsLegalFrom (start_state d) d.history → IsPossible (state_of d)
desk_possible d m l = possible_from (start_state d) d.history (start_possible d.table d.checkpoint m) l.each

-- ---- a desk that has grown
same_start : (d e : DeskView) → HasGrown d e → start_state e ≡ start_state d
same_start d e g = ap (λ (t : List Declared). start_of t e.checkpoint) g.table ∙ ap (start_of d.table) g.checkpoint

-- its state is the one after the events that are more
pub grown_state : (d e : DeskView) (g : HasGrown d e) → state_of e ≡ state_from (state_of d) g.more
grown_state d e g =
    ap (λ (s : Slow). state_from s e.history) (same_start d e g) ∙ ap (state_from (start_state d)) g.history
    ∙ state-append (start_state d) d.history g.more

both_legal : (d e : DeskView) (g : HasGrown d e) → IsLegalAppend (start_state d) d.history g.more
both_legal d e g =
    legal-append (start_state d) d.history g.more
    (subst (λ (es : List Event). LegalFrom (start_state d) es) g.history (subst (λ (s : Slow). LegalFrom s e.history) (same_start d e g) g.legal.each))

-- they were allowed
pub grown_legal : (d e : DeskView) (g : HasGrown d e) → LegalFrom (state_of d) g.more
grown_legal d e g = (both_legal d e g).rest

-- and events could go on from the state before them
pub grown_possible : (d e : DeskView) → HasGrown d e → IsPossible (state_of d)
grown_possible d e g =
    possible_from (start_state d) d.history
    (start_possible d.table d.checkpoint (subst (MayStart d.table) g.checkpoint (subst (λ (t : List Declared). MayStart t e.checkpoint) g.table g.start)))
    (both_legal d e g).first

-- ---- names
-- the present store has the variables that a block over the present names names
pub covered_now : (d : DeskView) (names : List Named) (r : Result Block Refusal) → names ≡ (state_of d).names → MayStart d.table d.checkpoint → IsLegalFrom (start_state d) d.history
    → IfOk r (UsesAreNamed names) → IfOk r (λ b. Covers (plains (state_of d).store) b.uses)
covered_now d names (Ok b) e start legal h =
    h (plains (state_of d).store) (subst (λ (ns : List Named). Covers (plains (state_of d).store) (named_uses ns)) (sym e) (desk_possible d start legal).named)
covered_now d names (Err x) e start legal h = tt

names_from : (s : Slow) (es : List Event) → NamesFollow s.names (state_from s es).names
names_from s [] = same_names s.names
names_from s (e ∷ es) = names_trans s.names (after s e.what).names (state_from s (e ∷ es)).names (names_after_event s e.what) (names_from (after s e.what) es)

-- those of a desk that has grown come after those that it had
pub names_grown : (d e : DeskView) (few : List Named) → HasGrown d e → NamesFollow few (state_of d).names → NamesFollow few (state_of e).names
names_grown d e few g k =
    subst (λ (s : Slow). NamesFollow few s.names) (sym (grown_state d e g))
    (names_trans few (state_of d).names (state_from (state_of d) g.more).names k (names_from (state_of d) g.more))
