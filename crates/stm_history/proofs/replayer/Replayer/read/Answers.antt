use Rattle.std.proofs.Common.{List, sym, subst, ◌∙◌}
use Rattle.stm_store.specs.Naming.{Named}
use Rattle.stm_source.specs.LaterNames.{NamesFollow}
use Rattle.stm_events.specs.declared.event.Event.{Event}
use Rattle.stm_event_lines.specs.Fits.{FitsNames}
use Rattle.stm_event_lines.specs.Lines.{event_line}
use Rattle.stm_event_lines.proofs.ReadAs.{read_bad, read_fits, read_line}
use Rattle.stm_history_text.specs.Starts.{state_after_start}
use Rattle.stm_history.proofs.AllowedEvents.{fits_after, follows_read}
use Rattle.stm_history.proofs.replayer.Replayer.read.Goals as goal

pub read_event-requires : goal.read_event-requires
read_event-requires c =
    let f = c.requires in
    let g = f.2 in
    subst (λ (ns : List Named). NamesFollow c.args.self.now.blocks ns) (sym (c.names.ensures (state_after_start f.0 f.1) g.at)) g.blocks

pub returns-clause-follows : goal.returns-clause-follows
returns-clause-follows c = λ S H f. follows_read S H _ _ f (c.read_event.ensures.known ∙ c.names.ensures (state_after_start S H) f.at)

pub returns-clause-ok : goal.returns-clause-ok
returns-clause-ok c = read_line (λ (e : Event). e) (FitsNames c.names.result.now) event_line c.args.line.now c.read_event.result c.read_event.ensures.read

pub returns-clause-fits : goal.returns-clause-fits
returns-clause-fits c =
    fits_after c.read_event.result _ _ (λ S H f. c.names.ensures (state_after_start S H) f.at)
    (read_fits (λ (e : Event). e) (FitsNames c.names.result.now) event_line c.args.line.now c.read_event.result c.read_event.ensures.read)

pub returns-clause-bad : goal.returns-clause-bad
returns-clause-bad c = λ b S H f e fit l.
    read_bad (λ (e : Event). e) (FitsNames c.names.result.now) event_line c.args.line.now c.read_event.result c.read_event.ensures.read b e (subst (λ (ns : List Named). FitsNames ns e) (sym (c.names.ensures (state_after_start S H) f.at)) fit) l
