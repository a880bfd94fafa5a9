-- The names of a state come before those after an event.
use Rattle.std.proofs.Common.{refl}
use Rattle.stm_events.specs.declared.event.What.{What}
use Rattle.stm_events.specs.declared.event.What.TheVariants.{Submitted, Installed, Finished, Cancelled, Declared as DeclaredLate, Labelled}
use Rattle.stm_events.specs.SlowDesk.{Slow, after}
use Rattle.stm_source.specs.LaterNames.{NamesFollow}
use Rattle.stm_source.proofs.LaterNames.{same_names}

pub names_after_event : (s : Slow) (what : What) → NamesFollow s.names (after s what).names
names_after_event s (Submitted t b) = same_names s.names
names_after_event s (Installed t v) = same_names s.names
names_after_event s (Finished t v n stale) = same_names s.names
names_after_event s (Cancelled t) = same_names s.names
names_after_event s (DeclaredLate name kind value) = record { later = _; are = refl }
names_after_event s (Labelled t label) = same_names s.names
