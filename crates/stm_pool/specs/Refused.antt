-- Why the calls are refused that take memory of their own first, so that an out-of-memory error can come before any reason.
use Rattle.std.specs.Prelude.{◌≢◌, Option, Result, Err}
use Rattle.stm_terms.specs.UnlessNoMemory.{RefusedAs}
use Rattle.stm_eval.specs.declared.message.Evaluated.{Evaluated}
use Rattle.stm_events.specs.declared.errors.DeliverError.{DeliverError}
use Rattle.stm_events.specs.declared.errors.DeliverError.TheVariants.{NoMemory}
use Rattle.stm_desk.specs.DeskView.{DeskView}
use Rattle.stm_desk.specs.Refusals.{RefusesDelivery}

-- unless memory ran out, the call is refused for this reason, and only if there is one
abbrev pub RefusedUnless : {A E : Type 0} → E → Option E → Result A E → Type 0
RefusedUnless no_memory reason result = result ≢ Err no_memory → RefusedAs no_memory reason result

-- unless memory ran out, the delivery of a message is refused for the first reason that holds, and only if one does
abbrev pub RefusesDeliveryUnless : {A : Type 0} → Result A DeliverError → DeskView → Evaluated → Type 0
RefusesDeliveryUnless result d message = result ≢ Err NoMemory → RefusesDelivery result d message
