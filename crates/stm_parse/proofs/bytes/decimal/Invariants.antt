use Rattle.std.proofs.Common.{◌≡◌, ◌<◌, ◌^◌, drop}
use Rattle.stm_parse.specs.Bytes.{number_read}
use Rattle.stm_parse.proofs.bytes.decimal.Given as goal

abbrev pub invariant-loop-digit : goal.invariant-loop-digit
invariant-loop-digit l = (number_read l.value (drop l.digit-index l.digits) ≡ number_read 0 l.digits) × (l.value < 10 ^ l.digit-index)
