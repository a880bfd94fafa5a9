-- Calls of a reader that follow others.
use Rattle.std.proofs.Common.{◌∙◌}
use Rattle.stm_lines.specs.CountedCalls.{CountsCalls}
use Rattle.stm_lines.specs.declared.calls.Calls.{Calls}

pub CountsCalls-trans : {R L : Type 0} {a b c : Calls R L} → CountsCalls a b → CountsCalls b c → CountsCalls a c
CountsCalls-trans h k = record {
  same_reader = k.same_reader ∙ h.same_reader;
  same_steps = k.same_steps ∙ h.same_steps;
  counted = k.counted ∙ h.counted;
}
