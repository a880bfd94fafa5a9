use Rattle.std.proofs.Common.{◌∙◌}
use Rattle.stm_store.proofs.TableNames.{cloned}
use Rattle.stm_store.proofs.names.Names.copy.Goals as goal

pub invariant_of-result : goal.invariant_of-result
invariant_of-result c = rw (cloned c.self.inside.entries.entries c.in_ok-entries.entries.entries c.in_ok-entries.ensures.cases) c.self.invariant

pub returns : goal.returns
returns c = cloned c.self.inside.entries.entries c.in_ok-entries.entries.entries c.in_ok-entries.ensures.cases ∙ c.self.view_is
