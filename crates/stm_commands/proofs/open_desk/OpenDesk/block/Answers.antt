use Rattle.std.proofs.Common.{List, sym, subst, ◌∙◌}
use Rattle.stm_store.specs.Naming.{Named}
use Rattle.stm_source.specs.LaterNames.{NamesFollow}
use Rattle.stm_commands.proofs.Growing.{kept_prepared}
use Rattle.stm_commands.proofs.LegalDesks.{covered_now}
use Rattle.stm_commands.proofs.open_desk.OpenDesk.block.Goals as goal

pub block-requires : goal.block-requires
block-requires c = subst (λ (ns : List Named). NamesFollow c.self.inside.cache ns) (sym c.names.ensures) c.self.invariant.kept_names

pub invariant_of-self : goal.invariant_of-self
invariant_of-self c = kept_prepared _ _ _ _ (c.block.ensures.known ∙ c.names.ensures) c.self.invariant

pub returns-clause-covered : goal.returns-clause-covered
returns-clause-covered c = rw (← c.self.view_is) (covered_now c.self.inside.desk _ c.block.result c.names.ensures c.self.invariant.start c.self.invariant.legal c.block.ensures.covered)
