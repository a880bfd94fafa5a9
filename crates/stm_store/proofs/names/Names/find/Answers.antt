use Rattle.std.proofs.Common.{ap, sym, ◌∙◌}
use Rattle.std.specs.Prelude.{option_map}
use Rattle.stm_store.specs.Naming.{number_named}
use Rattle.stm_store.proofs.NewNames.{number_looked, found_looked, low_looked}
use Rattle.stm_store.proofs.names.Names.find.Goals as goal

pub returns-in-Some-clause-number : goal.returns-in-Some-clause-number
returns-in-Some-clause-number c =
    ap (option_map (λ v. v.0)) c.in-Some.ensures.value ∙ number_looked c.args.name.now c.self.inside.entries.entries ∙ ap (number_named c.args.name.now) c.self.view_is

pub returns-in-Some-clause-found : goal.returns-in-Some-clause-found
returns-in-Some-clause-found c =
    c.in-Some.ensures.value ∙ rw (← c.self.view_is) (found_looked c.args.name.now c.self.inside.entries.entries c.self.invariant)

pub returns-in-Some-clause-few : goal.returns-in-Some-clause-few
returns-in-Some-clause-few c = low_looked _ c.self.inside.entries.entries _ c.self.invariant (sym c.in-Some.ensures.value)

pub returns-in-None-clause-number : goal.returns-in-None-clause-number
returns-in-None-clause-number c =
    ap (option_map (λ v. v.0)) c.in-None.ensures.value ∙ number_looked c.args.name.now c.self.inside.entries.entries ∙ ap (number_named c.args.name.now) c.self.view_is

pub returns-in-None-clause-found : goal.returns-in-None-clause-found
returns-in-None-clause-found c =
    c.in-None.ensures.value ∙ rw (← c.self.view_is) (found_looked c.args.name.now c.self.inside.entries.entries c.self.invariant)
