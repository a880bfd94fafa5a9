use Rattle.std.proofs.Common.{ap, sym, ◌∙◌}
use Rattle.stm_store.specs.Tables.{number_of}
use Rattle.stm_store.proofs.Places.{number_of-keys}
use Rattle.stm_store.proofs.table.Table.find.Goals as goal

pub returns-in_err-number-clause-number : goal.returns-in_err-number-clause-number
returns-in_err-number-clause-number c =
    c.from_residual.ensures ∙ sym c.in_err-number.was ∙ c.get_index_of.ensures.index ∙ sym (number_of-keys c.args.name.now c.self.inside.entries.entries)
    ∙ ap (number_of c.args.name.now) c.self.view_is

pub returns-clause-number : goal.returns-clause-number
returns-clause-number c =
    sym c.in_ok-number.was ∙ c.get_index_of.ensures.index ∙ sym (number_of-keys c.args.name.now c.self.inside.entries.entries)
    ∙ ap (number_of c.args.name.now) c.self.view_is
