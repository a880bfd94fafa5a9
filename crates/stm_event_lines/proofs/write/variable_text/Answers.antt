use Rattle.std.specs.Prelude.{string_bytes}
use Rattle.stm_store.specs.Tables.{Declared}
use Rattle.stm_event_lines.specs.Lines.{variable_line, variable_data}
use Rattle.stm_event_lines.proofs.Exact.{texts, variable_exact}
use Rattle.stm_event_lines.proofs.write.variable_text.Goals as goal

pub returns : goal.returns
unfolding variable_line
returns c =
    let d : Declared = record { name = c.args.name.now; kind = c.args.kind; value = c.args.value } in
    texts string_bytes c.to_string.result _ (variable_data d) c.to_string.ensures.text c.in_ok-variable.ensures (variable_exact d)
