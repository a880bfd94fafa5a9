use Rattle.std.specs.Prelude.{string_bytes, option_map}
use Rattle.stm_event_lines.specs.CheckpointLines.{cell_line, cell_data}
use Rattle.stm_event_lines.proofs.Exact.{texts}
use Rattle.stm_event_lines.proofs.Checkpoints.{cell_exact}
use Rattle.stm_event_lines.proofs.checkpoint.cell_text.Goals as goal

pub returns : goal.returns
unfolding cell_line
returns c =
    let name = option_map (λ n. n.now) c.args.name in
    texts string_bytes c.to_string.result _ (cell_data name c.args.cell) c.to_string.ensures.text c.in_ok-variable.ensures (cell_exact name c.args.cell)
