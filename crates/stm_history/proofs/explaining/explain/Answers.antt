use Rattle.std.proofs.Common.{◌≡◌, subst}
use Rattle.stm_history.specs.declared.check.Stage.{Stage}
use Rattle.stm_history.specs.Stages.{IsStage}
use Rattle.stm_history.proofs.ReachedStages.{counts_at}
use Rattle.stm_history.specs.Progress.{at_header, at_variables, at_cells, at_blocks}
use Rattle.stm_history.proofs.Explanations.{explained_at, running_explained}
use Rattle.stm_history.proofs.explaining.explain.Goals as goal

pub returns-in-Before : goal.returns-in-Before
returns-in-Before c = rw c.in-Before.is (explained_at c.explain_header.result _ at_header c.args.line.now c.explain_header.ensures (λ x h. h))

pub returns-in-Declaring : goal.returns-in-Declaring
returns-in-Declaring c =
    let w = c.in-Declaring in
    rw w.is (explained_at c.explain_variable.result _ (at_variables w.format w.vars w.table) c.args.line.now c.explain_variable.ensures (λ x h. h w.format w.vars))

pub returns-in-AtCells : goal.returns-in-AtCells
returns-in-AtCells c =
    let w = c.in-AtCells in
    rw w.is (explained_at c.explain_cell.result _ (at_cells w.header.format w.header.next w.header.vars w.header.waiting w.names w.cells.items) c.args.line.now c.explain_cell.ensures (λ x h. h w.header.next w.header.waiting))

pub returns-in-AtBlocks : goal.returns-in-AtBlocks
returns-in-AtBlocks c =
    let w = c.in-AtBlocks in
    rw w.is (explained_at c.explain_block.result _ (at_blocks w.format w.waiting w.checkpoint) c.args.line.now c.explain_block.ensures (λ x h. h w.waiting))

pub returns-in-Running : goal.returns-in-Running
returns-in-Running c =
    let w = c.in-Running in
    rw w.is (running_explained c.explain_event_line.result w.format w.table w.checkpoint w.replayer c.args.line.now c.explain_event_line.ensures)

pub explain_cell-requires : goal.explain_cell-requires
explain_cell-requires c =
    let p = c.requires.0 in
    let w = c.in-AtCells in
    let at : p ≡ at_cells w.header.format w.header.next w.header.vars w.header.waiting w.names w.cells.items = subst (λ (s : Stage). IsStage s p) w.is c.requires.1 in
    (counts_at p _ at c.requires.2).1
