use Rattle.std.proofs.Common.{◌≡◌, subst}
use Rattle.stm_history.specs.declared.check.Stage.{Stage}
use Rattle.stm_history.specs.Progress.{at_header, at_variables, at_cells, at_blocks}
use Rattle.stm_history.specs.Stages.{IsStage}
use Rattle.stm_history.proofs.ReachedStages.{counts_at, leads_at, refused_at_stage}
use Rattle.stm_history.proofs.check.take_first_line.Goals as goal

pub returns-in-Before-clause-leads : goal.returns-in-Before-clause-leads
returns-in-Before-clause-leads c = leads_at _ c.args.stage at_header _ (λ p i. subst (λ (s : Stage). IsStage s p) c.in-Before.is i) c.take_header.ensures.leads

pub returns-in-Before-clause-refused : goal.returns-in-Before-clause-refused
returns-in-Before-clause-refused c = refused_at_stage _ c.args.stage at_header _ (λ p i. subst (λ (s : Stage). IsStage s p) c.in-Before.is i) c.take_header.ensures.refused

pub returns-in-Declaring-clause-leads : goal.returns-in-Declaring-clause-leads
returns-in-Declaring-clause-leads c =
    leads_at _ c.args.stage (at_variables c.in-Declaring.format c.in-Declaring.vars c.in-Declaring.table) _ (λ p i. subst (λ (s : Stage). IsStage s p) c.in-Declaring.is i) c.take_variable.ensures.leads

pub returns-in-Declaring-clause-refused : goal.returns-in-Declaring-clause-refused
returns-in-Declaring-clause-refused c =
    refused_at_stage _ c.args.stage (at_variables c.in-Declaring.format c.in-Declaring.vars c.in-Declaring.table) _ (λ p i. subst (λ (s : Stage). IsStage s p) c.in-Declaring.is i) c.take_variable.ensures.refused

pub returns-in-AtCells-clause-leads : goal.returns-in-AtCells-clause-leads
returns-in-AtCells-clause-leads c =
    let h = c.in-AtCells.header in
    leads_at _ c.args.stage (at_cells h.format h.next h.vars h.waiting c.in-AtCells.names c.in-AtCells.cells.items) _ (λ p i. subst (λ (s : Stage). IsStage s p) c.in-AtCells.is i) c.take_cell.ensures.leads

pub returns-in-AtCells-clause-refused : goal.returns-in-AtCells-clause-refused
returns-in-AtCells-clause-refused c =
    let h = c.in-AtCells.header in
    refused_at_stage _ c.args.stage (at_cells h.format h.next h.vars h.waiting c.in-AtCells.names c.in-AtCells.cells.items) _ (λ p i. subst (λ (s : Stage). IsStage s p) c.in-AtCells.is i) c.take_cell.ensures.refused

pub returns-in-AtBlocks-clause-leads : goal.returns-in-AtBlocks-clause-leads
returns-in-AtBlocks-clause-leads c =
    leads_at _ c.args.stage (at_blocks c.in-AtBlocks.format c.in-AtBlocks.waiting c.in-AtBlocks.checkpoint) _ (λ p i. subst (λ (s : Stage). IsStage s p) c.in-AtBlocks.is i) c.take_block.ensures.leads

pub returns-in-AtBlocks-clause-refused : goal.returns-in-AtBlocks-clause-refused
returns-in-AtBlocks-clause-refused c =
    refused_at_stage _ c.args.stage (at_blocks c.in-AtBlocks.format c.in-AtBlocks.waiting c.in-AtBlocks.checkpoint) _ (λ p i. subst (λ (s : Stage). IsStage s p) c.in-AtBlocks.is i) c.take_block.ensures.refused

pub take_variable-requires : goal.take_variable-requires
take_variable-requires c =
    let p = (c.requires.stage).0 in
    let at : p ≡ at_variables c.in-Declaring.format c.in-Declaring.vars c.in-Declaring.table = subst (λ (s : Stage). IsStage s p) c.in-Declaring.is (c.requires.stage).1 in
    (counts_at p _ at (c.requires.stage).2).0

pub take_cell-requires : goal.take_cell-requires
take_cell-requires c =
    let p = (c.requires.stage).0 in
    let h = c.in-AtCells.header in
    let at : p ≡ at_cells h.format h.next h.vars h.waiting c.in-AtCells.names c.in-AtCells.cells.items = subst (λ (s : Stage). IsStage s p) c.in-AtCells.is (c.requires.stage).1 in
    let counts = counts_at p _ at (c.requires.stage).2 in
    record { head = counts.0; few = counts.1; named = counts.2 }
