-- What a list of cells points to.
use Rattle.std.specs.Prelude.{⊤, ◌≤◌, List, [], length}
use Rattle.std.specs.Arc.{arc_value}
use Rattle.stm_store.specs.declared.cell.Cell.{Cell}
use Rattle.stm_store.specs.declared.tree.Root.{Root}
use Rattle.stm_store.specs.declared.tree.Root.TheVariants.{Empty, Page, Part, Parts}
use Rattle.stm_store.specs.Pages.{page_cells, part_cells}

-- its cells
abbrev pub cells_at : Root → List Cell
cells_at Empty = []
cells_at (Page p) = arc_value p
cells_at (Part p) = arc_value p
cells_at (Parts p) = arc_value p

-- a page or a part has at most the cells of a full one
abbrev pub IsRoot : Root → Type 0
IsRoot Empty = ⊤
IsRoot (Page p) = length (arc_value p) ≤ page_cells
IsRoot (Part p) = length (arc_value p) ≤ part_cells
IsRoot (Parts p) = ⊤
