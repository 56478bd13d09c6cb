use Rattle.bl_ctext_semantics_laws_cells.proofs.OnCells.{all_kept}
use Rattle.bl_ctext_semantics_laws_cells.proofs.cells.cells_are_kept.Goals as goal

pub returns : goal.returns
returns c = all_kept
