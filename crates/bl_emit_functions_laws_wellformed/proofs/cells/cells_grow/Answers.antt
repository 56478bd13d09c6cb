use Rattle.bl_emit_functions_laws_wellformed.proofs.OnCells.Growing.{grow}
use Rattle.bl_emit_functions_laws_wellformed.proofs.cells.cells_grow.Goals as goal

pub returns : goal.returns
returns c program = grow program.structs program.units program.entry
