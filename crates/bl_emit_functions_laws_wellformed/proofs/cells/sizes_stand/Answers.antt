use Rattle.bl_emit_functions_laws_wellformed.proofs.OnCells.Sizes.{stand}
use Rattle.bl_emit_functions_laws_wellformed.proofs.cells.sizes_stand.Goals as goal

pub returns : goal.returns
returns c program = stand program.structs program.units program.entry (c.types_apart.ensures program)
