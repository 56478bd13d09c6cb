use Rattle.bl_emit_functions_laws_wellformed.proofs.OnCells.Chains.{follow}
use Rattle.bl_emit_functions_laws_wellformed.proofs.cells.cells_follow.Goals as goal

pub returns : goal.returns
returns c program =
    follow program.structs program.units program.entry (c.types_have_scalars.ensures program) (c.units_counted.ensures program)
