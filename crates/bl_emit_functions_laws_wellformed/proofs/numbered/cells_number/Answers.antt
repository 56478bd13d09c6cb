use Rattle.bl_emit_functions_laws_wellformed.proofs.OnNumbered.Whole.{numbered}
use Rattle.bl_emit_functions_laws_wellformed.proofs.numbered.cells_number.Goals as goal

pub returns : goal.returns
returns c program =
    numbered program.structs program.units program.entry (c.counts_number.ensures program)
