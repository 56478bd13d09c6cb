use Rattle.bl_emit_spec_laws_wellformed.proofs.OnNeeded.Whole.{numbered}
use Rattle.bl_emit_spec_laws_wellformed.proofs.needed.needed_numbered.Goals as goal

pub returns : goal.returns
returns c program =
    numbered program.structs program.units program.entry (c.needed_small.ensures program) (c.cells_number.ensures program)
