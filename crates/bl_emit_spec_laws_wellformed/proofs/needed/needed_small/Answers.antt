use Rattle.bl_emit_spec_laws_wellformed.proofs.OnNeeded.Whole.{small}
use Rattle.bl_emit_spec_laws_wellformed.proofs.needed.needed_small.Goals as goal

pub returns : goal.returns
returns c program =
    small program.structs program.units program.entry (c.needed_cells.ensures program)
