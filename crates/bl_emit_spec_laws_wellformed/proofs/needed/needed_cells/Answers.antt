use Rattle.bl_emit_spec_laws_wellformed.proofs.OnNeeded.Whole.{no_more}
use Rattle.bl_emit_spec_laws_wellformed.proofs.needed.needed_cells.Goals as goal

pub returns : goal.returns
returns c program =
    no_more program.structs program.units program.entry
    c.units_use_earlier_ones.ensures c.units_add_up.ensures.cells
