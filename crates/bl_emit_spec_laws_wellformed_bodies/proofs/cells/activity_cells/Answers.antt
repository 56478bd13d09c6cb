use Rattle.bl_emit_spec_laws_wellformed_bodies.proofs.OnCells.Whole.{law}
use Rattle.bl_emit_spec_laws_wellformed_bodies.proofs.cells.activity_cells.Goals as goal

pub returns : goal.returns
returns c program =
    law program.structs program.units program.entry (c.bodies_run.ensures program) (c.types_have_scalars.ensures program)
    (c.units_counted.ensures program) (c.bodies_cost.ensures program) c.none_loops.ensures c.units_add_up.ensures.cells c.units_use_earlier_ones.ensures
