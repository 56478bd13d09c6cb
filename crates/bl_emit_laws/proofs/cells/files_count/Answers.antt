use Rattle.bl_emit_laws.proofs.OnCells.Whole.{counted}
use Rattle.bl_emit_laws.proofs.cells.files_count.Goals as goal

pub returns : goal.returns
returns c program =
    counted program c.trees_stay_placed.ensures.nodes c.units_use_earlier_ones.ensures c.units_add_up.ensures.cells (c.sizes_stand.ensures program)
    (c.cells_follow.ensures program) (c.cells_grow.ensures program) c.activities_call_few.ensures (c.bodies_run.ensures program) (c.needed_small.ensures program) (c.needed_closed.ensures program)
    (c.machines_spell.ensures program) (c.parts_stand.ensures program) (c.activity_cells.ensures program)
