use Rattle.bl_emit_spec_laws_wellformed.proofs.OnMachines.Whole.{differ}
use Rattle.bl_emit_spec_laws_wellformed.proofs.machines.machines_differ.Goals as goal

pub returns : goal.returns
returns c program =
    differ program.structs program.units program.entry c.units_use_earlier_ones.ensures
    c.units_add_up.ensures.cells (c.cells_number.ensures program) (c.nodes_counted.ensures program)
    c.nodes_numbered.ensures c.numbers_follow.ensures
