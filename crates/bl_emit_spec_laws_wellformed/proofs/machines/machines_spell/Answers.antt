use Rattle.bl_emit_spec_laws_wellformed.proofs.OnMachines.Whole.{spell}
use Rattle.bl_emit_spec_laws_wellformed.proofs.machines.machines_spell.Goals as goal

pub returns : goal.returns
returns c program =
    spell program.structs program.units program.entry c.units_use_earlier_ones.ensures
    c.units_add_up.ensures.cells (c.cells_number.ensures program) (c.nodes_counted.ensures program)
    c.nodes_numbered.ensures (c.rules_fit.ensures program)
    (c.rules_stand.ensures program)
