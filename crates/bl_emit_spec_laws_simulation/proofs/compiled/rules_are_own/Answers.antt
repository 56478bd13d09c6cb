use Rattle.bl_emit_spec_laws_simulation.proofs.OnCompiled.Owning.{rules_are_own}
use Rattle.bl_emit_spec_laws_simulation.proofs.compiled.rules_are_own.Goals as goal

pub returns : goal.returns
returns c program =
    rules_are_own program.structs program.units program.entry c.accepted_programs_are_orderly.ensures
    c.changes_are_own.ensures c.asked_are_own.ensures (c.instances_needed.ensures program) (c.needed_small.ensures program) (c.nodes_counted.ensures program)
    c.units_use_earlier_ones.ensures c.units_add_up.ensures.cells
