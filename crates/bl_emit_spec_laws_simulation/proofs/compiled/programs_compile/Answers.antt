use Rattle.bl_emit_spec_laws_simulation.proofs.OnCompiled.Compiling.{programs_compile}
use Rattle.bl_emit_spec_laws_simulation.proofs.compiled.programs_compile.Goals as goal

pub returns : goal.returns
returns c program =
    programs_compile program.structs program.units program.entry (c.units_counted.ensures program) (c.nodes_counted.ensures program)
    c.nodes_are_few.ensures c.registers_are_few.ensures
