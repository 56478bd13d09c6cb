use Rattle.bl_emit_functions_laws_simulation.proofs.OnUnits.Growing.{grow}
use Rattle.bl_emit_functions_laws_simulation.proofs.units.tables_grow.Goals as goal

pub returns : goal.returns
returns c program = grow program.structs program.units
