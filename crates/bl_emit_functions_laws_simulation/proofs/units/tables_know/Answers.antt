use Rattle.bl_emit_functions_laws_simulation.proofs.OnUnits.Made.{know_all}
use Rattle.bl_emit_functions_laws_simulation.proofs.units.tables_know.Goals as goal

pub returns : goal.returns
returns c program = know_all program.structs program.units program.entry
