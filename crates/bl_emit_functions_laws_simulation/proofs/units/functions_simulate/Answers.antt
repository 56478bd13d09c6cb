use Rattle.bl_emit_functions_laws_simulation.proofs.OnUnits.Agreeing.{functions_come_all}
use Rattle.bl_emit_functions_laws_simulation.proofs.units.functions_simulate.Goals as goal

pub returns : goal.returns
returns c program =
    functions_come_all program.structs program.units program.entry (c.results_simulate.ensures program) (c.procedures_simulate.ensures program)
