use Rattle.bl_emit_functions_laws_simulation.proofs.OnCalls.Procedure.{procedures_come_all}
use Rattle.bl_emit_functions_laws_simulation.proofs.calls.procedures_simulate.Goals as goal

pub returns : goal.returns
returns c program =
    procedures_come_all program.structs program.units program.entry (c.statements_simulate.ensures program)
