use Rattle.bl_emit_functions_laws_simulation.proofs.OnResults.Result.{results_come_all}
use Rattle.bl_emit_functions_laws_simulation.proofs.results.results_simulate.Goals as goal

pub returns : goal.returns
returns c program =
    results_come_all program.structs program.units program.entry (c.inputs_begin.ensures program) (c.statements_simulate.ensures program)
    (c.bodies_end.ensures program) c.calls_keep.ensures (c.hands_over.ensures program) (c.frames_begin.ensures program)
