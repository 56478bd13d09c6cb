use Rattle.bl_emit_spec_laws_simulation.proofs.OnRuns.Starts.{runs_simulate}
use Rattle.bl_emit_spec_laws_simulation.proofs.runs.runs_simulate.Goals as goal

pub returns : goal.returns
returns c program =
    runs_simulate c.accepted_programs_are_orderly.ensures c.instances_have_callers.ensures.callers c.instances_nest.ensures c.frames_apart.ensures
    c.registers_apart.ensures c.clearing_is_inside.ensures c.changes_stand.ensures c.turns_fit.ensures
    c.passes_stay_within.ensures c.nodes_have_keys.ensures c.trees_stay_placed.ensures program.structs
    program.units program.entry (c.places_simulate.ensures program) (c.writes_encode.ensures program) (c.returns_end.ensures program)
