use Rattle.bl_emit_spec_laws.proofs.OnRemember.Remembering.{caller_remembers}
use Rattle.bl_emit_spec_laws.proofs.remember.callees_remember.Goals as goal

pub returns : goal.returns
returns c = λ structs units entry machine activities i j unit l at arguments compiled is there begins on.
    caller_remembers c.accepted_programs_are_orderly.ensures c.instances_have_callers.ensures.callers c.trees_stay_placed.ensures structs units entry machine
    activities compiled i j unit is on at begins
