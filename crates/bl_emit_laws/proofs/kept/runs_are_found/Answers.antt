use Rattle.bl_emit_laws.proofs.OnKept.Found.{runs_are_found}
use Rattle.bl_emit_laws.proofs.kept.runs_are_found.Goals as goal

pub returns : goal.returns
returns c =
    runs_are_found c.accepted_programs_are_orderly.ensures c.instances_have_callers.ensures.callers c.trees_stay_placed.ensures
    c.rules_are_listed.ensures
