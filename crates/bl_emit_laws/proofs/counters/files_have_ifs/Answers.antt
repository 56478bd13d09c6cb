use Rattle.bl_emit_laws.proofs.OnCounters.Blocks.{files_have_ifs}
use Rattle.bl_emit_laws.proofs.counters.files_have_ifs.Goals as goal

pub returns : goal.returns
returns c program =
    files_have_ifs program c.accepted_programs_are_orderly.ensures c.activities_built.ensures c.trees_stay_placed.ensures
    c.rules_are_listed.ensures (c.instances_needed.ensures program) (c.files_end.ensures program)
