use Rattle.bl_emit_spec_laws_files.proofs.OnFiles.Ticking.{files_show}
use Rattle.bl_emit_spec_laws_files.proofs.files.files_show.Goals as goal

pub returns : goal.returns
returns c = files_show c.instances_have_callers.ensures.homes c.accepted_programs_are_orderly.ensures c.turns_fit.ensures c.starts_fit.ensures
    c.passes_stay_within.ensures
