use Rattle.bl_machine_pass_laws_execution.proofs.OnKept.Keeping.{passes_keep}
use Rattle.bl_machine_pass_laws_execution.proofs.kept.passes_keep.Goals as goal

pub returns : goal.returns
returns c =
    passes_keep c.instances_have_callers.ensures.homes c.instances_nest.ensures c.stores_are_local.ensures.homes c.puts_commute.ensures.others
    c.frames_keep_others.ensures c.deeds_are_seen.ensures
