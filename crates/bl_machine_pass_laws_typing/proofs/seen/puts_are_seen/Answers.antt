use Rattle.bl_machine_pass_laws_typing.proofs.OnSeen.Seeing.{puts_are_seen}
use Rattle.bl_machine_pass_laws_typing.proofs.seen.puts_are_seen.Goals as goal

pub returns : goal.returns
returns c =
    puts_are_seen c.views_are_typed.ensures c.instances_have_callers.ensures.callers c.accepted_programs_are_orderly.ensures
    c.homes_are_apart.ensures c.stores_are_local.ensures.homes c.puts_commute.ensures.others
