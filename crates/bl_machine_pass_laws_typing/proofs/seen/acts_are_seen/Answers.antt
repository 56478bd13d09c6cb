use Rattle.bl_machine_pass_laws_typing.proofs.OnSeen.Seeing.{acts_are_seen}
use Rattle.bl_machine_pass_laws_typing.proofs.seen.acts_are_seen.Goals as goal

pub returns : goal.returns
returns c =
    acts_are_seen c.puts_are_seen.ensures c.views_are_typed.ensures c.instances_have_callers.ensures.callers
    c.declarations_keep_others.ensures
