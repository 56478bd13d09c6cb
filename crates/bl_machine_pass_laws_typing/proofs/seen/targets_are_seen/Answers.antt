use Rattle.bl_machine_pass_laws_typing.proofs.OnSeen.Seeing.{targets_are_seen}
use Rattle.bl_machine_pass_laws_typing.proofs.seen.targets_are_seen.Goals as goal

pub returns : goal.returns
returns c = targets_are_seen c.puts_are_seen.ensures c.views_are_typed.ensures
