use Rattle.bl_machine_pass_laws.proofs.OnFlags.Whole.{flags_reached}
use Rattle.bl_machine_pass_laws.proofs.flags.flags_are_reached.Goals as goal

pub returns : goal.returns
returns c = flags_reached
