use Rattle.bl_machine_pass_laws.proofs.OnFlags.Asking.{flags_asked}
use Rattle.bl_machine_pass_laws.proofs.flags.flags_are_asked.Goals as goal

pub returns : goal.returns
returns c = flags_asked
