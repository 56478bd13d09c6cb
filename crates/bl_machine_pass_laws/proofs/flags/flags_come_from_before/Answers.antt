use Rattle.bl_machine_pass_laws.proofs.OnFlags.Whole.{flags_before}
use Rattle.bl_machine_pass_laws.proofs.flags.flags_come_from_before.Goals as goal

pub returns : goal.returns
returns c = flags_before
