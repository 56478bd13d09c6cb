use Rattle.bl_machine_pass_laws.proofs.OnRooted.Rooting.{stays_rooted}
use Rattle.bl_machine_pass_laws.proofs.rooted.stays_rooted.Goals as goal

pub returns : goal.returns
returns c = stays_rooted c.spots_differ.ensures
