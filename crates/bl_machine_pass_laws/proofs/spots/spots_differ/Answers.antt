use Rattle.bl_machine_pass_laws.proofs.OnSpots.{spots_differ}
use Rattle.bl_machine_pass_laws.proofs.spots.spots_differ.Goals as goal

pub returns : goal.returns
returns c = spots_differ
