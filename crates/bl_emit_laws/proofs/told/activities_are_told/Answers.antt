use Rattle.bl_emit_laws.proofs.OnTold.Telling.{activities_are_told}
use Rattle.bl_emit_laws.proofs.told.activities_are_told.Goals as goal

pub returns : goal.returns
returns c = activities_are_told c.rules_are_listed.ensures c.bodies_are_numbered.ensures c.blocks_alike.ensures
