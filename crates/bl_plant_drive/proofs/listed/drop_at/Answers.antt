use Rattle.std.proofs.Common.{ap, ◌∙◌, map}
use Rattle.bl_plant_drive.proofs.Lists.{map-remove}
use Rattle.bl_plant_drive.proofs.listed.drop_at.Goals as goal

pub returns : goal.returns
returns g c = ap (map _) c.remove-plant.ensures.items ∙ map-remove _ c.args.plants.now.items c.args.at
