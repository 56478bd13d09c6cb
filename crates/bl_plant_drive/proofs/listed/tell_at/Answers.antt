use Rattle.bl_plant.specs.Plants.{IsTold}
use Rattle.bl_plant_drive.proofs.Lists.{changed-at}
use Rattle.bl_plant_drive.proofs.listed.tell_at.Goals as goal

pub returns : goal.returns
returns g c = λ p e.
    changed-at (λ s t. IsTold s c.args.outs.now c.tell.result t) _ c.args.plants.now.items c.args.at c.index_mut.result.now c.tell.new.plant p
    c.requires c.index_mut.ensures.value c.tell.ensures e
