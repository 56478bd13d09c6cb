use Rattle.bl_plant.specs.Plants.{Gives}
use Rattle.bl_plant_drive.proofs.Lists.{changed-at, seen-at}
use Rattle.bl_plant_drive.proofs.listed.give_at.Goals as goal

pub give_from-requires : goal.give_from-requires
give_from-requires g c =
    c.requires.width _ (seen-at _ c.args.plants.now.items c.args.at c.index_mut.result.now c.requires.within c.index_mut.ensures.value)

pub returns-clause-gives : goal.returns-clause-gives
returns-clause-gives g c = λ p e.
    changed-at (λ s t. Gives s c.give_from.result c.give_from.new.into t) _ c.args.plants.now.items c.args.at c.index_mut.result.now
    c.give_from.new.plant p c.requires.within c.index_mut.ensures.value c.give_from.ensures.gives e
