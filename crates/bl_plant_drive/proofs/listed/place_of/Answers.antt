use Rattle.std.proofs.Common.{nat_eq, ◌∙◌, sym}
use Rattle.bl_plant.specs.Plants.{PlantView}
use Rattle.bl_plant_drive.proofs.Lists.{place-here, place-later}
use Rattle.bl_plant_drive.proofs.listed.place_of.Goals as goal

pub returns-then-has_name : goal.returns-then-has_name
returns-then-has_name g c =
    place-here (λ (p : PlantView). nat_eq p.name c.args.name.number) _ c.args.plants.now c.loop-k.k c.index-plants-k.result _ c.loop-k-test.true
    c.index-plants-k.is c.loop-k.invariant (sym c.has_name.ensures ∙ c.if-has_name.true)

pub loop-k-preserved : goal.loop-k-preserved
loop-k-preserved g c =
    place-later (λ (p : PlantView). nat_eq p.name c.args.name.number) _ c.args.plants.now c.loop-k.k c.index-plants-k.result _ c.loop-k-test.true
    c.index-plants-k.is c.loop-k.invariant (sym c.has_name.ensures ∙ c.if-has_name.false)
