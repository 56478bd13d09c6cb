use Rattle.std.proofs.Common.{◌≡◌, map, drop, nat_eq}
use Rattle.std.specs.List.{position_from}
use Rattle.bl_plant.specs.Plants.{PlantView}
use Rattle.bl_plant_drive.proofs.listed.place_of.Given as goal

abbrev pub invariant-loop-k : goal.invariant-loop-k
invariant-loop-k g l =
    position_from (λ (p : PlantView). nat_eq p.name l.name.number) l.k
    (drop l.k (map (λ b. (goal.Plant-dyn g (b.vtable, b.value)).shown b.value) l.plants))
    ≡ position_from (λ (p : PlantView). nat_eq p.name l.name.number) 0
    (map (λ b. (goal.Plant-dyn g (b.vtable, b.value)).shown b.value) l.plants)
