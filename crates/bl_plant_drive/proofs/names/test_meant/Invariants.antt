use Rattle.std.proofs.Common.{map, take}
use Rattle.bl_plant_drive.specs.Drives.{AreThere}
use Rattle.bl_plant_drive.proofs.names.test_meant.Given as goal

abbrev pub invariant-loop-k : goal.invariant-loop-k
invariant-loop-k g l = AreThere (map (λ b. (goal.Plant-dyn g (b.vtable, b.value)).shown b.value) l.plants) (take l.k (map (λ n. n.number) l.names))
