use Rattle.std.proofs.Common.{◌≡◌, map, take}
use Rattle.bl_ctext_semantics.specs.Saturated.{saturated}
use Rattle.bl_plant_drive.specs.Drives.{widths_of}
use Rattle.bl_plant_drive.proofs.names.widths.Given as goal

abbrev pub invariant-loop-k : goal.invariant-loop-k
invariant-loop-k g l = l.sum ≡ saturated (widths_of (map (λ b. (goal.Plant-dyn g (b.vtable, b.value)).shown b.value) l.plants)
    (take l.k (map (λ n. n.number) l.names)))
