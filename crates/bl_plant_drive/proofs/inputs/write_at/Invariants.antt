use Rattle.std.proofs.Common.{◌≡◌, take}
use Rattle.bl_plant_drive.proofs.Filling.{written}
use Rattle.bl_plant_drive.proofs.inputs.write_at.Given as goal

abbrev pub invariant-loop-k : goal.invariant-loop-k
invariant-loop-k l = l.into ≡ written l.first (take l.k l.numbers) l.initial.into
