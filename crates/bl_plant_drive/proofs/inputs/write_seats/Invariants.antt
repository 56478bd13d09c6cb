use Rattle.std.proofs.Common.{◌≡◌, length, take}
use Rattle.bl_plant_drive.specs.inner.Round.{seat_numbers}
use Rattle.bl_plant_drive.proofs.Filling.{filled}
use Rattle.bl_plant_drive.proofs.inputs.write_seats.Given as goal

abbrev pub invariant-loop-k : goal.invariant-loop-k
invariant-loop-k l = record {
  first : l.first ≡ length (seat_numbers (take l.k l.seats));
  row : l.into ≡ filled l.k l.seats l.initial.into;
}
