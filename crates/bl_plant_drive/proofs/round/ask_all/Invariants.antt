use Rattle.std.proofs.Common.{◌≡◌, length, map, take}
use Rattle.bl_plant_drive.specs.inner.Round.{FrontFits, seat_numbers}
use Rattle.bl_plant_drive.specs.inner.Stands.{AskedSoFar, Scene}
use Rattle.bl_plant_drive.proofs.round.ask_all.Given as goal

abbrev pub invariant-loop-k : goal.invariant-loop-k
invariant-loop-k g l = record {
  on : (s : Scene) → length s.ins ≡ l.ticks →
      AskedSoFar s 0 (map (λ b. (goal.Plant-dyn g (b.vtable, b.value)).shown b.value) l.initial.plants.items) l.initial.seats.items l.initial.gone →
      AskedSoFar s l.k (map (λ b. (goal.Plant-dyn g (b.vtable, b.value)).shown b.value) l.plants.items) l.seats.items l.gone;
  first : l.first ≡ length (seat_numbers (take l.k l.seats.items));
  front : FrontFits l.inputs l.k l.seats.items;
  wide : length (seat_numbers l.seats.items) ≡ length l.inputs;
  long : length l.seats.items ≡ length l.initial.seats.items;
}
