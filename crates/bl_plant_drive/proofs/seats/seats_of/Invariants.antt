use Rattle.std.proofs.Common.{◌≡◌, map, take}
use Rattle.bl_plant_drive.specs.inner.Ticks.{new_seat}
use Rattle.bl_plant_drive.proofs.seats.seats_of.Given as goal

abbrev pub invariant-loop-k : goal.invariant-loop-k
invariant-loop-k g l = l.seats.items ≡ map (new_seat (map (λ b. (goal.Plant-dyn g (b.vtable, b.value)).shown b.value) l.plants))
    (take l.k (map (λ n. n.number) l.names))
