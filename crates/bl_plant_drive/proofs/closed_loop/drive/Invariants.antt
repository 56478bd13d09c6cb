use Rattle.std.proofs.Common.{map}
use Rattle.bl_plant_drive.specs.inner.Ticks.{Goes}
use Rattle.bl_plant_drive.proofs.closed_loop.drive.Given as goal

abbrev pub invariant-loop-done : goal.invariant-loop-done
invariant-loop-done g l =
    Goes (record {
      runner = l.initial.runner;
      plants = map (λ b. (goal.Plant-dyn g (b.vtable, b.value)).shown b.value) l.initial.plants.items;
      names = map (λ n. n.number) l.names;
      ticks = l.ticks;
    })
    l.done l.runner (map (λ b. (goal.Plant-dyn g (b.vtable, b.value)).shown b.value) l.plants.items) l.seats.items l.into
