use Rattle.std.proofs.Common.{◌≡◌, map}
use Rattle.bl_plant_drive.specs.inner.Ticks.{Hearing, ToldSoFar}
use Rattle.bl_plant_drive.proofs.tell.tell_all.Given as goal

abbrev pub invariant-loop-k : goal.invariant-loop-k
invariant-loop-k g l =
    (h : Hearing) → h.row ≡ l.outs →
    ToldSoFar h 0 (map (λ b. (goal.Plant-dyn g (b.vtable, b.value)).shown b.value) l.initial.plants.items) l.seats →
    ToldSoFar h l.k (map (λ b. (goal.Plant-dyn g (b.vtable, b.value)).shown b.value) l.plants.items) l.seats
