use Rattle.std.proofs.Common.{map, nat_eq, take}
use Rattle.std.specs.List.{IsDistinct}
use Rattle.bl_plant_drive.proofs.names.test_distinct.Given as goal

abbrev pub invariant-loop-k : goal.invariant-loop-k
invariant-loop-k l = IsDistinct nat_eq (take l.k (map (λ n. n.number) l.names))
