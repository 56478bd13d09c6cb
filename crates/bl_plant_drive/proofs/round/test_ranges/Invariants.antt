use Rattle.std.proofs.Common.{◌≡◌, true, take, drop}
use Rattle.bl_tree.specs.Ports.{in_ranges, types_of}
use Rattle.bl_plant_drive.proofs.round.test_ranges.Given as goal

abbrev pub invariant-loop-k : goal.invariant-loop-k
invariant-loop-k l = in_ranges (types_of (take l.k (drop l.first l.inputs))) (take l.k l.numbers) ≡ true
