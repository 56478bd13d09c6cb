use Rattle.std.proofs.Common.{◌≡◌, drop}
use Rattle.bl_eval.specs.Values.{value_at}
use Rattle.bl_eval.proofs.parts.part_at.Given as goal

abbrev pub invariant-loop-k : goal.invariant-loop-k
invariant-loop-k l = value_at (drop l.k-index l.positions) l.found ≡ value_at l.positions l.value
