use Rattle.std.proofs.Common.{◌≡◌, ◌+ℤ◌, drop}
use Rattle.bl_gen.specs.Outputs.{sum_of}
use Rattle.bl_gen.proofs.outputs.sum_of.Given as goal

abbrev pub invariant-rows : goal.invariant-rows
invariant-rows l = (l.sum +ℤ sum_of (drop l.row-index l.rows)) ≡ sum_of l.rows
