use Rattle.std.proofs.Common.{◌≡◌, take}
use Rattle.bl_eval.proofs.copying.+copies.Given as goal

abbrev pub invariant-copy_all-loop-value : goal.invariant-copy_all-loop-value
invariant-copy_all-loop-value l = l.made ≡ take l.value-index l.values
