use Rattle.std.proofs.Common.{◌≡◌, take}
use Rattle.bl_simplify_walk.proofs.parts.slices.Given as goal

abbrev pub invariant-loop-block : goal.invariant-loop-block
invariant-loop-block l = l.all.items ≡ take l.block-index l.rest
