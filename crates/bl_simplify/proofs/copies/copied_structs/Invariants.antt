use Rattle.std.proofs.Common.{◌≡◌, take}
use Rattle.bl_simplify.proofs.copies.copied_structs.Given as goal

abbrev pub invariant-loop-of : goal.invariant-loop-of
invariant-loop-of l = l.copy ≡ take l.of-index l.structs
