use Rattle.std.proofs.Common.{◌≡◌, take}
use Rattle.bl_face.proofs.copy.lengths_of.Given as goal

abbrev pub invariant-loop-length : goal.invariant-loop-length
invariant-loop-length l = l.copy ≡ take l.length-index l.lengths
