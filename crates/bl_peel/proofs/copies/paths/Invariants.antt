use Rattle.std.proofs.Common.{◌≡◌, take}
use Rattle.bl_peel.proofs.copies.paths.Given as goal

abbrev pub invariant-loop-one : goal.invariant-loop-one
invariant-loop-one l = l.copies ≡ take l.one-index l.all
