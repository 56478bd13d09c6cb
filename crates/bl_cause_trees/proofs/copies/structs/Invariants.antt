use Rattle.std.proofs.Common.{◌≡◌, take}
use Rattle.bl_cause_trees.proofs.copies.structs.Given as goal

abbrev pub invariant-loop-def : goal.invariant-loop-def
invariant-loop-def l = l.copies ≡ take l.def-index l.all
