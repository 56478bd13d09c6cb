use Rattle.std.proofs.Common.{◌≡◌, take}
use Rattle.bl_cause_trees.proofs.copies.fields.Given as goal

abbrev pub invariant-loop-one : goal.invariant-loop-one
invariant-loop-one l = l.copies ≡ take l.one-index l.all
