use Rattle.std.proofs.Common.{◌≡◌, take}
use Rattle.bl_peel.proofs.copies.+blocks.Given as goal

abbrev pub invariant-block-loop-s : goal.invariant-block-loop-s
invariant-block-loop-s l = l.copies ≡ take l.s-index l.body

abbrev pub invariant-copies_of_arms-loop-arm : goal.invariant-copies_of_arms-loop-arm
invariant-copies_of_arms-loop-arm l = l.copies ≡ take l.arm-index l.arms

abbrev pub invariant-copies_of_branches-loop-branch : goal.invariant-copies_of_branches-loop-branch
invariant-copies_of_branches-loop-branch l = l.copies ≡ take l.branch-index l.branches
