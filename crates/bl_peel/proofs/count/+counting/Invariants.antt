use Rattle.std.proofs.Common.{◌≡◌, map, take}
use Rattle.bl_tree.specs.Reduce.{total}
use Rattle.bl_peel.specs.Peeled.{peeling}
use Rattle.bl_peel.specs.inner.Parts.{branch_count, counted_arms, counted_block, ends_of, peeling_of_arm, peeling_of_branch, saturated}
use Rattle.bl_peel.proofs.count.+counting.Given as goal

abbrev pub invariant-in_block-loop-s : goal.invariant-in_block-loop-s
invariant-in_block-loop-s l = l.all ≡ counted_block (map peeling (take l.s-index l.body))

abbrev pub invariant-in_arms-loop-arm : goal.invariant-in_arms-loop-arm
invariant-in_arms-loop-arm l = l.all ≡ counted_arms (map peeling_of_arm (take l.arm-index l.arms))

abbrev pub invariant-in_branches-loop-branch : goal.invariant-in_branches-loop-branch
invariant-in_branches-loop-branch l =
    (l.count ≡ saturated (total (map branch_count (map (λ branch. branch.branch) (map peeling_of_branch (take l.branch-index l.branches))))))
    × (l.ends ≡ ends_of (map (λ branch. branch.ends) (map peeling_of_branch (take l.branch-index l.branches))))
