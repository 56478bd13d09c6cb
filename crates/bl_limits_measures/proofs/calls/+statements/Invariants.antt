use Rattle.std.proofs.Common.{◌≡◌, ◌++◌, map, drop}
use Rattle.bl_tree.specs.Reduce.{joined}
use Rattle.bl_limits_measures.specs.Calls.{calls_in, calls_in_arm, calls_in_branch}
use Rattle.bl_limits_measures.proofs.calls.+statements.Given as goal

abbrev pub invariant-in_block-loop-s : goal.invariant-in_block-loop-s
invariant-in_block-loop-s l = l.into ++ joined (map calls_in (drop l.s-index l.body)) ≡ l.initial.into ++ joined (map calls_in l.body)

abbrev pub invariant-in_arms-loop-arm : goal.invariant-in_arms-loop-arm
invariant-in_arms-loop-arm l = l.into ++ joined (map calls_in_arm (drop l.arm-index l.arms)) ≡ l.initial.into ++ joined (map calls_in_arm l.arms)

abbrev pub invariant-in_branches-loop-branch : goal.invariant-in_branches-loop-branch
invariant-in_branches-loop-branch l = l.into ++ joined (map calls_in_branch (drop l.branch-index l.branches)) ≡ l.initial.into
    ++ joined (map calls_in_branch l.branches)
