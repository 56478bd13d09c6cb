use Rattle.std.proofs.Common.{◌≡◌, ◌+◌, ◌++◌, max, map, drop}
use Rattle.bl_tree.specs.Reduce.{greatest, total}
use Rattle.bl_machine.specs.inner.Laid.{branch_counters, counters_from, laid, laid_arm, laid_branch, widths}
use Rattle.bl_machine.proofs.layout.+laying.Given as goal

abbrev pub invariant-in_block-loop-s : goal.invariant-in_block-loop-s
invariant-in_block-loop-s l =
    (max l.widest (greatest (widths (map laid (drop l.s-index l.body)))) ≡ greatest (widths (map laid l.body)))
    × (l.into ++ counters_from l.low (map laid (drop l.s-index l.body)) ≡ l.initial.into ++ counters_from l.low (map laid l.body))

abbrev pub invariant-in_arms-loop-arm : goal.invariant-in_arms-loop-arm
invariant-in_arms-loop-arm l =
    (max l.widest (greatest (widths (map laid_arm (drop l.arm-index l.arms)))) ≡ greatest (widths (map laid_arm l.arms)))
    × (l.into ++ counters_from l.low (map laid_arm (drop l.arm-index l.arms)) ≡ l.initial.into ++ counters_from l.low (map laid_arm l.arms))

abbrev pub invariant-in_branches-loop-branch : goal.invariant-in_branches-loop-branch
invariant-in_branches-loop-branch l =
    (l.taken + total (widths (map laid_branch (drop l.branch-index l.branches))) ≡ total (widths (map laid_branch l.branches)))
    × (l.into ++ branch_counters (map laid_branch (drop l.branch-index l.branches)) (l.low + l.taken)
    ≡ l.initial.into ++ branch_counters (map laid_branch l.branches) l.low)
