use Rattle.std.proofs.Common.{◌≡◌, drop, map}
use Rattle.bl_tree.specs.Reduce.{joined}
use Rattle.bl_types.specs.Failures.{noted}
use Rattle.bl_types.specs.Returns.{strays_in, strays_in_arm, strays_in_branch}
use Rattle.bl_types.proofs.returns.+strays.Given as goal

abbrev pub invariant-strays_in_block-loop-s : goal.invariant-strays_in_block-loop-s
invariant-strays_in_block-loop-s l = noted l.notes (joined (map strays_in (drop l.s-index l.body))) ≡ noted l.initial.notes (joined (map strays_in l.body))

abbrev pub invariant-strays_in_arms-loop-arm : goal.invariant-strays_in_arms-loop-arm
invariant-strays_in_arms-loop-arm l = noted l.notes (joined (map strays_in_arm (drop l.arm-index l.all)))
    ≡ noted l.initial.notes (joined (map strays_in_arm l.all))

abbrev pub invariant-strays_in_branches-loop-branch : goal.invariant-strays_in_branches-loop-branch
invariant-strays_in_branches-loop-branch l = noted l.notes (joined (map strays_in_branch (drop l.branch-index l.all)))
    ≡ noted l.initial.notes (joined (map strays_in_branch l.all))
