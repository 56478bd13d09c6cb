use Rattle.std.proofs.Common.{◌≡◌, drop, map}
use Rattle.bl_tree.specs.Reduce.{joined}
use Rattle.bl_conflict.specs.inner.Failures.{aliases_of_arm, aliases_of_branch, least_by, of_alias}
use Rattle.bl_effects.specs.Rules.{aliases_in}
use Rattle.bl_conflict.proofs.alias.+calls.Given as goal

abbrev pub invariant-block-loop-s : goal.invariant-block-loop-s
invariant-block-loop-s l = least_by of_alias l.best (joined (map aliases_in (drop l.s-index l.body)))
    ≡ least_by of_alias l.initial.best (joined (map aliases_in l.body))

abbrev pub invariant-arms-loop-arm : goal.invariant-arms-loop-arm
invariant-arms-loop-arm l = least_by of_alias l.best (joined (map aliases_of_arm (drop l.arm-index l.all)))
    ≡ least_by of_alias l.initial.best (joined (map aliases_of_arm l.all))

abbrev pub invariant-branches-loop-branch : goal.invariant-branches-loop-branch
invariant-branches-loop-branch l = least_by of_alias l.best (joined (map aliases_of_branch (drop l.branch-index l.all)))
    ≡ least_by of_alias l.initial.best (joined (map aliases_of_branch l.all))
