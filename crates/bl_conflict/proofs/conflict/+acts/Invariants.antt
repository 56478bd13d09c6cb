use Rattle.std.proofs.Common.{◌≡◌, ◌≤◌, ◌++◌, [], drop, length, map}
use Rattle.bl_tree.specs.Rules.{first_of}
use Rattle.bl_conflict.specs.inner.Failures.{all_clashes, parallel_of_arm, parallel_of_branch}
use Rattle.bl_conflict.specs.inner.Roots.{Knows}
use Rattle.bl_effects.specs.Rules.{parallel_of, splits_after, together}
use Rattle.bl_conflict.proofs.conflict.+acts.Given as goal

abbrev pub invariant-block-loop-s : goal.invariant-block-loop-s
invariant-block-loop-s l =
    (l.writes ++ (together (map parallel_of (drop l.s-index l.body))).writes ≡ l.initial.writes ++ (together (map parallel_of l.body)).writes)
    × (first_of l.best (all_clashes l.vars (together (map parallel_of (drop l.s-index l.body))).splits)
    ≡ first_of l.initial.best (all_clashes l.vars (together (map parallel_of l.body)).splits))

abbrev pub invariant-arms-loop-arm : goal.invariant-arms-loop-arm
invariant-arms-loop-arm l =
    (l.writes ++ (together (map parallel_of_arm (drop l.arm-index l.all))).writes ≡ l.initial.writes ++ (together (map parallel_of_arm l.all)).writes)
    × (first_of l.best (all_clashes l.vars (together (map parallel_of_arm (drop l.arm-index l.all))).splits)
    ≡ first_of l.initial.best (all_clashes l.vars (together (map parallel_of_arm l.all)).splits))

abbrev pub invariant-branches-loop-branch : goal.invariant-branches-loop-branch
invariant-branches-loop-branch l =
    (l.start ≤ length l.writes)
    × ((l.writes ++ (together (map parallel_of_branch (drop l.branch-index l.all))).writes ≡ l.initial.writes
    ++ (together (map parallel_of_branch l.all)).writes)
    × ((first_of l.best (all_clashes l.vars (splits_after (drop l.start l.writes)
    (map parallel_of_branch (drop l.branch-index l.all))))
    ≡ first_of l.initial.best (all_clashes l.vars (splits_after [] (map parallel_of_branch l.all))))
    × Knows l.touched (drop l.start l.writes)))
