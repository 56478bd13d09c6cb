use Rattle.std.proofs.Common.{◌≡◌, ◌++◌, ◌&&◌, ◌||◌, drop, map, take}
use Rattle.bl_tree.specs.Reduce.{any_of}
use Rattle.bl_peel.specs.Peeled.{deep_of, front_ends, front_of, peeling}
use Rattle.bl_peel.specs.inner.Parts.{ends_of, front_after, peeling_of_arm, peeling_of_branch}
use Rattle.bl_peel.proofs.turns.+turns.Given as goal

abbrev pub invariant-deep_block-loop-s : goal.invariant-deep_block-loop-s
invariant-deep_block-loop-s l = l.made ++ deep_of (map peeling (drop l.s-index l.body)) ≡ deep_of (map peeling l.body)

abbrev pub invariant-deep_arms-loop-arm : goal.invariant-deep_arms-loop-arm
invariant-deep_arms-loop-arm l =
    l.made ++ map (λ arm. arm.deep) (map peeling_of_arm (drop l.arm-index l.arms)) ≡ map (λ arm. arm.deep) (map peeling_of_arm l.arms)

abbrev pub invariant-fronts-loop-s : goal.invariant-fronts-loop-s
invariant-fronts-loop-s l =
    ((l.begins && front_ends (map peeling (drop l.s-index l.body))) ≡ front_ends (map peeling l.body))
    × (l.into ++ front_after l.begins (map peeling (drop l.s-index l.body)) ≡ l.initial.into ++ front_of (map peeling l.body))

abbrev pub invariant-front_arms-loop-one : goal.invariant-front_arms-loop-one
invariant-front_arms-loop-one l =
    (l.arms ++ map (λ arm. arm.front) (map peeling_of_arm (drop l.one-index l.all)) ≡ map (λ arm. arm.front) (map peeling_of_arm l.all))
    × ((l.instant || any_of (map (λ arm. arm.instant) (map peeling_of_arm (drop l.one-index l.all))))
    ≡ any_of (map (λ arm. arm.instant) (map peeling_of_arm l.all)))

abbrev pub invariant-front_branches-loop-one : goal.invariant-front_branches-loop-one
invariant-front_branches-loop-one l =
    (l.branches ++ map (λ branch. branch.branch) (map peeling_of_branch (drop l.one-index l.all)) ≡ map (λ branch. branch.branch) (map peeling_of_branch l.all))
    × (l.ends ≡ ends_of (map (λ branch. branch.ends) (map peeling_of_branch (take l.one-index l.all))))
