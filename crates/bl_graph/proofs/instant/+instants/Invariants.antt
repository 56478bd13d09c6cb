use Rattle.std.proofs.Common.{◌≡◌, ◌&&◌, ◌||◌, not, map, drop}
use Rattle.bl_tree.specs.Instant.{instant}
use Rattle.bl_tree.specs.Reduce.{all_of, any_of}
use Rattle.bl_graph.specs.inner.Instants.{ends_of_branch, instant_of_arm}
use Rattle.bl_graph.proofs.instant.+instants.Given as goal

abbrev pub invariant-is_instant_block-loop-s : goal.invariant-is_instant_block-loop-s
invariant-is_instant_block-loop-s l = (l.all && all_of (map instant (drop l.s-index l.body))) ≡ all_of (map instant l.body)

abbrev pub invariant-some_arm-loop-arm : goal.invariant-some_arm-loop-arm
invariant-some_arm-loop-arm l = (l.some || any_of (map instant_of_arm (drop l.arm-index l.arms))) ≡ any_of (map instant_of_arm l.arms)

abbrev pub invariant-branches_instant-loop-branch : goal.invariant-branches_instant-loop-branch
invariant-branches_instant-loop-branch l =
    ((l.is_strong || any_of (map (λ branch. not (ends_of_branch branch).weak) (drop l.branch-index l.all)))
    ≡ any_of (map (λ branch. not (ends_of_branch branch).weak) l.all))
    × ((l.strong && all_of (map (λ branch. (ends_of_branch branch).weak || (ends_of_branch branch).instant)
    (drop l.branch-index l.all))) ≡ all_of (map (λ branch. (ends_of_branch branch).weak || (ends_of_branch branch).instant) l.all))
    × ((l.some || any_of (map (λ branch. (ends_of_branch branch).instant) (drop l.branch-index l.all)))
    ≡ any_of (map (λ branch. (ends_of_branch branch).instant) l.all))
