use Rattle.std.proofs.Common.{◌≡◌, ◌∷◌, [], ◌&&◌, ◌||◌, not, map, drop, take}
use Rattle.bl_tree.specs.declared.tree.Arm.{out-Arm}
use Rattle.bl_tree.specs.declared.tree.Branch.{out-Branch}
use Rattle.bl_tree.specs.Reduce.{all_of, any_of, joined}
use Rattle.bl_tree.specs.Effects.{reads, writes}
use Rattle.bl_effects.specs.inner.Gathered.{Gathers, ends_of_branch, instant_of_arm, reads_of_arm, reads_of_branch, writes_of_arm, writes_of_branch}
use Rattle.bl_tree.specs.Instant.{instant}
use Rattle.bl_effects.proofs.gather.+gathering.Given as goal

abbrev pub invariant-block-loop-s : goal.invariant-block-loop-s
invariant-block-loop-s l =
    ((l.all && all_of (map instant (drop l.s-index l.body))) ≡ all_of (map instant l.body))
    × Gathers (joined (map reads (take l.s-index l.body))) (joined (map writes (take l.s-index l.body)))
    (joined (map (λ s. s ∷ []) (take l.s-index l.body))) l.initial.paths l.paths l.initial.table l.table

abbrev pub invariant-choices-loop-arm : goal.invariant-choices-loop-arm
invariant-choices-loop-arm l =
    ((l.some || any_of (map instant_of_arm (drop l.arm-index l.arms))) ≡ any_of (map instant_of_arm l.arms))
    × Gathers (joined (map reads_of_arm (take l.arm-index l.arms))) (joined (map writes_of_arm (take l.arm-index l.arms)))
    (joined (map (λ arm. (out-Arm arm).body) (take l.arm-index l.arms))) l.initial.paths l.paths l.initial.table l.table

abbrev pub invariant-branches-loop-branch : goal.invariant-branches-loop-branch
invariant-branches-loop-branch l =
    ((l.is_strong || any_of (map (λ branch. not (ends_of_branch branch).weak) (drop l.branch-index l.all)))
    ≡ any_of (map (λ branch. not (ends_of_branch branch).weak) l.all))
    × ((l.strong && all_of (map (λ branch. (ends_of_branch branch).weak || (ends_of_branch branch).instant)
    (drop l.branch-index l.all))) ≡ all_of (map (λ branch. (ends_of_branch branch).weak || (ends_of_branch branch).instant) l.all))
    × ((l.some || any_of (map (λ branch. (ends_of_branch branch).instant) (drop l.branch-index l.all)))
    ≡ any_of (map (λ branch. (ends_of_branch branch).instant) l.all))
    × Gathers (joined (map reads_of_branch (take l.branch-index l.all))) (joined (map writes_of_branch (take l.branch-index l.all)))
    (joined (map (λ branch. (out-Branch branch).body) (take l.branch-index l.all))) l.initial.paths l.paths l.initial.table l.table
