use Rattle.std.proofs.Common.{◌≡◌, ◌++◌, length, map, drop}
use Rattle.bl_machine_transitions.specs.Told.{rule_in}
use Rattle.bl_machine_transitions.specs.inner.Joined.{layout_in}
use Rattle.bl_machine_transitions.specs.inner.Parts.{Part, arm_part, branch_part, chain, each, part, part_of_block}
use Rattle.bl_machine_transitions.proofs.walk.+listing.Given as goal

abbrev pub invariant-in_block-loop-s : goal.invariant-in_block-loop-s
invariant-in_block-loop-s l =
    (l.left ≡ length (drop l.s-index l.body))
    × (map rule_in l.into ++ (part_of_block (map part (drop l.s-index l.body))).rules (layout_in l.t) l.node l.place l.next
    ≡ map rule_in l.initial.into ++ (part_of_block (map part l.body)).rules (layout_in l.t) l.k l.p l.next)

abbrev pub invariant-in_arms-loop-arm : goal.invariant-in_arms-loop-arm
invariant-in_arms-loop-arm l =
    (l.left ≡ length (drop l.arm-index l.arms))
    × ((other : Part) → l.bare ≡ other.empty →
    map rule_in l.into ++ (chain (map arm_part (drop l.arm-index l.arms)) other).rules (layout_in l.t) l.node l.place l.next
    ≡ map rule_in l.initial.into ++ (chain (map arm_part l.arms) other).rules (layout_in l.t) l.k l.p l.next)

abbrev pub invariant-in_branches-loop-branch : goal.invariant-in_branches-loop-branch
invariant-in_branches-loop-branch l =
    map rule_in l.into ++ each (layout_in l.t) l.node l.place (map branch_part (drop l.branch-index l.branches))
    ≡ map rule_in l.initial.into ++ each (layout_in l.t) l.k l.p (map branch_part l.branches)
