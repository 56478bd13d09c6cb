use Rattle.std.proofs.Common.{◌≡◌, ◌+◌, ◌++◌, map, drop}
use Rattle.bl_machine_transitions.specs.inner.Joined.{layout_in}
use Rattle.bl_machine_transitions.specs.inner.Parts.{Part, arm_part, chain, part, part_of_block}
use Rattle.bl_machine_transitions.proofs.rests.+resting.Given as goal

abbrev pub invariant-in_block-loop-s : goal.invariant-in_block-loop-s
invariant-in_block-loop-s l =
    (l.at + (part_of_block (map part (drop l.s-index l.body))).size.places ≡ l.p + (part_of_block (map part l.body)).size.places)
    × (l.into ++ (part_of_block (map part (drop l.s-index l.body))).rests (layout_in l.t) l.at
    ≡ l.initial.into ++ (part_of_block (map part l.body)).rests (layout_in l.t) l.p)

abbrev pub invariant-in_arms-loop-arm : goal.invariant-in_arms-loop-arm
invariant-in_arms-loop-arm l = (other : Part) →
    (l.at + (chain (map arm_part (drop l.arm-index l.arms)) other).size.places ≡ l.p + (chain (map arm_part l.arms) other).size.places)
    × (l.into ++ (chain (map arm_part (drop l.arm-index l.arms)) other).rests (layout_in l.t) l.at
    ≡ l.initial.into ++ (chain (map arm_part l.arms) other).rests (layout_in l.t) l.p)
