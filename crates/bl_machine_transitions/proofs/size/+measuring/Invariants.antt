use Rattle.std.proofs.Common.{◌≡◌, map, drop}
use Rattle.bl_machine_transitions.specs.inner.Joined.{join_fork, or_size, then_size}
use Rattle.bl_machine_transitions.specs.inner.Parts.{Part, arm_part, branch_part, chain, forked, part, part_of_block}
use Rattle.bl_machine_transitions.proofs.size.+measuring.Given as goal

abbrev pub invariant-of_block-loop-s : goal.invariant-of_block-loop-s
invariant-of_block-loop-s l = then_size l.all (part_of_block (map part (drop l.s-index l.body))).size ≡ (part_of_block (map part l.body)).size

abbrev pub invariant-of_arms-loop-arm : goal.invariant-of_arms-loop-arm
invariant-of_arms-loop-arm l =
    (other : Part) → or_size l.all (chain (map arm_part (drop l.arm-index l.arms)) other).size ≡ (chain (map arm_part l.arms) other).size

abbrev pub invariant-of_branches-loop-each : goal.invariant-of_branches-loop-each
invariant-of_branches-loop-each l = join_fork l.all (forked (map branch_part (drop l.each-index l.branches))) ≡ forked (map branch_part l.branches)
