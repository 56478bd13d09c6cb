use Rattle.std.proofs.Common.{◌≡◌, ◌++◌, map, drop}
use Rattle.bl_machine_transitions.specs.inner.Joined.{layout_in}
use Rattle.bl_machine_transitions.specs.inner.Parts.{branch_part, ends}
use Rattle.bl_machine_transitions.proofs.joins.ends.Given as goal

abbrev pub invariant-loop-branch : goal.invariant-loop-branch
invariant-loop-branch l =
    l.slots ++ ends l.strong (layout_in l.t) l.at (map branch_part (drop l.branch-index l.branches))
    ≡ ends l.strong (layout_in l.t) l.p (map branch_part l.branches)
