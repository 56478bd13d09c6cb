use Rattle.std.proofs.Common.{◌≡◌, ◌++◌, map, drop}
use Rattle.bl_machine_transitions.specs.inner.Joined.{layout_in}
use Rattle.bl_machine_transitions.specs.inner.Parts.{branch_part, entry_changes}
use Rattle.bl_machine_transitions.proofs.joins.begin.Given as goal

abbrev pub invariant-loop-branch : goal.invariant-loop-branch
invariant-loop-branch l =
    l.into ++ entry_changes (layout_in l.t) l.node l.place (map branch_part (drop l.branch-index l.branches))
    ≡ l.initial.into ++ entry_changes (layout_in l.t) l.k l.p (map branch_part l.branches)
