use Rattle.std.proofs.Common.{◌≡◌, ◌≤◌, ◌++◌}
use Rattle.bl_gen.specs.Text.{writing_branches}
use Rattle.bl_gen.proofs.append.append_branches.Given as goal

abbrev pub invariant-branches : goal.invariant-branches
invariant-branches l = record {
  within : l.left ≤ l.last;
  text : l.text.items ++ writing_branches l.left ≡ l.initial.text.items ++ writing_branches l.last;
}

abbrev pub decreases-branches : goal.decreases-branches
decreases-branches l = l.left
