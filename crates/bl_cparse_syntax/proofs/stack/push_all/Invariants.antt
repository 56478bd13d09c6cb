use Rattle.std.proofs.Common.{◌≡◌, ◌≤◌, ◌++◌, map, drop, reverse, length}
use Rattle.bl_cparse_syntax.specs.Grammar.{wanted_for}
use Rattle.bl_cparse_syntax.specs.inner.Rows.{shape_shown}
use Rattle.bl_cparse_syntax.specs.inner.Stacks.{shown}
use Rattle.bl_cparse_syntax.proofs.stack.push_all.Given as goal

abbrev pub invariant-loop-left : goal.invariant-loop-left
invariant-loop-left l = record {
  pushed : reverse (map shown l.wanted.items) ≡ map (wanted_for l.room l.turn) (map shape_shown (drop l.left l.shapes))
      ++ reverse (map shown l.initial.wanted.items);
  inside : l.left ≤ length l.shapes;
}

abbrev pub decreases-loop-left : goal.decreases-loop-left
decreases-loop-left l = l.left
