use Rattle.std.proofs.Common.{◌≡◌, ◌≤◌, ◌++◌, drop, reverse, length}
use Rattle.bl_parse_syntax.proofs.stack.push_all.Given as goal

abbrev pub invariant-loop-left : goal.invariant-loop-left
invariant-loop-left l = record {
  pushed : reverse l.symbols.items ≡ drop l.left l.production ++ reverse l.initial.symbols.items;
  inside : l.left ≤ length l.production;
}

abbrev pub decreases-loop-left : goal.decreases-loop-left
decreases-loop-left l = l.left
