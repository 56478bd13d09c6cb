use Rattle.std.proofs.Common.{◌≡◌, take}
use Rattle.bl_tree.proofs.static_path.copy_of.Given as goal

abbrev pub invariant-loop-k : goal.invariant-loop-k
invariant-loop-k l = l.fields ≡ take l.k-index l.k-items
