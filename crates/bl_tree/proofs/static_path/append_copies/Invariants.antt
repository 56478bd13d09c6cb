use Rattle.std.proofs.Common.{◌≡◌, ◌++◌, take}
use Rattle.bl_tree.proofs.static_path.append_copies.Given as goal

abbrev pub invariant-loop-path : goal.invariant-loop-path
invariant-loop-path l = l.into ≡ l.initial.into ++ take l.path-index l.paths
