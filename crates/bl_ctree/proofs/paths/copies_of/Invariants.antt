use Rattle.std.proofs.Common.{◌≡◌, ◌++◌, drop}
use Rattle.bl_ctree.proofs.paths.copies_of.Given as goal

abbrev pub invariant-loop-path : goal.invariant-loop-path
invariant-loop-path l = l.made ++ drop l.path-index l.paths ≡ l.paths
