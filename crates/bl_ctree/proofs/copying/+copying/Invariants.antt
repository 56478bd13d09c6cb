use Rattle.std.proofs.Common.{◌≡◌, ◌++◌, map, drop}
use Rattle.bl_ctree.specs.Nodes.{seen_of}
use Rattle.bl_ctree.proofs.copying.+copying.Given as goal

abbrev pub invariant-branches-loop-branch : goal.invariant-branches-loop-branch
invariant-branches-loop-branch l = map seen_of l.made ++ map seen_of (drop l.branch-index l.all) ≡ map seen_of l.all
