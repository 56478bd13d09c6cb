use Rattle.std.proofs.Common.{◌≡◌, ◌++◌, drop}
use Rattle.bl_module.specs.Rules.{here}
use Rattle.bl_module.proofs.tree.here.Given as goal

abbrev pub invariant-loop-place : goal.invariant-loop-place
invariant-loop-place l = l.kept ++ here (drop l.place-index l.places) ≡ here l.places
