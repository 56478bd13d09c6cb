use Rattle.std.proofs.Common.{◌≡◌, take}
use Rattle.bl_cause.specs.Walks.{controls}
use Rattle.bl_cause.proofs.edges.controls.Given as goal

abbrev pub invariant-loop-edge : goal.invariant-loop-edge
invariant-loop-edge l = l.kept ≡ controls (take l.edge-index l.edges)
