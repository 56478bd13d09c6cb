use Rattle.std.proofs.Common.{◌≡◌, take}
use Rattle.bl_cause.specs.Fails.{places_of}
use Rattle.bl_cause.proofs.first.places_of.Given as goal

abbrev pub invariant-loop-edge : goal.invariant-loop-edge
invariant-loop-edge l = l.places ≡ places_of l.nodes (take l.edge-index l.walk)
