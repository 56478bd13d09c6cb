use Rattle.std.proofs.Common.{◌<◌, take}
use Rattle.std.specs.Prelude.{All, slice_index}
use Rattle.bl_cause.proofs.rising.rises.Given as goal

abbrev pub invariant-loop-edge : goal.invariant-loop-edge
invariant-loop-edge l = All (λ edge. slice_index l.lows edge.from < slice_index l.highs edge.to) (take l.edge-index l.edges)
