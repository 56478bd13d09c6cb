use Rattle.std.proofs.Common.{◌≡◌, false, take, true}
use Rattle.std.specs.Prelude.{All}
use Rattle.bl_cause.proofs.numbers.are_control.Given as goal

abbrev pub invariant-loop-edge : goal.invariant-loop-edge
invariant-loop-edge l = l.yes ≡ true → All (λ edge. edge.by_data ≡ false) (take l.edge-index l.edges)
