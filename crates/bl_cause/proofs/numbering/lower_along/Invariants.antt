use Rattle.std.proofs.Common.{◌≡◌, length, drop}
use Rattle.bl_cause.specs.inner.Numbers.{lowered_along}
use Rattle.bl_cause.proofs.numbering.lower_along.Given as goal

abbrev pub invariant-loop-edge : goal.invariant-loop-edge
invariant-loop-edge l = record {
  length_stays : length l.numbers ≡ length l.fn.numbers;
  goes_on : lowered_along (drop l.edge-index l.row) (record { numbers = l.numbers; nodes = l.lowered.items }) ≡ lowered_along l.row
      (record { numbers = l.fn.numbers; nodes = l.fn.lowered.items });
}
