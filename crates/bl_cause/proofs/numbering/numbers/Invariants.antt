use Rattle.std.proofs.Common.{◌≡◌, length}
use Rattle.bl_cause.specs.inner.Numbers.{NeverFall}
use Rattle.bl_cause.proofs.numbering.numbers.Given as goal

abbrev pub invariant-loop-number : goal.invariant-loop-number
invariant-loop-number l = record {
  one_each : length l.numbers ≡ l.count;
  fall : NeverFall l.edges l.numbers;
}
