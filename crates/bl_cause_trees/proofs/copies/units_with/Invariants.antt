use Rattle.std.proofs.Common.{◌≡◌, ◌+◌, ◌≤◌, length}
use Rattle.bl_cause_trees.specs.inner.Judging.{with_bodies}
use Rattle.bl_cause_trees.proofs.copies.units_with.Given as goal

abbrev pub invariant-loop-body : goal.invariant-loop-body
invariant-loop-body l = record {
  made : l.copies ≡ with_bodies l.units l.yielded;
  many : length l.copies ≡ length l.yielded;
  left : length l.copies + length l.body-iterator.rest.items ≤ length l.units;
}
