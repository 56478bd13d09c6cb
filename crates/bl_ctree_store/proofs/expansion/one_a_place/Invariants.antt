use Rattle.std.proofs.Common.{◌≡◌}
use Rattle.bl_ctree.specs.Instances.{one_a_place}
use Rattle.bl_ctree_store.specs.inner.Expansion.{Sees}
use Rattle.bl_ctree_store.proofs.expansion.one_a_place.Given as goal

abbrev pub invariant-loop-run : goal.invariant-loop-run
invariant-loop-run l = record {
  kept : l.kept ≡ one_a_place l.yielded;
  seen : Sees l.seen l.kept;
}
