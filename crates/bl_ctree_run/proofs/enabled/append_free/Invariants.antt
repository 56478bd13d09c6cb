use Rattle.std.proofs.Common.{◌≡◌, ◌++◌, map, filter}
use Rattle.bl_ctree_enabled.specs.Spots.{spot_of}
use Rattle.bl_ctree_run.specs.inner.Writers.{is_free}
use Rattle.bl_ctree_run.proofs.enabled.append_free.Given as goal

abbrev pub invariant-loop-point : goal.invariant-loop-point
invariant-loop-point l = map spot_of l.into ≡ map spot_of l.initial.into ++ filter (is_free l.writers l.k) (map spot_of l.yielded)
