use Rattle.std.proofs.Common.{◌≡◌}
use Rattle.bl_limits_measures.specs.Runs.{one_a_place}
use Rattle.bl_limits_measures.specs.inner.Seen.{SeesRuns}
use Rattle.bl_limits_measures.proofs.runs.one_a_place.Given as goal

abbrev pub invariant-loop-run : goal.invariant-loop-run
invariant-loop-run l = record {
  kept : l.kept ≡ one_a_place l.yielded;
  seen : SeesRuns l.seen l.kept;
}
