use Rattle.std.proofs.Common.{◌≡◌, map}
use Rattle.bl_emit_spec.specs.Activities.{one_a_place}
use Rattle.bl_emit.specs.Kept.{run_in}
use Rattle.bl_emit.specs.inner.Seen.{SeesRuns}
use Rattle.bl_emit.proofs.runs.one_a_place.Given as goal

abbrev pub invariant-loop-run : goal.invariant-loop-run
invariant-loop-run l = record {
  kept : map run_in l.kept ≡ one_a_place (map run_in l.yielded);
  seen : SeesRuns l.seen l.kept;
}
