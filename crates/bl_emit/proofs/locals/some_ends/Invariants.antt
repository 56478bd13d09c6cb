use Rattle.std.proofs.Common.{◌≡◌, drop, map}
use Rattle.bl_emit_spec.specs.Activities.{some_ends}
use Rattle.bl_emit.specs.Kept.{run_in}
use Rattle.bl_emit.proofs.locals.some_ends.Given as goal

abbrev pub invariant-loop-run : goal.invariant-loop-run
invariant-loop-run l = some_ends l.earlier (map run_in (drop l.run-index l.runs)) ≡ some_ends l.earlier (map run_in l.runs)
