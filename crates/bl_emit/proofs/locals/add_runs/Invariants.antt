use Rattle.std.proofs.Common.{◌≡◌, ◌++◌, drop, map}
use Rattle.bl_tree.specs.Reduce.{joined}
use Rattle.bl_emit.specs.Activities.{run_locals_told}
use Rattle.bl_emit.specs.Kept.{run_in}
use Rattle.bl_emit.proofs.locals.add_runs.Given as goal

abbrev pub invariant-loop-run : goal.invariant-loop-run
invariant-loop-run l = l.locals ++ joined (map (run_locals_told l.earlier) (map run_in (drop l.run-index l.runs))) ≡ l.initial.locals
    ++ joined (map (run_locals_told l.earlier) (map run_in l.runs))
