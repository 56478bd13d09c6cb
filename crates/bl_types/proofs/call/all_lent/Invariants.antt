use Rattle.std.proofs.Common.{◌≡◌, ◌++◌, drop}
use Rattle.bl_types.specs.Failures.{noted}
use Rattle.bl_types.specs.Statements.{all_lent, paths_failures, paths_made}
use Rattle.bl_types.proofs.call.all_lent.Given as goal

abbrev pub invariant-loop-path : goal.invariant-loop-path
invariant-loop-path l =
    (l.made ++ paths_made (all_lent l.env (drop l.path-index l.all) l.params) ≡ paths_made (all_lent l.env l.all l.initial.params))
    × (noted l.notes (paths_failures (all_lent l.env (drop l.path-index l.all) l.params))
    ≡ noted l.initial.notes (paths_failures (all_lent l.env l.all l.initial.params)))
