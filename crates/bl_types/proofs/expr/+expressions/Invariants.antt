use Rattle.std.proofs.Common.{◌≡◌, ◌++◌, drop, map}
use Rattle.bl_types.specs.Expressions.{all_failures, all_made, fitted, judged, step_of, stepped}
use Rattle.bl_types.specs.Failures.{noted}
use Rattle.bl_types.proofs.expr.+expressions.Given as goal

abbrev pub invariant-arguments-loop-e : goal.invariant-arguments-loop-e
invariant-arguments-loop-e l =
    (l.made ++ all_made (fitted (map (judged l.env) (drop l.e-index l.all)) l.params) ≡ all_made (fitted (map (judged l.env) l.all) l.initial.params))
    × (noted l.notes (all_failures (fitted (map (judged l.env) (drop l.e-index l.all)) l.params))
    ≡ noted l.initial.notes (all_failures (fitted (map (judged l.env) l.all) l.initial.params)))

abbrev pub invariant-steps-loop-part : goal.invariant-steps-loop-part
invariant-steps-loop-part l =
    ((stepped (map (step_of l.env) (drop l.part-index l.all)) l.ty).ty ≡ (stepped (map (step_of l.env) l.all) l.initial.ty).ty)
    × ((l.parts ++ (stepped (map (step_of l.env) (drop l.part-index l.all)) l.ty).parts ≡ (stepped (map (step_of l.env) l.all) l.initial.ty).parts)
    × (noted l.notes (stepped (map (step_of l.env) (drop l.part-index l.all)) l.ty).failures
    ≡ noted l.initial.notes (stepped (map (step_of l.env) l.all) l.initial.ty).failures))
