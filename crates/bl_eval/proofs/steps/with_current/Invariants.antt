use Rattle.std.proofs.Common.{◌≡◌, ◌++◌, drop}
use Rattle.std.specs.Prelude.{option_map}
use Rattle.bl_eval.specs.Changes.{current_of}
use Rattle.bl_eval.proofs.steps.with_current.Given as goal

abbrev pub invariant-loop-target : goal.invariant-loop-target
invariant-loop-target l =
    option_map (λ current. l.values ++ current) (current_of (drop l.target-index l.targets) l.now)
    ≡ option_map (λ current. l.fn.inputs ++ current) (current_of l.targets l.now)
