use Rattle.std.proofs.Common.{◌≡◌, ◌++◌, map, drop}
use Rattle.std.specs.Prelude.{option_map}
use Rattle.bl_emit_acts.specs.Expressions.{arg_of, made_of, step_typing, steps_of}
use Rattle.bl_emit_acts.specs.Sites.{site_in}
use Rattle.bl_emit_acts.proofs.expressions.+expressions.Given as goal

abbrev pub invariant-arguments-loop-e : goal.invariant-arguments-loop-e
invariant-arguments-loop-e l =
    l.args ++ map arg_of (map (made_of (site_in l.site)) (drop l.e-index l.inputs)) ≡ map arg_of (map (made_of (site_in l.site)) l.inputs)

abbrev pub invariant-steps-loop-part : goal.invariant-steps-loop-part
invariant-steps-loop-part l =
    l.steps ++ steps_of (map (step_typing (site_in l.site)) (drop l.part-index l.parts)) (option_map (λ ty. ty.now) l.ty)
    ≡ steps_of (map (step_typing (site_in l.site)) l.parts) (option_map (λ ty. ty.now) l.first)
