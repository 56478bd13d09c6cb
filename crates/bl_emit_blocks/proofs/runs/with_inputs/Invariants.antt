use Rattle.std.proofs.Common.{◌≡◌, ◌++◌, map, drop}
use Rattle.bl_emit_acts.specs.Expressions.{arg_of, made_of}
use Rattle.bl_emit_acts.specs.Sites.{site_in}
use Rattle.bl_emit_blocks.proofs.runs.with_inputs.Given as goal

abbrev pub invariant-loop-e : goal.invariant-loop-e
invariant-loop-e l =
    l.all ++ map arg_of (map (made_of (site_in l.site)) (drop l.e-index l.inputs))
    ≡ l.initial.all ++ map arg_of (map (made_of (site_in l.site)) l.inputs)
