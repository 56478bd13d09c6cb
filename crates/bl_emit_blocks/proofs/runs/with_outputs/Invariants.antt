use Rattle.std.proofs.Common.{◌≡◌, ◌++◌, map, drop}
use Rattle.bl_emit_acts.specs.Acts.{output_arg}
use Rattle.bl_emit_acts.specs.Sites.{site_in}
use Rattle.bl_emit_blocks.proofs.runs.with_outputs.Given as goal

abbrev pub invariant-loop-path : goal.invariant-loop-path
invariant-loop-path l =
    l.all ++ map (output_arg (site_in l.site)) (drop l.path-index l.outputs) ≡ l.initial.all ++ map (output_arg (site_in l.site)) l.outputs
