use Rattle.std.proofs.Common.{◌≡◌, ◌++◌, map, drop}
use Rattle.bl_emit_acts.specs.Acts.{output_arg}
use Rattle.bl_emit_acts.specs.Sites.{site_in}
use Rattle.bl_emit_acts.proofs.acts.all_arguments.Given as goal

abbrev pub invariant-loop-path : goal.invariant-loop-path
invariant-loop-path l =
    l.args ++ map (output_arg (site_in l.site)) (drop l.path-index l.outputs) ≡ l.initial.args ++ map (output_arg (site_in l.site)) l.outputs
