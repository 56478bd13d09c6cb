use Rattle.std.proofs.Common.{◌≡◌, ◌++◌, drop, map}
use Rattle.bl_emit_spec.specs.Programs.{output_arg}
use Rattle.bl_emit.proofs.ticks.add_outputs.Given as goal

abbrev pub invariant-loop-var : goal.invariant-loop-var
invariant-loop-var l = l.args ++ map output_arg (drop l.var-index l.vars) ≡ l.initial.args ++ map output_arg l.vars
