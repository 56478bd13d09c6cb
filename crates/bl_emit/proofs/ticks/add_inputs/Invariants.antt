use Rattle.std.proofs.Common.{◌≡◌, ◌++◌, drop, map}
use Rattle.bl_emit_spec.specs.Programs.{input_arg}
use Rattle.bl_emit.proofs.ticks.add_inputs.Given as goal

abbrev pub invariant-loop-var : goal.invariant-loop-var
invariant-loop-var l = l.args ++ map input_arg (drop l.var-index l.vars) ≡ l.initial.args ++ map input_arg l.vars
