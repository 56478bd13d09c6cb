use Rattle.std.proofs.Common.{◌≡◌, ◌||◌, drop, map}
use Rattle.bl_tree.specs.declared.text.Text.{Text}
use Rattle.bl_tree.specs.Reduce.{any_of}
use Rattle.bl_tree.specs.Words.{is_among}
use Rattle.bl_emit_functions.specs.Reads.{reads_in_arg, reads_in_step}
use Rattle.bl_emit_functions.proofs.reads.+reading.Given as goal

abbrev pub invariant-in_steps-loop-step : goal.invariant-in_steps-loop-step
invariant-in_steps-loop-step l = (name : Text) → is_among name l.into || any_of (map (reads_in_step name) (drop l.step-index l.steps))
    ≡ is_among name l.initial.into || any_of (map (reads_in_step name) l.steps)

abbrev pub invariant-in_args-loop-arg : goal.invariant-in_args-loop-arg
invariant-in_args-loop-arg l = (name : Text) → is_among name l.into || any_of (map (reads_in_arg name) (drop l.arg-index l.args))
    ≡ is_among name l.initial.into || any_of (map (reads_in_arg name) l.args)
