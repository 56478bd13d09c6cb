use Rattle.std.proofs.Common.{◌≡◌, drop, map, max}
use Rattle.bl_tree.specs.Reduce.{joined}
use Rattle.bl_ctext_semantics.specs.Calls.{calls_in_arg, calls_in_step, most}
use Rattle.bl_ctext_semantics.specs.inner.Maps.{text_at}
use Rattle.bl_ctext_semantics.proofs.check.calls.+calling.Given as goal

abbrev pub invariant-most_in_steps-loop-step : goal.invariant-most_in_steps-loop-step
invariant-most_in_steps-loop-step l =
    max l.greatest (most (text_at l.numbers) (joined (map calls_in_step (drop l.step-index l.steps))))
    ≡ most (text_at l.numbers) (joined (map calls_in_step l.steps))

abbrev pub invariant-most_in_args-loop-arg : goal.invariant-most_in_args-loop-arg
invariant-most_in_args-loop-arg l =
    max l.greatest (most (text_at l.numbers) (joined (map calls_in_arg (drop l.arg-index l.args))))
    ≡ most (text_at l.numbers) (joined (map calls_in_arg l.args))
