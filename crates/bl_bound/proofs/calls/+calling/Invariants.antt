use Rattle.std.proofs.Common.{◌≡◌, ◌+◌, drop, map}
use Rattle.bl_tree.specs.Reduce.{joined}
use Rattle.bl_ctext_semantics.specs.Calls.{calls_in_arg, calls_in_step}
use Rattle.bl_ctext_semantics.specs.Cost.{cost_of_calls}
use Rattle.bl_bound.specs.inner.Capped.{amount, capped, costs_in}
use Rattle.bl_bound.proofs.calls.+calling.Given as goal

abbrev pub invariant-in_steps-loop-step : goal.invariant-in_steps-loop-step
invariant-in_steps-loop-step l =
    capped (amount l.cost + cost_of_calls (costs_in l.known) (joined (map calls_in_step (drop l.step-index l.steps))))
    ≡ capped (cost_of_calls (costs_in l.known) (joined (map calls_in_step l.steps)))

abbrev pub invariant-in_args-loop-arg : goal.invariant-in_args-loop-arg
invariant-in_args-loop-arg l =
    capped (amount l.cost + cost_of_calls (costs_in l.known) (joined (map calls_in_arg (drop l.arg-index l.args))))
    ≡ capped (cost_of_calls (costs_in l.known) (joined (map calls_in_arg l.args)))
