use Rattle.std.proofs.Common.{drop, map}
use Rattle.bl_tree.specs.Reduce.{all_of, greatest}
use Rattle.bl_ctext.specs.Spellable.{spells_arg, spells_step}
use Rattle.bl_ctext.specs.inner.Depths.{arg_depth, step_depth}
use Rattle.bl_ctext_spelled.proofs.Depths.{Towards}
use Rattle.bl_ctext_spelled.proofs.exprs.+spelling.Given as goal

abbrev pub invariant-of_args-loop-arg : goal.invariant-of_args-loop-arg
invariant-of_args-loop-arg l =
    Towards l.depth (all_of (map spells_arg (drop l.arg-index l.args))) (greatest (map arg_depth (drop l.arg-index l.args)))
    (all_of (map spells_arg l.args)) (greatest (map arg_depth l.args))

abbrev pub invariant-of_steps-loop-step : goal.invariant-of_steps-loop-step
invariant-of_steps-loop-step l =
    Towards l.depth (all_of (map spells_step (drop l.step-index l.steps))) (greatest (map step_depth (drop l.step-index l.steps)))
    (all_of (map spells_step l.steps)) (greatest (map step_depth l.steps))
