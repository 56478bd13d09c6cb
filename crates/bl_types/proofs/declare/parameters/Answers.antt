use Rattle.std.proofs.Common.{◌∙◌, ◌+◌, ap, drop, sym}
use Rattle.bl_tree.proofs.Basics.{drop_next}
use Rattle.bl_types.specs.Declarations.{after_parameter, after_parameters}
use Rattle.bl_types.specs.inner.States.{after}
use Rattle.bl_types.proofs.StateLemmas.{state_next}
use Rattle.bl_types.proofs.declare.parameters.Goals as goal

pub loop-var-preserved : goal.loop-var-preserved
loop-var-preserved c =
    let var = c.var-item.result in
    let step = drop_next c.args.vars.now c.loop-var.var-index var c.loop-var-test.true c.var-item.is in
    state_next (after_parameter var) (after_parameters (drop (c.loop-var.var-index + 1) c.args.vars.now)) c.loop-var.state
    c.parameter.new.state _ c.in_ok-parameter.ensures
    (sym (ap (λ l. after c.loop-var.state (after_parameters l)) step) ∙ c.loop-var.invariant)
