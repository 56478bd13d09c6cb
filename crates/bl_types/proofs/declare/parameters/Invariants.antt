use Rattle.std.proofs.Common.{◌≡◌, drop}
use Rattle.bl_types.specs.Declarations.{after_parameters}
use Rattle.bl_types.specs.inner.States.{after}
use Rattle.bl_types.proofs.declare.parameters.Given as goal

abbrev pub invariant-loop-var : goal.invariant-loop-var
invariant-loop-var l = after l.state (after_parameters (drop l.var-index l.vars)) ≡ after l.initial.state (after_parameters l.vars)
