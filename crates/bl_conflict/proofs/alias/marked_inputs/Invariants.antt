use Rattle.std.proofs.Common.{◌≡◌, ◌++◌, drop}
use Rattle.bl_effects.specs.Rules.{marked_inputs}
use Rattle.bl_conflict.proofs.alias.marked_inputs.Given as goal

abbrev pub invariant-loop-e : goal.invariant-loop-e
invariant-loop-e l = l.marked ++ marked_inputs (drop l.e-index l.inputs) ≡ marked_inputs l.inputs
