use Rattle.std.proofs.Common.{◌≡◌, drop}
use Rattle.bl_tree.specs.Rules.{first_of}
use Rattle.bl_limits.specs.inner.Failures.{variable_failures}
use Rattle.bl_limits.proofs.nesting.of_variables.Given as goal

abbrev pub invariant-loop-unit : goal.invariant-loop-unit
invariant-loop-unit l =
    first_of l.first (variable_failures l.structs (drop l.unit-index l.units)) ≡ first_of l.initial.first (variable_failures l.structs l.units)
