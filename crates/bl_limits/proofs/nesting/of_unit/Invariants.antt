use Rattle.std.proofs.Common.{◌≡◌, drop}
use Rattle.bl_tree.specs.Rules.{first_of}
use Rattle.bl_limits.specs.inner.Failures.{unit_variable_failures}
use Rattle.bl_limits.proofs.nesting.of_unit.Given as goal

abbrev pub invariant-loop-var : goal.invariant-loop-var
invariant-loop-var l =
    first_of l.first (unit_variable_failures l.structs (drop l.var-index l.vars)) ≡ first_of l.initial.first (unit_variable_failures l.structs l.vars)
