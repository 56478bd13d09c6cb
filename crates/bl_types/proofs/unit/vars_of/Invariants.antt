use Rattle.std.proofs.Common.{◌≡◌}
use Rattle.bl_types.specs.Units.{vars_of}
use Rattle.bl_types.proofs.unit.vars_of.Given as goal

abbrev pub invariant-loop-var : goal.invariant-loop-var
invariant-loop-var l = l.made ≡ vars_of l.yielded
