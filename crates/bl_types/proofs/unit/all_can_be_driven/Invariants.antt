use Rattle.std.proofs.Common.{◌≡◌, drop}
use Rattle.std.specs.List.{list_all}
use Rattle.bl_types.specs.Units.{can_be_driven}
use Rattle.bl_types.proofs.unit.all_can_be_driven.Given as goal

abbrev pub invariant-loop-var : goal.invariant-loop-var
invariant-loop-var l = list_all can_be_driven (drop l.var-index l.vars) ≡ list_all can_be_driven l.vars
