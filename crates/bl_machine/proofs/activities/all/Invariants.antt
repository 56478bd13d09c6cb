use Rattle.std.proofs.Common.{take}
use Rattle.bl_cause.specs.Activities.{EachTwo, activities}
use Rattle.bl_machine.specs.Machines.{IsActivityOf, IsPlainActivityOf}
use Rattle.bl_machine.proofs.activities.all.Given as goal

abbrev pub invariant-loop-at : goal.invariant-loop-at
invariant-loop-at l = record {
  agrees : EachTwo IsActivityOf (activities (take l.at l.program.units)) l.made;
  plain : EachTwo IsPlainActivityOf (activities (take l.at l.program.units)) l.made;
}
