use Rattle.std.proofs.Common.{◌≡◌, map, take}
use Rattle.bl_machine_transitions.specs.declared.transition.Change.TheVariants.{ClearBoth}
use Rattle.bl_machine_transitions.proofs.changes.forgotten.Given as goal

abbrev pub invariant-loop-k : goal.invariant-loop-k
invariant-loop-k l = l.all ≡ map ClearBoth (take l.k-index l.each)
