use Rattle.std.proofs.Common.{◌≡◌, ◌++◌, drop}
use Rattle.bl_block.proofs.machines.copied.Given as goal

abbrev pub invariant-loop-slot : goal.invariant-loop-slot
invariant-loop-slot l = l.copy ++ drop l.slot-index l.slots ≡ l.slots
