use Rattle.std.proofs.Common.{◌≡◌}
use Rattle.bl_machine.specs.Blocks.{up_to}
use Rattle.bl_machine.proofs.order.up_to.Given as goal

abbrev pub invariant-loop-k : goal.invariant-loop-k
invariant-loop-k l = l.numbers ≡ up_to l.k
