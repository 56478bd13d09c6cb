use Rattle.std.proofs.Common.{◌≡◌, [], drop}
use Rattle.bl_machine.specs.Slots.{counters_at}
use Rattle.bl_emit_tables.specs.Sizes.{all_counted}
use Rattle.bl_emit_tables.proofs.sizes.counts_of.Given as goal

abbrev pub invariant-loop-slot : goal.invariant-loop-slot
invariant-loop-slot l = all_counted (counters_at (drop l.slot-index l.slots)) l.counts ≡ all_counted (counters_at l.slots) []
