use Rattle.std.proofs.Common.{◌≡◌, drop}
use Rattle.bl_emit_spec.specs.Blocks.{last_value}
use Rattle.bl_emit_blocks.proofs.counters.last_value.Given as goal

abbrev pub invariant-loop-slot : goal.invariant-loop-slot
invariant-loop-slot l = last_value l.last (drop l.slot-index l.slots) ≡ last_value l.fn.v l.slots
