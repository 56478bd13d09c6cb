use Rattle.std.proofs.Common.{◌≡◌, ◌++◌, map, drop}
use Rattle.bl_emit_spec.specs.Blocks.{at_slot}
use Rattle.bl_emit_blocks.specs.Views.{view_in}
use Rattle.bl_emit_blocks.proofs.tests.at_slots.Given as goal

abbrev pub invariant-loop-slot : goal.invariant-loop-slot
invariant-loop-slot l = l.tests ++ map (at_slot (view_in l.view)) (drop l.slot-index l.slots) ≡ map (at_slot (view_in l.view)) l.slots
