use Rattle.std.proofs.Common.{◌≡◌, map}
use Rattle.bl_machine.specs.Blocks.{up_to}
use Rattle.bl_emit_spec.specs.Activities.{counter_member}
use Rattle.bl_emit.proofs.frames.counters.Given as goal

abbrev pub invariant-loop-k : goal.invariant-loop-k
invariant-loop-k l = l.made ≡ map (counter_member l.sizes) (up_to l.k)
