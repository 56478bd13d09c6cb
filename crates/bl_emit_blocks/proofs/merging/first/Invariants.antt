use Rattle.std.proofs.Common.{◌≡◌, drop, map}
use Rattle.bl_machine_transitions.specs.Told.{rule_in}
use Rattle.bl_emit_blocks.specs.Merging.{first_at}
use Rattle.bl_emit_blocks.proofs.merging.first.Given as goal

abbrev pub invariant-loop-k : goal.invariant-loop-k
invariant-loop-k l = first_at (map rule_in l.rules) (drop l.k-index l.block) ≡ first_at (map rule_in l.rules) l.block
