use Rattle.std.proofs.Common.{◌≡◌, ◌++◌, drop, map}
use Rattle.bl_machine_transitions.specs.Told.{rule_in}
use Rattle.bl_emit_blocks.specs.Merging.{own_at}
use Rattle.bl_emit_blocks.specs.Views.{view_in}
use Rattle.bl_emit_blocks.proofs.merging.all_own.Given as goal

abbrev pub invariant-loop-k : goal.invariant-loop-k
invariant-loop-k l =
    l.code ++ own_at (view_in l.view) (map rule_in l.rules) (drop l.k-index l.block) ≡ own_at (view_in l.view) (map rule_in l.rules) l.block
