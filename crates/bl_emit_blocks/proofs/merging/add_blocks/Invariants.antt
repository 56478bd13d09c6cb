use Rattle.std.proofs.Common.{◌≡◌, ◌++◌, None, drop, map}
use Rattle.bl_machine_transitions.specs.Told.{rule_in}
use Rattle.bl_emit_blocks.specs.Merging.{all_at}
use Rattle.bl_emit_blocks.specs.Views.{view_in}
use Rattle.bl_emit_blocks.proofs.merging.add_blocks.Given as goal

abbrev pub invariant-loop-k : goal.invariant-loop-k
invariant-loop-k l =
    l.code ++ all_at (view_in l.view) l.before (map rule_in l.rules) (drop l.k l.blocks)
    ≡ l.initial.code ++ all_at (view_in l.view) None (map rule_in l.rules) l.blocks
