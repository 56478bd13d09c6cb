use Rattle.std.proofs.Common.{◌≡◌, ◌++◌, drop}
use Rattle.bl_emit_blocks.specs.Numbered.{numbered_changes}
use Rattle.bl_emit_blocks.specs.Views.{view_in}
use Rattle.bl_emit_blocks.proofs.changes.changes.Given as goal

abbrev pub invariant-loop-each : goal.invariant-loop-each
invariant-loop-each l =
    l.code ++ numbered_changes (view_in l.view) (drop l.each-index l.changes) ≡ numbered_changes (view_in l.view) l.changes
