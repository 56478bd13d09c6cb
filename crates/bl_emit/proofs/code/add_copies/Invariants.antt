use Rattle.std.proofs.Common.{◌≡◌, ◌++◌, drop, map}
use Rattle.bl_emit_acts.specs.Acts.{c_copied}
use Rattle.bl_emit_blocks.specs.Views.{view_in}
use Rattle.bl_emit.proofs.code.add_copies.Given as goal

abbrev pub invariant-loop-k : goal.invariant-loop-k
invariant-loop-k l = l.code ++ map (c_copied (view_in l.view).site) (drop l.k-index l.copied) ≡ l.initial.code
    ++ map (c_copied (view_in l.view).site) l.copied
