use Rattle.std.proofs.Common.{◌≡◌, drop, map}
use Rattle.bl_tree.specs.Reduce.{joined}
use Rattle.bl_emit_structs.specs.Structs.{structs_for_definition}
use Rattle.bl_emit_structs.specs.inner.Added.{all_added}
use Rattle.bl_emit_structs.proofs.program.add_definitions.Given as goal

abbrev pub invariant-loop-def : goal.invariant-loop-def
invariant-loop-def l =
    all_added l.collected (joined (map (structs_for_definition l.structs) (drop l.def-index l.structs)))
    ≡ all_added l.initial.collected (joined (map (structs_for_definition l.structs) l.structs))
