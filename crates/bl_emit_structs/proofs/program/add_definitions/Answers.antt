use Rattle.bl_tree.proofs.Basics.{drop_next}
use Rattle.bl_emit_structs.specs.Structs.{structs_for_definition}
use Rattle.bl_emit_structs.proofs.Steps.{after-next}
use Rattle.bl_emit_structs.proofs.program.add_definitions.Goals as goal

pub loop-def-preserved : goal.loop-def-preserved
loop-def-preserved c =
    rw c.in_ok-add_definition.ensures
    (after-next (structs_for_definition c.args.structs.now) _ _ c.def-item.result c.loop-def.collected _
    (drop_next c.args.structs.now c.loop-def.def-index c.def-item.result c.loop-def-test.true c.def-item.is) c.loop-def.invariant)
