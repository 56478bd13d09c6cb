use Rattle.bl_emit_spec_laws_wellformed_bodies.proofs.OnStructs.Stand.{sound}
use Rattle.bl_emit_spec_laws_wellformed_bodies.proofs.structs.parts_stand.Goals as goal

pub returns : goal.returns
returns c program =
    sound c.trees_stay_placed.ensures.nodes program.structs program.units program.entry (c.types_declared.ensures program)
    (c.memories_hold.ensures program) c.frame_differs.ensures c.memory_differs.ensures (c.machines_spell.ensures program) (c.machines_differ.ensures program)
    (c.needed_small.ensures program) (c.needed_numbered.ensures program) (c.needed_closed.ensures program)
