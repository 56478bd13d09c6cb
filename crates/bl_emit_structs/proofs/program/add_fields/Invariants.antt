use Rattle.std.proofs.Common.{◌≡◌, drop, map}
use Rattle.bl_tree.specs.Reduce.{joined}
use Rattle.bl_emit_structs.specs.Structs.{arrays_of}
use Rattle.bl_emit_structs.specs.inner.Added.{all_added}
use Rattle.bl_emit_structs.proofs.program.add_fields.Given as goal

abbrev pub invariant-loop-field : goal.invariant-loop-field
invariant-loop-field l =
    all_added l.collected (joined (map (λ field. arrays_of l.structs field.ty) (drop l.field-index l.fields)))
    ≡ all_added l.initial.collected (joined (map (λ field. arrays_of l.structs field.ty) l.fields))
