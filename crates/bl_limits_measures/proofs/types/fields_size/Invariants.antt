use Rattle.std.proofs.Common.{◌≡◌, map, take}
use Rattle.bl_tree.specs.Reduce.{total}
use Rattle.bl_limits_measures.specs.Saturated.{saturated}
use Rattle.bl_limits_measures.specs.Types.{size_by}
use Rattle.bl_limits_measures.proofs.types.fields_size.Given as goal

abbrev pub invariant-loop-field : goal.invariant-loop-field
invariant-loop-field l = l.size ≡ saturated (total (map (λ field. size_by l.known field.ty) (take l.field-index l.field-items)))
