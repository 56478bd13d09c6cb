use Rattle.std.proofs.Common.{◌≡◌, map, take}
use Rattle.bl_tree.specs.Reduce.{greatest}
use Rattle.bl_limits_measures.specs.Saturated.{saturated}
use Rattle.bl_limits_measures.specs.Types.{nesting_by}
use Rattle.bl_limits_measures.proofs.types.fields_nesting.Given as goal

abbrev pub invariant-loop-field : goal.invariant-loop-field
invariant-loop-field l = l.most ≡ saturated (greatest (map (λ field. nesting_by l.known field.ty) (take l.field-index l.field-items)))
