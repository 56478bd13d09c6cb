use Rattle.std.proofs.Common.{◌≡◌, ◌+◌, ◌*◌, ◌++◌, map, drop}
use Rattle.bl_tree.specs.declared.tree.Ty.{size-Ty}
use Rattle.bl_eval.proofs.Weights.{structs_weight, fields_depth}
use Rattle.bl_eval.specs.Values.{zero_of}
use Rattle.bl_eval.proofs.zero.+zeros.Given as goal

abbrev pub decreases-zero_struct : goal.decreases-zero_struct
decreases-zero_struct l = 3 * structs_weight l.structs.now + 1

abbrev pub decreases-zero_fields : goal.decreases-zero_fields
decreases-zero_fields l = 3 * (structs_weight l.structs.now + fields_depth l.fields.now) + 3

abbrev pub decreases-zero_value : goal.decreases-zero_value
decreases-zero_value l = 3 * (structs_weight l.structs.now + size-Ty l.ty.now) + 2

abbrev pub invariant-zero_fields-loop-field : goal.invariant-zero_fields-loop-field
invariant-zero_fields-loop-field l = l.values ++ map (λ field. zero_of l.structs field.ty) (drop l.field-index l.fields)
    ≡ map (λ field. zero_of l.structs field.ty) l.fields
