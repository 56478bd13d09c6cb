use Rattle.std.proofs.Common.{◌≡◌, drop, map}
use Rattle.bl_tree.specs.Reduce.{joined}
use Rattle.bl_names_scopes.specs.inner.Judged.{judged_by}
use Rattle.bl_names_scopes.specs.Marks.{field_type_marks}
use Rattle.bl_names_scopes.proofs.item.field_types.Given as goal

abbrev pub invariant-loop-field : goal.invariant-loop-field
invariant-loop-field l =
    judged_by l.judge (joined (map field_type_marks (drop l.field-index l.all))) ≡ judged_by l.initial.judge (joined (map field_type_marks l.all))
