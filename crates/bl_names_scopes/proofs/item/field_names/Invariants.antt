use Rattle.std.proofs.Common.{◌≡◌, drop, map}
use Rattle.bl_names_scopes.specs.inner.Judged.{judged_by}
use Rattle.bl_names_scopes.specs.Marks.{field_mark}
use Rattle.bl_names_scopes.proofs.item.field_names.Given as goal

abbrev pub invariant-loop-field : goal.invariant-loop-field
invariant-loop-field l = judged_by l.judge (map field_mark (drop l.field-index l.all)) ≡ judged_by l.initial.judge (map field_mark l.all)
