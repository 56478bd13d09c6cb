use Rattle.std.proofs.Common.{◌≡◌, drop, max}
use Rattle.bl_module.specs.Behind.{fields_depth}
use Rattle.bl_module.proofs.types.fields_depth.Given as goal

abbrev pub invariant-loop-field : goal.invariant-loop-field
invariant-loop-field l = max l.deepest (fields_depth l.names (drop l.field-index l.fields)) ≡ fields_depth l.names l.fields
