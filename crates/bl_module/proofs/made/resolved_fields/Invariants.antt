use Rattle.std.proofs.Common.{◌≡◌, ◌++◌, drop, map}
use Rattle.bl_module.specs.Behind.{resolved_field}
use Rattle.bl_module.proofs.made.resolved_fields.Given as goal

abbrev pub invariant-loop-field : goal.invariant-loop-field
invariant-loop-field l = l.made ++ map (resolved_field l.names) (drop l.field-index l.fields) ≡ map (resolved_field l.names) l.fields
