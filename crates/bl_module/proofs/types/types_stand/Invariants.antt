use Rattle.std.proofs.Common.{◌≡◌, drop}
use Rattle.bl_module.specs.Behind.{types_stand}
use Rattle.bl_module.proofs.types.types_stand.Given as goal

abbrev pub invariant-loop-field : goal.invariant-loop-field
invariant-loop-field l = types_stand l.names (drop l.field-index l.fields) ≡ types_stand l.names l.fields
