use Rattle.std.proofs.Common.{◌≡◌, ◌++◌, map, drop}
use Rattle.bl_emit_acts.specs.Structs.{c_field}
use Rattle.bl_emit_acts.proofs.structs.members.Given as goal

abbrev pub invariant-loop-field : goal.invariant-loop-field
invariant-loop-field l =
    l.made ++ map (c_field l.structs) (drop l.field-index l.fields) ≡ map (c_field l.structs) l.fields
