use Rattle.std.proofs.Common.{◌≡◌, take}
use Rattle.bl_face.proofs.copy.fields_of.Given as goal

abbrev pub invariant-loop-field : goal.invariant-loop-field
invariant-loop-field l = l.copy ≡ take l.field-index l.fields
