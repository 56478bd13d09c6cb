use Rattle.std.proofs.Common.{◌≡◌, ◌++◌, drop}
use Rattle.bl_face.specs.Text.{fields_text}
use Rattle.bl_face.proofs.print.fields.Given as goal

abbrev pub invariant-loop-one : goal.invariant-loop-one
invariant-loop-one l = l.out.items ++ fields_text (drop l.one-index l.fields) ≡ l.initial.out.items ++ fields_text l.fields
