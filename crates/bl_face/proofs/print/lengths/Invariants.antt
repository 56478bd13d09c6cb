use Rattle.std.proofs.Common.{◌≡◌, ◌++◌, drop}
use Rattle.bl_face.specs.Text.{lengths_text}
use Rattle.bl_face.proofs.print.lengths.Given as goal

abbrev pub invariant-loop-one : goal.invariant-loop-one
invariant-loop-one l = l.out.items ++ lengths_text (drop l.one-index l.lengths) ≡ l.initial.out.items ++ lengths_text l.lengths
