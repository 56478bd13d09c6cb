use Rattle.std.proofs.Common.{◌≡◌, ◌++◌, drop}
use Rattle.bl_face.specs.Text.{items_text}
use Rattle.bl_face.proofs.print.items.Given as goal

abbrev pub invariant-loop-one : goal.invariant-loop-one
invariant-loop-one l = l.out.items ++ items_text (drop l.one-index l.items) ≡ l.initial.out.items ++ items_text l.items
