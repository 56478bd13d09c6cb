use Rattle.std.proofs.Common.{◌≡◌, ◌++◌, drop}
use Rattle.bl_face.specs.Text.{params_from, params_text}
use Rattle.bl_face.proofs.print.params.Given as goal

abbrev pub invariant-loop-one : goal.invariant-loop-one
invariant-loop-one l = l.out.items ++ params_from l.first (drop l.one-index l.params) ≡ l.fn.out.items ++ params_text l.params
