use Rattle.std.proofs.Common.{◌≡◌, ◌++◌, drop}
use Rattle.bl_module.specs.Faces.{items_of}
use Rattle.bl_module.proofs.compiled.copies.Given as goal

abbrev pub invariant-loop-face : goal.invariant-loop-face
invariant-loop-face l = items_of l.made ++ items_of (drop l.face-index l.faces) ≡ items_of l.faces
