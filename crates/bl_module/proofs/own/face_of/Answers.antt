use Rattle.std.proofs.Common.{subst, sym}
use Rattle.bl_face.specs.Keeps.{Keeps}
use Rattle.bl_module.proofs.Keeping.{face_keeps}
use Rattle.bl_module.proofs.own.face_of.Goals as goal

pub invariant_of-result : goal.invariant_of-result
invariant_of-result c = record {
  keeps = subst Keeps (sym c.in_ok-items.ensures) (face_keeps c.args.known.now c.args.next c.args.items.now c.requires);
}
