-- A part more is one of the first files.
use Rattle.std.proofs.Common.{◌∙◌, ◌+◌, List, [], ◌∷◌, ◌++◌, length, ap, subst, sym}
use Rattle.std.specs.Prelude.{nat_eq}
use Rattle.bl_face.specs.declared.face.Face.{Face}
use Rattle.bl_link.proofs.Adding.{next_file, next_stands, texts_length}
use Rattle.bl_link.specs.Files.{SeenFiles}
use Rattle.bl_link.specs.inner.Whole.{AreFirst}
use Rattle.bl_module.specs.Faces.{FacesStand, items_of}
use Rattle.bl_module.specs.Parts.{SeenPart}
use Rattle.bl_link.proofs.files.FirstFiles.with_part.Goals as goal

pub invariant_of-result : goal.invariant_of-result
invariant_of-result c =
    let back = sym c.self.view_is in
    let uses = c.requires.uses ∙ ap (λ (seen : SeenFiles). items_of seen.faces) back in
    let last = c.requires.last ∙ ap (λ (seen : SeenFiles). nat_eq (length seen.texts + 1) seen.count) back
    ∙ ap (λ n. nat_eq (n + 1) c.self.inside.count) (texts_length c.self.inside.parts) in
    let alike = c.in_ok-face.ensures ∙ ap (λ (face : Face). face.items) c.face.ensures in
    let stand : FacesStand (c.self.inside.faces ++ c.in_ok-face.face ∷ []) =
    next_stands c.faces_declare.ensures.text c.args.part c.self.inside.faces c.in_ok-face.face c.is_part.ensures uses alike in
    subst (λ (them : List SeenPart). AreFirst c.self.inside.count them c.push.new.self) (sym c.in_ok-push-2.ensures.ok)
    (subst (λ (them : List Face). AreFirst c.self.inside.count (c.self.inside.parts ++ c.args.part ∷ []) them) (sym c.in_ok-push.ensures.ok)
    (next_file c.self.inside.count c.self.inside.parts c.self.inside.faces c.self.invariant c.args.part c.in_ok-face.face c.is_part.ensures
    uses last alike stand))
