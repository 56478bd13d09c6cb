-- All files are good and linked, or fail together.
use Rattle.std.proofs.Common.{◌≡◌, List, length, subst, sym}
use Rattle.bl_link.proofs.Adding.{files_of, files_stop}
use Rattle.bl_link.specs.Files.{AreFilesOf, JoinedStops, SeenFiles}
use Rattle.bl_link.specs.Linked.{AreLinked, LinkStops}
use Rattle.bl_module.specs.Parts.{SeenPart}
use Rattle.bl_link.proofs.files.FirstFiles.link.Goals as goal

pub returns-in-Ok-clause-accepted : goal.returns-in-Ok-clause-accepted
returns-in-Ok-clause-accepted c =
    subst (λ (seen : SeenFiles). AreFilesOf seen.texts c.in-Ok.accepted.program) c.self.view_is
    (files_of c.self.inside.count c.self.inside.parts c.self.inside.faces c.self.invariant
    (subst (λ (seen : SeenFiles). length seen.texts ≡ seen.count) (sym c.self.view_is) c.requires.all) c.in-Ok.accepted.program
    (subst (λ (them : List SeenPart). AreLinked them c.in-Ok.accepted.program) c.deref.ensures c.in-Ok.ensures.accepted))

pub returns-in-Err-clause-fault : goal.returns-in-Err-clause-fault
returns-in-Err-clause-fault c =
    subst (λ (seen : SeenFiles). JoinedStops seen.texts c.in-Err.fault) c.self.view_is
    (files_stop c.self.inside.count c.self.inside.parts c.self.inside.faces c.self.invariant
    (subst (λ (seen : SeenFiles). length seen.texts ≡ seen.count) (sym c.self.view_is) c.requires.all) c.in-Err.fault
    (subst (λ (them : List SeenPart). LinkStops them c.in-Err.fault) c.deref.ensures c.in-Err.ensures.fault))
