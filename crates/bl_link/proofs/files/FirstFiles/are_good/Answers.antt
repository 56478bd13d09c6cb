-- The first files are good.
use Rattle.std.proofs.Common.{subst}
use Rattle.bl_link.proofs.Adding.{first_good}
use Rattle.bl_link.specs.Files.{SeenFiles}
use Rattle.bl_module_laws.specs.Files.{AreGoodFiles}
use Rattle.bl_link.proofs.files.FirstFiles.are_good.Goals as goal

pub returns : goal.returns
returns c =
    subst (λ (seen : SeenFiles). AreGoodFiles seen.count seen.texts seen.faces) c.self.view_is
    (first_good c.self.inside.count c.self.inside.parts c.self.inside.faces c.self.invariant)
