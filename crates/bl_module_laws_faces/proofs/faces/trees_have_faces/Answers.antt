use Rattle.bl_module_laws_faces.proofs.Whole.{trees_have_faces}
use Rattle.bl_module_laws_faces.proofs.faces.trees_have_faces.Goals as goal

pub returns : goal.returns
returns c = trees_have_faces
