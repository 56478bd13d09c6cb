use Rattle.bl_module_laws_faces.proofs.Read.{good_is_read}
use Rattle.bl_module_laws_faces.proofs.faces.good_faces_are_read.Goals as goal

pub returns : goal.returns
returns c = good_is_read c.faces_declare.ensures.text c.a_printed_face_is_read.ensures
