use Rattle.bl_module_laws_faces.proofs.Whole.{face_declares, tree_declares}
use Rattle.bl_module_laws_faces.proofs.faces.faces_declare.Goals as goal

pub returns-clause-tree : goal.returns-clause-tree
returns-clause-tree c = tree_declares

pub returns-clause-text : goal.returns-clause-text
returns-clause-text c = face_declares c.tokens_are_one.ensures c.a_text_has_one_tree.ensures c.what_is_spelled_keeps.ensures.keeps
