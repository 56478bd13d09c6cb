-- What the faces of good files declare.
use Rattle.std.specs.Prelude.{◌≡◌, ℕ, ◌≤◌, Bool, List, length}
use Rattle.bl_face.specs.declared.face.Face.{Face}
use Rattle.bl_face.specs.Reading.{ReadsAs, most_bytes}
use Rattle.bl_face.specs.Text.{face_text}
use Rattle.bl_module.specs.declared.taken.Taken.{Taken}
use Rattle.bl_module.specs.Faces.{FacesStand, behind_faces}
use Rattle.bl_module.specs.Own.{face_items}
use Rattle.bl_module.specs.Parts.{IsGoodBehind}
use Rattle.bl_module.specs.Rules.{TreePasses}
use Rattle.bl_module_laws_faces.specs.Declared.{FaceAdds}
use Rattle.bl_parse_tree.specs.declared.raw.Raw.{Raw}
use Rattle.bl_parse_tree.specs.WellFormed.{RawIsWellFormed}
use Rattle.bl_rules.specs.Rules.{Parses}

-- the face of a tree that passes behind faces stands behind them, and declares what is known at the end of the tree
abbrev pub TreeDeclares : Type 0
TreeDeclares = (faces : List Face) (last : Bool) (raw : Raw) (face : Face) → FacesStand faces → RawIsWellFormed raw.items →
    TreePasses (behind_faces faces) last raw → face.items ≡ face_items (behind_faces faces) raw → FaceAdds faces face raw

-- the face of a text that is good behind faces stands behind them, and declares what is known at the end of the text's tree
abbrev pub FaceDeclares : Type 0
FaceDeclares = (faces : List Face) (taken : Taken) (text : List ℕ) (face : Face) (raw : Raw) → IsGoodBehind faces taken text face →
    Parses text raw → FaceAdds faces face raw

-- each well-formed tree has a face behind faces
abbrev pub TreesHaveFaces : Type 0
TreesHaveFaces = (faces : List Face) (raw : Raw) → RawIsWellFormed raw.items → (face : Face) × (face.items ≡ face_items (behind_faces faces) raw)

-- the face of a text that is good behind faces is read from what is printed of it, unless that is too long
abbrev pub GoodFacesAreRead : Type 0
GoodFacesAreRead = (faces : List Face) (taken : Taken) (text : List ℕ) (face : Face) → IsGoodBehind faces taken text face →
    length (face_text face) ≤ most_bytes → ReadsAs (face_text face) face
