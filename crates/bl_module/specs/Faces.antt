-- Faces behind which a text is judged, one after another.
use Rattle.std.specs.Prelude.{◌≡◌, ℕ, ◌-◌, ◌≤◌, true, false, List, map, length, take, ⊤}
use Rattle.bl_tree.specs.Reduce.{joined}
use Rattle.bl_face.specs.declared.face.Face.{Face}
use Rattle.bl_face.specs.declared.item.FaceItem.{FaceItem}
use Rattle.bl_module.specs.Behind.{before_items, behind_items, items_stand}
use Rattle.bl_module.specs.declared.behind.Behind.{Behind}
use Rattle.bl_module.specs.declared.fault.PartFault.{PartFault}
use Rattle.bl_module.specs.declared.fault.PartFault.TheVariants as fault

-- the items of faces, for each face
abbrev pub items_of : List Face → List (List FaceItem)
items_of faces = map (λ face. face.items) faces

-- the items of faces, in order
abbrev pub all_items : List Face → List FaceItem
all_items faces = joined (items_of faces)

-- what faces declare, one after another
abbrev pub behind_faces : List Face → Behind
behind_faces faces = behind_items (all_items faces)

-- no name is declared twice, each type stands where it is written, and each constant is a number of its type
abbrev pub FacesStand : List Face → Type 0
FacesStand faces = items_stand before_items (all_items faces) ≡ true

-- the face of this number, counted from 1, is the first that can't stand behind those before it
pub record IsBadFace (faces : List Face) (face : ℕ) : Type 0 where
  pub counted : 1 ≤ face
  pub is_there : face ≤ length faces
  pub stand : FacesStand (take (face - 1) faces)
  pub fails : items_stand before_items (all_items (take face faces)) ≡ false

-- the fault is a face that can't stand; want of memory has no cause in the faces
abbrev pub StopsAtFace : List Face → PartFault → Type 0
StopsAtFace faces (fault.BadFace face) = IsBadFace faces face
StopsAtFace faces (fault.Rule rule place also) = ⊥
StopsAtFace faces fault.NoMemory = ⊤
