-- What a file's face declares, and what is known at the end of the file's text.
use Rattle.std.specs.Prelude.{◌≡◌, List, [], ◌∷◌, ◌++◌, map}
use Rattle.bl_face.specs.declared.face.Face.{Face}
use Rattle.bl_module.specs.Behind.{heading_of}
use Rattle.bl_module.specs.Faces.{FacesStand, behind_faces}
use Rattle.bl_module.specs.Rules.{known_in}
use Rattle.bl_names_scopes.specs.declared.heading.Heading.{Heading}
use Rattle.bl_names_scopes.specs.declared.kind.Kind.TheVariants as kind
use Rattle.bl_names_scopes.specs.Marks.{kind_of_unit}
use Rattle.bl_parse_tree.specs.declared.item.RawItem.{RawItem}
use Rattle.bl_parse_tree.specs.declared.item.RawItem.TheVariants.{Struct, Constant, Unit as UnitItem}
use Rattle.bl_parse_tree.specs.declared.raw.Raw.{Raw}
use Rattle.bl_types_laws_places.specs.Agree.{SameHeads, SameStructs}

-- the declaration of an item's name as faces make it, which has no place in a text
abbrev pub face_heading : RawItem → Heading
face_heading (Struct def) = heading_of def.name.text kind.Struct
face_heading (Constant constant) = heading_of constant.name.text kind.Constant
face_heading (UnitItem unit) = heading_of unit.name.text (kind_of_unit unit.kind)

-- the faces stand with this one behind them. Together they declare what is known at the end of the tree
pub record FaceAdds (faces : List Face) (face : Face) (raw : Raw) : Type 0 where
  pub stand : FacesStand (faces ++ face ∷ [])
  -- the names of the tree's items, in order, behind those of the faces
  pub headings : (behind_faces (faces ++ face ∷ [])).headings ≡ (behind_faces faces).headings ++ map face_heading raw.items
  pub structs : SameStructs (behind_faces (faces ++ face ∷ [])).structs (known_in (behind_faces faces) raw).structs
  -- the constants outside of bodies
  pub constants : (behind_faces (faces ++ face ∷ [])).constants ≡ (known_in (behind_faces faces) raw).globals
  pub units : SameHeads (behind_faces (faces ++ face ∷ [])).units (known_in (behind_faces faces) raw).units
