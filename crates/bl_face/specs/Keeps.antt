-- What a face keeps.
use Rattle.std.specs.Prelude.{◌≡◌, Bool, true, false, ◌&&◌, List, [], ◌∷◌}
use Rattle.std.specs.List.{list_all}
use Rattle.bl_tree.specs.Words.{is_name}
use Rattle.bl_face.specs.declared.item.FaceBase.{FaceBase}
use Rattle.bl_face.specs.declared.item.FaceBase.TheVariants as base
use Rattle.bl_face.specs.declared.item.FaceField.{FaceField}
use Rattle.bl_face.specs.declared.item.FaceItem.{FaceItem}
use Rattle.bl_face.specs.declared.item.FaceItem.TheVariants.{Struct, Constant, Head}

-- whether the struct that a type names, if it names one, has a name for its name
abbrev pub base_is_named : FaceBase → Bool
base_is_named (base.Scalar of) = true
base_is_named (base.Struct name) = is_name name

-- whether a field's name and the struct of its type are named by names
abbrev pub field_is_named : FaceField → Bool
field_is_named field = is_name field.name && base_is_named field.ty.base

-- whether there is a field
abbrev pub has_field : List FaceField → Bool
has_field [] = false
has_field (field ∷ fields) = true

-- whether each name of an item is a name, and a struct has a field
abbrev pub item_keeps : FaceItem → Bool
item_keeps (Struct name fields) = is_name name && (has_field fields && list_all field_is_named fields)
item_keeps (Constant name of value) = is_name name
item_keeps (Head kind name inputs outputs result) = is_name name && (list_all field_is_named inputs && list_all field_is_named outputs)

-- each name in a face is a name, and each struct has a field
abbrev pub Keeps : List FaceItem → Type 0
Keeps items = list_all item_keeps items ≡ true
