-- The face of a text: the items of its tree, with the types, values and lengths that are known at its end.
use Rattle.std.specs.Prelude.{◌≡◌, ℕ, ℤ, ◌+◌, List, [], ◌∷◌, ◌++◌, length, slice_get, Option, Some, None}
use Rattle.bl_tree.specs.declared.scalar.Scalar.{Scalar as ScalarType}
use Rattle.bl_tree.specs.declared.tree.Field.{Field}
use Rattle.bl_tree.specs.declared.tree.StructDef.{StructDef}
use Rattle.bl_tree.specs.declared.tree.Ty.{Ty, fold-Ty}
use Rattle.bl_tree.specs.declared.tree.Ty.TheOpen.{Ty-F}
use Rattle.bl_tree.specs.declared.tree.Unit.{Unit as UnitDef}
use Rattle.bl_tree.specs.declared.tree.Var.{Var}
use Rattle.bl_face.specs.declared.face.Face.{Face}
use Rattle.bl_face.specs.declared.item.FaceBase.{FaceBase}
use Rattle.bl_face.specs.declared.item.FaceBase.TheVariants as base
use Rattle.bl_face.specs.declared.item.FaceField.{FaceField}
use Rattle.bl_face.specs.declared.item.FaceItem.{FaceItem}
use Rattle.bl_face.specs.declared.item.FaceItem.TheVariants as item
use Rattle.bl_face.specs.declared.item.FaceType.{FaceType}
use Rattle.bl_parse_tree.specs.declared.item.RawField.{RawField}
use Rattle.bl_parse_tree.specs.declared.item.RawItem.{RawItem}
use Rattle.bl_parse_tree.specs.declared.item.RawItem.TheVariants.{Struct, Constant, Unit as UnitItem}
use Rattle.bl_parse_tree.specs.declared.item.RawParam.{RawParam}
use Rattle.bl_parse_tree.specs.declared.item.RawStruct.{RawStruct}
use Rattle.bl_parse_tree.specs.declared.item.RawUnit.{RawUnit}
use Rattle.bl_parse_tree.specs.declared.name.Name.{Name}
use Rattle.bl_parse_tree.specs.declared.raw.Raw.{Raw}
use Rattle.bl_parse_tree.specs.declared.types.RawType.{RawType, fold-RawType}
use Rattle.bl_parse_tree.specs.declared.types.RawType.TheOpen.{RawType-F}
use Rattle.bl_rules.specs.Rules.{Parses}
use Rattle.bl_types.specs.declared.environment.Constant.{Constant as KnownConstant}
use Rattle.bl_types.specs.declared.environment.Known.{Known}
use Rattle.bl_module.specs.declared.behind.Behind.{Behind}
use Rattle.bl_module.specs.declared.own.Next.{Next}
use Rattle.bl_module.specs.Rules.{known_in}

-- ---- types: the struct's name as it is written, the lengths as they are known

-- the scalar type or the name of the struct in one layer of a written type, from that of its element
abbrev pub base_level : RawType-F FaceBase → FaceBase
base_level (RawType-F.Scalar of) = base.Scalar of
base_level (RawType-F.Struct name) = base.Struct name.text
base_level (RawType-F.Array n element) = element

-- the scalar type or the name of the struct in a written type
abbrev pub base_of : RawType → FaceBase
base_of = fold-RawType FaceBase base_level

-- the lengths in one layer of a type, from those of its element
abbrev pub lengths_level : Ty-F (List ℕ) → List ℕ
lengths_level (Ty-F.Scalar of) = []
lengths_level (Ty-F.Struct k) = []
lengths_level (Ty-F.Array n element) = n ∷ element

-- the lengths of the arrays in arrays of a type, the outermost first
abbrev pub lengths_of : Ty → List ℕ
lengths_of = fold-Ty (List ℕ) lengths_level

-- the lengths of a type, if it is known
abbrev pub lengths_known : Option Ty → List ℕ
lengths_known (Some ty) = lengths_of ty
lengths_known None = []

-- the type of a field or parameter that is written so, where its type is known
abbrev pub face_type : RawType → Option Ty → FaceType
face_type written ty = record { lengths = lengths_known ty; base = base_of written }

-- ---- fields and parameters

-- the type of a field, if there is one
abbrev pub field_type : Option Field → Option Ty
field_type (Some field) = Some field.ty
field_type None = None

-- fields as they are written, where the first of them has the position among those that are known
abbrev pub fields_known_from : ℕ → List Field → List RawField → List FaceField
fields_known_from k known [] = []
fields_known_from k known (field ∷ fields) =
    record { name = field.name.text; ty = face_type field.ty (field_type (slice_get known k)) } ∷ fields_known_from (k + 1) known fields

-- the type of a variable, if there is one
abbrev pub var_type : Option Var → Option Ty
var_type (Some var) = Some var.ty
var_type None = None

-- parameters as they are written, where the first of them has the position among the variables of the unit
abbrev pub params_known_from : ℕ → List Var → List RawParam → List FaceField
params_known_from k vars [] = []
params_known_from k vars (param ∷ params) =
    record { name = param.name.text; ty = face_type param.ty (var_type (slice_get vars k)) } ∷ params_known_from (k + 1) vars params

-- ---- items

-- the fields of a struct, if there is one
abbrev pub known_fields : Option StructDef → List Field
known_fields (Some def) = def.fields
known_fields None = []

-- a struct of the text
abbrev pub struct_item : RawStruct → Option StructDef → FaceItem
struct_item written def = item.Struct written.name.text (fields_known_from 0 (known_fields def) written.fields)

-- a constant of this type; where no rule fails, each has one
abbrev pub typed_constant : List ℕ → Option ScalarType → ℤ → List FaceItem
typed_constant name (Some of) value = item.Constant name of value ∷ []
typed_constant name None value = []

-- a constant of the text
abbrev pub constant_item : Name → Option KnownConstant → List FaceItem
constant_item name (Some constant) = typed_constant name.text constant.ty constant.value
constant_item name None = []

-- the variables of a unit, if there is one
abbrev pub known_vars : Option UnitDef → List Var
known_vars (Some unit) = unit.vars
known_vars None = []

-- the result of a unit, if there is one
abbrev pub known_result : Option UnitDef → Option ScalarType
known_result (Some unit) = unit.result
known_result None = None

-- a unit of the text: its head
abbrev pub unit_item : RawUnit → Option UnitDef → FaceItem
unit_item written unit = item.Head written.kind written.name.text (params_known_from 0 (known_vars unit) written.inputs)
    (params_known_from (length written.inputs) (known_vars unit) written.outputs) (known_result unit)

-- what the face has of an item, where these positions are those of the next struct, constant and unit that are known
abbrev pub item_of : Known → Next → RawItem → List FaceItem
item_of known next (Struct def) = struct_item def (slice_get known.structs next.structs) ∷ []
item_of known next (Constant constant) = constant_item constant.name (slice_get known.globals next.constants)
item_of known next (UnitItem unit) = unit_item unit (slice_get known.units next.units) ∷ []

-- the next positions behind an item
abbrev pub next_after : Next → RawItem → Next
next_after next (Struct def) = record next { structs = next.structs + 1 }
next_after next (Constant constant) = record next { constants = next.constants + 1 }
next_after next (UnitItem unit) = record next { units = next.units + 1 }

-- what the face has of items, one after another
abbrev pub items_from : Known → Next → List RawItem → List FaceItem
items_from known next [] = []
items_from known next (one ∷ rest) = item_of known next one ++ items_from known (next_after next one) rest

-- the positions of what comes behind a start
abbrev pub next_behind : Behind → Next
next_behind behind = record { structs = length behind.structs; constants = length behind.constants; units = length behind.units }

-- the items of the face of a tree behind a start: each struct, each constant that stands in no unit, and the head of each unit, in order
abbrev pub face_items : Behind → Raw → List FaceItem
face_items behind raw = items_from (known_in behind raw) (next_behind behind) raw.items

-- the face is that of a text behind a start
pub record IsFaceOf (behind : Behind) (text : List ℕ) (face : Face) : Type 0 where
  pub raw : Raw
  pub parses : Parses text raw
  pub is : face.items ≡ face_items behind raw
