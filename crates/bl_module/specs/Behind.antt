-- What the items of faces declare, as the rules see it before a text.
use Rattle.std.specs.Prelude.{ℤ, ℕ, ◌+◌, Bool, true, false, ◌&&◌, nat_le, List, [], ◌∷◌, ◌++◌, map, length, Option, Some, None}
use Rattle.std.specs.List.{list_all}
use Rattle.bl_tree.specs.declared.place.Place.{Place}
use Rattle.bl_tree.specs.declared.scalar.Scalar.{Scalar as ScalarType}
use Rattle.bl_tree.specs.declared.tree.Field.{Field}
use Rattle.bl_tree.specs.declared.tree.Role.{Role}
use Rattle.bl_tree.specs.declared.tree.Role.TheVariants.{Input, Output}
use Rattle.bl_tree.specs.declared.tree.StructDef.{StructDef}
use Rattle.bl_tree.specs.declared.tree.Ty.{Ty, roll-Ty}
use Rattle.bl_tree.specs.declared.tree.Ty.TheOpen.{Ty-F}
use Rattle.bl_tree.specs.declared.tree.Unit.{Unit as UnitDef}
use Rattle.bl_tree.specs.declared.tree.UnitKind.{UnitKind}
use Rattle.bl_tree.specs.declared.tree.UnitKind.TheVariants.{Function, Activity}
use Rattle.bl_tree.specs.declared.tree.Var.{Var}
use Rattle.bl_tree.specs.Reduce.{greatest}
use Rattle.bl_tree.specs.Scalar.{in_range}
use Rattle.bl_face.specs.declared.item.FaceBase.{FaceBase}
use Rattle.bl_face.specs.declared.item.FaceBase.TheVariants as base
use Rattle.bl_face.specs.declared.item.FaceField.{FaceField}
use Rattle.bl_face.specs.declared.item.FaceItem.{FaceItem}
use Rattle.bl_face.specs.declared.item.FaceItem.TheVariants.{Struct, Constant, Head}
use Rattle.bl_face.specs.declared.item.FaceType.{FaceType}
use Rattle.bl_names_scopes.specs.declared.heading.Heading.{Heading}
use Rattle.bl_names_scopes.specs.declared.kind.Kind.{Kind}
use Rattle.bl_names_scopes.specs.declared.kind.Kind.TheVariants as kind
use Rattle.bl_names_scopes.specs.Marks.{kind_of_unit}
use Rattle.bl_module.specs.declared.behind.Behind.{Behind}
use Rattle.bl_module.specs.declared.names.Referent.{Referent}
use Rattle.bl_module.specs.declared.names.Referent.TheVariants as referent
use Rattle.bl_module.specs.declared.walk.Walk.{Walk}
use Rattle.bl_module.specs.Names.{DeclaredNames, are_new, is_new, referent_of, with_fields, with_name}

-- ---- types

-- the position of the struct for which a name stands, and 0 where it stands for none
abbrev pub struct_position : Option Referent → ℕ
struct_position (Some (referent.Struct position depth)) = position
struct_position _ = 0

-- how deep the struct for which a name stands is nested, and 0 where it stands for none
abbrev pub depth_of : Option Referent → ℕ
depth_of (Some (referent.Struct position depth)) = depth
depth_of _ = 0

-- whether a name stands for a struct
abbrev pub is_struct : Option Referent → Bool
is_struct (Some (referent.Struct position depth)) = true
is_struct _ = false

-- a type without arrays, by the position of its struct
abbrev pub resolved_base : DeclaredNames → FaceBase → Ty
resolved_base names (base.Scalar of) = roll-Ty (Ty-F.Scalar of)
resolved_base names (base.Struct name) = roll-Ty (Ty-F.Struct (struct_position (referent_of names name)))

-- arrays in arrays of these lengths, the outermost first, with elements of the type
abbrev pub array_of : List ℕ → Ty → Ty
array_of [] element = element
array_of (n ∷ lengths) element = roll-Ty (Ty-F.Array n (array_of lengths element))

-- a type, by the position of its struct
abbrev pub resolved_type : DeclaredNames → FaceType → Ty
resolved_type names ty = array_of ty.lengths (resolved_base names ty.base)

-- how deep a type without arrays is nested: 0 for a scalar
abbrev pub base_depth : DeclaredNames → FaceBase → ℕ
base_depth names (base.Scalar of) = 0
base_depth names (base.Struct name) = depth_of (referent_of names name)

-- how deep a type is nested: one more for each array and struct
abbrev pub type_depth : DeclaredNames → FaceType → ℕ
type_depth names ty = length ty.lengths + base_depth names ty.base

-- how deep the deepest type of fields is nested
abbrev pub fields_depth : DeclaredNames → List FaceField → ℕ
fields_depth names fields = greatest (map (λ field. type_depth names field.ty) fields)

-- whether the struct of a type, if it has one, is declared
abbrev pub base_stands : DeclaredNames → FaceBase → Bool
base_stands names (base.Scalar of) = true
base_stands names (base.Struct name) = is_struct (referent_of names name)

-- whether a length is from 1 to 65,536
abbrev pub is_length : ℕ → Bool
is_length n = nat_le 1 n && nat_le n 65_536

-- whether the struct of a type is declared, its lengths are from 1 to 65,536, and it is nested at most 100 deep
abbrev pub type_stands : DeclaredNames → FaceType → Bool
type_stands names ty = (base_stands names ty.base && list_all is_length ty.lengths) && nat_le (type_depth names ty) 100

-- whether the types of fields or parameters stand
abbrev pub types_stand : DeclaredNames → List FaceField → Bool
types_stand names fields = list_all (λ field. type_stands names field.ty) fields

-- ---- what stands behind earlier items

-- whether a unit isn't a function with both outputs and a result
abbrev pub gives_once : UnitKind → List FaceField → Option ScalarType → Bool
gives_once Function (output ∷ outputs) (Some of) = false
gives_once _ _ _ = true

-- whether an item can stand where these names are declared before it
abbrev pub item_stands : DeclaredNames → FaceItem → Bool
item_stands names (Struct name fields) =
    (is_new names name && are_new [] fields) && (types_stand names fields && nat_le (1 + fields_depth names fields) 100)
item_stands names (Constant name of value) = is_new names name && in_range of value
item_stands names (Head kind name inputs outputs result) =
    (is_new names name && (are_new [] inputs && are_new (with_fields [] inputs) outputs))
    && ((types_stand names inputs && types_stand names outputs) && gives_once kind outputs result)

-- ---- what items declare

-- the place of what stands in no text: no token is there
abbrev pub outside_text : Place
outside_text = record { start = 0; end = 0 }

-- the declaration of a name in a face
abbrev pub heading_of : List ℕ → Kind → Heading
heading_of name kind = record { name = record { text = name; place = outside_text }; kind = kind }

-- a field of a struct
abbrev pub resolved_field : DeclaredNames → FaceField → Field
resolved_field names field = record { name = field.name; ty = resolved_type names field.ty }

-- a struct
abbrev pub resolved_struct : DeclaredNames → List ℕ → List FaceField → StructDef
resolved_struct names name fields = record { name = name; place = outside_text; fields = map (resolved_field names) fields }

-- a parameter of a unit
abbrev pub resolved_param : DeclaredNames → Role → FaceField → Var
resolved_param names role param = record { name = param.name; place = outside_text; ty = resolved_type names param.ty; role = role }

-- the head of a unit: its inputs and outputs and its result, without a body
abbrev pub resolved_head : DeclaredNames → UnitKind → List ℕ → List FaceField → List FaceField → Option ScalarType → UnitDef
resolved_head names kind name inputs outputs result = record {
  name = name;
  place = outside_text;
  kind = kind;
  vars = map (resolved_param names Input) inputs ++ map (resolved_param names Output) outputs;
  inputs = length inputs;
  outputs = length outputs;
  result = result;
  body = [];
}

-- what a walk knows before any item
abbrev pub before_items : Walk
before_items = record { names = []; behind = record { headings = []; structs = []; constants = []; units = [] } }

-- what is declared with a struct of this name more
abbrev pub with_struct : List ℕ → StructDef → Behind → Behind
with_struct name def behind = record behind {
  headings = behind.headings ++ (heading_of name kind.Struct ∷ []);
  structs = behind.structs ++ (def ∷ []);
}

-- what is declared with a constant more
abbrev pub with_constant : List ℕ → ScalarType → ℤ → Behind → Behind
with_constant name of value behind = record behind {
  headings = behind.headings ++ (heading_of name kind.Constant ∷ []);
  constants = behind.constants ++ (record { ty = Some of; value = value } ∷ []);
}

-- what is declared with the head of a unit of this name more
abbrev pub with_unit : List ℕ → UnitDef → Behind → Behind
with_unit name unit behind = record behind {
  headings = behind.headings ++ (heading_of name (kind_of_unit unit.kind) ∷ []);
  units = behind.units ++ (unit ∷ []);
}

-- what is known after an item
abbrev pub after_item : Walk → FaceItem → Walk
after_item walk (Struct name fields) = record {
  names = with_name walk.names name (referent.Struct (length walk.behind.structs) (1 + fields_depth walk.names fields));
  behind = with_struct name (resolved_struct walk.names name fields) walk.behind;
}
after_item walk (Constant name of value) = record {
  names = with_name walk.names name referent.Other;
  behind = with_constant name of value walk.behind;
}
after_item walk (Head kind name inputs outputs result) = record {
  names = with_name walk.names name referent.Other;
  behind = with_unit name (resolved_head walk.names kind name inputs outputs result) walk.behind;
}

-- what is known after items, one after another
abbrev pub after_items : Walk → List FaceItem → Walk
after_items walk [] = walk
after_items walk (item ∷ rest) = after_items (after_item walk item) rest

-- whether each item can stand behind those before it
abbrev pub items_stand : Walk → List FaceItem → Bool
items_stand walk [] = true
items_stand walk (item ∷ rest) = item_stands walk.names item && items_stand (after_item walk item) rest

-- what items declare
abbrev pub behind_items : List FaceItem → Behind
behind_items items = (after_items before_items items).behind
