-- The face of a tree keeps what faces keep: its names are those of the tree.
use Rattle.std.proofs.Common.{◌≡◌, ℕ, ◌+◌, ◌∙◌, true, ◌&&◌, List, [], ◌∷◌, ◌++◌, Option, Some, None, refl, subst}
use Rattle.std.specs.Prelude.{ℤ, slice_get}
use Rattle.std.specs.List.{list_all}
use Rattle.std.proofs.lemmas.Bool.{and_from}
use Rattle.bl_tree.proofs.Basics.{and_first, and_second}
use Rattle.bl_tree.specs.Words.{is_name}
use Rattle.bl_tree.specs.declared.scalar.Scalar.{Scalar as ScalarType}
use Rattle.bl_tree.specs.declared.tree.Field.{Field}
use Rattle.bl_tree.specs.declared.tree.StructDef.{StructDef}
use Rattle.bl_tree.specs.declared.tree.Unit.{Unit as UnitDef}
use Rattle.bl_tree.specs.declared.tree.Var.{Var}
use Rattle.bl_face.specs.Keeps.{Keeps, base_is_named, field_is_named, has_field, item_keeps}
use Rattle.bl_face.specs.declared.item.FaceItem.{FaceItem}
use Rattle.bl_parse_tree.specs.Names.{field_named, is_filled, item_stands, length_named, optional, param_named, struct_stands, stmt_stands, type_named}
use Rattle.bl_parse_tree.specs.Names.{unit_stands}
use Rattle.bl_parse_tree.specs.declared.item.RawField.{RawField}
use Rattle.bl_parse_tree.specs.declared.item.RawItem.{RawItem}
use Rattle.bl_parse_tree.specs.declared.item.RawItem.TheVariants.{Struct, Constant, Unit as UnitItem}
use Rattle.bl_parse_tree.specs.declared.item.RawParam.{RawParam}
use Rattle.bl_parse_tree.specs.declared.item.RawStruct.{RawStruct}
use Rattle.bl_parse_tree.specs.declared.item.RawUnit.{RawUnit}
use Rattle.bl_parse_tree.specs.declared.name.Name.{Name}
use Rattle.bl_parse_tree.specs.declared.types.RawType.{RawType, fold-roll-RawType, ind-RawType, roll-RawType}
use Rattle.bl_parse_tree.specs.declared.types.RawType.TheFolds.{map-RawType}
use Rattle.bl_parse_tree.specs.declared.types.RawType.TheOpen.{RawType-F}
use Rattle.bl_types.specs.declared.environment.Constant.{Constant as KnownConstant}
use Rattle.bl_types.specs.declared.environment.Known.{Known}
use Rattle.bl_module.specs.declared.own.Next.{Next}
use Rattle.bl_module.specs.Own.{base_of, constant_item, fields_known_from, item_of, items_from, known_fields, known_vars, next_after, params_known_from}
use Rattle.bl_module.specs.Own.{struct_item, typed_constant, unit_item}

-- ---- types

abbrev Named : RawType → Type 0
Named ty = type_named ty ≡ true → base_is_named (base_of ty) ≡ true

named_by : (level : RawType-F ((ty : RawType) × Named ty)) → Named (roll-RawType (map-RawType ((ty : RawType) × Named ty) RawType (λ e. e.0) level))
named_by (RawType-F.Scalar of) is = rw fold-roll-RawType refl
named_by (RawType-F.Struct name) is =
    let at : is_name name.text ≡ true = rw fold-roll-RawType at is in
    rw fold-roll-RawType at
named_by (RawType-F.Array n element) is =
    let at : (length_named n && type_named element.0) ≡ true = rw fold-roll-RawType at is in
    rw fold-roll-RawType (element.1 (and_second (length_named n) (type_named element.0) at))

base_named : (ty : RawType) → type_named ty ≡ true → base_is_named (base_of ty) ≡ true
base_named = ind-RawType Named (λ x y is. subst (λ level. Named (roll-RawType level)) is (named_by y))

-- ---- fields and parameters

fields_named : (k : ℕ) (known : List Field) (fields : List RawField) → list_all field_named fields ≡ true →
    list_all field_is_named (fields_known_from k known fields) ≡ true
fields_named k known [] is = refl
fields_named k known (field ∷ fields) is =
    let one : (is_name field.name.text && type_named field.ty) ≡ true = and_first (field_named field) (list_all field_named fields) is in
    and_from _ _
    (and_from _ _ (and_first (is_name field.name.text) (type_named field.ty) one)
    (base_named field.ty (and_second (is_name field.name.text) (type_named field.ty) one)))
    (fields_named (k + 1) known fields (and_second (field_named field) (list_all field_named fields) is))

fields_filled : (k : ℕ) (known : List Field) (fields : List RawField) → is_filled fields ≡ true → has_field (fields_known_from k known fields) ≡ true
fields_filled k known [] is = is
fields_filled k known (field ∷ fields) is = refl

params_named : (k : ℕ) (vars : List Var) (params : List RawParam) → list_all param_named params ≡ true →
    list_all field_is_named (params_known_from k vars params) ≡ true
params_named k vars [] is = refl
params_named k vars (param ∷ params) is =
    let one : (is_name param.name.text && type_named param.ty) ≡ true = and_first (param_named param) (list_all param_named params) is in
    and_from _ _
    (and_from _ _ (and_first (is_name param.name.text) (type_named param.ty) one)
    (base_named param.ty (and_second (is_name param.name.text) (type_named param.ty) one)))
    (params_named (k + 1) vars params (and_second (param_named param) (list_all param_named params) is))

-- ---- items

struct_keeps : (def : RawStruct) (known : Option StructDef) → struct_stands def ≡ true → item_keeps (struct_item def known) ≡ true
struct_keeps def known is =
    let rest : (is_filled def.fields && list_all field_named def.fields) ≡ true =
    and_second (is_name def.name.text) (is_filled def.fields && list_all field_named def.fields) is in
    and_from _ _ (and_first (is_name def.name.text) (is_filled def.fields && list_all field_named def.fields) is)
    (and_from _ _ (fields_filled 0 (known_fields known) def.fields (and_first (is_filled def.fields) (list_all field_named def.fields) rest))
    (fields_named 0 (known_fields known) def.fields (and_second (is_filled def.fields) (list_all field_named def.fields) rest)))

typed_keeps : (name : List ℕ) (of : Option ScalarType) (value : ℤ) → is_name name ≡ true → list_all item_keeps (typed_constant name of value) ≡ true
typed_keeps name (Some of) value is = and_from _ _ is refl
typed_keeps name None value is = refl

constant_keeps : (name : Name) (known : Option KnownConstant) → is_name name.text ≡ true → list_all item_keeps (constant_item name known) ≡ true
constant_keeps name (Some constant) is = typed_keeps name.text constant.ty constant.value is
constant_keeps name None is = refl

unit_keeps : (unit : RawUnit) (known : Option UnitDef) → unit_stands unit ≡ true → item_keeps (unit_item unit known) ≡ true
unit_keeps unit known is =
    let head = and_first (is_name unit.name.text && (list_all param_named unit.inputs && list_all param_named unit.outputs))
    (optional type_named unit.result && list_all stmt_stands unit.body) is in
    let lists = and_second (is_name unit.name.text) (list_all param_named unit.inputs && list_all param_named unit.outputs) head in
    and_from _ _ (and_first (is_name unit.name.text) (list_all param_named unit.inputs && list_all param_named unit.outputs) head)
    (and_from _ _ (params_named 0 (known_vars known) unit.inputs (and_first (list_all param_named unit.inputs) (list_all param_named unit.outputs) lists))
    (params_named _ (known_vars known) unit.outputs (and_second (list_all param_named unit.inputs) (list_all param_named unit.outputs) lists)))

one_keeps : (known : Known) (next : Next) (one : RawItem) → item_stands one ≡ true → list_all item_keeps (item_of known next one) ≡ true
one_keeps known next (Struct def) is = and_from _ _ (struct_keeps def (slice_get known.structs next.structs) is) refl
one_keeps known next (Constant constant) is = constant_keeps constant.name (slice_get known.globals next.constants) (and_first (is_name constant.name.text) _ is)
one_keeps known next (UnitItem unit) is = and_from _ _ (unit_keeps unit (slice_get known.units next.units) is) refl

all-append : (xs ys : List FaceItem) → list_all item_keeps xs ≡ true → list_all item_keeps ys ≡ true → list_all item_keeps (xs ++ ys) ≡ true
all-append [] ys one other = other
all-append (x ∷ xs) ys one other =
    and_from (item_keeps x) (list_all item_keeps (xs ++ ys)) (and_first (item_keeps x) (list_all item_keeps xs) one)
    (all-append xs ys (and_second (item_keeps x) (list_all item_keeps xs) one) other)

-- the items of a face that are made of those of a tree
pub face_keeps : (known : Known) (next : Next) (items : List RawItem) → list_all item_stands items ≡ true → Keeps (items_from known next items)
face_keeps known next [] is = refl
face_keeps known next (one ∷ rest) is =
    all-append (item_of known next one) (items_from known (next_after next one) rest)
    (one_keeps known next one (and_first (item_stands one) (list_all item_stands rest) is))
    (face_keeps known (next_after next one) rest (and_second (item_stands one) (list_all item_stands rest) is))
