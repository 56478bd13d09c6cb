-- The text of a face: a line for each item.
use Rattle.std.specs.Prelude.{ℕ, ℤ, pos, if◌then◌else◌, Bool, true, false, List, [], ◌∷◌, ◌++◌, map, codes, Option, Some, None}
use Rattle.std.specs.Fmt.{decimal, signed_decimal}
use Rattle.std.specs.Ordering.{int_eq}
use Rattle.bl_tree.specs.Reduce.{joined}
use Rattle.bl_tree.specs.declared.scalar.Scalar.{Scalar as ScalarType}
use Rattle.bl_tree.specs.declared.scalar.Scalar.TheVariants.{Bool as OfBool, Int, Nat, Bits}
use Rattle.bl_tree.specs.declared.scalar.Width.TheVariants.{W8, W16, W32, W64}
use Rattle.bl_tree.specs.declared.tree.UnitKind.{UnitKind}
use Rattle.bl_tree.specs.declared.tree.UnitKind.TheVariants.{Function, Activity}
use Rattle.bl_face.specs.declared.face.Face.{Face}
use Rattle.bl_face.specs.declared.item.FaceBase.{FaceBase}
use Rattle.bl_face.specs.declared.item.FaceBase.TheVariants as base
use Rattle.bl_face.specs.declared.item.FaceField.{FaceField}
use Rattle.bl_face.specs.declared.item.FaceItem.{FaceItem}
use Rattle.bl_face.specs.declared.item.FaceItem.TheVariants.{Struct, Constant, Head}

-- ---- types and parameters

-- the keyword of a scalar type
abbrev pub scalar_word : ScalarType → List ℕ
scalar_word OfBool = codes "bool"
scalar_word (Int W8) = codes "int8"
scalar_word (Int W16) = codes "int16"
scalar_word (Int W32) = codes "int32"
scalar_word (Int W64) = codes "int64"
scalar_word (Nat W8) = codes "nat8"
scalar_word (Nat W16) = codes "nat16"
scalar_word (Nat W32) = codes "nat32"
scalar_word (Nat W64) = codes "nat64"
scalar_word (Bits W8) = codes "bits8"
scalar_word (Bits W16) = codes "bits16"
scalar_word (Bits W32) = codes "bits32"
scalar_word (Bits W64) = codes "bits64"

-- a scalar type's keyword or a struct's name
abbrev pub base_text : FaceBase → List ℕ
base_text (base.Scalar of) = scalar_word of
base_text (base.Struct name) = name

-- the length of an array in brackets
unfoldable pub length_text : ℕ → List ℕ
length_text n = codes "[" ++ (decimal n ++ codes "]")

-- the lengths of arrays in arrays, the outermost first
abbrev pub lengths_text : List ℕ → List ℕ
lengths_text lengths = joined (map length_text lengths)

-- a name, a colon and a type
unfoldable pub field_text : FaceField → List ℕ
field_text field = field.name ++ (codes ": " ++ (lengths_text field.ty.lengths ++ base_text field.ty.base))

-- a comma and a space before each parameter but the first
abbrev pub comma_before : Bool → List ℕ
comma_before true = []
comma_before false = codes ", "

-- parameters that are the first, or that follow others
abbrev pub params_from : Bool → List FaceField → List ℕ
params_from first [] = []
params_from first (param ∷ params) = comma_before first ++ (field_text param ++ params_from false params)

-- parameters with a comma and a space between each two
abbrev pub params_text : List FaceField → List ℕ
params_text params = params_from true params

-- ---- items

-- each field behind `var`
abbrev pub fields_text : List FaceField → List ℕ
fields_text fields = joined (map (λ field. codes " var " ++ field_text field) fields)

-- the line of a struct
unfoldable pub struct_text : List ℕ → List FaceField → List ℕ
struct_text name fields = codes "struct " ++ (name ++ (fields_text fields ++ codes " end\n"))

-- the value of a bool constant: `false` for 0, `true` for 1, and else its number
abbrev pub truth_text : ℤ → List ℕ
truth_text value = if int_eq value (pos 0) then codes "false" else (if int_eq value (pos 1) then codes "true" else signed_decimal value)

-- the value of a constant of the type
unfoldable pub value_text : ScalarType → ℤ → List ℕ
value_text OfBool value = truth_text value
value_text (Int w) value = signed_decimal value
value_text (Nat w) value = signed_decimal value
value_text (Bits w) value = signed_decimal value

-- a constant as far as its value
unfoldable pub constant_front : List ℕ → ScalarType → List ℕ
constant_front name of = codes "const " ++ (name ++ (codes ": " ++ (scalar_word of ++ codes " = ")))

-- the line of a constant
unfoldable pub constant_text : List ℕ → ScalarType → ℤ → List ℕ
constant_text name of value = constant_front name of ++ (value_text of value ++ codes "\n")

-- the keyword of a kind of unit and a space
abbrev pub kind_word : UnitKind → List ℕ
kind_word Function = codes "function "
kind_word Activity = codes "activity "

-- a unit as far as its inputs
unfoldable pub head_text : UnitKind → List ℕ → List FaceField → List ℕ
head_text kind name inputs = kind_word kind ++ (name ++ (codes " (" ++ (params_text inputs ++ codes ")")))

-- the scalar type of a result, if there is one, behind `returns`
abbrev pub result_text : Option ScalarType → List ℕ
result_text None = []
result_text (Some of) = codes " returns " ++ scalar_word of

-- what follows a unit's inputs on its line
unfoldable pub tail_text : List FaceField → Option ScalarType → List ℕ
tail_text outputs result = codes "(" ++ (params_text outputs ++ (codes ")" ++ (result_text result ++ codes "\n")))

-- the line of an item
abbrev pub item_text : FaceItem → List ℕ
item_text (Struct name fields) = struct_text name fields
item_text (Constant name of value) = constant_text name of value
item_text (Head kind name inputs outputs result) = head_text kind name inputs ++ tail_text outputs result

-- the lines of items, in order
abbrev pub items_text : List FaceItem → List ℕ
items_text items = joined (map item_text items)

-- the lines of a face, one for each item
abbrev pub face_text : Face → List ℕ
face_text face = items_text face.items
