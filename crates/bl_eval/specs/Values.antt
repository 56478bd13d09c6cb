-- Values of types: which a type has, which of them is zero, and the parts of a value.
use Rattle.std.specs.Prelude.{ℕ, ℤ, pos, negsuc, Bool, true, false, ◌&&◌, nat_eq, nat_lt, ◌^◌, List, [], ◌∷◌, ◌++◌, map, length, replicate, slice_get}
use Rattle.std.specs.Prelude.{slice_set, slice_index_or, Option, Some, None, option_map, option_and_then, if◌then◌else◌}
use Rattle.std.specs.List.{list_all}
use Rattle.bl_tree.specs.declared.scalar.Scalar.{Scalar as ScalarType}
use Rattle.bl_tree.specs.declared.tree.StructDef.{StructDef}
use Rattle.bl_tree.specs.declared.tree.Ty.{Ty, fold-Ty}
use Rattle.bl_tree.specs.declared.tree.Ty.TheOpen.{Ty-F}
use Rattle.bl_tree.specs.declared.tree.Var.{Var}
use Rattle.bl_tree.specs.declared.value.Value.{Value, out-Value}
use Rattle.bl_tree.specs.declared.value.Value.TheOpen.{Value-F}
use Rattle.bl_tree.specs.declared.value.Value.TheVariants.{Number, Parts}
use Rattle.bl_tree.specs.Scalar.{in_range}

-- ---- one level of a value

-- the number at the outermost level; none where there are parts
abbrev pub number_at : {A : Type 0} → Value-F A → Option ℤ
number_at (Value-F.Number n) = Some n
number_at (Value-F.Parts all) = None

-- the parts at the outermost level; none where there is a number
abbrev pub parts_at : {A : Type 0} → Value-F A → Option (List A)
parts_at (Value-F.Number n) = None
parts_at (Value-F.Parts all) = Some all

-- the number that a value is
abbrev pub number_in : Value → Option ℤ
number_in value = number_at (out-Value value)

-- the fields or elements of a value, in order
abbrev pub parts_in : Value → Option (List Value)
parts_in value = parts_at (out-Value value)

-- ---- zero

-- the zero of a type, from that of its elements and those of the structs
abbrev pub zero_level : List Value → Ty-F Value → Value
zero_level structs (Ty-F.Scalar s) = Number (pos 0)
zero_level structs (Ty-F.Struct k) = slice_index_or structs k (Parts [])
zero_level structs (Ty-F.Array n element) = Parts (replicate n element)

-- the zero of a type, where those of the structs are given
abbrev pub zero_by : List Value → Ty → Value
zero_by structs = fold-Ty Value (zero_level structs)

-- the zero of a struct: that of each field, by those of the structs before it
abbrev pub struct_zero : List Value → StructDef → Value
struct_zero structs def = Parts (map (λ field. zero_by structs field.ty) def.fields)

-- the zeros of the structs, each by those before it
abbrev pub zeros_after : List Value → List StructDef → List Value
zeros_after zeros [] = zeros
zeros_after zeros (def ∷ rest) = zeros_after (zeros ++ struct_zero zeros def ∷ []) rest

-- the value of the type that has 0 or false everywhere
abbrev pub zero_of : List StructDef → Ty → Value
zero_of structs = zero_by (zeros_after [] structs)

-- ---- the values of a type

-- whether a level is a number in the range of the scalar type
abbrev pub is_number_of : ScalarType → Value-F Value → Bool
is_number_of s (Value-F.Number n) = in_range s n
is_number_of s (Value-F.Parts all) = false

-- whether the values pass the tests, one for one
abbrev pub pass : List (Value → Bool) → List Value → Bool
pass [] [] = true
pass (test ∷ tests) (value ∷ values) = test value && pass tests values
pass _ _ = false

-- whether a level is n parts that all pass the test
abbrev pub are_elements : ℕ → (Value → Bool) → Value-F Value → Bool
are_elements n test (Value-F.Number m) = false
are_elements n test (Value-F.Parts all) = nat_eq (length all) n && list_all test all

-- whether a level is parts that pass the tests of the fields, one for one
abbrev pub are_fields : List (Value → Bool) → Value-F Value → Bool
are_fields tests (Value-F.Number n) = false
are_fields tests (Value-F.Parts all) = pass tests all

-- whether the value passes the test; nothing passes where there is none
abbrev pub by_test : Option (Value → Bool) → Value → Bool
by_test (Some test) value = test value
by_test None value = false

-- whether a value is one of a type, from the test of its elements and those of the structs
abbrev pub fits_level : List (Value → Bool) → Ty-F (Value → Bool) → Value → Bool
fits_level structs (Ty-F.Scalar s) value = is_number_of s (out-Value value)
fits_level structs (Ty-F.Struct k) value = by_test (slice_get structs k) value
fits_level structs (Ty-F.Array n element) value = are_elements n element (out-Value value)

-- whether the value is one of the type, where the tests of the structs are given
abbrev pub fits_by : List (Value → Bool) → Ty → Value → Bool
fits_by structs = fold-Ty (Value → Bool) (fits_level structs)

-- whether the value is one of the struct, by the tests of the structs before it
abbrev pub struct_test : List (Value → Bool) → StructDef → Value → Bool
struct_test structs def value = are_fields (map (λ field. fits_by structs field.ty) def.fields) (out-Value value)

-- the tests of the structs, each by those before it
abbrev pub tests_after : List (Value → Bool) → List StructDef → List (Value → Bool)
tests_after tests [] = tests
tests_after tests (def ∷ rest) = tests_after (tests ++ struct_test tests def ∷ []) rest

-- whether the value is one of the type
abbrev pub value_fits : List StructDef → Ty → Value → Bool
value_fits structs = fits_by (tests_after [] structs)

-- whether the values are of the variables' types, one for one
abbrev pub values_fit : List StructDef → List Var → List Value → Bool
values_fit structs vars values = pass (map (λ var. value_fits structs var.ty) vars) values

-- ---- parts of parts

-- the position that an index stands for; none where no array reaches so far
abbrev pub position_of : ℤ → Option ℕ
position_of (pos k) = if nat_lt k (2 ^ 64) then Some k else None
position_of (negsuc k) = None

-- the part at a position; none where there is none
abbrev pub part_of : ℕ → Value → Option Value
part_of k value = option_and_then (λ all. slice_get all k) (parts_in value)

-- what lies at the positions, from the outermost inwards; none where one of them is outside
abbrev pub value_at : List ℕ → Value → Option Value
value_at [] value = Some value
value_at (k ∷ rest) value = option_and_then (value_at rest) (part_of k value)

-- the value with the part at the positions replaced, none where a position is out of range
abbrev pub with_value_at : List ℕ → Value → Value → Option Value
with_value_at [] new value = Some new
with_value_at (k ∷ rest) new value =
    option_and_then (λ all. option_and_then (λ old. option_map (λ part. Parts (slice_set all k part)) (with_value_at rest new old))
    (slice_get all k)) (parts_in value)

-- the variables but for the new value at the positions in one of them
abbrev pub put_at : ℕ → List ℕ → Value → List Value → Option (List Value)
put_at root positions new now =
    option_and_then (λ old. option_map (λ value. slice_set now root value) (with_value_at positions new old)) (slice_get now root)
