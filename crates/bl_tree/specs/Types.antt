-- Types of a typed program.
use Rattle.std.specs.Prelude.{ℕ, Bool, true, false, ◌&&◌, nat_eq, nat_lt, nat_le, Option, Some, None}
use Rattle.bl_tree.specs.declared.scalar.Scalar.{Scalar as ScalarType}
use Rattle.bl_tree.specs.declared.scalar.Scalar.TheVariants.{Bool as OfBool, Int, Nat, Bits}
use Rattle.bl_tree.specs.declared.tree.Ty.{Ty, fold-Ty, out-Ty, roll-Ty}
use Rattle.bl_tree.specs.declared.tree.Ty.TheOpen.{Ty-F}
use Rattle.bl_tree.specs.Scalar.{bits_of}

-- whether two scalar types are one
abbrev pub same_scalar : ScalarType → ScalarType → Bool
same_scalar OfBool OfBool = true
same_scalar (Int v) (Int w) = nat_eq (bits_of v) (bits_of w)
same_scalar (Nat v) (Nat w) = nat_eq (bits_of v) (bits_of w)
same_scalar (Bits v) (Bits w) = nat_eq (bits_of v) (bits_of w)
same_scalar _ _ = false

-- the type of a scalar
abbrev pub scalar : ScalarType → Ty
scalar t = roll-Ty (Ty-F.Scalar t)

-- the scalar type of one layer of a type, where the layer is a scalar
abbrev pub scalar_at : {A : Type 0} → Ty-F A → Option ScalarType
scalar_at (Ty-F.Scalar t) = Some t
scalar_at _ = None

-- the scalar that a type is
abbrev pub scalar_in : Ty → Option ScalarType
scalar_in ty = scalar_at (out-Ty ty)

-- whether one level of a type is this scalar type
abbrev pub same_as_scalar : ScalarType → Ty-F Ty → Bool
same_as_scalar s (Ty-F.Scalar t) = same_scalar s t
same_as_scalar s _ = false

-- whether one level of a type is the struct at this position
abbrev pub same_as_struct : ℕ → Ty-F Ty → Bool
same_as_struct k (Ty-F.Struct m) = nat_eq k m
same_as_struct k _ = false

-- whether one level of a type is an array of this length whose element passes the test
abbrev pub same_as_array : ℕ → (Ty → Bool) → Ty-F Ty → Bool
same_as_array n element (Ty-F.Array m inner) = nat_eq n m && element inner
same_as_array n element _ = false

-- whether a type is this level, with a test for its element where it is an array
abbrev pub same_level : Ty-F (Ty → Bool) → Ty → Bool
same_level (Ty-F.Scalar s) other = same_as_scalar s (out-Ty other)
same_level (Ty-F.Struct k) other = same_as_struct k (out-Ty other)
same_level (Ty-F.Array n element) other = same_as_array n element (out-Ty other)

-- whether two types are one: structs by their position, arrays by length and element
abbrev pub same_type : Ty → Ty → Bool
same_type = fold-Ty (Ty → Bool) same_level

-- whether one level of a type names one of the first structs alone and has a length from 1 to 65536, where its element stands
abbrev pub type_stands_level : ℕ → Ty-F Bool → Bool
type_stands_level structs (Ty-F.Scalar s) = true
type_stands_level structs (Ty-F.Struct k) = nat_lt k structs
type_stands_level structs (Ty-F.Array n element) = (nat_le 1 n && nat_le n 65536) && element

-- whether a type names one of the first structs alone, and its lengths are from 1 to 65536
abbrev pub type_stands : ℕ → Ty → Bool
type_stands structs = fold-Ty Bool (type_stands_level structs)
