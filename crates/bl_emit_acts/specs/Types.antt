-- The C types of Blech types, and the names that stand for what a program names.
use Rattle.std.specs.Prelude.{ℕ, List, [], ◌++◌, Option, Some, None, codes, slice_get}
use Rattle.std.specs.Fmt.{decimal}
use Rattle.bl_tree.specs.declared.text.Text.{Text}
use Rattle.bl_tree.specs.declared.c.CType.{CType}
use Rattle.bl_tree.specs.declared.c.CType.TheVariants.{Scalar as OfScalar, Struct as OfStruct}
use Rattle.bl_tree.specs.declared.scalar.Scalar.{Scalar as ScalarType}
use Rattle.bl_tree.specs.declared.scalar.Scalar.TheVariants.{Bool as OfBool, Int, Nat, Bits}
use Rattle.bl_tree.specs.declared.tree.StructDef.{StructDef}
use Rattle.bl_tree.specs.declared.tree.Ty.{Ty, fold-Ty, out-Ty}
use Rattle.bl_tree.specs.declared.tree.Ty.TheOpen.{Ty-F}
use Rattle.bl_tree.specs.declared.tree.Var.{Var}
use Rattle.bl_ctext.specs.Spelling.{width_digits}

-- ---- names. Each begins with a letter of its own, so that no name of a program becomes a name of C as it is

-- the name of a variable in the source; empty where there is no variable
abbrev pub source_name : Option Var → Text
source_name (Some var) = var.name
source_name None = []

-- a position among a unit's variables, `_`, and the name of the variable there in the source. The number tells it from the names of all others
abbrev pub numbered_name : List Var → ℕ → Text
numbered_name vars k = decimal k ++ (codes "_" ++ source_name (slice_get vars k))

-- the name of the variable at a position among its unit's variables
abbrev pub variable_name : List Var → ℕ → Text
variable_name vars k = codes "v" ++ numbered_name vars k

-- the name of the copy of what the variable at a position was when the tick began
abbrev pub copy_name : List Var → ℕ → Text
copy_name vars k = codes "p" ++ numbered_name vars k

-- the name of the member for a field
abbrev pub field_name : Text → Text
field_name name = codes "m_" ++ name

-- the name of the one member of an array's struct, which has the elements
abbrev pub elements_name : Text
elements_name = codes "e"

-- the name of the function of a unit
abbrev pub unit_name : Text → Text
unit_name name = codes "a_" ++ name

-- the name of the struct of a definition
abbrev pub struct_name : Text → Text
struct_name name = codes "s_" ++ name

-- ---- types

-- the type that a scalar has in C, where a bits type is the unsigned type of its width
abbrev pub c_scalar : ScalarType → ScalarType
c_scalar OfBool = OfBool
c_scalar (Int w) = Int w
c_scalar (Nat w) = Nat w
c_scalar (Bits w) = Nat w

-- the last word of the names that the prelude has for functions of a type
abbrev pub type_word : ScalarType → Text
type_word OfBool = codes "bool"
type_word (Int w) = codes "i" ++ width_digits w
type_word (Nat w) = codes "n" ++ width_digits w
type_word (Bits w) = codes "b" ++ width_digits w

-- the name of a struct, where there is one
abbrev pub name_of_definition : Option StructDef → Text
name_of_definition (Some def) = def.name
name_of_definition None = []

-- the name of the definition at a position
abbrev pub definition_name : List StructDef → ℕ → Text
definition_name structs k = name_of_definition (slice_get structs k)

-- the name of an array's struct: its length and the name of its elements' type
abbrev pub array_name : ℕ → Text → Text
array_name n element = codes "r" ++ (decimal n ++ (codes "_" ++ element))

-- the word of a type in names, from those of the types in it
abbrev pub name_level : List StructDef → Ty-F Text → Text
name_level structs (Ty-F.Scalar s) = type_word s
name_level structs (Ty-F.Struct k) = struct_name (definition_name structs k)
name_level structs (Ty-F.Array n element) = array_name n element

-- the name of a type: a word for a scalar, else the name of its struct
abbrev pub type_name : List StructDef → Ty → Text
type_name structs = fold-Ty Text (name_level structs)

-- the C type of a type whose word this is
abbrev pub type_level : Text → Ty-F Ty → CType
type_level name (Ty-F.Scalar s) = OfScalar (c_scalar s)
type_level name (Ty-F.Struct k) = OfStruct name
type_level name (Ty-F.Array n element) = OfStruct name

-- the C type of a type: a struct for each struct and each array
abbrev pub c_type : List StructDef → Ty → CType
c_type structs ty = type_level (type_name structs ty) (out-Ty ty)
