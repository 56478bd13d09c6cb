-- How large types are, and how deep they are nested. A struct that isn't there is of size 0 and nested 0 deep.
use Rattle.std.specs.Prelude.{ℕ, ◌+◌, ◌*◌, List, map, slice_index}
use Rattle.bl_tree.specs.declared.tree.StructDef.{StructDef}
use Rattle.bl_tree.specs.declared.tree.Ty.{Ty, fold-Ty}
use Rattle.bl_tree.specs.declared.tree.Ty.TheOpen.{Ty-F}
use Rattle.bl_tree.specs.Reduce.{total, greatest}
use Rattle.bl_limits_measures.specs.InOrder.{answers}

-- ---- size

-- how many scalars a value of a type has, from those of an element and those of the structs
abbrev pub level_size : List ℕ → Ty-F ℕ → ℕ
level_size known (Ty-F.Scalar s) = 1
level_size known (Ty-F.Struct k) = slice_index known k
level_size known (Ty-F.Array n element) = n * element

-- how many scalars a value of a type has, where those of the structs are known
abbrev pub size_by : List ℕ → Ty → ℕ
size_by known = fold-Ty ℕ (level_size known)

-- how many scalars the fields of a struct have
abbrev pub fields_size : List ℕ → StructDef → ℕ
fields_size known def = total (map (λ field. size_by known field.ty) def.fields)

-- how many scalars each struct has; a struct has fields of earlier ones
abbrev pub struct_sizes : List StructDef → List ℕ
struct_sizes structs = answers fields_size structs

-- how many scalars a value of a type has: 1 for a scalar, the sum over a struct's fields, the product for an array
abbrev pub size : List StructDef → Ty → ℕ
size structs ty = size_by (struct_sizes structs) ty

-- ---- nesting

-- how deep a type is nested, from the nesting of its elements and that of the structs
abbrev pub level_nesting : List ℕ → Ty-F ℕ → ℕ
level_nesting known (Ty-F.Scalar s) = 0
level_nesting known (Ty-F.Struct k) = slice_index known k
level_nesting known (Ty-F.Array n element) = 1 + element

-- how deep a type is nested, where the structs' nesting is known
abbrev pub nesting_by : List ℕ → Ty → ℕ
nesting_by known = fold-Ty ℕ (level_nesting known)

-- a struct is nested one deeper than its fields
abbrev pub fields_nesting : List ℕ → StructDef → ℕ
fields_nesting known def = 1 + greatest (map (λ field. nesting_by known field.ty) def.fields)

-- how deep each struct is nested
abbrev pub struct_nestings : List StructDef → List ℕ
struct_nestings structs = answers fields_nesting structs

-- how deep a type is nested: 0 for a scalar, one more for each array and struct
abbrev pub nesting : List StructDef → Ty → ℕ
nesting structs ty = nesting_by (struct_nestings structs) ty
