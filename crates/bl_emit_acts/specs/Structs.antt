-- The C structs of structs and arrays.
use Rattle.std.specs.Prelude.{ℕ, List, [], ◌∷◌, map, Some, None}
use Rattle.bl_tree.specs.declared.c.CMember.{CMember}
use Rattle.bl_tree.specs.declared.c.CStruct.{CStruct}
use Rattle.bl_tree.specs.declared.tree.Field.{Field}
use Rattle.bl_tree.specs.declared.tree.StructDef.{StructDef}
use Rattle.bl_tree.specs.declared.tree.Ty.{Ty}
use Rattle.bl_emit_acts.specs.Trees.{nowhere}
use Rattle.bl_emit_acts.specs.Types.{array_name, c_type, elements_name, field_name, struct_name, type_name}

-- the member for a field
abbrev pub c_field : List StructDef → Field → CMember
c_field structs field = record { ty = c_type structs field.ty; name = field_name field.name; length = None }

-- the struct of a definition: a member for each field
abbrev pub c_definition : List StructDef → StructDef → CStruct
c_definition structs def = record { place = nowhere; name = struct_name def.name; members = map (c_field structs) def.fields }

-- the only member of an array's struct
abbrev pub c_elements : List StructDef → ℕ → Ty → CMember
c_elements structs n element = record { ty = c_type structs element; name = elements_name; length = Some n }

-- the struct of an array of so many elements of a type
abbrev pub c_array : List StructDef → ℕ → Ty → CStruct
c_array structs n element =
    record { place = nowhere; name = array_name n (type_name structs element); members = c_elements structs n element ∷ [] }
