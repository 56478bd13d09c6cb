-- The C structs that a program's types need.
use Rattle.std.specs.Prelude.{List, [], ◌∷◌, ◌++◌, map, bytes_eq, if◌then◌else◌}
use Rattle.std.specs.List.{list_any}
use Rattle.bl_tree.specs.declared.text.Text.{Text}
use Rattle.bl_tree.specs.declared.c.CStruct.{CStruct}
use Rattle.bl_tree.specs.declared.tree.StructDef.{StructDef}
use Rattle.bl_tree.specs.declared.tree.Ty.{Ty, fold-Ty, out-Ty}
use Rattle.bl_tree.specs.declared.tree.Ty.TheOpen.{Ty-F}
use Rattle.bl_tree.specs.declared.tree.Unit.{Unit as UnitDef}
use Rattle.bl_tree.specs.Reduce.{joined}
use Rattle.bl_emit_acts.specs.Structs.{c_array, c_definition}

-- ---- what types need, in order, where the same may stand more than once

-- the array structs of a type, where those of its element come by this function
abbrev pub arrays_at : List StructDef → (Ty → List CStruct) → Ty-F Ty → List CStruct
arrays_at structs inner (Ty-F.Array n element) = inner element ++ (c_array structs n element ∷ [])
arrays_at structs inner _ = []

-- one level of a type, with the array structs of its element
abbrev pub arrays_level : List StructDef → Ty-F (Ty → List CStruct) → Ty → List CStruct
arrays_level structs (Ty-F.Array n inner) ty = arrays_at structs inner (out-Ty ty)
arrays_level structs _ ty = []

-- the structs of a type's arrays, the innermost first
abbrev pub arrays_of : List StructDef → Ty → List CStruct
arrays_of structs ty = fold-Ty (Ty → List CStruct) (arrays_level structs) ty ty

-- what a struct needs: the arrays of its fields, and then its own
abbrev pub structs_for_definition : List StructDef → StructDef → List CStruct
structs_for_definition structs def = joined (map (λ field. arrays_of structs field.ty) def.fields) ++ (c_definition structs def ∷ [])

-- the further structs that the variables of a unit need
abbrev pub structs_for_unit : List StructDef → UnitDef → List CStruct
structs_for_unit structs unit = joined (map (λ var. arrays_of structs var.ty) unit.vars)

-- what structs and units need: first the structs in their order, then the units
abbrev pub structs_for : List StructDef → List UnitDef → List CStruct
structs_for structs units = joined (map (structs_for_definition structs) structs) ++ joined (map (structs_for_unit structs) units)

-- ---- each once

-- the structs without those whose name is taken or stands before
abbrev pub each_once : List Text → List CStruct → List CStruct
each_once taken [] = []
each_once taken (s ∷ rest) = if list_any (bytes_eq s.name) taken then each_once taken rest else s ∷ each_once (taken ++ s.name ∷ []) rest

-- the C structs that the types of structs and units need, each once and behind those that it uses
abbrev pub structs_of : List StructDef → List UnitDef → List CStruct
structs_of structs units = each_once [] (structs_for structs units)
