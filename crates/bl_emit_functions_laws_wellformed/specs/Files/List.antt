-- The C functions of a program's functions, one behind the other, as a text: no clause fails in them.
use Rattle.std.specs.Prelude.{◌≡◌, ℕ, ◌≤◌, Bool, true, false, List, [], ◌∷◌, ◌++◌, length, take, Some, slice_get}
use Rattle.bl_tree.specs.declared.c.CFunc.{CFunc}
use Rattle.bl_tree.specs.declared.c.CMember.{CMember}
use Rattle.bl_tree.specs.declared.c.CStruct.{CStruct}
use Rattle.bl_tree.specs.declared.tree.StructDef.{StructDef}
use Rattle.bl_tree.specs.declared.tree.Unit.{Unit as UnitDef}
use Rattle.bl_tree.specs.Program.{IsWellTyped}
use Rattle.bl_tree.specs.Typing.{is_function}
use Rattle.bl_limits.specs.Rules.{Passes}
use Rattle.bl_ctext_semantics.specs.Faults.{Signature, depth_of_function, function_faults_after, signature_in, struct_faults_after, struct_table}
use Rattle.bl_ctext_semantics.specs.Tables.{Table, no_entries, with_entry}
use Rattle.bl_emit_structs.specs.Structs.{each_once, structs_for}
use Rattle.bl_emit_functions.specs.Functions.{memory_struct}
use Rattle.bl_emit_acts_laws_wellformed.specs.Formed.Declared.{AreDeclared}
use Rattle.bl_emit_structs_laws_wellformed.specs.Formed.{AreMemories}
use Rattle.bl_emit_functions_laws_wellformed.specs.Formed.{IsNumbered}
use Rattle.bl_emit_functions_laws_simulation.specs.Units.{functions_after}

-- the structs of the program's types and those of the variables of its functions stand before its functions
pub record StructsStand (structs : List StructDef) (units : List UnitDef) (table : Table (Table CMember)) : Type 0 where
  pub types : AreDeclared table (structs_for structs units)
  pub memories : (k : ℕ) (unit : UnitDef) → slice_get units k ≡ Some unit → is_function unit.kind ≡ true →
      AreDeclared table (memory_struct structs (take k units) unit)

-- the numbers in the names of each function are ones that 64 bits hold
abbrev pub AllNumbered : List StructDef → List UnitDef → Type 0
AllNumbered structs units =
    (k : ℕ) (unit : UnitDef) → slice_get units k ≡ Some unit → is_function unit.kind ≡ true → IsNumbered structs (take k units) unit

-- the parameters and the results of functions, behind those that are known
abbrev pub signatures_after : Table Signature → List CFunc → Table Signature
signatures_after known [] = known
signatures_after known (f ∷ rest) = signatures_after (with_entry known f.name (signature_in f)) rest

-- how many functions the longest chain has that each of these heads, behind those that are known
abbrev pub depths_after : Table ℕ → List CFunc → Table ℕ
depths_after known [] = known
depths_after known (f ∷ rest) = depths_after (with_entry known f.name (depth_of_function known f)) rest

-- no clause fails in the C functions of a program's functions. Their structs stand in the table, rule Frames holds, and at least two more functions follow
abbrev pub FunctionListsWellFormed : List StructDef → List UnitDef → ℕ → Type 0
FunctionListsWellFormed structs units entry =
    (table : Table (Table CMember)) (rest : List CFunc) → IsWellTyped structs units entry → Passes structs units entry → StructsStand structs units table →
    AllNumbered structs units → 2 ≤ length rest →
    function_faults_after table no_entries no_entries (functions_after structs [] units ++ rest)
    ≡ function_faults_after table (signatures_after no_entries (functions_after structs [] units))
    (depths_after no_entries (functions_after structs [] units)) rest

-- ---- the structs of variables

-- the struct of the variables of a unit that is a function, where it holds any; others have none
abbrev pub memory_where : Bool → List StructDef → List UnitDef → UnitDef → List CStruct
memory_where true structs earlier unit = memory_struct structs earlier unit
memory_where false structs earlier unit = []

-- the structs of the variables of these units' functions, in order, where these stand before them
abbrev pub memories_after : List StructDef → List UnitDef → List UnitDef → List CStruct
memories_after structs earlier [] = []
memories_after structs earlier (unit ∷ rest) =
    memory_where (is_function unit.kind) structs earlier unit ++ memories_after structs (earlier ++ unit ∷ []) rest

-- the structs of the variables of a program's functions have variables of the program as their members, and no two have one name
abbrev pub MemoriesStand : List StructDef → List UnitDef → ℕ → Type 0
MemoriesStand structs units entry =
    IsWellTyped structs units entry → AllNumbered structs units → AreMemories structs units (memories_after structs [] units)

-- the structs that stand before a program's functions: those of its types, each once, and those of its functions' variables
abbrev pub structs_before : List StructDef → List UnitDef → List CStruct
structs_before structs units = each_once [] (structs_for structs units) ++ memories_after structs [] units

-- no clause fails in these structs where neither rule Frames nor Cells fails, and a file that begins with them has what its functions need
abbrev pub StructsPrecede : List StructDef → List UnitDef → ℕ → Type 0
StructsPrecede structs units entry =
    (more : List CStruct) → IsWellTyped structs units entry → Passes structs units entry → AllNumbered structs units →
    (struct_faults_after no_entries no_entries (structs_before structs units) ≡ [])
    × StructsStand structs units (struct_table (structs_before structs units ++ more))

-- no clause fails in the functions of a file that begins with the program's structs and functions, where rules Frames and Cells hold
abbrev pub FunctionFilesWellFormed : List StructDef → List UnitDef → ℕ → Type 0
FunctionFilesWellFormed structs units entry =
    (more : List CStruct) (rest : List CFunc) → IsWellTyped structs units entry → Passes structs units entry
    → AllNumbered structs units → 2 ≤ length rest →
    function_faults_after (struct_table (structs_before structs units ++ more)) no_entries no_entries (functions_after structs [] units ++ rest)
    ≡ function_faults_after (struct_table (structs_before structs units ++ more)) (signatures_after no_entries (functions_after structs [] units))
    (depths_after no_entries (functions_after structs [] units)) rest
