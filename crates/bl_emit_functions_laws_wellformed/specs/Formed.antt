-- The C of every typed program's functions, as a text: no clause fails in it.
use Rattle.std.specs.Prelude.{◌≡◌, ℕ, ◌^◌, ◌≤◌, true, false, List, [], take, length, Some, None, slice_get, Contains}
use Rattle.bl_tree.specs.declared.c.CMember.{CMember}
use Rattle.bl_tree.specs.declared.c.CStruct.{CStruct}
use Rattle.bl_tree.specs.declared.tree.StructDef.{StructDef}
use Rattle.bl_tree.specs.declared.tree.Unit.{Unit as UnitDef}
use Rattle.bl_tree.specs.Program.{IsWellTyped}
use Rattle.bl_tree.specs.Typing.{is_activity, is_function, site_of}
use Rattle.bl_ctext_semantics.specs.Faults.{Signature, context_in, depth_of_function, faults_in_function, names_table, repeated, signature_in, variable_names}
use Rattle.bl_ctext_semantics.specs.Loops.{turns_in_block}
use Rattle.bl_ctext_semantics.specs.Tables.{Table}
use Rattle.bl_emit_acts.specs.Types.{unit_name}
use Rattle.bl_emit_structs.specs.Structs.{structs_for}
use Rattle.bl_emit_functions.specs.Functions.{body_coded, function_code, memory_struct}
use Rattle.bl_emit_acts_laws_wellformed.specs.Formed.Declared.{AreDeclared, signature_for}
use Rattle.bl_emit_acts_laws_wellformed.specs.Formed.Formed.{BlockIs}
use Rattle.bl_emit_structs_laws_wellformed.specs.Formed.{IsMemory}

-- what stands before the function of a unit in its file: the structs of the program's types and that of its variables, and the functions of earlier
-- functions
pub record StandsBefore (structs : List StructDef) (units : List UnitDef) (k : ℕ) (unit : UnitDef) (table : Table (Table CMember))
    (functions : Table Signature) : Type 0 where
  pub declared : AreDeclared table (structs_for structs units)
  pub memory : AreDeclared table (memory_struct structs (take k units) unit)
  pub known : (f : ℕ) (callee : UnitDef) → slice_get (take k units) f ≡ Some callee → is_function callee.kind ≡ true →
      functions (unit_name callee.name) ≡ Some (signature_for structs callee)

-- the numbers in a function's names are ones that 64 bits hold
pub record IsNumbered (structs : List StructDef) (earlier : List UnitDef) (unit : UnitDef) : Type 0 where
  pub variables : length unit.vars ≤ 2 ^ 64
  pub flags : (body_coded (site_of structs earlier unit) unit).free.flags ≤ 2 ^ 64
  pub turns : (body_coded (site_of structs earlier unit) unit).free.turns ≤ 2 ^ 64

-- no clause fails in the statements of the C function of a function
abbrev pub BodiesWellFormed : List StructDef → List UnitDef → ℕ → Type 0
BodiesWellFormed structs units entry =
    (k : ℕ) (unit : UnitDef) (table : Table (Table CMember)) (functions : Table Signature) → IsWellTyped structs units entry →
    slice_get units k ≡ Some unit → is_activity unit.kind ≡ false → StandsBefore structs units k unit table functions →
    IsNumbered structs (take k units) unit →
    BlockIs (context_in table functions (function_code structs (take k units) unit)) (function_code structs (take k units) unit).body

-- no two loops of a function are counted by one variable, nor is one counted by a parameter or local
abbrev pub TurnsDiffer : List StructDef → List UnitDef → Type 0
TurnsDiffer structs units =
    (k : ℕ) (unit : UnitDef) → slice_get units k ≡ Some unit → IsNumbered structs (take k units) unit →
    repeated (names_table (variable_names (function_code structs (take k units) unit)))
    (turns_in_block (function_code structs (take k units) unit).body)
    ≡ []

-- no clause fails in the C function of a function, if no earlier function has its name and its chain of calls isn't too long
abbrev pub FunctionsWellFormed : List StructDef → List UnitDef → ℕ → Type 0
FunctionsWellFormed structs units entry =
    (k : ℕ) (unit : UnitDef) (table : Table (Table CMember)) (functions : Table Signature) (depths : Table ℕ) → IsWellTyped structs units entry →
    slice_get units k ≡ Some unit → is_activity unit.kind ≡ false → StandsBefore structs units k unit table functions →
    IsNumbered structs (take k units) unit → functions (unit_name unit.name) ≡ None →
    depth_of_function depths (function_code structs (take k units) unit) ≤ 300 →
    faults_in_function table functions depths false (function_code structs (take k units) unit) ≡ []

-- the C function of a unit has the parameters and the result that are asked of it where it is called
abbrev pub FunctionsSigned : Type 0
FunctionsSigned =
    (structs : List StructDef) (earlier : List UnitDef) (unit : UnitDef) → signature_in (function_code structs earlier unit) ≡ signature_for structs unit

-- the struct of a function's variables is one that has variables of the program as its members
abbrev pub MemoriesHold : List StructDef → List UnitDef → Type 0
MemoriesHold structs units =
    (k : ℕ) (unit : UnitDef) → slice_get units k ≡ Some unit → length unit.vars ≤ 2 ^ 64 → (s : CStruct) →
    Contains (memory_struct structs (take k units) unit) s → IsMemory structs units s
