-- How the C structs of a program's types, and the C functions of its functions, are spelled.
use Rattle.std.specs.Prelude.{◌≡◌, ℕ, ◌+◌, ◌*◌, ◌^◌, ◌≤◌, Bool, true, List, [], length, take, Some, slice_get}
use Rattle.std.specs.List.{list_all}
use Rattle.bl_tree.specs.declared.tree.Stmt.{Stmt}
use Rattle.bl_tree.specs.declared.tree.StructDef.{StructDef}
use Rattle.bl_tree.specs.declared.tree.Unit.{Unit as UnitDef}
use Rattle.bl_tree.specs.Depths.{depth_of}
use Rattle.bl_tree.specs.Program.{IsWellTyped}
use Rattle.bl_tree.specs.Types.{type_stands}
use Rattle.bl_tree.specs.declared.tree.Ty.{Ty}
use Rattle.bl_tree.specs.Typing.{fits, site_of}
use Rattle.bl_ctext.specs.Spellable.{spells_member, spells_struct, spells_type}
use Rattle.bl_ctext.specs.inner.Fits.{func_fits, stmts_fit}
use Rattle.bl_emit_acts.specs.Acts.{act_code}
use Rattle.bl_emit_acts.specs.Types.{c_type}
use Rattle.bl_emit_structs.specs.Structs.{each_once, structs_for}
use Rattle.bl_emit_functions.specs.Functions.{function_code, members_of, memory_struct}
use Rattle.bl_emit_functions_laws_wellformed.specs.Formed.{IsNumbered}

-- the C type of a type of a typed program has a spelling
abbrev pub TypesSpelled : List StructDef → List UnitDef → ℕ → Type 0
TypesSpelled structs units entry =
    (ty : Ty) → IsWellTyped structs units entry → type_stands (length structs) ty ≡ true → spells_type (c_type structs ty) ≡ true

-- each C struct that a typed program's types need has a spelling
abbrev pub StructsSpelled : List StructDef → List UnitDef → ℕ → Type 0
StructsSpelled structs units entry = IsWellTyped structs units entry → list_all spells_struct (each_once [] (structs_for structs units)) ≡ true

-- each member for a variable that a unit holds has a spelling
abbrev pub MembersSpelled : List StructDef → List UnitDef → ℕ → Type 0
MembersSpelled structs units entry =
    (k : ℕ) (unit : UnitDef) → IsWellTyped structs units entry → slice_get units k ≡ Some unit → length unit.vars ≤ 2 ^ 64 →
    list_all spells_member (members_of structs (take k units) unit) ≡ true

-- the struct of the variables that a unit holds has a spelling
abbrev pub MemoriesSpelled : List StructDef → List UnitDef → ℕ → Type 0
MemoriesSpelled structs units entry =
    (k : ℕ) (unit : UnitDef) → IsWellTyped structs units entry → slice_get units k ≡ Some unit → length unit.vars ≤ 2 ^ 64 →
    list_all spells_struct (memory_struct structs (take k units) unit) ≡ true

-- the C of an act has a spelling, with at most three more open brackets than twice its expressions' depth, whatever variables have copies
abbrev pub ActsFit : List StructDef → List UnitDef → ℕ → Type 0
ActsFit structs units entry =
    (k : ℕ) (unit : UnitDef) (copies : List Bool) (s : Stmt) → IsWellTyped structs units entry → slice_get units k ≡ Some unit →
    length unit.vars ≤ 2 ^ 64 →
    fits (site_of structs (take k units) unit) s ≡ true →
    stmts_fit (2 * (depth_of s).exprs + 3) (act_code (site_of structs (take k units) unit) copies s) ≡ true

-- the C function of a function has a spelling, in which no more brackets are open at once than a C text may have
abbrev pub FunctionsFit : List StructDef → List UnitDef → ℕ → Type 0
FunctionsFit structs units entry =
    (k : ℕ) (unit : UnitDef) → IsWellTyped structs units entry → slice_get units k ≡ Some unit → IsNumbered structs (take k units) unit →
    func_fits 2000 (function_code structs (take k units) unit) ≡ true
