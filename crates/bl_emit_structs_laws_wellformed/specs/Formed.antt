-- The C structs of every typed program, as a text: no clause fails in them.
use Rattle.std.specs.Prelude.{◌≡◌, ℕ, ◌≤◌, true, List, [], ◌++◌, Some, Contains, codes, slice_get, slice_index}
use Rattle.bl_tree.specs.declared.text.Text.{Text}
use Rattle.bl_tree.specs.declared.c.CMember.{CMember}
use Rattle.bl_tree.specs.declared.c.CStruct.{CStruct}
use Rattle.bl_tree.specs.declared.tree.StructDef.{StructDef}
use Rattle.bl_tree.specs.declared.tree.Unit.{Unit as UnitDef}
use Rattle.bl_tree.specs.declared.tree.Var.{Var}
use Rattle.bl_tree.specs.Program.{IsWellTyped}
use Rattle.bl_tree.specs.Words.{are_distinct}
use Rattle.bl_limits_measures.specs.Types.{nesting, struct_nestings}
use Rattle.bl_ctext_semantics.specs.Faults.{struct_faults_after, struct_table}
use Rattle.bl_ctext_semantics.specs.Tables.{no_entries}
use Rattle.bl_emit_acts.specs.Types.{c_type}
use Rattle.bl_emit_structs.specs.Structs.{each_once, structs_for}
use Rattle.bl_emit_structs_laws_wellformed.specs.Names.{member_names, names_of}
use Rattle.bl_emit_acts_laws_wellformed.specs.Formed.Declared.{AreDeclared}

-- no struct of a program, and no type of a variable, is nested deeper than `most`
pub record NestsAtMost (most : ℕ) (structs : List StructDef) (units : List UnitDef) : Type 0 where
  pub definitions : (k : ℕ) → slice_index (struct_nestings structs) k ≤ most
  pub variables : (k j : ℕ) (unit : UnitDef) (var : Var) → slice_get units k ≡ Some unit → slice_get unit.vars j ≡ Some var →
      nesting structs var.ty ≤ most

-- the type of a member is that of a variable of a program
pub record OfVariable (structs : List StructDef) (units : List UnitDef) (m : CMember) : Type 0 where
  pub k : ℕ
  pub j : ℕ
  pub unit : UnitDef
  pub var : Var
  pub unit_there : slice_get units k ≡ Some unit
  pub var_there : slice_get unit.vars j ≡ Some var
  pub is : m.ty ≡ c_type structs var.ty

-- a struct that has variables of a program as its members, under a name that begins with `m_`
pub record IsMemory (structs : List StructDef) (units : List UnitDef) (s : CStruct) : Type 0 where
  pub rest : Text
  pub named : s.name ≡ codes "m_" ++ rest
  pub distinct : are_distinct (member_names s) ≡ true
  pub members : (m : CMember) → Contains s.members m → OfVariable structs units m

-- structs that have variables of a program as their members, no two under one name
pub record AreMemories (structs : List StructDef) (units : List UnitDef) (memories : List CStruct) : Type 0 where
  pub each : (s : CStruct) → Contains memories s → IsMemory structs units s
  pub differ : are_distinct (names_of memories) ≡ true

-- no clause fails in the C structs of a typed program, and in those of variables behind them
abbrev pub StructsWellFormed : List StructDef → List UnitDef → ℕ → Type 0
StructsWellFormed structs units entry =
    (memories : List CStruct) → IsWellTyped structs units entry → NestsAtMost 299 structs units → AreMemories structs units memories →
    struct_faults_after no_entries no_entries (each_once [] (structs_for structs units) ++ memories) ≡ []

-- each C struct that a typed program's types need is declared in a file that begins with them
abbrev pub StructsThere : List StructDef → List UnitDef → ℕ → Type 0
StructsThere structs units entry =
    (most : ℕ) (more : List CStruct) → IsWellTyped structs units entry → NestsAtMost most structs units →
    AreDeclared (struct_table (each_once [] (structs_for structs units) ++ more)) (structs_for structs units)
