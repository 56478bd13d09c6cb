-- Programs whose units have few variables and statements.
use Rattle.std.specs.Prelude.{◌≡◌, ℕ, ◌≤◌, ◌^◌, List, length, Some, slice_get}
use Rattle.bl_tree.specs.declared.program.Program.{Program}
use Rattle.bl_tree.specs.declared.tree.Unit.{Unit as UnitDef}
use Rattle.bl_limits_measures.specs.Statements.{cell_statements_of}
use Rattle.bl_cause_trees.specs.Peeled.{ArePeeled}
use Rattle.bl_parse_tree.specs.declared.raw.Raw.{Raw}
use Rattle.bl_rules.specs.Accepted.{HasProgram, IsOfTree}
use Rattle.bl_rules.specs.Rules.{Parses, TreePasses}
use Rattle.bl_types_program.specs.Programs.{IsProgramOf}
use Rattle.bl_rules_laws_sizes.specs.Parts.{parts_of_items}

-- a unit has at most 2 ^ 62 variables, and at most as many statements, where each `elseif` and each branch of a `cobegin` counts one more
pub record IsSmall (unit : UnitDef) : Type 0 where
  pub variables : length unit.vars ≤ 2 ^ 62
  pub statements : cell_statements_of unit ≤ 2 ^ 62

-- each unit is small
abbrev pub AreSmall : List UnitDef → Type 0
AreSmall units = (k : ℕ) (unit : UnitDef) → slice_get units k ≡ Some unit → IsSmall unit

-- no rule fails for some well-formed tree, which has at most 2 ^ 40 parts, and this is its program
pub record IsOfSmallTree (program : Program) : Type 0 where
  pub tree : IsOfTree program
  pub few : parts_of_items tree.raw.items ≤ 2 ^ 40

-- the program of a text of at most 2 ^ 40 bytes that spells a tree in which no rule fails is that of a small tree
abbrev pub SpelledAreSmall : Type 0
SpelledAreSmall =
    (text : List ℕ) (raw : Raw) (program : Program) → length text ≤ 2 ^ 40 → Parses text raw → TreePasses raw → IsProgramOf raw program →
    IsOfSmallTree program

-- the program of a text in which no rule fails is that of a small tree
abbrev pub TextsAreSmall : Type 0
TextsAreSmall = (text : List ℕ) (program : Program) → HasProgram text program → IsOfSmallTree program

-- the units of the program of a small tree are small, and so are its peeled units
abbrev pub PeeledAreSmall : Type 0
PeeledAreSmall = (program : Program) (peeled : List UnitDef) → IsOfSmallTree program → ArePeeled program.units peeled → AreSmall peeled
