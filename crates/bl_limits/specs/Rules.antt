-- The rules Frames and Cells of a typed program (docs/LANGUAGE.md, "Rules").
use Rattle.std.specs.Prelude.{◌≡◌, ℕ, ◌<◌, ◌≤◌, List, [], Contains, slice_get, slice_index, Some, ◌⊎◌}
use Rattle.bl_tree.specs.declared.place.Place.{Place}
use Rattle.bl_tree.specs.declared.rule.Rule.{Rule}
use Rattle.bl_tree.specs.declared.rule.Rule.TheVariants as rule
use Rattle.bl_tree.specs.declared.tree.StructDef.{StructDef}
use Rattle.bl_tree.specs.declared.tree.Unit.{Unit as UnitDef}
use Rattle.bl_tree.specs.declared.tree.Var.{Var}
use Rattle.bl_tree.specs.Rules.{Passes as NoneOf}
use Rattle.bl_limits_measures.specs.Types.{nesting, struct_nestings}
use Rattle.bl_limits_measures.specs.Units.{cells_at, chain_at, instances_at}

-- ---- Frames

-- the entry expands to more than 4,096 activity instances: at its name
pub record ManyInstances (units : List UnitDef) (entry : ℕ) (at : Place) : Type 0 where
  pub unit : UnitDef
  pub is_entry : slice_get units entry ≡ Some unit
  pub many : 4_096 < instances_at units entry
  pub at_name : at ≡ unit.place

-- a chain of units, each of which calls or runs the next, has more than 100: at the name of the one that heads it
pub record LongChain (units : List UnitDef) (at : Place) : Type 0 where
  pub position : ℕ
  pub unit : UnitDef
  pub heads : slice_get units position ≡ Some unit
  pub long : 100 < chain_at units position
  pub at_name : at ≡ unit.place

-- Frames fails: the entry has too many instances, or a chain of calls is too long
abbrev pub FailsFrames : List UnitDef → ℕ → Place → Type 0
FailsFrames units entry at = ManyInstances units entry at ⊎ LongChain units at

-- ---- Cells

-- the entry's cells are more than 1,000,000: at its name
pub record LargeState (structs : List StructDef) (units : List UnitDef) (entry : ℕ) (at : Place) : Type 0 where
  pub unit : UnitDef
  pub is_entry : slice_get units entry ≡ Some unit
  pub large : 1_000_000 < cells_at structs units entry
  pub at_name : at ≡ unit.place

-- a struct at the given position or behind it is nested deeper than 100: at its name
pub record DeepStruct (from : ℕ) (structs : List StructDef) (at : Place) : Type 0 where
  pub position : ℕ
  pub later : from ≤ position
  pub def : StructDef
  pub is_there : slice_get structs position ≡ Some def
  pub deep : 100 < slice_index (struct_nestings structs) position
  pub at_name : at ≡ def.place

-- the type of a parameter, a `var` or a `let` is nested deeper than 100: at its name
pub record DeepVariable (structs : List StructDef) (units : List UnitDef) (at : Place) : Type 0 where
  pub unit : UnitDef
  pub of_program : Contains units unit
  pub var : Var
  pub of_unit : Contains unit.vars var
  pub deep : 100 < nesting structs var.ty
  pub at_name : at ≡ var.place

-- a struct from the position on, or a variable of the units, is nested too deep
abbrev pub FailsNesting : ℕ → List StructDef → List UnitDef → Place → Type 0
FailsNesting from structs units at = DeepStruct from structs at ⊎ DeepVariable structs units at

-- Cells fails: the entry has too many cells, or a struct or a variable is nested too deep
abbrev pub FailsCells : List StructDef → List UnitDef → ℕ → Place → Type 0
FailsCells structs units entry at = LargeState structs units entry at ⊎ FailsNesting 0 structs units at

-- ---- the rules by name

-- the rule fails at this place, and its line names no further one; the others aren't judged here
abbrev pub Fails : List StructDef → List UnitDef → ℕ → Rule → Place → List Place → Type 0
Fails structs units entry rule.Frames at also = FailsFrames units entry at × (also ≡ [])
Fails structs units entry rule.Cells at also = FailsCells structs units entry at × (also ≡ [])
Fails structs units entry _ at also = ⊥

-- neither Frames nor Cells fails
abbrev pub Passes : List StructDef → List UnitDef → ℕ → Type 0
Passes structs units entry = NoneOf (Fails structs units entry)

-- ---- the part of Cells that structs and units answer for, whatever the entry is

-- rule Cells fails at this place by nesting, and its line names no further place; no other rule is judged
abbrev pub NestingFails : ℕ → List StructDef → List UnitDef → Rule → Place → List Place → Type 0
NestingFails from structs units rule.Cells at also = FailsNesting from structs units at × (also ≡ [])
NestingFails from structs units _ at also = ⊥

-- no struct from the position on and no variable of the units is nested too deep
abbrev pub NestingPasses : ℕ → List StructDef → List UnitDef → Type 0
NestingPasses from structs units = NoneOf (NestingFails from structs units)
