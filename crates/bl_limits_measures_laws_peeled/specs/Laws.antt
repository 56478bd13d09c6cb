-- The numbers by which rules Frames and Cells judge peeled units, by those of the source.
use Rattle.std.specs.Prelude.{◌≡◌, ℕ, List, take, Some, slice_get}
use Rattle.bl_tree.specs.declared.tree.StructDef.{StructDef}
use Rattle.bl_tree.specs.declared.tree.Unit.{Unit as UnitDef}
use Rattle.bl_limits_measures.specs.Calls.{calls_of}
use Rattle.bl_limits_measures.specs.Runs.{activities_by_place}
use Rattle.bl_limits_measures.specs.Statements.{cell_statements_of}
use Rattle.bl_limits_measures.specs.Units.{all_cells, cells_at, cells_with, chain_at, greatest_at, instances_at, total_at, variables_of}
use Rattle.bl_peel.specs.Units.{UnitsPeel}

-- peeled units expand to as many instances as those of the source
abbrev pub InstancesAreOfSource : Type 0
InstancesAreOfSource = (units trees : List UnitDef) (k : ℕ) → UnitsPeel units trees → instances_at trees k ≡ instances_at units k

-- peeled units head chains as long as those of the source
abbrev pub ChainsAreOfSource : Type 0
ChainsAreOfSource = (units trees : List UnitDef) (k : ℕ) → UnitsPeel units trees → chain_at trees k ≡ chain_at units k

-- the cells of a unit, by its variables, calls and `run`s in the source, by how many statements its peeled body has, and by the cells of the earlier units
abbrev pub cells_of_source : List StructDef → List ℕ → UnitDef → UnitDef → ℕ
cells_of_source structs earlier unit tree =
    cells_with unit.kind (variables_of structs unit) (cell_statements_of tree) (total_at earlier (activities_by_place unit))
    (greatest_at earlier (calls_of unit))

-- the cells of peeled units are those
abbrev pub CellsAreOfSource : Type 0
CellsAreOfSource = (structs : List StructDef) (units trees : List UnitDef) (k : ℕ) (unit tree : UnitDef) → UnitsPeel units trees →
    slice_get units k ≡ Some unit → slice_get trees k ≡ Some tree →
    cells_at structs trees k ≡ cells_of_source structs (take k (all_cells structs trees)) unit tree
