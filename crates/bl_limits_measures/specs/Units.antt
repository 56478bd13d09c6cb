-- The measures of units, by their positions. A unit calls and runs earlier ones; one that isn't there counts 0.
use Rattle.std.specs.Prelude.{ℕ, ◌+◌, ◌*◌, max, List, map, slice_index}
use Rattle.bl_tree.specs.declared.tree.StructDef.{StructDef}
use Rattle.bl_tree.specs.declared.tree.Unit.{Unit as UnitDef}
use Rattle.bl_tree.specs.declared.tree.UnitKind.{UnitKind}
use Rattle.bl_tree.specs.declared.tree.UnitKind.TheVariants.{Function, Activity}
use Rattle.bl_tree.specs.Reduce.{total, greatest}
use Rattle.bl_limits_measures.specs.Calls.{calls_of}
use Rattle.bl_limits_measures.specs.InOrder.{answers}
use Rattle.bl_limits_measures.specs.Runs.{activities_by_place, activities_run}
use Rattle.bl_limits_measures.specs.Statements.{cell_statements_of}
use Rattle.bl_limits_measures.specs.Types.{size_by, struct_sizes}

-- the sum of the known measures of the units at the positions
abbrev pub total_at : List ℕ → List ℕ → ℕ
total_at known positions = total (map (slice_index known) positions)

-- the greatest of the known measures of the units at the positions
abbrev pub greatest_at : List ℕ → List ℕ → ℕ
greatest_at known positions = greatest (map (slice_index known) positions)

-- ---- variables

-- the sum of the sizes of a unit's parameters and of each `var` and `let`, where the sizes of the structs are known
abbrev pub variables_by : List ℕ → UnitDef → ℕ
variables_by sizes unit = total (map (λ var. size_by sizes var.ty) unit.vars)

-- the sum of the sizes of a unit's parameters and of each `var` and `let`
abbrev pub variables_of : List StructDef → UnitDef → ℕ
variables_of structs unit = variables_by (struct_sizes structs) unit

-- ---- instances

-- a unit itself, and for each place of its `run` statements the instances of the activity
abbrev pub instances_by : List ℕ → UnitDef → ℕ
instances_by known unit = 1 + total_at known (activities_by_place unit)

-- how many activity instances each unit expands to
abbrev pub all_instances : List UnitDef → List ℕ
all_instances units = answers instances_by units

-- how many activity instances the unit at the position expands to
abbrev pub instances_at : List UnitDef → ℕ → ℕ
instances_at units k = slice_index (all_instances units) k

-- ---- chains

-- a unit itself, and behind it the longest chain of those that it calls or runs
abbrev pub chain_by : List ℕ → UnitDef → ℕ
chain_by known unit = 1 + max (greatest_at known (calls_of unit)) (greatest_at known (activities_run unit))

-- how many units the longest chain has that each unit heads
abbrev pub all_chains : List UnitDef → List ℕ
all_chains units = answers chain_by units

-- how many units the longest chain has that begins with the unit at the position and in which each calls or runs the next
abbrev pub chain_at : List UnitDef → ℕ → ℕ
chain_at units k = slice_index (all_chains units) k

-- ---- cells

-- the cells of a unit, from the total of the activities that it runs and the greatest of the functions that it calls
abbrev pub cells_with : UnitKind → ℕ → ℕ → ℕ → ℕ → ℕ
cells_with Function variables statements running calling = 2 * variables + statements + 1 + calling
cells_with Activity variables statements running calling = 4 * variables + 4 * statements + 8 + running + calling

-- the cells of a unit, where the sizes of the structs and the cells of the earlier units are known
abbrev pub cells_by : List ℕ → List ℕ → UnitDef → ℕ
cells_by sizes known unit =
    cells_with unit.kind (variables_by sizes unit) (cell_statements_of unit) (total_at known (activities_by_place unit)) (greatest_at known (calls_of unit))

-- the cells of each unit
abbrev pub all_cells : List StructDef → List UnitDef → List ℕ
all_cells structs units = answers (cells_by (struct_sizes structs)) units

-- the cells of the unit at the position
abbrev pub cells_at : List StructDef → List UnitDef → ℕ → ℕ
cells_at structs units k = slice_index (all_cells structs units) k
