-- What measures are, in terms of each other.
use Rattle.std.specs.Prelude.{◌≡◌, ℕ, ◌+◌, ◌-◌, ◌^◌, ◌<◌, ◌≤◌, ◌↔◌, false, List, ◌∷◌, map, length, slice_get, Some, AllPairs}
use Rattle.bl_tree.specs.declared.tree.StructDef.{StructDef}
use Rattle.bl_tree.specs.declared.tree.Unit.{Unit as UnitDef}
use Rattle.bl_tree.specs.Reduce.{joined, total, greatest}
use Rattle.bl_tree.specs.Rules.{same_place}
use Rattle.bl_limits_measures.specs.Calls.{calls_of}
use Rattle.bl_limits_measures.specs.Runs.{activities_by_place, activities_run, runs_in}
use Rattle.bl_limits_measures.specs.declared.runs.PlacedRun.{PlacedRun}
use Rattle.bl_limits_measures.specs.Saturated.{saturated}
use Rattle.bl_limits_measures.specs.Statements.{cell_statements_of}
use Rattle.bl_limits_measures.specs.Units.{cells_at, cells_with, chain_at, instances_at, variables_of}
use Rattle.bl_limits_measures.specs.Uses.{IsChain, UsesEarlier}

-- a number is above a limit that 64 bits hold just where what is told of it is
abbrev pub LimitsAreTold : Type 0
LimitsAreTold = (n limit : ℕ) → limit < 2 ^ 64 - 1 → limit < saturated n ↔ limit < n

-- a unit that isn't there has nothing
abbrev pub MissingIsNothing : Type 0
MissingIsNothing =
    (structs : List StructDef) (units : List UnitDef) (k : ℕ) → length units ≤ k →
    (instances_at units k ≡ 0) × (chain_at units k ≡ 0) × (cells_at structs units k ≡ 0)

-- a unit expands to itself and to what the activity of each place of its `run` statements expands to
abbrev pub InstancesAdd : Type 0
InstancesAdd =
    (units : List UnitDef) (k : ℕ) (unit : UnitDef) → UsesEarlier units → slice_get units k ≡ Some unit
    → instances_at units k ≡ 1 + total (map (instances_at units) (activities_by_place unit))

-- the cells of a unit by those of the activities that it runs and of the functions that it calls
abbrev pub CellsAdd : Type 0
CellsAdd =
    (structs : List StructDef) (units : List UnitDef) (k : ℕ) (unit : UnitDef) → UsesEarlier units → slice_get units k ≡ Some unit
    → cells_at structs units k
    ≡ cells_with unit.kind (variables_of structs unit) (cell_statements_of unit) (total (map (cells_at structs units) (activities_by_place unit)))
    (greatest (map (cells_at structs units) (calls_of unit)))

-- a unit whose `run` statements stand at places of their own has as many places of `run` statements as it has statements
abbrev pub ApartRunsCountEach : Type 0
ApartRunsCountEach =
    (unit : UnitDef) → AllPairs (λ (one : PlacedRun) (other : PlacedRun). same_place one.place other.place ≡ false) (joined (map runs_in unit.body))
    → activities_by_place unit ≡ activities_run unit

-- no chain that begins with a unit has more units than the number says
abbrev pub NoChainIsLonger : Type 0
NoChainIsLonger = (units : List UnitDef) (k : ℕ) (rest : List ℕ) → IsChain units (k ∷ rest) → length (k ∷ rest) ≤ chain_at units k

-- some chain that begins with a unit has as many units as the number says
abbrev pub SomeChainIsAsLong : Type 0
SomeChainIsAsLong =
    (units : List UnitDef) (k : ℕ) → k < length units → (rest : List ℕ) × (IsChain units (k ∷ rest)) × (length (k ∷ rest) ≡ chain_at units k)
