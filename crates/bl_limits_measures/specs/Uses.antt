-- Which units call and run which.
use Rattle.std.specs.Prelude.{◌≡◌, ℕ, ◌<◌, ◌⊎◌, List, [], ◌∷◌, length, slice_get, Some, All, Contains}
use Rattle.bl_tree.specs.declared.tree.Unit.{Unit as UnitDef}
use Rattle.bl_limits_measures.specs.Calls.{calls_of}
use Rattle.bl_limits_measures.specs.Runs.{activities_run}

-- the unit at the first position calls or runs the one at the second, which is an earlier one
pub record Uses (units : List UnitDef) (k j : ℕ) : Type 0 where
  pub unit : UnitDef
  pub there : slice_get units k ≡ Some unit
  pub used : Contains (calls_of unit) j ⊎ Contains (activities_run unit) j
  pub earlier : j < k

-- the unit at the position can stand before a chain: it uses the chain's first unit, or the chain is empty
abbrev pub Heads : List UnitDef → ℕ → List ℕ → Type 0
Heads units k [] = k < length units
Heads units k (j ∷ rest) = Uses units k j

-- a chain of units, each of which calls or runs the next
abbrev pub IsChain : List UnitDef → List ℕ → Type 0
IsChain units [] = Unit {0}
IsChain units (k ∷ rest) = Heads units k rest × IsChain units rest

-- a unit calls and runs earlier ones alone
pub record UsesEarlierOnly (k : ℕ) (unit : UnitDef) : Type 0 where
  pub calls : All (λ j. j < k) (calls_of unit)
  pub runs : All (λ j. j < k) (activities_run unit)

-- each of the units calls and runs earlier ones alone
abbrev pub UsesEarlier : List UnitDef → Type 0
UsesEarlier units = (k : ℕ) (unit : UnitDef) → slice_get units k ≡ Some unit → UsesEarlierOnly k unit
