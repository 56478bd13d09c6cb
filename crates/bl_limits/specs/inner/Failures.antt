-- The failures of the two rules as lists.
use Rattle.std.specs.Prelude.{ℕ, nat_lt, List, [], ◌∷◌, ◌++◌, map, drop, slice_get, Option, Some, None, if◌then◌else◌}
use Rattle.bl_tree.specs.declared.place.Place.{Place}
use Rattle.bl_tree.specs.declared.rule.Failure.{Failure}
use Rattle.bl_tree.specs.declared.rule.Further.TheVariants.{Nothing}
use Rattle.bl_tree.specs.declared.rule.Rule.{Rule}
use Rattle.bl_tree.specs.declared.rule.Rule.TheVariants as rule
use Rattle.bl_tree.specs.declared.tree.StructDef.{StructDef}
use Rattle.bl_tree.specs.declared.tree.Unit.{Unit as UnitDef}
use Rattle.bl_tree.specs.declared.tree.Var.{Var}
use Rattle.bl_tree.specs.Reduce.{joined}
use Rattle.bl_limits_measures.specs.Types.{nesting, struct_nestings}
use Rattle.bl_limits_measures.specs.Units.{all_chains, cells_at, instances_at}

-- the failure of a rule at a place
abbrev pub failure_at : Rule → Place → Failure
failure_at rule at = record { rule = rule; at = at; further = Nothing }

-- the failure, where the number is above the limit
abbrev pub above : ℕ → ℕ → Failure → List Failure
above limit n failure = if nat_lt limit n then failure ∷ [] else []

-- the failure of a unit's number above the limit, at the unit's name
abbrev pub at_unit : Rule → ℕ → ℕ → Option UnitDef → List Failure
at_unit rule limit n (Some unit) = above limit n (failure_at rule unit.place)
at_unit rule limit n None = []

-- the failure of an entry that expands to too many instances
abbrev pub many_instances : List UnitDef → ℕ → List Failure
many_instances units entry = at_unit rule.Frames 4_096 (instances_at units entry) (slice_get units entry)

-- the failures of elements with numbers above the limit, at the elements' names
abbrev pub numbered : {A : Type 0} → Rule → ℕ → (A → Place) → List A → List ℕ → List Failure
numbered rule limit place [] numbers = []
numbered rule limit place (x ∷ rest) [] = []
numbered rule limit place (x ∷ rest) (n ∷ numbers) = above limit n (failure_at rule (place x)) ++ numbered rule limit place rest numbers

-- the failures of units that head too long a chain
abbrev pub chain_failures : List UnitDef → List Failure
chain_failures units = numbered rule.Frames 100 (λ (unit : UnitDef). unit.place) units (all_chains units)

-- the failure of an entry with too many cells
abbrev pub large_state : List StructDef → List UnitDef → ℕ → List Failure
large_state structs units entry = at_unit rule.Cells 1_000_000 (cells_at structs units entry) (slice_get units entry)

-- the failures of structs that are nested too deep, from the position on
abbrev pub struct_failures : ℕ → List StructDef → List Failure
struct_failures from structs = numbered rule.Cells 100 (λ (def : StructDef). def.place) (drop from structs) (drop from (struct_nestings structs))

-- the failure of a variable that is nested too deep
abbrev pub of_variable : List StructDef → Var → List Failure
of_variable structs var = above 100 (nesting structs var.ty) (failure_at rule.Cells var.place)

-- the failures of a unit's variables
abbrev pub unit_variable_failures : List StructDef → List Var → List Failure
unit_variable_failures structs vars = joined (map (of_variable structs) vars)

-- the failures of the variables of all units
abbrev pub variable_failures : List StructDef → List UnitDef → List Failure
variable_failures structs units = joined (map (λ (unit : UnitDef). unit_variable_failures structs unit.vars) units)

-- the failures of nesting, of structs from the position on and of the units' variables
abbrev pub nesting_failures : ℕ → List StructDef → List UnitDef → List Failure
nesting_failures from structs units = struct_failures from structs ++ variable_failures structs units

-- all failures of Frames and Cells
abbrev pub failures : List StructDef → List UnitDef → ℕ → List Failure
failures structs units entry =
    many_instances units entry
    ++ (chain_failures units ++ (large_state structs units entry ++ nesting_failures 0 structs units))
