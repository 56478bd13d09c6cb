-- The entry as its C takes it: its inputs are read where they stand, as its outputs are written.
use Rattle.std.specs.Prelude.{ℕ, ◌+◌, List, ◌++◌, map, take, slice_get, option_map, option_to_list}
use Rattle.bl_tree.specs.declared.tree.Role.{Role}
use Rattle.bl_tree.specs.declared.tree.Role.TheVariants.{Input, Output, Variable, Fixed}
use Rattle.bl_tree.specs.declared.tree.Unit.{Unit as UnitDef}
use Rattle.bl_tree.specs.declared.tree.Var.{Var}

-- the role in C of a parameter of the entry: an input is lent to it, as an output is
abbrev pub lent_role : Role → Role
lent_role Input = Output
lent_role Output = Output
lent_role Variable = Variable
lent_role Fixed = Fixed

-- a variable of the entry, lent where it is an input
abbrev pub lent_var : Var → Var
lent_var var = record var { role = lent_role var.role }

-- the unit without inputs whose outputs are the inputs and outputs of a unit
abbrev pub lent_unit : UnitDef → UnitDef
lent_unit unit = record unit { vars = map lent_var unit.vars; inputs = 0; outputs = unit.inputs + unit.outputs }

-- the units of which C is written: those before the entry, and the entry with its inputs lent. Units use earlier ones alone, so no unit of these runs the
-- entry, and it needs none behind it
abbrev pub shown_units : List UnitDef → ℕ → List UnitDef
shown_units units entry = take entry units ++ option_to_list (option_map lent_unit (slice_get units entry))
