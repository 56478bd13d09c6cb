-- The outputs of a program that runs.
use Rattle.std.specs.Prelude.{ℕ, length, Option, option_map, unwrap_or, ◌≡◌}
use Rattle.bl_tree.specs.declared.tree.Unit.{Unit as UnitDef}
use Rattle.bl_ctree.specs.Instances.{Setting, unit_at}
use Rattle.bl_ctree.specs.Store.{Store, outputs_row}

-- how many outputs a unit has
abbrev pub outputs_of_unit : Option UnitDef → ℕ
outputs_of_unit unit = unwrap_or (option_map (λ unit. unit.outputs) unit) 0

-- how many outputs the entry has
abbrev pub count_of_outputs : Setting → ℕ
count_of_outputs w = outputs_of_unit (unit_at w 0)

-- the store has a value for each of them
abbrev pub HasOutputs : Setting → Store → Type 0
HasOutputs w store = length (outputs_row w store) ≡ count_of_outputs w
