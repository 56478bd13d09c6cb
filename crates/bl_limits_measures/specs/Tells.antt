-- What the measures of a program tell.
use Rattle.std.specs.Prelude.{◌≡◌, List, map}
use Rattle.bl_tree.specs.declared.tree.StructDef.{StructDef}
use Rattle.bl_tree.specs.declared.tree.Unit.{Unit as UnitDef}
use Rattle.bl_limits_measures.specs.declared.measures.Measures.{Measures}
use Rattle.bl_limits_measures.specs.Saturated.{saturated}
use Rattle.bl_limits_measures.specs.Statements.{cell_statements_of}
use Rattle.bl_limits_measures.specs.Types.{struct_nestings, struct_sizes}
use Rattle.bl_limits_measures.specs.Units.{all_cells, all_chains, all_instances, variables_of}

-- the measures of these structs and units, each saturated at 64 bits
pub record MeasuresTell (measures : Measures) (structs : List StructDef) (units : List UnitDef) : Type 0 where
  -- how many scalars each struct has
  pub sizes : measures.struct_sizes ≡ map saturated (struct_sizes structs)
  -- how deep each struct is nested
  pub nestings : measures.struct_nestings ≡ map saturated (struct_nestings structs)
  -- the sum of the sizes of each unit's variables
  pub variables : measures.variables ≡ map (λ unit. saturated (variables_of structs unit)) units
  -- how many statements each unit has
  pub statements : measures.statements ≡ map (λ unit. saturated (cell_statements_of unit)) units
  -- how many activity instances each unit expands to
  pub instances : measures.instances ≡ map saturated (all_instances units)
  -- how many units the longest chain has that each unit heads
  pub chains : measures.chains ≡ map saturated (all_chains units)
  -- the cells of each unit
  pub cells : measures.cells ≡ map saturated (all_cells structs units)
